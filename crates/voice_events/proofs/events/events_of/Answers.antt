use Rattle.std.proofs.Common.{◌≡◌, ◌+◌, ◌<◌, All, length, subst, sym, ap, ◌∙◌, arith}
use Rattle.rhythm_base.specs.Signatures.{IsSignature}
use Rattle.durations.specs.Spans.{AreSpans}
use Rattle.voice_events.specs.Events.{HaveSignatures}
use Rattle.voice_events.proofs.AlikeBars.{spans_alike}
use Rattle.voice_events.proofs.ScoreBars.{well_signed}
use Rattle.voice_events.proofs.WrittenVoices.{same_voice, voice_written, voices_written}
use Rattle.voice_events.proofs.events.events_of.Goals as goal

pub push_voice-requires-clause-signatures : goal.push_voice-requires-clause-signatures
push_voice-requires-clause-signatures c =
    let s = c.args.score.now in
    let bars = c.in_ok-bars.bars.items in
    let seen = c.deref.ensures.value ∙ ap (λ v. v.bars) c.score.view_is in
    let have : HaveSignatures s.bars bars = subst (λ sbars. HaveSignatures sbars bars) seen c.in_ok-bars.ensures in
    subst (All (λ b. IsSignature b.num b.den)) (sym c.deref-in-voices.ensures.value) (well_signed s.bars bars have c.requires.score.bars)

pub voices-preserved : goal.voices-preserved
voices-preserved c = λ more rest.
    let i = c.voices.number in
    let s = c.args.score.now in
    let all = c.deref-voice-items.ensures.value ∙ ap (λ v. v.voices) c.score.view_is in
    let is = same_voice c.deref-voice-items.result.now s.voices i c.voice-item.result c.voice-item.is all in
    let within : i < length s.voices = subst (λ xs. i < length xs) all c.voices-test.true in
    let (spans, own, pushed) = c.in_ok-push_voice.ensures in
    let are : AreSpans s.resolution c.in_ok-bars.bars.items c.voice-item.result spans =
    subst (λ bars. AreSpans s.resolution bars c.voice-item.result spans) c.deref-in-voices.ensures.value
    (subst (λ r. AreSpans r c.deref-in-voices.result.now c.voice-item.result spans) c.units-units.ensures own) in
    voice_written s.resolution c.in_ok-bars.bars.items s.voices (i + 1) i c.voice-item.result spans c.voices.events.items c.push_voice.new.events.items more
    within is are pushed c.voices.invariant rest

pub returns : goal.returns
returns c = λ bars have.
    let i = c.voices.number in
    let s = c.args.score.now in
    let made = c.in_ok-bars.bars.items in
    let seen = c.deref.ensures.value ∙ ap (λ v. v.bars) c.score.view_is in
    let own : HaveSignatures s.bars made = subst (λ sbars. HaveSignatures sbars made) seen c.in_ok-bars.ensures in
    let all = c.deref-voice-items.ensures.value ∙ ap (λ v. v.voices) c.score.view_is in
    let end : i ≡ length s.voices = omega (arith, ap length all, c.voices-test.false, c.voices.auto.number-end) in
    spans_alike s.bars s.resolution made bars 1 s.voices c.voices.events.items own have
    (voices_written s.resolution made s.voices (i + 1) i c.voices.events.items end c.voices.invariant)
