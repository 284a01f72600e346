use Rattle.std.proofs.Common.{◌+◌, ◌==◌, ◌++◌, refl, subst, sym, ap, ◌∙◌, arith}
use Rattle.std.specs.Prelude.{codes}
use Rattle.std.proofs.lemmas.List.Sums.{prefix_len-le-length}
use Rattle.voice_events.specs.Parts.{score_parts}
use Rattle.voice_events.specs.VoiceEvents.{AreOfVoice}
use Rattle.lily_writer.specs.Staves.{AreStaffLines, spans_of}
use Rattle.lily_writer.proofs.StavesWritten.{HasWrittenStaves, own_voice, staves_all, staves_next, staves_none}
use Rattle.lily_writer.proofs.page.write_lily.Goals as goal

pub staves-init : goal.staves-init
staves-init c =
    let head = codes "\\version \"2.24.0\"\n\\score {\n<<\n" in
    let begin = c.in_ok-extend_from_slice.ensures.items ∙ ap (λ t. t ++ head) c.new-text.ensures.items in
    subst (HasWrittenStaves c.args.resolution c.args.bars.now c.args.voices c.args.events.now 0 c.args.events.now head) (sym begin)
    (staves_none c.args.resolution c.args.bars.now c.args.voices c.args.events.now head c.requires.events)

pub split_at-requires : goal.split_at-requires
split_at-requires c =
    let few = prefix_len-le-length (λ e. e.spine == c.staves.voice + 1) c.staves.later.now in
    omega (arith, few, c.own_count.ensures)

pub write_staff-requires-clause-events : goal.write_staff-requires-clause-events
write_staff-requires-clause-events c =
    subst (λ r. AreOfVoice r (score_parts r c.args.bars.now) (spans_of c.split_at.result.0.now)) (sym c.of-units.ensures)
    (subst (λ es. AreOfVoice c.args.resolution (score_parts c.args.resolution c.args.bars.now) (spans_of es)) (sym c.split_at.ensures.front)
    (own_voice c.args.resolution c.args.bars.now c.args.voices c.args.events.now c.staves.voice c.own_count.result c.staves.later.now _
    c.staves.text.items
    c.staves-test.true c.own_count.ensures c.staves.invariant))

pub staves-preserved : goal.staves-preserved
staves-preserved c =
    let head = codes "\\version \"2.24.0\"\n\\score {\n<<\n" in
    let (lines, are, written) = c.in_ok-write_staff.ensures in
    subst (λ es. HasWrittenStaves c.args.resolution c.args.bars.now c.args.voices c.args.events.now (c.staves.voice + 1) es head
    c.write_staff.new.text.items) (sym c.split_at.ensures.back)
    (staves_next c.args.resolution c.args.bars.now c.args.voices c.args.events.now c.staves.voice c.own_count.result (c.staves.voice == 0)
    c.staves.later.now lines head c.staves.text.items c.write_staff.new.text.items
    c.staves-test.true c.own_count.ensures refl c.staves.invariant
    (subst (λ es. AreStaffLines c.args.resolution c.args.bars.now (c.staves.voice == 0) (spans_of es) lines) c.split_at.ensures.front
    (subst (λ r. AreStaffLines r c.args.bars.now (c.staves.voice == 0) (spans_of c.split_at.result.0.now) lines) c.of-units.ensures are))
    written)

pub returns : goal.returns
returns c =
    staves_all c.args.resolution c.args.bars.now c.args.voices c.args.events.now c.staves.voice c.staves.later.now c.staves.text.items
    c.extend_from_slice-2.new.self.items (omega (arith, c.staves-test.false)) c.staves.invariant
    c.in_ok-extend_from_slice-2.ensures.items
