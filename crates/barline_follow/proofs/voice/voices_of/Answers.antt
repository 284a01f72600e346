use Rattle.std.proofs.Common.{◌≡◌, ◌+◌, ◌<◌, List, length, get_or, take, sym, subst}
use Rattle.rhythm_base.specs.declared.chord.Chord.{Chord}
use Rattle.rhythm_base.specs.Lists.{Each}
use Rattle.rhythm_base.specs.Voices.{AreChordsOf}
use Rattle.barline_follow.proofs.Searching.{each_more}
use Rattle.barline_follow.proofs.voice.voices_of.Goals as goal

pub channels-preserved : goal.channels-preserved
channels-preserved c =
    let p = c.args.performance.now in
    let i = c.channels.channel-index in
    let all : c.channels-channel-items.result.now ≡ p.channels = c.channels-channel-items.ensures in
    subst (λ (l : List (List Chord)). Each (AreChordsOf c.args.grammar.now p) (take (i + 1) p.channels) l) (sym c.in_ok-push.ensures.items)
    (each_more (AreChordsOf c.args.grammar.now p) p.channels c.channels.voices.items i 0 c.in_ok-voice_of.field-0 (subst (λ l. i < length l) all c.channels-test.true)
    c.channels.invariant (subst (λ l. AreChordsOf c.args.grammar.now p (get_or l i 0) c.in_ok-voice_of.field-0) all c.in_ok-voice_of.ensures))
