use Rattle.std.proofs.Common.{◌≡◌, true, ◌+◌, sym, ◌∙◌, ap₂}
use Rattle.rhythm_base.specs.SoundKinds.{begins_chord}
use Rattle.derivation.proofs.SpansRead.{run_pushed}
use Rattle.derivation.proofs.spans.push_run.Goals as goal

pub returns : goal.returns
returns c =
    let begins : begins_chord c.args.sound.now.kind ≡ true = sym c.begins_chord.ensures ∙ c.if-not-begins_chord.false in
    run_pushed c.args.resolution c.args.bars.now c.args.sound.now c.args.after.now c.args.place (c.sound_length.result + c.ties_length.result) c.frac-start.result c.frac.result c.in_ok-span_of.field-0
    c.args.spans.now.items c.push.new.self.items begins c.requires.place (ap₂ ◌+◌ c.sound_length.ensures c.ties_length.ensures) c.frac-start.ensures c.frac.ensures c.in_ok-span_of.ensures c.in_ok-push.ensures.items
