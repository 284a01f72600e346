use Rattle.std.proofs.Common.{rules, ◌≡◌, ◌*◌, ap, ◌∙◌}
use Rattle.rhythm_gen.specs.Draws.{draw}
use Rattle.rhythm_gen.specs.Voice.{first_beats}
use Rattle.rhythm_gen.proofs.voice.voice_notes.Goals as goal

pub returns-clause-notes : goal.returns-clause-notes
returns-clause-notes c =
    let all : c.loop-beat.beat ≡ 4 * c.args.bars = search rules in
    c.loop-beat.invariant.so_far ∙ ap (first_beats c.args.draws.now c.args.channel) all

pub returns-clause-draws : goal.returns-clause-draws
returns-clause-draws c =
    let all : c.loop-beat.beat ≡ 4 * c.args.bars = search rules in
    c.loop-beat.invariant.stream ∙ ap (draw c.args.draws.now) all
