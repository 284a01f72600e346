use Rattle.std.proofs.Common.{◌≡◌, true, sym, ◌∙◌, arith}
use Rattle.rhythm_base.specs.SoundKinds.{is_tie}
use Rattle.derivation.proofs.SpansRead.{ties_step, ties_within}
use Rattle.derivation.proofs.parts.ties_length.Goals as goal

pub overflow_add-total : goal.overflow_add-total
overflow_add-total c =
    let tie : is_tie c.sound-item.result.kind ≡ true = sym c.is_tie.ensures ∙ c.if-not-is_tie.false in
    let within = ties_within c.args.bars.now c.args.sounds.now c.ties.sound-index c.ties.total c.sound-item.result c.ties-test.true c.sound-item.is tie c.ties.invariant in
    omega (arith, within, c.sound_length-total.ensures, c.requires.small)

pub ties-preserved : goal.ties-preserved
ties-preserved c =
    let tie : is_tie c.sound-item.result.kind ≡ true = sym c.is_tie.ensures ∙ c.if-not-is_tie.false in
    rw c.sound_length-total.ensures (ties_step c.args.bars.now c.args.sounds.now c.ties.sound-index c.ties.total _ c.sound-item.result c.ties-test.true c.sound-item.is tie c.ties.invariant)
