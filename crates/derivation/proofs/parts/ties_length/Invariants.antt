use Rattle.std.proofs.Common.{◌≡◌, ◌+◌, drop}
use Rattle.std.specs.Prelude.{sum_by, take_while}
use Rattle.rhythm_base.specs.SoundKinds.{is_tie}
use Rattle.durations.specs.Spans.{sound_length}
use Rattle.derivation.proofs.parts.ties_length.Given as goal

abbrev pub invariant-ties : goal.invariant-ties
invariant-ties l =
    l.total + sum_by (sound_length l.bars) (take_while (λ t. is_tie t.kind) (drop l.sound-index l.sounds))
    ≡ sum_by (sound_length l.bars) (take_while (λ t. is_tie t.kind) l.sounds)
