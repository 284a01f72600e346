use Rattle.std.proofs.Common.{◌<◌, subst, sym, ◌∙◌}
use Rattle.std.specs.Prelude.{All}
use Rattle.performance_prepare.proofs.Grouped.{keys_low}
use Rattle.performance_prepare.proofs.hands.borders_of.Goals as goal

pub middle-requires-clause-keys : goal.middle-requires-clause-keys
middle-requires-clause-keys c =
    subst (All (λ k. k < 128)) (sym (c.deref.ensures.value ∙ c.in_ok-keys.ensures)) (keys_low c.args.notes.now c.requires.notes)
