use Rattle.std.proofs.Common.{◌≡◌, ◌≤◌, ◌+◌}
use Rattle.session_history.specs.Steps.{tables_of}
use Rattle.session_history.specs.declared.steps.TheConstants.{MOST_KEPT_CELLS}
use Rattle.session_history.proofs.steps.Steps.has_many_tables.Given as goal

abbrev pub invariant-steps : goal.invariant-steps
invariant-steps l =
    (goal.iterator-steps).can_next l.step-iterator
    × (goal.iterator-steps).is_finite l.step-iterator
    × (l.sum ≤ MOST_KEPT_CELLS)
    × (l.sum + tables_of l.step-iterator ≡ tables_of l.self)
