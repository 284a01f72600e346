-- The steps as they are kept: changes made ready, each of which leads to another performance.
use Rattle.std.specs.Prelude.{ℕ, ◌+◌, List, [], ◌∷◌, length, nat_le, if◌then◌else◌}
use Rattle.edit_session.specs.Prepared.{Prepared}
use Rattle.rhythm_base.specs.Performance.{Performance}
use Rattle.session_history.specs.History.{Step}
use Rattle.session_history.specs.declared.steps.TheConstants.{MOST_KEPT_CELLS, MOST_STEPS}

-- a way back as a step of the past: it has a table for each cell that it reaches
abbrev pub step_of : Prepared → Step
step_of x = record { performance = x.next; size = length x.tables }

abbrev pub next_of : Prepared → Performance
next_of x = x.next

-- the number of all their tables
abbrev pub tables_of : List Prepared → ℕ
tables_of [] = 0
tables_of (x ∷ more) = length x.tables + tables_of more

-- the longest last part with no more steps and no more tables than are kept
abbrev pub kept_of : List Prepared → List Prepared
kept_of [] = []
kept_of (x ∷ more) =
    if nat_le (length (x ∷ more)) MOST_STEPS then
    (if nat_le (tables_of (x ∷ more)) MOST_KEPT_CELLS then x ∷ more else kept_of more) else kept_of more
