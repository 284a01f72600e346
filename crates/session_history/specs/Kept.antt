-- How much of the past is kept.
use Rattle.std.specs.Prelude.{ℕ, ◌+◌, List, [], ◌∷◌, length, nat_le, if◌then◌else◌}
use Rattle.session_history.specs.History.{Step}
use Rattle.session_history.specs.declared.steps.TheConstants.{MOST_KEPT_CELLS, MOST_STEPS}

-- the sum of the sizes of steps
abbrev pub step_sizes : List Step → ℕ
step_sizes [] = 0
step_sizes (step ∷ more) = step.size + step_sizes more

-- the longest last part of the steps that is within both bounds: 64 steps, and sizes that sum to 16,384
abbrev pub kept_steps : List Step → List Step
kept_steps [] = []
kept_steps (step ∷ more) =
    if nat_le (length (step ∷ more)) MOST_STEPS then
    (if nat_le (step_sizes (step ∷ more)) MOST_KEPT_CELLS then step ∷ more else kept_steps more) else kept_steps more
