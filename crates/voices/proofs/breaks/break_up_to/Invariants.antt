use Rattle.std.proofs.Common.{ℕ, ◌<◌, ◌≤◌}
use Rattle.voices.specs.Breaks.{IsBreak}
use Rattle.voices.proofs.breaks.break_up_to.Given as goal

abbrev pub invariant-notes : goal.invariant-notes
invariant-notes l = record {
  within : l.place ≤ l.fn.most;
  last : (k : ℕ) → l.place < k → k ≤ l.fn.most → IsBreak l.map.tempos l.fn.division l.fn.window l.notes k → ⊥;
}

abbrev pub decreases-notes : goal.decreases-notes
decreases-notes l = l.place
