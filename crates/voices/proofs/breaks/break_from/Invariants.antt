use Rattle.std.proofs.Common.{ℕ, ◌<◌, ◌≤◌, ◌-◌, length}
use Rattle.voices.specs.Breaks.{IsBreak}
use Rattle.voices.proofs.breaks.break_from.Given as goal

abbrev pub invariant-notes : goal.invariant-notes
invariant-notes l = record {
  from : l.fn.least ≤ l.place;
  within : l.place ≤ length l.notes;
  first : (k : ℕ) → l.fn.least ≤ k → k < l.place → IsBreak l.map.tempos l.fn.division l.fn.window l.notes k → ⊥;
}

abbrev pub decreases-notes : goal.decreases-notes
decreases-notes l = length l.notes - l.place
