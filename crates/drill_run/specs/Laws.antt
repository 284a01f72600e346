-- The laws, each as one statement over the definitions.
use Rattle.std.specs.Prelude.{◌≡◌, ℕ, List, length, Result}
use Rattle.rhythm_base.specs.Grammar.{Grammar}
use Rattle.rhythm_base.specs.Performance.{IsWellFormed, Performance}
use Rattle.rhythm_base.specs.Readable.{IsReadable}
use Rattle.drill_run.specs.Drill.{Drilled, IsDrilledTo}
use Rattle.drill_run.specs.Ends.{IsDrillOf}

-- by a readable grammar the drill of a number on a well-formed performance comes to one performance after each of its edits, with
-- one count of accepted edits and one of the cells that they reached, and to one summary or one score that is too long
pub record DrillsAreOne : Type 0 where
  pub standing : (g : Grammar) (number : ℕ) (p : Performance) (edits : ℕ) (last last' : Drilled) (besides besides' : ℕ) → IsReadable g → IsWellFormed p
      → IsDrilledTo g number p edits last besides → IsDrilledTo g number p edits last' besides' → last ≡ last'
  pub said : (g : Grammar) (number : ℕ) (p : Performance) (a b : Result (List ℕ) ℕ) → IsReadable g → IsWellFormed p → IsDrillOf g number p a
      → IsDrillOf g number p b → a ≡ b

-- the edits of a drill leave a well-formed performance, with the same voices, as many bars and the same last barline
pub record DrillsKeepBars : Type 0 where
  pub formed : (g : Grammar) (number : ℕ) (p : Performance) (edits : ℕ) (last : Drilled) (besides : ℕ) → IsWellFormed p
      → IsDrilledTo g number p edits last besides → IsWellFormed last.performance
  pub voices : (g : Grammar) (number : ℕ) (p : Performance) (edits : ℕ) (last : Drilled) (besides : ℕ) → IsWellFormed p
      → IsDrilledTo g number p edits last besides → last.performance.channels ≡ p.channels
  pub bars : (g : Grammar) (number : ℕ) (p : Performance) (edits : ℕ) (last : Drilled) (besides : ℕ) → IsWellFormed p
      → IsDrilledTo g number p edits last besides → length last.performance.bars ≡ length p.bars
  pub last_barline : (g : Grammar) (number : ℕ) (p : Performance) (edits : ℕ) (last : Drilled) (besides : ℕ) → IsWellFormed p
      → IsDrilledTo g number p edits last besides → last.performance.last ≡ p.last
