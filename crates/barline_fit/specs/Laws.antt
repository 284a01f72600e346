-- The laws, each as one statement over the definitions.
use Rattle.std.specs.Prelude.{◌≡◌, ◌≢◌, ◌↔◌, ℕ, ◌+◌, ◌-◌, ◌*◌, ◌/◌, ◌≤◌, List, All, Contains, length}
use Rattle.std.specs.List.Sorted.{IsStrictlyIncreasing}
use Rattle.barline_fit.specs.Builds.{AreReachedAt}
use Rattle.barline_fit.specs.Candidates.{candidates}
use Rattle.barline_fit.specs.Fitted.{IsFitFault, IsFitted}
use Rattle.barline_fit.specs.declared.fit_fault.FitFault.{FitFault}
use Rattle.barline_fit.specs.declared.fit_fault.FitFault.TheVariants.{Memory}
use Rattle.barline_fit.specs.declared.fitted.Fitted.{Fitted}
use Rattle.rhythm_base.specs.Grammar.{Grammar}
use Rattle.rhythm_base.specs.Performance.{IsWellFormed, Performance}
use Rattle.rhythm_base.specs.Readable.{IsReadable}
use Rattle.edit_laws.specs.EditOutcomes.{EditOutcome, IsOutcome, made}
use Rattle.rhythm_base.specs.Voices.{HasDerivation}
use Rattle.rhythm_base.specs.declared.edit.Edit.TheVariants.{Barline}

-- a tick is a candidate exactly where whole steps lead to it from the lowest, and it is no later than the highest; they rise, and there
-- is one more than whole steps between the two
pub record CandidatesAreSteps : Type 0 where
  pub steps : (low high step tick : ℕ) → low ≤ high → 1 ≤ step
      → Contains (candidates low high step) tick ↔ ((k : ℕ) × (tick ≡ low + k * step) × (tick ≤ high))
  pub rise : (low high step : ℕ) → 1 ≤ step → IsStrictlyIncreasing (candidates low high step)
  pub count : (low high step : ℕ) → length (candidates low high step) ≡ (high - low) / step + 1

-- of the same ticks one is fitted at most, at one cost; or there is one fault but for want of memory; and not both by a readable grammar
pub record FittedTicksAreOne : Type 0 where
  pub tick : (g : Grammar) (p : Performance) (bar : ℕ) (ticks : List ℕ) (x y : Fitted) → IsFitted g p bar ticks x → IsFitted g p bar ticks y → x ≡ y
  pub fault : (g : Grammar) (p : Performance) (bar : ℕ) (ticks : List ℕ) (a b : FitFault) → a ≢ Memory → b ≢ Memory
      → IsFitFault g p bar ticks a → IsFitFault g p bar ticks b → a ≡ b
  pub either : (g : Grammar) (p : Performance) (bar : ℕ) (ticks : List ℕ) (x : Fitted) (a : FitFault) → IsReadable g → IsWellFormed p → a ≢ Memory
      → IsFitted g p bar ticks x → IsFitFault g p bar ticks a → ⊥

-- the ticks that are tried reach one number of cells
abbrev pub ReachedSumsAreOne : Type 0
ReachedSumsAreOne =
    (g : Grammar) (p : Performance) (bar : ℕ) (ticks : List ℕ) (m n : ℕ) → AreReachedAt g p bar ticks m → AreReachedAt g p bar ticks n → m ≡ n

-- whatever becomes of the edit that sets the barline to the fitted tick, it is made, at the cost that is told, and each voice has a
-- derivation afterwards
abbrev pub FittedBarlineIsMade : Type 0
FittedBarlineIsMade =
    (g : Grammar) (p next : Performance) (bar : ℕ) (ticks : List ℕ) (x : Fitted) (outcome : EditOutcome) → IsReadable g → IsWellFormed p
    → IsFitted g p bar ticks x → IsOutcome g p (Barline bar x.tick) outcome next
    → (reached : ℕ) × (outcome ≡ made reached x.cost) × All (HasDerivation g next) next.channels
