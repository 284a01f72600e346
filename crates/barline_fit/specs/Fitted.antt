-- The fitted tick of a barline: of several ticks the one of least cost. Each tick is tried by the edit that sets the barline there, and
-- the whole performance after the edit is what costs.
use Rattle.std.specs.Prelude.{◌≡◌, ℕ, ◌<◌, ◌≤◌, ◌⊎◌, List, All, Contains, length, Option, Some, None, Ok, IsOk}
use Rattle.barline_fit.specs.declared.fit_fault.FitFault.{FitFault}
use Rattle.barline_fit.specs.declared.fit_fault.FitFault.TheVariants.{Memory, NoBar, NoCandidate}
use Rattle.barline_fit.specs.declared.fitted.Fitted.{Fitted}
use Rattle.edit_laws.specs.Edits.{edited}
use Rattle.rhythm_base.specs.Grammar.{Grammar}
use Rattle.rhythm_base.specs.Performance.{Performance}
use Rattle.edit_laws.specs.EditOutcomes.{IsRefused}
use Rattle.rhythm_base.specs.Voices.{HasDerivation, IsCostOf}
use Rattle.rhythm_base.specs.declared.edit.Edit.TheVariants.{Barline}
use Rattle.rhythm_base.specs.declared.edit_fault.EditFault.{EditFault}

-- the performance has this barline: the start of a bar but the first, or the last barline, whose number is that of the bars
abbrev pub HasBarline : Performance → ℕ → Type 0
HasBarline p bar = (1 ≤ bar) × (bar ≤ length p.bars)

-- the barline can be set to the tick: the performance after it, in which each voice has a derivation, costs so much
pub record IsAcceptedAt (g : Grammar) (p : Performance) (bar tick cost : ℕ) : Type 0 where
  pub next : Performance
  pub made : edited p (Barline bar tick) ≡ Ok next
  pub derivations : All (HasDerivation g next) next.channels
  pub costs : IsCostOf g next cost

-- the edit that sets the barline to the tick is refused
pub record IsRefusedAt (g : Grammar) (p : Performance) (bar tick : ℕ) : Type 0 where
  pub fault : EditFault
  pub refused : IsRefused g p (Barline bar tick) fault

-- what is known of a tick that was tried: what the performance costs with the barline there; or nothing, where the edit is refused
abbrev pub IsTriedAt : Grammar → Performance → ℕ → ℕ → Option ℕ → Type 0
IsTriedAt g p bar tick None = IsRefusedAt g p bar tick × ((cost : ℕ) → IsAcceptedAt g p bar tick cost → ⊥)
IsTriedAt g p bar tick (Some cost) = IsAcceptedAt g p bar tick cost

-- of these ticks the one of least cost, and at equal cost the least tick; and that cost
pub record IsFitted (g : Grammar) (p : Performance) (bar : ℕ) (ticks : List ℕ) (x : Fitted) : Type 0 where
  pub candidate : Contains ticks x.tick
  pub accepted : IsAcceptedAt g p bar x.tick x.cost
  pub least : (tick cost : ℕ) → Contains ticks tick → IsAcceptedAt g p bar tick cost → (x.cost < cost) ⊎ ((x.cost ≡ cost) × (x.tick ≤ tick))

-- Why no tick is fitted: the performance has no such barline; else the edit is refused at every tick. There may not be enough memory
-- where there is such a barline, and the performance alone does not refuse the edit at one of the ticks.
abbrev pub IsFitFault : Grammar → Performance → ℕ → List ℕ → FitFault → Type 0
IsFitFault g p bar ticks (NoBar number) = (number ≡ bar) × (HasBarline p bar → ⊥)
IsFitFault g p bar ticks NoCandidate = HasBarline p bar × All (IsRefusedAt g p bar) ticks
IsFitFault g p bar ticks Memory = HasBarline p bar × ((tick : ℕ) × Contains ticks tick × IsOk (edited p (Barline bar tick)))
