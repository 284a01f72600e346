-- What may become of an edit: a refusal, or a performance, the cells that it reached, and the cost afterwards.
use Rattle.std.specs.Prelude.{◌≡◌, ℕ, ◌⊎◌, List, length, Ok, Err}
use Rattle.rhythm_base.specs.declared.edit.Edit.{Edit}
use Rattle.rhythm_base.specs.declared.edit_fault.EditFault.{EditFault}
use Rattle.rhythm_base.specs.declared.edit_fault.EditFault.TheVariants.{NoDerivation}
use Rattle.edit_laws.specs.Edits.{edited}
use Rattle.rhythm_base.specs.Performance.{Performance}
use Rattle.edit_laws.specs.Reached.{AreReached}
use Rattle.rhythm_base.specs.Grammar.{Grammar}
use Rattle.rhythm_base.specs.Voices.{IsCostOf, IsDeadVoice}

-- why an edit is refused: by the performance alone, or because some voice would have no derivation. None where it is not
abbrev pub IsRefused : Grammar → Performance → Edit → EditFault → Type 0
IsRefused g p edit fault =
    (edited p edit ≡ Err fault)
    ⊎ ((q : Performance) × (channel bar : ℕ) × (edited p edit ≡ Ok q) × IsDeadVoice g q channel bar × (fault ≡ NoDerivation channel bar))

-- an edit is made: the performance after it, the cells that it reaches, and the cost afterwards
pub record IsMade (g : Grammar) (p : Performance) (edit : Edit) (next : Performance) (cells : List (ℕ × ℕ)) (cost : ℕ) : Type 0 where
  pub made : edited p edit ≡ Ok next
  pub reaches : AreReached g p next cells
  pub costs : IsCostOf g next cost

-- what becomes of an edit: a refusal; or how many cells it reached, and the cost of the performance after it
pub data EditOutcome : Type 0 where
  refused : EditFault → EditOutcome
  made : ℕ → ℕ → EditOutcome

-- what may become of an edit, and the performance after it
abbrev pub IsOutcome : Grammar → Performance → Edit → EditOutcome → Performance → Type 0
IsOutcome g p edit (refused fault) next = IsRefused g p edit fault × (next ≡ p)
IsOutcome g p edit (made built cost) next = (cells : List (ℕ × ℕ)) × IsMade g p edit next cells cost × (built ≡ length cells)
