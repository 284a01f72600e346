-- The barlines that are chosen, and the script that leads to them.
use Rattle.std.specs.Prelude.{◌≡◌, ◌⊎◌, ℕ, ◌*◌, nat_lt, if◌then◌else◌, List, [], Option, Some, None}
use Rattle.rhythm_base.specs.declared.edit.Edit.{Edit}
use Rattle.rhythm_base.specs.Grammar.{Grammar}
use Rattle.rhythm_base.specs.Performance.{Performance}
use Rattle.rhythm_base.specs.Voices.{IsCostOf}
use Rattle.barline_follow.specs.Bars.{barlines_of}
use Rattle.barline_follow.specs.Barring.{Barring, barring_value}
use Rattle.barline_follow.specs.Rounds.{IsBest}
use Rattle.barline_follow.specs.Script.{Leads, script}

-- the best's barlines where its value is at most seven tenths of the performance's cost, else those that are there
abbrev pub chosen : Performance → ℕ → Option Barring → List ℕ
chosen p cost None = barlines_of p
chosen p cost (Some best) = if nat_lt (7 * cost) (10 * barring_value best) then barlines_of p else best.ticks

abbrev pub AreChosen : Grammar → Performance → List ℕ → Type 0
AreChosen g p ticks =
    (best : Option Barring) × (cost : ℕ) × IsBest g p best × IsCostOf g p cost × (ticks ≡ chosen p cost best)

-- the script to the chosen barlines, where each of its lines is accepted in turn; else nothing
abbrev pub IsAnswer : Grammar → Performance → List Edit → Type 0
IsAnswer g p edits =
    (ticks : List ℕ) × AreChosen g p ticks
    × (((q : Performance) × Leads g p (script p ticks) q × (edits ≡ script p ticks))
    ⊎ (((q : Performance) → Leads g p (script p ticks) q → ⊥) × (edits ≡ [])))
