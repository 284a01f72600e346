-- The edits of a drill, one after another, each on the performance that those before it left.
use Rattle.std.specs.Prelude.{◌≡◌, ℕ, zero, suc, ◌+◌, ◌≤◌, List, length, Some}
use Rattle.rhythm_base.specs.Grammar.{Grammar}
use Rattle.rhythm_base.specs.Performance.{Performance}
use Rattle.edit_laws.specs.Reached.{WouldReach}
use Rattle.edit_laws.specs.EditOutcomes.{EditOutcome, IsOutcome, made, refused}
use Rattle.rhythm_base.specs.declared.edit.Edit.{Edit}
use Rattle.rhythm_gen.specs.DrillEdit.{drill_edit}
use Rattle.rhythm_gen.specs.declared.drill.TheConstants.{LATEST_DRILLED}

-- a performance has what the forty edits of a drill are made of, at most ten of which drop a note
pub record IsReadyForDrill (p : Performance) : Type 0 where
  pub some_notes : 11 ≤ length p.notes
  pub two_bars : 2 ≤ length p.bars
  pub last : p.last ≤ LATEST_DRILLED

-- where a drill stands: the performance as edited so far, how many edits were accepted, and how many cells these reached
pub record Drilled : Type 0 where
  pub performance : Performance
  pub accepted : ℕ
  pub built : ℕ

abbrev pub undrilled : Performance → Drilled
undrilled p = record { performance = p; accepted = 0; built = 0 }

-- an edit that is refused is passed over; one that is accepted counts, and so do the cells that it reaches
abbrev pub IsCounted : EditOutcome → Drilled → Drilled → Type 0
IsCounted (refused fault) old new = (new.accepted ≡ old.accepted) × (new.built ≡ old.built)
IsCounted (made reached cost) old new = (new.accepted ≡ old.accepted + 1) × (new.built ≡ old.built + reached)

-- no more cells than the edit reaches, or would have reached
abbrev pub IsWithinReach : Grammar → Performance → Edit → ℕ → Type 0
IsWithinReach g p edit count = (cells : List (ℕ × ℕ)) → WouldReach g p edit cells → count ≤ length cells

-- how many cells are built besides those that accepted edits reach: for an edit that is refused at most those that it would have
-- reached
abbrev pub IsBuiltBesides : Grammar → Performance → Edit → EditOutcome → ℕ → Type 0
IsBuiltBesides g p edit (refused fault) besides = IsWithinReach g p edit besides
IsBuiltBesides g p edit (made reached cost) besides = besides ≡ 0

-- the edit of number e
pub record IsDrillStep (g : Grammar) (number e : ℕ) (old new : Drilled) (besides : ℕ) : Type 0 where
  pub edit : Edit
  pub is : drill_edit number e old.performance ≡ Some edit
  pub outcome : EditOutcome
  pub comes : IsOutcome g old.performance edit outcome new.performance
  pub counts : IsCounted outcome old new
  pub builds : IsBuiltBesides g old.performance edit outcome besides

-- where the drill of a number stands after its first edits, from number 0 on, and how many cells were built besides
unfoldable pub IsDrilledTo : Grammar → ℕ → Performance → ℕ → Drilled → ℕ → Type 0
IsDrilledTo g number p zero last besides = (last ≡ undrilled p) × (besides ≡ 0)
IsDrilledTo g number p (suc e) last besides =
    (before : Drilled) × (earlier : ℕ) × (own : ℕ) × IsDrilledTo g number p e before earlier × IsDrillStep g number e before last own × (besides ≡ earlier + own)
