-- Which performances a session can be opened on, and why not on the others.
use Rattle.rhythm_base.specs.declared.limits.TheConstants.{MOST_CELLS}
use Rattle.std.specs.Prelude.{◌≡◌, ℕ, ◌*◌, ◌<◌, ◌≤◌, All, length}
use Rattle.bar_pool.specs.Pool.{RisesWithin}
use Rattle.bar_cut.specs.Cuts.{IsFirstWithoutStart}
use Rattle.bar_cut.specs.declared.fault.CutFault.{CutFault}
use Rattle.bar_cut.specs.declared.fault.CutFault.TheVariants as cut
use Rattle.edit_session.specs.declared.open_fault.OpenFault.{OpenFault}
use Rattle.edit_session.specs.declared.open_fault.OpenFault.TheVariants.{Cells, NoStart, NoDerivation, Memory}
use Rattle.rhythm_base.specs.Counter.{risen}
use Rattle.rhythm_base.specs.Grammar.{Grammar}
use Rattle.rhythm_base.specs.Performance.{Performance}
use Rattle.rhythm_base.specs.Voices.{HasDerivation, HasStarts, IsDeadVoice}

-- the number of cells: voices times bars
abbrev pub cells_of : Performance → ℕ
cells_of p = length p.channels * length p.bars

-- there are few enough cells, a root symbol for each bar, and a fitting derivation for each voice
pub record CanOpen (g : Grammar) (p : Performance) : Type 0 where
  pub cells : cells_of p ≤ MOST_CELLS
  pub starts : HasStarts g p.bars
  pub derivations : All (HasDerivation g p) p.channels

-- the first that is wrong: too many cells; else the first bar without a root symbol; else the first voice without a fitting
-- derivation, and its dead bar. There may not be enough memory where neither of the first two is wrong
abbrev pub IsOpenFault : Grammar → Performance → OpenFault → Type 0
IsOpenFault g p (Cells count) = (count ≡ cells_of p) × (MOST_CELLS < cells_of p)
IsOpenFault g p (NoStart bar num den) = (cells_of p ≤ MOST_CELLS) × IsFirstWithoutStart g p.bars bar num den
IsOpenFault g p (NoDerivation channel bar) = (cells_of p ≤ MOST_CELLS) × IsDeadVoice g p channel bar
IsOpenFault g p Memory = (cells_of p ≤ MOST_CELLS) × HasStarts g p.bars

-- what is wrong where the inputs of the cells are not had: a bar has no root symbol; or each has one, and there is not enough memory
abbrev pub IsInputFault : Grammar → Performance → OpenFault → Type 0
IsInputFault g p (Cells count) = ⊥
IsInputFault g p (NoStart bar num den) = IsFirstWithoutStart g p.bars bar num den
IsInputFault g p (NoDerivation channel bar) = ⊥
IsInputFault g p Memory = HasStarts g p.bars

-- a voice that is not cut
abbrev pub fault_of_cut : CutFault → OpenFault
fault_of_cut (cut.NoStart bar num den) = NoStart bar num den
fault_of_cut cut.Memory = Memory

-- how many cells have been built by then: all where only derivations were wanting, and none before
abbrev pub IsBuilt : ℕ → ℕ → ℕ → OpenFault → Type 0
IsBuilt old new cells (Cells _) = new ≡ old
IsBuilt old new cells (NoStart _ _ _) = new ≡ old
IsBuilt old new cells (NoDerivation _ _) = new ≡ risen old cells
IsBuilt old new cells Memory = RisesWithin old new cells
