-- How many products a session makes where it is put on another performance.
use Rattle.std.specs.Prelude.{◌≡◌, ℕ, ◌+◌, ◌*◌, ◌-◌, ◌≤◌, ◌^◌, List, Result, Ok, Err, OnErr, length}
use Rattle.rhythm_base.specs.declared.edit.Edit.{Edit}
use Rattle.rhythm_base.specs.declared.edit_fault.EditFault.{EditFault}
use Rattle.rhythm_base.specs.declared.edit_fault.EditFault.TheVariants.{NoDerivation}
use Rattle.rhythm_base.specs.Counter.{risen}
use Rattle.edit_laws.specs.Edits.{edited}
use Rattle.rhythm_base.specs.Grammar.{Grammar}
use Rattle.rhythm_base.specs.Performance.{Performance}
use Rattle.edit_laws.specs.Reached.{AreReached}

-- the tables that come in or go off the end: one for each of so many reached cells, and in each voice one for each bar that is lost
abbrev pub moved_tables : Performance → Performance → ℕ → ℕ
moved_tables before after reached = reached + length before.channels * (length before.bars - length after.bars)

-- so many changes from one performance to another: each table that moves costs at most d products in each of them, where there are
-- at most 2 ^ d bars before and afterwards
pub record AreProductsOf (changes : ℕ) (g : Grammar) (before after : Performance) (old new : ℕ) : Type 0 where
  pub rises : old ≤ new
  pub most : (cells : List (ℕ × ℕ)) (d : ℕ) → AreReached g before after cells → length before.bars ≤ 2 ^ d → length after.bars ≤ 2 ^ d
      → new ≤ risen old (changes * moved_tables before after (length cells) * d)

-- a session changes once; after a dead voice it has changed there and back
abbrev pub changes_made : {A B : Type 0} → Result A B → ℕ
changes_made (Ok _) = 1
changes_made (Err _) = 2

-- the same of an edit, which changes nothing where it is refused for anything but a dead voice
abbrev pub changes_of_edit : {A : Type 0} → Result A EditFault → ℕ
changes_of_edit (Ok _) = 1
changes_of_edit (Err (NoDerivation _ _)) = 2
changes_of_edit (Err _) = 0

-- the products of an edit, by what becomes of it
pub record AreProductsOfEdit {A : Type 0} (g : Grammar) (p : Performance) (edit : Edit) (result : Result A EditFault) (old new : ℕ) : Type 0 where
  pub rises : old ≤ new
  pub most : (after : Performance) → edited p edit ≡ Ok after → AreProductsOf (changes_of_edit result) g p after old new
  pub none : changes_of_edit result ≡ 0 → new ≡ old

-- a counter does not fall, and stands still where a call fails
abbrev pub RisesOnOk : {A E : Type 0} → Result A E → ℕ → ℕ → Type 0
RisesOnOk result old new = (old ≤ new) × OnErr result (new ≡ old)
