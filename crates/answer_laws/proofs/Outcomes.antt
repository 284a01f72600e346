-- An edit of a performance that can be edited has an outcome, and leaves one that can be edited.
use Rattle.std.proofs.Common.{◌≡◌, ℕ, ◌⊎◌, inl, inr, Bool, true, false, List, [], ◌∷◌, length, refl, ap, ◌∙◌, subst, Option, Some, None, Result, Ok, Err}
use Rattle.std.specs.Prelude.{All, if◌then◌else◌}
use Rattle.edit_laws.specs.EditOutcomes.{EditOutcome, IsOutcome, IsRefused, made, refused}
use Rattle.edit_laws.specs.Edits.{edit_tests, edited, first_refusal, performance_after, unless_refused}
use Rattle.edit_laws.proofs.Edited.{edited_formed}
use Rattle.edit_laws.proofs.EditedCounts.{edited_cells, edited_starts}
use Rattle.rhythm_base.specs.declared.edit.Edit.{Edit}
use Rattle.rhythm_base.specs.declared.edit.Edit.TheVariants.{Add, Drop, Move, Barline, Pin, Unpin, AddBar, DropBar}
use Rattle.rhythm_base.specs.declared.edit_fault.EditFault.{EditFault}
use Rattle.rhythm_base.specs.declared.edit_fault.EditFault.TheVariants.{Memory, NoDerivation}
use Rattle.rhythm_base.specs.EditRanges.{IsEditInRange}
use Rattle.rhythm_base.specs.Grammar.{Grammar}
use Rattle.rhythm_base.specs.Performance.{IsWellFormed, Performance}
use Rattle.rhythm_base.specs.Readable.{IsReadable}
use Rattle.rhythm_base.specs.Voices.{HasDerivation, HasStarts, IsDeadVoice}
use Rattle.answer_laws.specs.Editable.{IsEditable}
use Rattle.answer_laws.proofs.Reached.{some_reached}
use Rattle.table_laws.proofs.Performances.{all_or_dead, some_cost}

module _ (g : Grammar) (p : Performance) (edit : Edit) (readable : IsReadable g) (editable : IsEditable g p) (range : IsEditInRange edit) where
  abbrev HasOutcome : Type 0
  HasOutcome = (outcome : EditOutcome) × (next : Performance) × IsOutcome g p edit outcome next × IsEditable g next

  by_voices : (q : Performance) → edited p edit ≡ Ok q → IsWellFormed q → HasStarts g q.bars
      → All (HasDerivation g q) q.channels ⊎ ((channel : ℕ) × (bar : ℕ) × IsDeadVoice g q channel bar) → HasOutcome
  by_voices q is formed starts (inl all) =
      let cells = some_reached g p q in
      let cost = some_cost g q readable formed starts q.channels all in (
        made (length cells.0) cost.0,
        q,
        (cells.0, record { made = is; reaches = cells.1; costs = cost.1 }, refl),
        (formed, record { cells = edited_cells p q edit is editable.1.cells; starts = starts; derivations = all }),
      )
  by_voices q is formed starts (inr (channel, bar, dead)) =
      (refused (NoDerivation channel bar), p, (inr (q, channel, bar, is, dead, refl), refl), editable)

  pub some_outcome : HasOutcome
  some_outcome = go (edited p edit) refl
    where
      go : (r : Result Performance EditFault) → edited p edit ≡ r → HasOutcome
      go (Err fault) is = (refused fault, p, (inl is, refl), editable)
      go (Ok q) is =
          let formed = edited_formed p q edit editable.0 range is in
          let starts = edited_starts g p q edit is editable.1.starts in
          by_voices q is formed starts (all_or_dead g q readable formed starts)

-- ---- a refusal is never for want of memory

abbrev pub is_memory : EditFault → Bool
is_memory Memory = true
is_memory _ = false

abbrev NoneWants : List (Bool × EditFault) → Type 0
NoneWants [] = Unit {0}
NoneWants (test ∷ more) = (is_memory test.1 ≡ false) × NoneWants more

pub first_ample : (tests : List (Bool × EditFault)) (fault : EditFault) → NoneWants tests → first_refusal tests ≡ Some fault → is_memory fault ≡ false
first_ample [] fault none is = cc
first_ample (test ∷ more) fault none is = go test.0 is (first_ample more fault none.1)
  where
    go : (b : Bool) → (if b then Some test.1 else first_refusal more) ≡ Some fault → (first_refusal more ≡ Some fault → is_memory fault ≡ false) → is_memory fault ≡ false
    go true is later = let same : test.1 ≡ fault = cc in subst (λ (f : EditFault). is_memory f ≡ false) same none.0
    go false is later = later is

tests_ample : (p : Performance) (edit : Edit) → NoneWants (edit_tests p edit)
tests_ample p (Add channel key onset until) = (refl, (refl, (refl, (refl, (refl, tt)))))
tests_ample p (Drop channel key onset) = (refl, (refl, tt))
tests_ample p (Move channel key onset to) = (refl, (refl, (refl, (refl, tt))))
tests_ample p (Barline bar tick) = (refl, (refl, (refl, tt)))
tests_ample p (Pin channel bar shape) = (refl, (refl, tt))
tests_ample p (Unpin channel bar) = (refl, (refl, tt))
tests_ample p AddBar = (refl, (refl, (refl, tt)))
tests_ample p DropBar = (refl, (refl, tt))

unless_ample : (q : Performance) (tests : List (Bool × EditFault)) (fault : EditFault) → NoneWants tests → (o : Option EditFault) → first_refusal tests ≡ o
    → unless_refused q o ≡ Err fault → is_memory fault ≡ false
unless_ample q tests fault none None first is = cc
unless_ample q tests fault none (Some other) first is =
    let same : other ≡ fault = cc in
    first_ample tests fault none (first ∙ ap (λ (f : EditFault). Some f) same)

pub refusal_ample : (g : Grammar) (p : Performance) (edit : Edit) (fault : EditFault) → IsRefused g p edit fault → is_memory fault ≡ false
refusal_ample g p edit fault (inl is) = unless_ample (performance_after p edit) (edit_tests p edit) fault (tests_ample p edit) (first_refusal (edit_tests p edit)) refl is
refusal_ample g p edit fault (inr (q, channel, bar, is, dead, named)) = ap (λ (f : EditFault). is_memory f) named
