use Rattle.std.proofs.Common.{◌≡◌, ◌+◌, ◌-◌, ◌⊎◌, ◌∷◌, [], ◌++◌, ℕ, suc, List, IfOk, take, drop, true, false, length, subst, sym, ap, ◌∙◌, arith, inl, inr}
use Rattle.std.specs.Cmp.Lexicographic.{slice_cmp}
use Rattle.std.specs.List.{AllWithin}
use Rattle.std.specs.Ordering.{nat_cmp}
use Rattle.std.specs.declared.cmp.Ordering.TheVariants.{Less}
use Rattle.rhythm_base.specs.declared.note.Note.{Note}
use Rattle.rhythm_base.specs.Lists.{AreInOrder, earlier, list_with}
use Rattle.rhythm_base.specs.Performance.{place_of_note}
use Rattle.performance_edit.proofs.MovedNotes.{others_in_order, written_over}
use Rattle.performance_edit.proofs.notes.with_other_onset.Goals as goal
use Rattle.performance_edit.proofs.notes.with_other_onset.Goals.{then-earlier-place-via-then-earlier-place, then-earlier-place-via-else-earlier-place+then-saturating_sub-place}

pub returns-then-earlier-place : goal.returns-then-earlier-place
returns-then-earlier-place c =
    let notes : List Note = c.args.notes.now in
    let note : Note = c.args.moved in
    let i : ℕ = c.args.place in
    let n : ℕ = c.count_before-earlier.result in
    let found = c.count_before-earlier.ensures in
    let front = subst (λ k. AllWithin (λ y. earlier (place_of_note y) (k ∷ note.onset ∷ note.key ∷ []) ≡ true) notes 0 n) c.from.ensures found.front in
    let back = subst (λ k. AllWithin (λ y. earlier (place_of_note y) (k ∷ note.onset ∷ note.key ∷ []) ≡ false) notes n (length notes)) c.from.ensures found.back in
    let near : (n ≡ i) ⊎ (n - 1 ≡ i) = elim c.then-earlier-place.branch [
      | then-earlier-place-via-then-earlier-place w ↦ inl (omega (arith, w.if-earlier-place.true))
      | then-earlier-place-via-else-earlier-place+then-saturating_sub-place w ↦ inr (omega (arith, w.saturating_sub.ensures, w.if-saturating_sub-place.true))
    ] in
    subst (λ (l : List Note). IfOk c.with_other.result (λ n. n ≡ l)) (written_over note notes i n c.requires.place near front back) c.with_other.ensures

pub with_note-requires : goal.with_note-requires
with_note-requires c =
    let next : suc c.args.place ≡ c.args.place + 1 = omega arith in
    subst (λ (l : List Note). AreInOrder place_of_note l)
    (ap (λ k. take c.args.place c.args.notes.now ++ drop k c.args.notes.now) next ∙ sym c.in_ok-others.ensures)
    (others_in_order (λ (x : Note) (y : Note). slice_cmp nat_cmp (place_of_note x) (place_of_note y) ≡ Less) c.args.notes.now c.args.place c.requires.place c.requires.order)

pub returns : goal.returns
returns c =
    subst (λ (l : List Note). IfOk c.with_note.result (λ n. n ≡ list_with place_of_note c.args.moved l)) c.in_ok-others.ensures c.with_note.ensures
