use Rattle.std.proofs.Common.{◌≡◌, ◌+◌, ◌∷◌, [], ◌++◌, ℕ, List, IfOk, take, drop, true, false, length, subst, sym, ap, ◌∙◌, arith}
use Rattle.std.specs.List.{AllWithin}
use Rattle.rhythm_base.specs.declared.note.Note.{Note}
use Rattle.rhythm_base.specs.Lists.{earlier, list_with}
use Rattle.rhythm_base.specs.Performance.{place_of_note}
use Rattle.performance_edit.proofs.OnlyPlaces.{insert-parts}
use Rattle.performance_edit.proofs.Places.{list_with-insert}
use Rattle.performance_edit.proofs.notes.with_note.Goals as goal

pub returns : goal.returns
returns c =
    let notes : List Note = c.args.notes.now in
    let note : Note = c.args.note in
    let n : ℕ = c.count_before-place.result in
    let found = c.count_before-place.ensures in
    let front = subst (λ k. AllWithin (λ y. earlier (place_of_note y) (k ∷ note.onset ∷ note.key ∷ []) ≡ true) notes 0 n) c.from.ensures found.front in
    let back = subst (λ k. AllWithin (λ y. earlier (place_of_note y) (k ∷ note.onset ∷ note.key ∷ []) ≡ false) notes n (length notes)) c.from.ensures found.back in
    let zero_more : n + 0 ≡ n = omega arith in
    let is : take n notes ++ ((note ∷ []) ++ drop (n + 0) notes) ≡ list_with place_of_note note notes =
    ap (λ k. take n notes ++ (note ∷ drop k notes)) zero_more
    ∙ sym (insert-parts note notes n found.within) ∙ list_with-insert place_of_note note notes n found.within front back in
    subst (λ (l : List Note). IfOk c.with_other.result (λ n. n ≡ l)) is c.with_other.ensures
