-- A performance has the text of its bars, tempos, keys and notes.
use Rattle.std.proofs.Common.{◌≡◌, ℕ, List, [], ◌∷◌, ◌++◌, Bool, not, ap, get_or, refl, sym, Result, Ok}
use Rattle.std.specs.Cmp.Lexicographic.{slice_cmp}
use Rattle.std.specs.List.Sorted.{IsPermutation}
use Rattle.std.specs.Ordering.{is_lt, nat_cmp}
use Rattle.std.specs.Prelude.{AllPairs, filter}
use Rattle.std.specs.declared.cmp.Ordering.TheVariants.{Less}
use Rattle.std.proofs.lemmas.List.Sorted.{All-permutation, IsPermutation-cons, IsPermutation-filter_both, IsPermutation-middle, IsPermutation-refl, IsPermutation-sym, IsPermutation-trans}
use Rattle.note_list.proofs.Places.{not_before_itself}
use Rattle.notes_writer.specs.ByOnset.{AreByOnset, place_in_text}
use Rattle.notes_writer.specs.NotesText.{notes_records}
use Rattle.rhythm_app.specs.Outcome.{IsNoting, Ready, say}
use Rattle.rhythm_app.specs.declared.stop.Stop.{Stop}
use Rattle.rhythm_base.specs.declared.note.Note.{Note}
use Rattle.rhythm_base.specs.Lists.{AreInOrder, list_with}
use Rattle.rhythm_base.specs.Performance.{IsWellFormed, Performance}
use Rattle.rhythm_base.proofs.NotePlaces.{ArePlacedAlike}
use Rattle.rhythm_base.proofs.OrderedLists.{pairs_head, pairs_nil, pairs_tail, put_in_order}

-- one more is put at its place among others
put_moves : {X : Type 0} (place : X → List ℕ) (x : X) (xs : List X) → IsPermutation (x ∷ xs) (list_with place x xs)
put_moves {X} place x xs =
    let before : X → Bool = λ y. is_lt (slice_cmp nat_cmp (place y) (place x)) in
    let later : X → Bool = λ y. not (before y) in
    let parts = IsPermutation-cons x xs (filter before xs ++ filter later xs) (IsPermutation-filter_both before later (λ y. refl) xs) in
    IsPermutation-trans (x ∷ xs) (x ∷ (filter before xs ++ filter later xs)) (list_with place x xs) parts
    (IsPermutation-sym (list_with place x xs) (x ∷ (filter before xs ++ filter later xs)) (IsPermutation-middle (filter before xs) x (filter later xs)))

module _ {X : Type 0} (place : X → List ℕ) where
  abbrev DiffersFrom : X → X → Type 0
  DiffersFrom x y = place y ≡ place x → ⊥

  -- what stands at different places has an order by them
  by_place : (xs : List X) → AllPairs DiffersFrom xs → (list : List X) × IsPermutation xs list × AreInOrder place list
  by_place [] differ = ([], IsPermutation-refl [], pairs_nil (λ x y. slice_cmp nat_cmp (place x) (place y) ≡ Less))
  by_place (x ∷ xs) differ =
      let rest = by_place xs (pairs_tail DiffersFrom x xs differ) in
      let others = All-permutation (DiffersFrom x) xs rest.0 rest.1 (pairs_head DiffersFrom x xs differ) in (
        list_with place x rest.0,
        IsPermutation-trans (x ∷ xs) (x ∷ rest.0) (list_with place x rest.0) (IsPermutation-cons x xs rest.0 rest.1) (put_moves place x rest.0),
        put_in_order place x rest.0 rest.2 others,
      )

alike : (m n : Note) → place_in_text n ≡ place_in_text m → ArePlacedAlike m n
alike m n e = record { channel = sym (ap (λ l. get_or l 1 0) e); onset = sym (ap (λ l. get_or l 0 0) e); key = sym (ap (λ l. get_or l 2 0) e) }

-- no two notes of a performance stand at one place of the text
by_onset : (p : Performance) → IsWellFormed p → (notes : List Note) × AreByOnset p.notes notes
by_onset p formed =
    let list = by_place place_in_text p.notes (λ i j d less within e.
    not_before_itself (get_or p.notes i d) (get_or p.notes j d) (alike (get_or p.notes i d) (get_or p.notes j d) e) (formed.notes_in_order i j d less within)) in
    (list.0, record { same = list.1; in_order = list.2 })

pub some_noting : (p : Performance) → IsWellFormed p → (r : Result Ready Stop) × IsNoting p r
some_noting p formed = let notes = by_onset p formed in (Ok (say (notes_records p notes.0)), (notes.0, notes.1, refl))
