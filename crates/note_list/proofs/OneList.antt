-- The notes of events: the kept ones in order, and no other list.
use Rattle.std.proofs.Common.{◌≡◌, ℕ, suc, ◌≤◌, Bool, false, not, List, [], ◌∷◌, ◌++◌, length, get_or, map, refl, subst, inl, inr, arith}
use Rattle.std.specs.Prelude.{All, AllPairs, filter}
use Rattle.std.specs.List.{IsDistinct}
use Rattle.std.specs.List.Sorted.{IsNonDecreasing, IsPermutation, IsSortedByKey}
use Rattle.std.specs.Ordering.{is_lt, nat_cmp}
use Rattle.std.specs.Cmp.Lexicographic.{slice_cmp}
use Rattle.std.proofs.lemmas.Bool.Decides.{nat_tests}
use Rattle.std.proofs.lemmas.Cmp.{nat_list_cmp_total}
use Rattle.std.proofs.lemmas.List.{get_or-map, length-map}
use Rattle.std.proofs.lemmas.List.Sorted.{sorted_far, ranks_by, All-permutation, Contains-permutation, IsPermutation-refl, IsPermutation-sym, IsPermutation-cons, IsPermutation-trans, IsPermutation-middle, IsPermutation-filter_both, length_permutation}
use Rattle.std.proofs.lemmas.Map.Keys.{IsDistinct-tail, IsDistinct-IsPermutation, apart_from_distinct}
use Rattle.rhythm_base.specs.declared.event.Event.{Event}
use Rattle.rhythm_base.specs.declared.note.Note.{Note}
use Rattle.rhythm_base.specs.Lists.{AreInOrder, list_with}
use Rattle.rhythm_base.specs.Notes.{AreNotes, IsKept, begun}
use Rattle.rhythm_base.specs.Performance.{place_of_note}
use Rattle.rhythm_base.proofs.FirstLists.{one_order}
use Rattle.rhythm_base.proofs.OrderedLists.{put_in_order}
use Rattle.note_list.specs.Kept.{AreKeptNotes, same_place}
use Rattle.note_list.specs.Pairing.{IsEventOf, IsPlayed, NotesAreOne}
use Rattle.rhythm_base.proofs.Members.{among_contained, place_among, all_among, all_from_among, Pairwise}
use Rattle.note_list.proofs.Places.{IsBefore, follows, not_both}
use Rattle.note_list.proofs.Latest.{IsBest, apart, either_way, latest, latest_distinct, latest_best, best_latest}
use Rattle.note_list.proofs.Ending.{are_played, ends_rise}

-- ---- lists in order with the same notes are one

pub are_one : NotesAreOne
are_one last events a b h k =
    one_order IsBefore not_both a b h.in_order k.in_order (λ n there. (k.kept n).1 ((h.kept n).0 there)) (λ n there. (h.kept n).1 ((k.kept n).0 there))

-- ---- the best notes are those that are kept

best_kept : (xs : List Note) (n : Note) → IsBest xs n → IsKept xs n
best_kept xs n h = (place_among xs n h.0, all_from_among (λ m. m.channel ≡ n.channel → m.key ≡ n.key → m.onset ≡ n.onset → m.end ≤ n.end) xs (λ m a c k o. h.1 m a record { channel = c; onset = o; key = k }))

kept_best : (xs : List Note) (n : Note) → IsKept xs n → IsBest xs n
kept_best xs n h = (among_contained xs n h.0, λ m a s. all_among (λ m. m.channel ≡ n.channel → m.key ≡ n.key → m.onset ≡ n.onset → m.end ≤ n.end) xs h.1 m a s.channel s.key s.onset)

-- ---- events in order

to_pairs : {X : Type 0} (R : X → X → Type 0) (xs : List X) → AllPairs R xs → Pairwise R xs
to_pairs R [] h = tt
to_pairs R (x ∷ xs) h = (
  (λ y a. let c = place_among xs y a in subst (R x) c.2 (h 0 (suc c.0) y (omega arith) (omega (arith, c.1)))),
  to_pairs R xs (λ i j d lt within. h (suc i) (suc j) d (omega arith) (omega arith)),
)

pub events_rise : (events : List Event) → IsNonDecreasing (map (λ e. e.tick) events) → Pairwise (λ (x : Event) y. x.tick ≤ y.tick) events
events_rise events h = to_pairs (λ x y. x.tick ≤ y.tick) events (λ i j d lt within.
    let long = length-map events (λ (e : Event). e.tick) in
    omega (arith, get_or-map (λ (e : Event). e.tick) events i d (d.tick) (omega arith), get_or-map (λ (e : Event). e.tick) events j d (d.tick) (omega arith), h i j d.tick (omega arith) (omega (arith, long))))

-- ---- the kept notes in any order

pub kept_permuted : (last : ℕ) (events : List Event) (xs ys : List Note) → AreKeptNotes last events xs → IsPermutation xs ys → AreKeptNotes last events ys
kept_permuted last events xs ys h p = record {
  once = IsDistinct-IsPermutation same_place either_way xs ys p h.once;
  kept = λ n. (
    (λ c. (h.kept n).0 (Contains-permutation ys xs n (IsPermutation-sym xs ys p) c)),
    λ k. Contains-permutation xs ys n p ((h.kept n).1 k),
  );
}

pub latest_kept : (last : ℕ) (events : List Event) → Pairwise (λ (x : Event) y. x.tick ≤ y.tick) events → All (IsEventOf last) events → AreKeptNotes last events (latest (begun last events))
latest_kept last events order all =
    let list : List Note = begun last events in
    let rise = ends_rise last events order (all_among (IsEventOf last) events all) in
    record {
      once = latest_distinct list;
      kept = λ n. (
        (λ c. best_kept list n (latest_best list rise n (among_contained (latest list) n c))),
        λ k. place_among (latest list) n (best_latest list rise n (kept_best list n k)),
      );
    }

pub all_played : (last : ℕ) (events : List Event) (notes : List Note) → IsNonDecreasing (map (λ e. e.tick) events) → All (IsEventOf last) events → AreKeptNotes last events notes → All (IsPlayed last) notes
all_played last events notes order all h =
    all_from_among (IsPlayed last) notes (λ n a. are_played last events (events_rise events order) (all_among (IsEventOf last) events all) n (among_contained (begun last events) n ((h.kept n).0 (place_among notes n a)).0))

-- ---- sorted by their places they are in order

pub sorted_in_order : (notes : List Note) → IsDistinct same_place notes → IsSortedByKey place_of_note (slice_cmp nat_cmp) notes → AreInOrder place_of_note notes
sorted_in_order notes once sorted i j d lt within =
    let far = sorted_far (λ x y. is_lt (slice_cmp nat_cmp (place_of_note x) (place_of_note y))) (ranks_by nat_list_cmp_total place_of_note) notes sorted i j d (omega arith) within in
    elim (follows (get_or notes i d) (get_or notes j d) far) [
      | inl before ↦ before
      | inr same ↦ absurd (apart (get_or notes i d) (get_or notes j d) (apart_from_distinct same_place notes i j d once lt within) same)
    ]

-- ---- they have an order

abbrev pub in_place : List Note → List Note
in_place [] = []
in_place (x ∷ xs) = list_with place_of_note x (in_place xs)

put_permuted : (x : Note) (xs : List Note) → IsPermutation (x ∷ xs) (list_with place_of_note x xs)
put_permuted x xs =
    let p : Note → Bool = λ y. is_lt (slice_cmp nat_cmp (place_of_note y) (place_of_note x)) in
    let q : Note → Bool = λ y. not (p y) in
    let parted : IsPermutation (x ∷ xs) (x ∷ (filter p xs ++ filter q xs)) = IsPermutation-cons x xs (filter p xs ++ filter q xs) (IsPermutation-filter_both p q (λ y. refl) xs) in
    IsPermutation-trans (x ∷ xs) (x ∷ (filter p xs ++ filter q xs)) (filter p xs ++ x ∷ filter q xs) parted
    (IsPermutation-sym (filter p xs ++ x ∷ filter q xs) (x ∷ (filter p xs ++ filter q xs)) (IsPermutation-middle (filter p xs) x (filter q xs)))

pub placed_permuted : (xs : List Note) → IsPermutation xs (in_place xs)
placed_permuted [] = IsPermutation-refl []
placed_permuted (x ∷ xs) = IsPermutation-trans (x ∷ xs) (x ∷ in_place xs) (list_with place_of_note x (in_place xs)) (IsPermutation-cons x xs (in_place xs) (placed_permuted xs)) (put_permuted x (in_place xs))

pub placed_in_order : (xs : List Note) → IsDistinct same_place xs → AreInOrder place_of_note (in_place xs)
placed_in_order [] once = λ i j d lt within. absurd (omega arith)
placed_in_order (x ∷ xs) once =
    put_in_order place_of_note x (in_place xs) (placed_in_order xs (IsDistinct-tail same_place x xs once))
    (All-permutation (λ y. place_of_note y ≡ place_of_note x → ⊥) xs (in_place xs) (placed_permuted xs)
    (λ k d lt e. differs (get_or xs k d) (apart_from_distinct same_place (x ∷ xs) 0 (suc k) d once (omega arith) (omega arith)) e))
  where
    differs : (y : Note) → same_place x y ≡ false → place_of_note y ≡ place_of_note x → ⊥
    differs y h e = grind (arith, nat_tests)

-- ---- the notes of events

pub are_notes : (last : ℕ) (events : List Event) (notes : List Note) → AreKeptNotes last events notes → AreInOrder place_of_note notes → AreNotes last events notes
are_notes last events notes h order = record { in_order = order; kept = h.kept }

-- so many notes are kept
pub so_many : (last : ℕ) (events : List Event) (kept : List Note) → AreKeptNotes last events kept → (notes : List Note) × AreNotes last events notes × (length notes ≡ length kept)
so_many last events kept h =
    let notes = in_place kept in
    let moved = placed_permuted kept in
    (notes, are_notes last events notes (kept_permuted last events kept notes h moved) (placed_in_order kept h.once), length_permutation kept notes moved)
