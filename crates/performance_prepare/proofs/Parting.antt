-- The notes of a split are at different places, and well formed.
use Rattle.std.proofs.Common.{◌≡◌, ◌⊎◌, ℕ, suc, ◌+◌, ◌<◌, ◌≤◌, eqb, ltb, Bool, true, false, not, cond, inl, inr, List, [], ◌∷◌, length, map, get_or, refl, sym, ap, ◌∙◌, subst, arith, Ok, Err}
use Rattle.std.specs.Prelude.{All, AllPairs, IfOk, ◌&&◌, ◌≢◌}
use Rattle.std.specs.List.{AllByRecursion, IsDistinct, list_all}
use Rattle.std.specs.List.Sorted.{IsPermutation, IsSortedByKey}
use Rattle.std.specs.Ordering.{nat_cmp}
use Rattle.std.specs.Cmp.Lexicographic.{slice_cmp}
use Rattle.std.proofs.lemmas.Bool.{cases_order}
use Rattle.std.proofs.lemmas.Bool.Decides.{nat_tests}
use Rattle.std.proofs.lemmas.List.{length-map}
use Rattle.std.proofs.lemmas.List.Elements.{All-cons, All-filter, All-nil, filter_passes}
use Rattle.std.proofs.lemmas.List.Folds.{list_any_at}
use Rattle.std.proofs.lemmas.List.Kept.{AllPairs-cons, AllPairs-filter}
use Rattle.std.proofs.lemmas.List.Sorted.{All-permutation, Contains-permutation, IsPermutation-sym, length_permutation}
use Rattle.std.proofs.lemmas.Map.Keys.{IsDistinct-IsPermutation}
use Rattle.note_list.proofs.Latest.{either_way}
use Rattle.note_list.proofs.OneList.{in_place, placed_in_order, placed_permuted, sorted_in_order}
use Rattle.note_list.proofs.Places.{IsBefore, not_both}
use Rattle.note_list.specs.Kept.{same_place}
use Rattle.note_list.specs.Pairing.{IsPlayed}
use Rattle.rhythm_base.proofs.FirstLists.{one_order}
use Rattle.rhythm_base.proofs.OrderedLists.{all_head, all_tail, pairs_head, pairs_nil, pairs_tail}
use Rattle.rhythm_base.specs.Lists.{AreInOrder, list_with}
use Rattle.rhythm_base.specs.Performance.{place_of_note}
use Rattle.rhythm_base.specs.declared.note.Note.{Note}
use Rattle.performance_load.specs.Take.{Take}
use Rattle.performance_load.specs.Taking.{IsTakeFormed}
use Rattle.performance_prepare.specs.Ready.{IsReady}
use Rattle.performance_prepare.specs.Split.{free_channels, in_order, is_low, lower_channel, parted_note, parted_notes, sounds, spare_channels, split_channels, voice_channels, with_split}
use Rattle.performance_prepare.specs.declared.prepare_fault.PrepareFault.TheVariants.{TooManyVoices}
use Rattle.performance_prepare.proofs.Answered.{if_ok}
use Rattle.performance_prepare.proofs.ShiftedTakes.{all_mapped}

-- ---- the spare channels

abbrev pub are_apart : List ℕ → Bool
are_apart [] = true
are_apart (x ∷ xs) = list_all (λ y. not (eqb x y)) xs && are_apart xs

all_of : (p : ℕ → Bool) (xs : List ℕ) → list_all p xs ≡ true → All (λ x. p x ≡ true) xs
all_of p [] h = All-nil (λ x. p x ≡ true)
all_of p (x ∷ xs) h = by (p x) refl h (all_of p xs)
  where
    by : (b : Bool) → p x ≡ b → (b && list_all p xs) ≡ true → (list_all p xs ≡ true → All (λ x. p x ≡ true) xs)
        → All (λ x. p x ≡ true) (x ∷ xs)
    by true e h rest = All-cons (λ x. p x ≡ true) x xs e (rest h)
    by false e h rest = absurd (cc)

pairs_of : (xs : List ℕ) → are_apart xs ≡ true → AllPairs (λ x y. x ≢ y) xs
pairs_of [] h = pairs_nil (λ x y. x ≢ y)
pairs_of (x ∷ xs) h = by (list_all (λ y. not (eqb x y)) xs) refl h (pairs_of xs)
  where
    differ : (y : ℕ) → not (eqb x y) ≡ true → x ≢ y
    differ y h same = grind (arith, nat_tests)

    by : (b : Bool) → list_all (λ y. not (eqb x y)) xs ≡ b → (b && are_apart xs) ≡ true → (are_apart xs ≡ true → AllPairs (λ x y. x ≢ y) xs)
        → AllPairs (λ x y. x ≢ y) (x ∷ xs)
    by true e h rest = AllPairs-cons (λ x y. x ≢ y) x xs (λ k d lt. differ (get_or xs k d) (all_of (λ y. not (eqb x y)) xs e k d lt))
        (rest h)
    by false e h rest = absurd (cc)

spare_apart : AllPairs (λ x y. x ≢ y) spare_channels
spare_apart = pairs_of spare_channels refl

spare_below : All (λ c. c < 16) spare_channels
spare_below = λ k d lt. let below = all_of (λ x. ltb x 16) spare_channels refl k d lt in grind (arith, nat_tests)

-- ---- the channel of lower notes

record IsGiven (split free : List ℕ) (c e : ℕ) : Type 0 where
  place : ℕ
  within : place < length split
  few : place < length free
  from : get_or split place 0 ≡ c
  to : e ≡ get_or free place 0

given : (split free : List ℕ) (c : ℕ) → IsGiven split free c (lower_channel split free c) ⊎ (lower_channel split free c ≡ c)
given [] free c = inr refl
given (s ∷ split) [] c = inr refl
given (s ∷ split) (f ∷ free) c = by (eqb s c) refl (given split free c)
  where
    by : (b : Bool) → eqb s c ≡ b → IsGiven split free c (lower_channel split free c) ⊎ (lower_channel split free c ≡ c)
        → IsGiven (s ∷ split) (f ∷ free) c (cond b f (lower_channel split free c)) ⊎ (cond b f (lower_channel split free c) ≡ c)
    by true e later = inl (record { place = 0; within = omega arith; few = omega arith; from = grind (arith, nat_tests); to = refl })
    by false e (inl g) = inl (record {
      place = suc g.place;
      within = omega (arith, g.within);
      few = omega (arith, g.few);
      from = g.from;
      to = g.to;
    })
    by false e (inr same) = inr same

apart_at : (xs : List ℕ) → AllPairs (λ x y. x ≢ y) xs → (i j : ℕ) → i < length xs → j < length xs → get_or xs i 0 ≡ get_or xs j 0 → i ≡ j
apart_at xs h i j li lj same = elim (cases_order i j) [
  | inl e ↦ e
  | inr other ↦ elim other [
    | inl less ↦ absurd (h i j 0 less lj same)
    | inr more ↦ absurd (h j i 0 more li (sym same))
  ]
]

module _ (key : ℕ) (notes : List Note) where
  abbrev Free : List ℕ
  Free = free_channels notes

  abbrev Split : List ℕ
  Split = split_channels key notes

  abbrev Sounding : Note → Type 0
  Sounding n = sounds notes n.channel ≡ true

  all_sound : All Sounding notes
  all_sound k d lt = list_any_at (λ n. eqb n.channel (get_or notes k d).channel) notes k d lt (grind (arith, nat_tests))

  free_apart : AllPairs (λ x y. x ≢ y) Free
  free_apart = AllPairs-filter (λ x y. x ≢ y) (λ c. not (sounds notes c)) spare_channels spare_apart

  pub silent : (i : ℕ) → i < length Free → sounds notes (get_or Free i 0) ≡ false
  silent i lt = let passes = filter_passes (λ c. not (sounds notes c)) spare_channels i 0 lt in by (sounds notes (get_or Free i 0)) passes
    where
      by : (b : Bool) → not b ≡ true → b ≡ false
      by true h = absurd (cc)
      by false h = refl

  pub free_below : All (λ c. c < 16) Free
  free_below = All-filter (λ c. not (sounds notes c)) (λ c. c < 16) spare_channels spare_below

  -- channels that have notes stay apart
  one_lower : (c d : ℕ) → sounds notes c ≡ true → sounds notes d ≡ true → lower_channel Split Free c ≡ lower_channel Split Free d → c ≡ d
  one_lower c d sc sd same = by (given Split Free c) (given Split Free d)
    where
      by : IsGiven Split Free c (lower_channel Split Free c) ⊎ (lower_channel Split Free c ≡ c)
          → IsGiven Split Free d (lower_channel Split Free d) ⊎ (lower_channel Split Free d ≡ d) → c ≡ d
      by (inl g) (inl h) =
          let places : g.place ≡ h.place = apart_at Free free_apart g.place h.place g.few h.few (sym g.to ∙ same ∙ h.to) in
          sym g.from ∙ ap (λ i. get_or Split i 0) places ∙ h.from
      by (inl g) (inr k) =
          let at : get_or Free g.place 0 ≡ d = sym g.to ∙ same ∙ k in
          let none : sounds notes d ≡ false = subst (λ x. sounds notes x ≡ false) at (silent g.place g.few) in
          absurd (cc)
      by (inr k) (inl h) =
          let at : get_or Free h.place 0 ≡ c = sym h.to ∙ sym same ∙ k in
          let none : sounds notes c ≡ false = subst (λ x. sounds notes x ≡ false) at (silent h.place h.few) in
          absurd (cc)
      by (inr k) (inr l) = sym k ∙ same ∙ l

  abbrev part : Note → Note
  part n = parted_note key Split Free n

  part_onset : (n : Note) → (part n).onset ≡ n.onset
  part_onset n = by (is_low key n)
    where
      by : (b : Bool) → (cond b (record n { channel = lower_channel Split Free n.channel }) n).onset ≡ n.onset
      by true = refl
      by false = refl

  part_key : (n : Note) → (part n).key ≡ n.key
  part_key n = by (is_low key n)
    where
      by : (b : Bool) → (cond b (record n { channel = lower_channel Split Free n.channel }) n).key ≡ n.key
      by true = refl
      by false = refl

  part_end : (n : Note) → (part n).end ≡ n.end
  part_end n = by (is_low key n)
    where
      by : (b : Bool) → (cond b (record n { channel = lower_channel Split Free n.channel }) n).end ≡ n.end
      by true = refl
      by false = refl

  -- notes of one channel and key that were apart stay so
  one_channel : (m n : Note) → Sounding m → Sounding n → m.key ≡ n.key → (part m).channel ≡ (part n).channel → m.channel ≡ n.channel
  one_channel m n sm sn keys same = by (is_low key m) (is_low key n) refl (ap (λ k. ltb k key) (sym keys)) same
    where
      by : (a b : Bool) → is_low key m ≡ a → b ≡ is_low key m
          → (cond a (record m { channel = lower_channel Split Free m.channel }) m).channel
          ≡ (cond b (record n { channel = lower_channel Split Free n.channel }) n).channel → m.channel ≡ n.channel
      by true true e f same = one_lower m.channel n.channel sm sn same
      by true false e f same = absurd (cc)
      by false true e f same = absurd (cc)
      by false false e f same = same

  stay_apart : (m n : Note) → Sounding m → Sounding n → IsBefore m n → (t : Bool) → same_place (part m) (part n) ≡ t → t ≡ false
  stay_apart m n sm sn before false e = refl
  stay_apart m n sm sn before true e =
      let channels : (part m).channel ≡ (part n).channel = grind (arith, nat_tests) in
      let onsets : (part m).onset ≡ (part n).onset = grind (arith, nat_tests) in
      let keys : (part m).key ≡ (part n).key = grind (arith, nat_tests) in
      let key : m.key ≡ n.key = sym (part_key m) ∙ keys ∙ part_key n in
      let onset : m.onset ≡ n.onset = sym (part_onset m) ∙ onsets ∙ part_onset n in
      absurd (not_alike m n (one_channel m n sm sn key channels) onset key before)
    where
      not_alike : (m n : Note) → m.channel ≡ n.channel → m.onset ≡ n.onset → m.key ≡ n.key → IsBefore m n → ⊥
      not_alike m n c o k h = grind (arith, nat_tests)

  distinct : (ns : List Note) → All Sounding ns → AreInOrder place_of_note ns → IsDistinct same_place (map part ns)
  unfolding IsDistinct
  distinct [] all order = tt
  distinct (n ∷ ns) all order = (
    every ns (all_tail Sounding n ns all) (pairs_head IsBefore n ns order),
    distinct ns (all_tail Sounding n ns all) (pairs_tail IsBefore n ns order),
  )
    where
      every : (ms : List Note) → All Sounding ms → All (IsBefore n) ms → AllByRecursion (λ y. same_place (part n) y ≡ false) (map part ms)
      every [] sm before = tt
      every (m ∷ ms) sm before = (
        stay_apart n m (all_head Sounding n ns all) (all_head Sounding m ms sm) (all_head (IsBefore n) m ms before)
            (same_place (part n) (part m)) refl,
        every ms (all_tail Sounding m ms sm) (all_tail (IsBefore n) m ms before),
      )

  pub parted_distinct : AreInOrder place_of_note notes → IsDistinct same_place (parted_notes key notes)
  parted_distinct order = distinct notes all_sound order

  part_played : (n : Note) → IsPlayed 1000000000 n → IsPlayed 1000000000 (part n)
  part_played n h = record {
    channel = below n h.channel;
    key = (let same = part_key n in omega (arith, h.key, same));
    after = (let onset = part_onset n in let end = part_end n in omega (arith, h.after, onset, end));
    within = (let end = part_end n in omega (arith, h.within, end));
  }
    where
      lower : (c : ℕ) → c < 16 → lower_channel Split Free c < 16
      lower c lt = elim (given Split Free c) [
        | inl g ↦ (let low = free_below g.place 0 g.few in omega (arith, low, g.to))
        | inr same ↦ omega (arith, same, lt)
      ]

      below : (n : Note) → n.channel < 16 → (part n).channel < 16
      below n lt = by (is_low key n)
        where
          by : (b : Bool) → (cond b (record n { channel = lower_channel Split Free n.channel }) n).channel < 16
          by true = lower n.channel lt
          by false = lt

-- ---- the order

pub same_order : (ns : List Note) → in_order ns ≡ in_place ns
same_order [] = refl
same_order (n ∷ ns) = ap (list_with place_of_note n) (same_order ns)

pub sorted_is : (xs ys : List Note) → IsDistinct same_place xs → IsPermutation xs ys → IsSortedByKey place_of_note (slice_cmp nat_cmp) ys
    → ys ≡ in_order xs
sorted_is xs ys once moved sorted =
    let placed = placed_permuted xs in
    one_order IsBefore not_both ys (in_place xs)
    (sorted_in_order ys (IsDistinct-IsPermutation same_place either_way xs ys moved once) sorted)
    (placed_in_order xs once)
    (λ n there. Contains-permutation xs (in_place xs) n placed (Contains-permutation ys xs n (IsPermutation-sym xs ys moved) there))
    (λ n there. Contains-permutation xs ys n moved (Contains-permutation (in_place xs) xs n (IsPermutation-sym xs (in_place xs) placed)
    there))
    ∙ sym (same_order xs)

pub order_permuted : (xs : List Note) → IsPermutation xs (in_order xs)
order_permuted xs = subst (IsPermutation xs) (sym (same_order xs)) (placed_permuted xs)

-- the order is one however the notes stand before
pub one_in_order : (xs ys : List Note) → IsDistinct same_place xs → IsPermutation xs ys → in_order ys ≡ in_order xs
one_in_order xs ys once moved =
    same_order ys
    ∙ one_order IsBefore not_both (in_place ys) (in_place xs)
    (placed_in_order ys (IsDistinct-IsPermutation same_place either_way xs ys moved once)) (placed_in_order xs once)
    (λ n there. Contains-permutation xs (in_place xs) n (placed_permuted xs)
    (Contains-permutation ys xs n (IsPermutation-sym xs ys moved)
    (Contains-permutation (in_place ys) ys n (IsPermutation-sym ys (in_place ys) (placed_permuted ys)) there)))
    (λ n there. Contains-permutation ys (in_place ys) n (placed_permuted ys)
    (Contains-permutation xs ys n moved (Contains-permutation (in_place xs) xs n (IsPermutation-sym xs (in_place xs) (placed_permuted xs))
    there)))
    ∙ sym (same_order xs)

-- ---- the take

module _ (key : ℕ) (t : Take) (formed : IsTakeFormed t) where
  abbrev Parted : List Note
  Parted = parted_notes key t.notes

  split_formed : IsTakeFormed (record t { notes = in_order Parted })
  split_formed =
      let moved = order_permuted Parted in
      let long = length_permutation Parted (in_order Parted) moved in
      let many = length-map t.notes (parted_note key (split_channels key t.notes) (free_channels t.notes)) in
      record {
        division_low = formed.division_low;
        division_high = formed.division_high;
        some_note = omega (arith, formed.some_note, long, many);
        few_notes = omega (arith, formed.few_notes, long, many);
        notes = All-permutation (IsPlayed 1000000000) Parted (in_order Parted) moved
            (all_mapped (IsPlayed 1000000000) (IsPlayed 1000000000) (parted_note key (split_channels key t.notes) (free_channels t.notes))
            (part_played key t.notes) t.notes formed.notes);
        notes_in_order = subst (AreInOrder place_of_note) (sym (same_order Parted))
            (placed_in_order Parted (parted_distinct key t.notes formed.notes_in_order));
        tempos = formed.tempos;
        tempos_in_order = formed.tempos_in_order;
        key_marks = formed.key_marks;
        key_marks_in_order = formed.key_marks_in_order;
        signatures_in_order = formed.signatures_in_order;
      }

split_ready : (latest key : ℕ) (t u : Take) → with_split key t ≡ Ok u → IsReady latest t → IsReady latest u
split_ready latest key t u is ready = by (ltb (length (free_channels t.notes)) (length (split_channels key t.notes))) is
  where
    by : (b : Bool) → cond b (Err (TooManyVoices (length (voice_channels t.notes) + length (split_channels key t.notes))))
        (Ok (record t { notes = in_order (parted_notes key t.notes) })) ≡ Ok u → IsReady latest u
    by true is = absurd (cc)
    by false is =
        let same : record t { notes = in_order (parted_notes key t.notes) } ≡ u = cc in
        subst (IsReady latest) same (record {
          formed = split_formed key t ready.formed;
          marks = record { tempos = ready.marks.tempos; key_marks = ready.marks.key_marks; signatures = ready.marks.signatures };
        })

pub split_kept : (latest key : ℕ) (t : Take) → IsReady latest t → IfOk (with_split key t) (IsReady latest)
split_kept latest key t ready = if_ok (IsReady latest) (with_split key t) (λ u is. split_ready latest key t u is ready)

-- ---- what the split comes to

less_test : (a b : ℕ) → a < b → ltb a b ≡ true
less_test a b lt = grind (arith, nat_tests)

more_test : (a b : ℕ) → b ≤ a → ltb a b ≡ false
more_test a b le = grind (arith, nat_tests)

pub split_fault : (key : ℕ) (t : Take) (n : ℕ) → length (free_channels t.notes) < length (split_channels key t.notes)
    → n ≡ length (voice_channels t.notes) + length (split_channels key t.notes)
    → with_split key t ≡ Err (TooManyVoices n)
split_fault key t n many count =
    by (ltb (length (free_channels t.notes)) (length (split_channels key t.notes)))
    (less_test (length (free_channels t.notes)) (length (split_channels key t.notes)) many)
  where
    by : (b : Bool) → b ≡ true
        → cond b (Err (TooManyVoices (length (voice_channels t.notes) + length (split_channels key t.notes))))
        (Ok (record t { notes = in_order (parted_notes key t.notes) })) ≡ Err (TooManyVoices n)
    by true e = ap (λ k. Err (TooManyVoices k)) (sym count)
    by false e = absurd (cc)

pub split_done : (key : ℕ) (t : Take) (notes : List Note) → length (split_channels key t.notes) ≤ length (free_channels t.notes)
    → notes ≡ in_order (parted_notes key t.notes)
    → with_split key t ≡ Ok (record t { notes = notes })
split_done key t notes few is =
    by (ltb (length (free_channels t.notes)) (length (split_channels key t.notes)))
    (more_test (length (free_channels t.notes)) (length (split_channels key t.notes)) few)
  where
    by : (b : Bool) → b ≡ false
        → cond b (Err (TooManyVoices (length (voice_channels t.notes) + length (split_channels key t.notes))))
        (Ok (record t { notes = in_order (parted_notes key t.notes) })) ≡ Ok (record t { notes = notes })
    by true e = absurd (cc)
    by false e = ap (λ ns. Ok (record t { notes = ns })) (sym is)
