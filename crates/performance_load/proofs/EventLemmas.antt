-- What holds of the events of the tracks holds of the merged events, and the changes among them stand in their order.
use Rattle.std.proofs.Common.{◌≡◌, ℕ, zero, suc, ◌<◌, ◌≤◌, Bool, true, false, ◌==◌, List, [], ◌∷◌, length, map, get_or, subst, refl, sym, arith, Option, Some, None, if◌then◌else◌, cond}
use Rattle.std.specs.Prelude.{All, Contains, filter, fold, max, ⊤}
use Rattle.std.specs.List.{cons_option, filter_map, flat_map}
use Rattle.std.specs.List.Sorted.{IsNonDecreasing}
use Rattle.std.proofs.lemmas.Bool.Decides.{nat_tests}
use Rattle.std.proofs.lemmas.List.{get_or-map, length-map}
use Rattle.std.proofs.lemmas.List.Elements.{All-append, All-cons, All-filter, All-nil}
use Rattle.rhythm_base.specs.declared.event.Event.{Event}
use Rattle.rhythm_base.specs.Events.{IsMerged, at_tick}
use Rattle.rhythm_base.proofs.FirstLists.{all_contained}
use Rattle.rhythm_base.specs.Lists.{greatest}
use Rattle.smf_reader.specs.Played.{Track}

-- ---- merged events

-- an element that passes is among those that pass
passes : {X : Type 0} (p : X → Bool) (xs : List X) (k : ℕ) (d : X) → k < length xs → p (get_or xs k d) ≡ true → Contains (filter p xs) (get_or xs k d)
passes p [] k d lt is = absurd (omega (arith, lt))
passes p (x ∷ xs) zero d lt is = by (p x) is
  where
    by : (b : Bool) → b ≡ true → Contains (if b then x ∷ filter p xs else filter p xs) x
    by true is = (0, omega arith, refl)
    by false is = absurd (cc)
passes p (x ∷ xs) (suc k) d lt is = by (p x) (passes p xs k d (omega (arith, lt)) is)
  where
    by : (b : Bool) → Contains (filter p xs) (get_or xs k d) → Contains (if b then x ∷ filter p xs else filter p xs) (get_or xs k d)
    by true (n, within, at) = (suc n, omega (arith, within), at)
    by false h = h

same_tick : (n : ℕ) → (n == n) ≡ true
same_tick n = grind (arith, nat_tests)

-- what holds of all events of the tracks holds of all merged events
pub all_merged : (P : Event → Type 0) (tracks : List (List Event)) (merged : List Event) → IsMerged tracks merged → All P (flat_map (λ t. t) tracks) → All P merged
all_merged P tracks merged h all k d lt =
    let e : Event = get_or merged k d in
    let among = passes (λ x. x.tick == e.tick) merged k d lt (same_tick e.tick) in
    let moved : Contains (at_tick e.tick (flat_map (λ t. t) tracks)) e = subst (λ l. Contains l e) (h.same e.tick) among in
    all_contained P (at_tick e.tick (flat_map (λ t. t) tracks)) e (All-filter (λ x. x.tick == e.tick) P (flat_map (λ t. t) tracks) all) moved

pub all_tracks : (P : Event → Type 0) (tracks : List Track) → All (λ t. All P t.events) tracks → All P (flat_map (λ t. t) (map (λ t. t.events) tracks))
all_tracks P [] all = All-nil P
all_tracks P (t ∷ tracks) all =
    All-append P t.events (flat_map (λ t. t) (map (λ t. t.events) tracks)) (all 0 t (omega arith)) (all_tracks P tracks (λ k d lt. all (suc k) d (omega (arith, lt))))

-- ---- the greatest number

fold_above : (n : ℕ) (ms : List ℕ) → n ≤ fold (λ a b. max a b) n ms
fold_above n [] = omega arith
fold_above n (m ∷ ms) = let rest = fold_above (max n m) ms in omega (arith, rest)

all_below : (n : ℕ) (ms : List ℕ) → All (λ m. m ≤ fold (λ a b. max a b) n ms) ms
all_below n [] k d lt = absurd (omega (arith, lt))
all_below n (m ∷ ms) zero d lt = let rest = fold_above (max n m) ms in omega (arith, rest)
all_below n (m ∷ ms) (suc k) d lt = all_below (max n m) ms k d (omega (arith, lt))

-- each is at most the greatest
pub below_greatest : {X : Type 0} (f : X → ℕ) (xs : List X) → All (λ x. f x ≤ greatest (map f xs)) xs
below_greatest f xs k d lt =
    let size = length-map xs f in
    subst (λ n. n ≤ greatest (map f xs)) (get_or-map f xs k d 0 lt) (all_below 0 (map f xs) k 0 (omega (arith, lt, size)))

fold_low : (n high : ℕ) (ms : List ℕ) → n ≤ high → All (λ m. m ≤ high) ms → fold (λ a b. max a b) n ms ≤ high
fold_low n high [] le all = le
fold_low n high (m ∷ ms) le all = fold_low (max n m) high ms (omega (arith, le, all 0 0 (omega arith))) (λ k d lt. all (suc k) d (omega (arith, lt)))

-- and the greatest is no more than what none is above
pub greatest_low : {X : Type 0} (f : X → ℕ) (xs : List X) (high : ℕ) → All (λ x. f x ≤ high) xs → greatest (map f xs) ≤ high
greatest_low {X} f xs high all = fold_low 0 high (map f xs) (omega arith) (mapped xs all)
  where
    mapped : (xs : List X) → All (λ x. f x ≤ high) xs → All (λ m. m ≤ high) (map f xs)
    mapped [] all k d lt = absurd (omega (arith, lt))
    mapped (x ∷ xs) all zero d lt = all 0 x (omega arith)
    mapped (x ∷ xs) all (suc k) d lt = mapped xs (λ k d lt. all (suc k) d (omega (arith, lt))) k d (omega (arith, lt))

-- ---- changes in order

abbrev pub Up : ℕ → List ℕ → Type 0
Up low [] = ⊤
Up low (x ∷ xs) = (low ≤ x) × Up x xs

pub up_from : (low : ℕ) (xs : List ℕ) → All (λ x. low ≤ x) xs → IsNonDecreasing xs → Up low xs
up_from low [] above h = tt
up_from low (x ∷ xs) above h =
    (above 0 0 (omega arith), up_from x xs (λ k d lt. h 0 (suc k) d (omega arith) (omega (arith, lt))) (λ i j d le lt. h (suc i) (suc j) d (omega (arith, le)) (omega (arith, lt))))

pub up_lower : (low high : ℕ) (xs : List ℕ) → low ≤ high → Up high xs → Up low xs
up_lower low high [] le h = tt
up_lower low high (x ∷ xs) le h = (omega (arith, le, h.0), h.1)

up_all : (low : ℕ) (xs : List ℕ) → Up low xs → All (λ x. low ≤ x) xs
up_all low [] h k d lt = absurd (omega (arith, lt))
up_all low (x ∷ xs) h zero d lt = h.0
up_all low (x ∷ xs) h (suc k) d lt = let later = up_all x xs h.1 k d (omega (arith, lt)) in omega (arith, h.0, later)

pub up_to : (low : ℕ) (xs : List ℕ) → Up low xs → IsNonDecreasing xs
up_to low [] h i j d le lt = absurd (omega (arith, lt))
up_to low (x ∷ xs) h zero zero d le lt = omega arith
up_to low (x ∷ xs) h zero (suc j) d le lt = up_all x xs h.1 j d (omega (arith, lt))
up_to low (x ∷ xs) h (suc i) zero d le lt = absurd (omega (arith, le))
up_to low (x ∷ xs) h (suc i) (suc j) d le lt = up_to x xs h.1 i j d (omega (arith, le)) (omega (arith, lt))

module _ {Y : Type 0} (h : Event → Option Y) (tick : Y → ℕ) (keeps : (e : Event) (y : Y) → h e ≡ Some y → tick y ≡ e.tick) where
  chosen_up : (low : ℕ) (es : List Event) → Up low (map (λ e. e.tick) es) → Up low (map tick (filter_map h es))
  chosen_up low [] up = tt
  chosen_up low (e ∷ es) up = by (h e) refl (chosen_up e.tick es up.1)
    where
      by : (o : Option Y) → h e ≡ o → Up e.tick (map tick (filter_map h es)) → Up low (map tick (cons_option o (filter_map h es)))
      by None is rest = up_lower low e.tick (map tick (filter_map h es)) up.0 rest
      by (Some y) is rest =
          let same : tick y ≡ e.tick = keeps e y is in
          (subst (λ t. low ≤ t) (sym same) up.0, subst (λ t. Up t (map tick (filter_map h es))) (sym same) rest)

  -- what is chosen of events in order, each at its event's tick, is in order
  pub chosen_in_order : (es : List Event) → IsNonDecreasing (map (λ e. e.tick) es) → IsNonDecreasing (map tick (filter_map h es))
  chosen_in_order es order = up_to 0 (map tick (filter_map h es)) (chosen_up 0 es (up_from 0 (map (λ e. e.tick) es) (λ k d lt. omega arith) order))

-- what holds of what each event gives holds of all that is chosen
pub chosen_all : {Y : Type 0} (h : Event → Option Y) (P : Event → Type 0) (Q : Y → Type 0) → ((e : Event) (y : Y) → P e → h e ≡ Some y → Q y) → (es : List Event) → All P es → All Q (filter_map h es)
chosen_all h P Q gives [] all = All-nil Q
chosen_all {Y} h P Q gives (e ∷ es) all = by (h e) refl (chosen_all h P Q gives es (λ k d lt. all (suc k) d (omega (arith, lt))))
  where
    by : (o : Option Y) → h e ≡ o → All Q (filter_map h es) → All Q (cons_option o (filter_map h es))
    by None is rest = rest
    by (Some y) is rest = All-cons Q y (filter_map h es) (gives e y (all 0 e (omega arith)) is) rest

-- events that go up still do where some are left out
pub filter_up : (p : Event → Bool) (low : ℕ) (es : List Event) → Up low (map (λ e. e.tick) es) → Up low (map (λ e. e.tick) (filter p es))
filter_up p low [] up = tt
filter_up p low (e ∷ es) up = go (p e) (filter_up p e.tick es up.1)
  where
    go : (b : Bool) → Up e.tick (map (λ x. x.tick) (filter p es)) → Up low (map (λ x. x.tick) (cond b (e ∷ filter p es) (filter p es)))
    go true rest = (up.0, rest)
    go false rest = up_lower low e.tick (map (λ x. x.tick) (filter p es)) up.0 rest

pub filter_order : (p : Event → Bool) (es : List Event) → IsNonDecreasing (map (λ e. e.tick) es) → IsNonDecreasing (map (λ e. e.tick) (filter p es))
filter_order p es order = up_to 0 (map (λ e. e.tick) (filter p es)) (filter_up p 0 es (up_from 0 (map (λ e. e.tick) es) (λ k d lt. omega arith) order))
