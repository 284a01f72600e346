-- Gathering the lists of a round.
use Rattle.std.proofs.Common.{◌≡◌, ℕ, zero, suc, ◌<◌, ◌≤◌, List, [], ◌∷◌, ◌++◌, length, map, take, get_or, refl, ap, sym, ◌∙◌, subst, arith}
use Rattle.std.specs.Prelude.{AllPairs, Contains, Option, Some, None, filter, slice_get, if◌then◌else◌, Bool, true, false}
use Rattle.std.specs.List.{cons_option, filter_map, fold}
use Rattle.std.specs.Cmp.Lexicographic.{slice_cmp}
use Rattle.std.specs.Ordering.{nat_cmp}
use Rattle.std.specs.declared.cmp.Ordering.TheVariants.{Less}
use Rattle.std.proofs.lemmas.List.{append-nil, get_or-map, length-map, length-take, map-append, take-map}
use Rattle.barline_follow.specs.Barring.{Barring, Course, best_of, better, barring_end, is_below, course_end, course_value, barring_value}
use Rattle.barline_follow.specs.Gathered.{IsGathered, Round, barring_of}
use Rattle.barline_follow.specs.Least.{AreFewLeast, AreFirstLeast, IsFirstLeast}
use Rattle.barline_follow.specs.Rounds.{Found, IsNextFront, going, going_on, lost, whole, whole_one}
use Rattle.barline_follow.proofs.FirstLeast.{from_filtered, got_contained, later}
use Rattle.rhythm_base.proofs.ListParts.{filter_few}

-- ---- lists of what an element gives

module _ {X Y : Type 0} (f : X → Y) where
  contains_map : (xs : List X) (x : X) → Contains xs x → Contains (map f xs) (f x)
  contains_map xs x c =
      (c.0, subst (λ n. c.0 < n) (sym (length-map xs f)) c.1, get_or-map f xs c.0 x (f x) c.1 ∙ ap f c.2)

  pub contained_map : (xs : List X) (y : Y) → Contains (map f xs) y → (x : X) × Contains xs x × (f x ≡ y)
  contained_map [] y c = absurd (omega (arith, c.1))
  contained_map (x ∷ xs) y (zero, lt, is) = (x, (zero, omega arith, refl), is)
  contained_map (x ∷ xs) y (suc k, lt, is) =
      let rest = contained_map xs y (k, omega (arith, lt), is) in
      (rest.0, (suc rest.1.0, omega (arith, rest.1.1), rest.1.2), rest.2)

  got_map : (xs : List X) (i : ℕ) (x : X) → slice_get xs i ≡ Some x → slice_get (map f xs) i ≡ Some (f x)
  got_map [] i x h = absurd (cc)
  got_map (y ∷ xs) zero x h = let same : y ≡ x = cc in ap (λ z. Some (f z)) same
  got_map (y ∷ xs) (suc i) x h = got_map xs i x h

  got_mapped : (xs : List X) (i : ℕ) (y : Y) → slice_get (map f xs) i ≡ Some y → (x : X) × (slice_get xs i ≡ Some x) × (f x ≡ y)
  got_mapped [] i y h = absurd (cc)
  got_mapped (x ∷ xs) zero y h = (x, refl, cc)
  got_mapped (x ∷ xs) (suc i) y h = got_mapped xs i y h

  module _ (value tick : Y → ℕ) where
    abbrev Before : Y → Y → Type 0
    Before a b = slice_cmp nat_cmp (value a ∷ tick a ∷ []) (value b ∷ tick b ∷ []) ≡ Less

    pairs_map : (xs : List X) → AllPairs (λ a b. Before (f a) (f b)) xs → AllPairs Before (map f xs)
    pairs_map [] up i j d lt within = absurd (omega (arith, within))
    pairs_map (x ∷ xs) up i j d lt within =
        let long : length (map f (x ∷ xs)) ≡ length (x ∷ xs) = length-map (x ∷ xs) f in
        let one : get_or (map f (x ∷ xs)) i d ≡ f (get_or (x ∷ xs) i x) = get_or-map f (x ∷ xs) i x d (omega (arith, lt, within, long)) in
        let other : get_or (map f (x ∷ xs)) j d ≡ f (get_or (x ∷ xs) j x) = get_or-map f (x ∷ xs) j x d (omega (arith, within, long)) in
        subst (λ b. Before (get_or (map f (x ∷ xs)) i d) b) (sym other)
        (subst (λ a. Before a (f (get_or (x ∷ xs) j x))) (sym one) (up i j x lt (omega (arith, within, long))))

    -- what is kept of these, as what is kept of what they give
    pub kept_map : (xs kept : List X) → AreFirstLeast (λ x. value (f x)) (λ x. tick (f x)) xs kept
        → AreFirstLeast value tick (map f xs) (map f kept)
    kept_map xs kept h = record {
      in_order = pairs_map kept h.in_order;
      exactly = λ y. (
        λ c.
            let x = contained_map kept y c in
            let is = (h.exactly x.0).0 x.1 in
            subst (IsFirstLeast value tick (map f xs)) x.2 (record {
              place = is.place;
              there = got_map xs is.place x.0 is.there;
              first = λ i a lt got same. let b = got_mapped xs i a got in
                  subst (λ a. value (f x.0) < value a) b.2 (is.first i b.0 lt b.1 (ap tick b.2 ∙ same));
              least = λ a there same. let b = contained_map xs a there in
                  subst (λ a. value (f x.0) ≤ value a) b.2 (is.least b.0 b.1 (ap tick b.2 ∙ same));
            }),
        λ is.
            let x = got_mapped xs is.place y is.there in
            subst (Contains (map f kept)) x.2 (contains_map kept x.0 ((h.exactly x.0).1 (record {
              place = is.place;
              there = x.1;
              first = λ i a lt got same. subst (λ y. value y < value (f a)) (sym x.2) (is.first i (f a) lt (got_map xs i a got) (same ∙ ap tick x.2));
              least = λ a there same. subst (λ y. value y ≤ value (f a)) (sym x.2) (is.least (f a) (contains_map xs a there) (same ∙ ap tick x.2));
            }))),
      );
    }

  pub map_filter : (p : Y → Bool) (xs : List X) → map f (filter (λ x. p (f x)) xs) ≡ filter p (map f xs)
  map_filter p [] = refl
  map_filter p (x ∷ xs) = at (p (f x)) (map_filter p xs)
    where
      at : (b : Bool) → map f (filter (λ x. p (f x)) xs) ≡ filter p (map f xs)
          → map f (if b then x ∷ filter (λ x. p (f x)) xs else filter (λ x. p (f x)) xs) ≡ (if b then f x ∷ filter p (map f xs) else filter p (map f xs))
      at true rest = ap (λ l. f x ∷ l) rest
      at false rest = rest

pub all_pass : {X : Type 0} (xs : List X) → xs ≡ filter (λ x. true) xs
all_pass [] = refl
all_pass (x ∷ xs) = ap (λ l. x ∷ l) (all_pass xs)

pub none_above : (best : Option Barring) (xs : List Course) → ((b : Barring) → best ≡ Some b → ⊥) → xs ≡ filter (λ t. is_below best t.barring) xs
none_above None xs none = all_pass xs
none_above (Some b) xs none = absurd (none b refl)

module _ {X Y : Type 0} (h : X → Option Y) where
  given_more : (xs : List X) (x : X) → filter_map h (xs ++ (x ∷ [])) ≡ filter_map h xs ++ cons_option (h x) []
  given_more [] x = refl
  given_more (y ∷ xs) x = at (h y) (given_more xs x)
    where
      at : (o : Option Y) → filter_map h (xs ++ (x ∷ [])) ≡ filter_map h xs ++ cons_option (h x) []
          → cons_option o (filter_map h (xs ++ (x ∷ []))) ≡ cons_option o (filter_map h xs) ++ cons_option (h x) []
      at None rest = rest
      at (Some z) rest = ap (λ l. z ∷ l) rest

  pub given_none : (xs : List X) (x : X) → h x ≡ None → filter_map h (xs ++ (x ∷ [])) ≡ filter_map h xs
  given_none xs x is = given_more xs x ∙ ap (λ o. filter_map h xs ++ cons_option o []) is ∙ append-nil (filter_map h xs)

  pub given_some : (xs : List X) (x : X) (y : Y) → h x ≡ Some y → filter_map h (xs ++ (x ∷ [])) ≡ filter_map h xs ++ (y ∷ [])
  given_some xs x y is = given_more xs x ∙ ap (λ o. filter_map h xs ++ cons_option o []) is

-- ---- one more

module _ (best : Option Barring) (found : List Found) (courses : List Course) (r : Round) (h : IsGathered best found courses r) where
  pub lost_more : IsGathered best (found ++ (lost ∷ [])) (courses ++ []) r
  lost_more = record {
    best_is = h.best_is ∙ ap (best_of best) (sym (given_none whole_one found lost refl));
    are = ap (map barring_of) (append-nil courses) ∙ h.are ∙ sym (given_none going_on found lost refl);
    kept = subst (λ (l : List Course). AreFewLeast course_value course_end 24 l r.kept) (sym (append-nil courses)) h.kept;
  }

  pub going_more : (course : Course) (kept : List Course) → AreFewLeast course_value course_end 24 (courses ++ (course ∷ [])) kept
      → IsGathered best (found ++ (going course.barring ∷ [])) (courses ++ (course ∷ [])) (record { kept = kept; best = r.best })
  going_more course kept are = record {
    best_is = h.best_is ∙ ap (best_of best) (sym (given_none whole_one found (going course.barring) refl));
    are = map-append barring_of courses (course ∷ []) ∙ ap (λ l. l ++ (course.barring ∷ [])) h.are
        ∙ sym (given_some going_on found (going course.barring) course.barring refl);
    kept = are;
  }

  folded : (xs : List Barring) (b : Barring) (o : Option Barring) → fold better o (xs ++ (b ∷ [])) ≡ better (fold better o xs) b
  folded [] b o = refl
  folded (x ∷ xs) b o = folded xs b (better o x)

  pub whole_more : (barring : Barring) → IsGathered best (found ++ (whole barring ∷ [])) (courses ++ []) (record { kept = r.kept; best = better r.best barring })
  whole_more barring = record {
    best_is = ap (λ o. better o barring) h.best_is ∙ sym (folded (filter_map whole_one found) barring best)
        ∙ ap (best_of best) (sym (given_some whole_one found (whole barring) barring refl));
    are = ap (map barring_of) (append-nil courses) ∙ h.are ∙ sym (given_none going_on found (whole barring) refl);
    kept = subst (λ (l : List Course). AreFewLeast course_value course_end 24 l r.kept) (sym (append-nil courses)) h.kept;
  }

-- what is kept, without what is not below the best
pub next_front : (best : Option Barring) (found : List Found) (courses : List Course) (r : Round) (front : List Course) → IsGathered best found courses r
    → front ≡ filter (λ t. is_below r.best t.barring) r.kept → IsNextFront r.best (filter_map going_on found) (map barring_of front)
next_front best found courses r front h is =
    let all : List Course = h.kept.0 in (
      map barring_of all,
      subst (λ l. AreFirstLeast barring_value barring_end l (map barring_of all)) h.are (kept_map barring_of barring_value barring_end courses all h.kept.1),
      ap (map barring_of) (is ∙ ap (filter (λ (t : Course). is_below r.best t.barring)) h.kept.2)
          ∙ map_filter barring_of (is_below r.best) (take 24 all) ∙ ap (filter (is_below r.best)) (sym (take-map barring_of 24 all)),
    )

pub taken : {X : Type 0} (n : ℕ) (xs : List X) (x : X) → Contains (take n xs) x → Contains xs x
taken zero xs x c = absurd (omega (arith, c.1))
taken (suc n) [] x c = c
taken (suc n) (y ∷ xs) x (zero, lt, is) = (zero, omega arith, is)
taken (suc n) (y ∷ xs) x (suc k, lt, is) = later y x xs (taken n xs x (k, omega (arith, lt), is))

-- they are lists that go on, and no more than 24
pub among : (best : Option Barring) (found : List Found) (courses : List Course) (r : Round) (front : List Course) → IsGathered best found courses r
    → front ≡ filter (λ t. is_below r.best t.barring) r.kept → (course : Course) → Contains front course → Contains courses course
among best found courses r front h is course c =
    let there : Contains r.kept course = from_filtered (λ t. is_below r.best t.barring) r.kept course (subst (λ (l : List Course). Contains l course) is c) in
    let first = (h.kept.1.exactly course).0 (taken 24 h.kept.0 course (subst (λ (l : List Course). Contains l course) h.kept.2 there)) in
    got_contained courses first.place course first.there

pub few_kept : (best : Option Barring) (found : List Found) (courses : List Course) (r : Round) (front : List Course) → IsGathered best found courses r
    → front ≡ filter (λ t. is_below r.best t.barring) r.kept → length front ≤ 24
few_kept best found courses r front h is =
    let short = filter_few (λ (t : Course). is_below r.best t.barring) r.kept in
    let few = length-take 24 h.kept.0 in
    omega (arith, ap length is, short, ap length h.kept.2, few)
