-- Numbered things, each number once, and their places.
use Rattle.std.proofs.Common.{◌≡◌, ◌≢◌, ℕ, zero, suc, ◌+◌, ◌≤◌, ◌<◌, ◌==◌, Bool, true, false, List, [], ◌∷◌, ◌++◌, length, map, set, refl, sym, ap, ◌∙◌, subst, arith, append_assoc}
use Rattle.std.specs.Prelude.{slice_get, Option, Some, None}
use Rattle.std.proofs.lemmas.Bool.Decides.{nat_tests}
use Rattle.std.proofs.lemmas.List.{map-append}
use Rattle.std.proofs.lemmas.Option.{slice_get_within}
use Rattle.bar_pool.specs.Draws.{HasEachBelow, occurrences}
use Rattle.bar_pool.specs.Places.{AreFilled, StandAt, StandIn}
use Rattle.bar_pool.specs.Workers.{numbers}
use Rattle.bar_pool.proofs.Counting.{below_one, self_once, times-append, times-cons}

set_here : {A : Type 0} (xs : List A) (i : ℕ) (a : A) → i < length xs → slice_get (set xs i a) i ≡ Some a
set_here [] i a h = absurd (omega arith)
set_here (x ∷ xs) zero a h = refl
set_here (x ∷ xs) (suc i) a h = set_here xs i a (omega arith)

set_else : {A : Type 0} (xs : List A) (i j : ℕ) (a : A) → j ≢ i → slice_get (set xs i a) j ≡ slice_get xs j
set_else [] i j a n = refl
set_else (x ∷ xs) zero zero a n = absurd (n refl)
set_else (x ∷ xs) zero (suc j) a n = refl
set_else (x ∷ xs) (suc i) zero a n = refl
set_else (x ∷ xs) (suc i) (suc j) a n = set_else xs i j a (λ e. n (ap suc e))

last_at : {A : Type 0} (xs : List A) (a : A) (ys : List A) → slice_get ((xs ++ a ∷ []) ++ ys) (length xs) ≡ Some a
last_at [] a ys = refl
last_at (x ∷ xs) a ys = last_at xs a ys

module _ {T : Type 0} where
  times-numbers : (x : ℕ) (xs ys : List (ℕ × T)) → occurrences x (numbers (xs ++ ys)) ≡ occurrences x (numbers xs) + occurrences x (numbers ys)
  times-numbers x xs ys = ap (occurrences x) (map-append (λ p. p.0) xs ys) ∙ times-append x (numbers xs) (numbers ys)

  times-at : (xs : List (ℕ × T)) (k : ℕ) (p : ℕ × T) → slice_get xs k ≡ Some p → 1 ≤ occurrences p.0 (numbers xs)
  times-at [] k p e = absurd (cc)
  times-at (y ∷ xs) zero p e =
      let same : y ≡ p = cc in
      let P : ℕ × T → Type 0 = λ q. 1 ≤ occurrences q.0 (numbers (y ∷ xs)) in
      subst P same (omega (arith, self_once y.0 (occurrences y.0 (numbers xs)), times-cons y.0 y.0 (numbers xs)))
  times-at (y ∷ xs) (suc k) p e = omega (arith, times-at xs k p e, times-cons p.0 y.0 (numbers xs))

  -- a number that stands there stands somewhere
  pub place_of : (xs : List (ℕ × T)) (x : ℕ) → 1 ≤ occurrences x (numbers xs) → (k : ℕ) × (p : ℕ × T) × (slice_get xs k ≡ Some p) × (p.0 ≡ x)
  place_of [] x h = absurd (omega (arith))
  place_of (y ∷ xs) x h = go (y.0 == x) refl (λ less. place_of xs x less)
    where
      go : (b : Bool) → y.0 == x ≡ b → (1 ≤ occurrences x (numbers xs) → (k : ℕ) × (p : ℕ × T) × (slice_get xs k ≡ Some p) × (p.0 ≡ x))
          → (k : ℕ) × (p : ℕ × T) × (slice_get (y ∷ xs) k ≡ Some p) × (p.0 ≡ x)
      go true e later = (0, y, refl, grind (arith, nat_tests))
      go false e later =
          let count = times-cons x y.0 (numbers xs) in
          let less : 1 ≤ occurrences x (numbers xs) = grind (arith, nat_tests) in
          let r = later less in
          (suc r.0, r.1, r.2, r.3)

  -- one more thing in its place
  pub StandAt-set : (before done : List (ℕ × T)) (n : ℕ) (t : T) (places : List (Option T))
      → ((x : ℕ) → occurrences x (numbers ((before ++ (n, t) ∷ []) ++ done)) ≤ 1) → StandAt done places → n < length places
      → StandAt ((n, t) ∷ done) (set places n (Some t))
  StandAt-set before done n t places once h within zero p e =
      let same : (n, t) ≡ p = cc in
      let P : ℕ × T → Type 0 = λ q. slice_get (set places n (Some t)) q.0 ≡ Some (Some q.1) in
      subst P same (set_here places n (Some t) within)
  StandAt-set before done n t places once h within (suc k) p e =
      let apart : p.0 ≢ n = λ same.
      let there = times-at done k p e in
      let P : ℕ → Type 0 = λ m. 1 ≤ occurrences m (numbers done) in
      let there' = subst P same there in
      absurd (omega (arith, there', self_once n 0, once n, times-cons n n [], times-numbers n (before ++ (n, t) ∷ []) done, times-numbers n before ((n, t) ∷ []))) in
      set_else places n p.0 (Some t) apart ∙ h k p e

  pub last-within : (xs : List (ℕ × T)) (n : ℕ) (t : T) (ys : List (ℕ × T)) → 1 ≤ occurrences n (numbers ((xs ++ (n, t) ∷ []) ++ ys))
  last-within xs n t ys = omega (arith, self_once n 0, times-cons n n [], times-numbers n (xs ++ (n, t) ∷ []) ys, times-numbers n xs ((n, t) ∷ []))

  pub AreFilled-from : (pairs : List (ℕ × T)) (places : List (Option T)) (count : ℕ) → HasEachBelow count (numbers pairs) → length places ≡ count → StandAt pairs places → AreFilled places
  AreFilled-from pairs places count once size h k e =
      let low = slice_get_within places k None e in
      let one = below_one k count (omega (arith, low)) in
      let at = place_of pairs k (omega (arith, once k)) in
      let P : ℕ → Type 0 = λ m. slice_get places m ≡ Some (Some at.1.1) in
      let full = subst P at.3 (h at.0 at.1 at.2) in
      cc

  unmapped : (things : List T) (k : ℕ) (t : T) → slice_get (map (λ x. Some x) things) k ≡ Some (Some t) → slice_get things k ≡ Some t
  unmapped [] k t e = absurd (cc)
  unmapped (x ∷ xs) zero t e = cc
  unmapped (x ∷ xs) (suc k) t e = unmapped xs k t e

  pub StandIn-from : (pairs : List (ℕ × T)) (places : List (Option T)) (things : List T) → map (λ x. Some x) things ≡ places → StandAt pairs places → StandIn pairs things
  StandIn-from pairs places things same h k p e = unmapped things p.0 p.1 (ap (λ l. slice_get l p.0) same ∙ h k p e)

  pub no_hole : (first rest : List (Option T)) → AreFilled ((first ++ None ∷ []) ++ rest) → ⊥
  no_hole first rest h = h (length first) (last_at first None rest)

  -- where the last of what is left came from
  pub whole : (orig old new done : List (ℕ × T)) (n : ℕ) (t : T) → orig ≡ old ++ done → old ≡ new ++ (n, t) ∷ [] → orig ≡ (new ++ (n, t) ∷ []) ++ done
  whole orig old new done n t e f = e ∙ ap (λ l. l ++ done) f

  pub present : (orig old new done : List (ℕ × T)) (n : ℕ) (t : T) → orig ≡ old ++ done → old ≡ new ++ (n, t) ∷ [] → 1 ≤ occurrences n (numbers orig)
  present orig old new done n t e f =
      let P : List (ℕ × T) → Type 0 = λ l. 1 ≤ occurrences n (numbers l) in
      subst P (sym (whole orig old new done n t e f)) (last-within new n t done)

  -- one thing more is done
  pub filled : (orig old new done : List (ℕ × T)) (n : ℕ) (t : T) (places : List (Option T)) → orig ≡ old ++ done → old ≡ new ++ (n, t) ∷ []
      → ((x : ℕ) → occurrences x (numbers orig) ≤ 1) → StandAt done places → n < length places
      → (next : List (ℕ × T)) × (orig ≡ new ++ next) × StandAt next (set places n (Some t))
  filled orig old new done n t places e f once h within =
      let all = whole orig old new done n t e f in
      let P : List (ℕ × T) → Type 0 = λ l. (x : ℕ) → occurrences x (numbers l) ≤ 1 in
      ((n, t) ∷ done, all ∙ append_assoc new ((n, t) ∷ []) done, StandAt-set new done n t places (subst P all once) h within)
