-- The chords that pass a test, where they stand side by side.
use Rattle.std.proofs.Common.{◌≡◌, ℕ, zero, suc, ◌<◌, ◌≤◌, ◌+◌, ◌*◌, Bool, true, false, List, [], ◌∷◌, length, map, filter, take, drop, get_or, cond, refl, ap, ◌∙◌, arith}
use Rattle.std.specs.Prelude.{if◌then◌else◌, sum_by}
use Rattle.std.proofs.lemmas.List.{get_or-drop}
use Rattle.std.proofs.lemmas.List.Sums.{sum_by-cons}
use Rattle.rhythm_base.specs.declared.inner.Inner.{Inner}
use Rattle.rhythm_base.specs.BarInput.{BarInput}
use Rattle.rhythm_base.specs.Lists.{last_end}
use Rattle.bar_view.specs.Units.{end_of_earlier}

pub filter-none : (t : Inner → Bool) (xs : List Inner) → ((i : ℕ) (d : Inner) → i < length xs → t (get_or xs i d) ≡ false) → filter t xs ≡ []
filter-none t [] h = refl
filter-none t (x ∷ xs) h = rw (h 0 x (omega arith)) (filter-none t xs (λ i d k. h (suc i) d (omega arith)))

-- those from a on, n of them, pass, and no others
pub filter-range : (t : Inner → Bool) (xs : List Inner) (a n : ℕ) → a + n ≤ length xs
    → ((i : ℕ) (d : Inner) → i < a → t (get_or xs i d) ≡ false)
    → ((i : ℕ) (d : Inner) → a ≤ i → i < a + n → t (get_or xs i d) ≡ true)
    → ((i : ℕ) (d : Inner) → a + n ≤ i → i < length xs → t (get_or xs i d) ≡ false)
    → filter t xs ≡ take n (drop a xs)
filter-range t [] zero zero within low middle high = refl
filter-range t [] zero (suc n) within low middle high = absurd (omega arith)
filter-range t [] (suc a) n within low middle high = absurd (omega arith)
filter-range t (x ∷ xs) zero zero within low middle high = filter-none t (x ∷ xs) (λ i d k. high i d (omega arith) k)
filter-range t (x ∷ xs) zero (suc n) within low middle high =
    let on : t x ≡ true = middle 0 x (omega arith) (omega arith) in
    ap (λ b. cond b (x ∷ filter t xs) (filter t xs)) on
    ∙ ap (λ l. x ∷ l) (filter-range t xs zero n (omega (arith, within)) (λ i d k. absurd (omega arith)) (λ i d k l. middle (suc i) d (omega arith) (omega arith)) (λ i d k l. high (suc i) d (omega arith) (omega arith)))
filter-range t (x ∷ xs) (suc a) n within low middle high =
    let off : t x ≡ false = low 0 x (omega arith) in
    ap (λ b. cond b (x ∷ filter t xs) (filter t xs)) off
    ∙ filter-range t xs a n (omega (arith, within)) (λ i d k. low (suc i) d (omega arith)) (λ i d k l. middle (suc i) d (omega arith) (omega arith)) (λ i d k l. high (suc i) d (omega arith) (omega arith))

last-taken : (e : ℕ) (xs : List Inner) (m : ℕ) (d : Inner) → m < length xs → last_end e (map (λ c. c.end) (take (suc m) xs)) ≡ (get_or xs m d).end
last-taken e [] m d h = absurd (omega arith)
last-taken e (x ∷ xs) zero d h = refl
last-taken e (x ∷ xs) (suc m) d h = last-taken x.end xs m d (omega arith)

-- the last of the ends of n chords from the chord a on, or else of the one before them
pub ends-taken : (k : BarInput) (a n : ℕ) (d : Inner) → a + n ≤ length k.chords → last_end (end_of_earlier k a d) (map (λ c. c.end) (take n (drop a k.chords))) ≡ end_of_earlier k (a + n) d
ends-taken k a zero d within = let none : a ≡ a + 0 = omega arith in ap (λ n. end_of_earlier k n d) none
ends-taken k a (suc m) d within =
    let next : suc (a + m) ≡ a + suc m = omega arith in
    let long = length-dropped a k.chords in
    last-taken (end_of_earlier k a d) (drop a k.chords) m d (omega (arith, long, within))
    ∙ ap (λ (c : Inner). c.end) (get_or-drop a k.chords m d) ∙ ap (λ n. end_of_earlier k n d) next
  where
    length-dropped : (a : ℕ) (xs : List Inner) → length xs ≤ length (drop a xs) + a
    length-dropped zero xs = omega arith
    length-dropped (suc a) [] = omega arith
    length-dropped (suc a) (x ∷ xs) = let ih = length-dropped a xs in omega (arith, ih)

-- a sum of what is either of two things
pub sum-split : (f g h : Inner → ℕ) (s t : Inner → Bool) → ((c : Inner) → f c ≡ (if s c then g c else 0) + (if t c then h c else 0))
    → (xs : List Inner) → sum_by f xs ≡ sum_by g (filter s xs) + sum_by h (filter t xs)
sum-split f g h s t each [] = refl
sum-split f g h s t each (x ∷ xs) =
    let ih = sum-split f g h s t each xs in
    let all = sum_by-cons f x xs in
    let own = each x in
    let one = cut g s x xs in
    let two = cut h t x xs in
    omega (arith, ih, all, own, one, two)
  where
    cut : (g : Inner → ℕ) (s : Inner → Bool) (x : Inner) (xs : List Inner) → sum_by g (filter s (x ∷ xs)) ≡ (if s x then g x else 0) + sum_by g (filter s xs)
    cut g s x xs = go (s x)
      where
        go : (b : Bool) → sum_by g (cond b (x ∷ filter s xs) (filter s xs)) ≡ (if b then g x else 0) + sum_by g (filter s xs)
        go true = sum_by-cons g x (filter s xs)
        go false = omega arith

pub sum-times : (a : ℕ) (f : Inner → ℕ) (xs : List Inner) → sum_by (λ c. a * f c) xs ≡ a * sum_by f xs
sum-times a f [] = go a
  where
    go : (a : ℕ) → 0 ≡ a * 0
    go a = omega arith
sum-times a f (x ∷ xs) =
    let ih = sum-times a f xs in
    let left = sum_by-cons (λ c. a * f c) x xs in
    let right = ap (λ n. a * n) (sum_by-cons f x xs) in
    let sum = spread (f x) (sum_by f xs) in
    omega (arith, ih, left, right, sum)
  where
    spread : (m n : ℕ) → a * (m + n) ≡ a * m + a * n
    spread m n = grind arith
