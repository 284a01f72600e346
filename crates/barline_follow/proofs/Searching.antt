-- The lists of a round, one after another, and the rounds.
use Rattle.std.proofs.Common.{◌≡◌, ℕ, zero, suc, ◌+◌, ◌<◌, ◌≤◌, List, [], ◌∷◌, ◌++◌, drop, length, map, take, get_or, refl, ap, ap₂, sym, ◌∙◌, subst, arith}
use Rattle.std.specs.Prelude.{Option, min}
use Rattle.std.specs.List.{zip}
use Rattle.std.proofs.lemmas.List.{append_assoc, length-map, length-take-le, map-append, take_more}
use Rattle.rhythm_base.specs.Grammar.{Grammar}
use Rattle.rhythm_base.specs.Lists.{Each}
use Rattle.rhythm_base.specs.Performance.{Performance}
use Rattle.barline_follow.specs.Barring.{Barring}
use Rattle.barline_follow.specs.Rounds.{ComeTo, IsRound}

module _ {X Y : Type 0} (R : X → Y → Type 0) where
  pub each_append : (xs us : List X) (ys vs : List Y) → Each R xs ys → Each R us vs → Each R (xs ++ us) (ys ++ vs)
  each_append [] us [] vs h k = k
  each_append [] us (y ∷ ys) vs h k = absurd (cc)
  each_append (x ∷ xs) us [] vs h k = absurd h
  each_append (x ∷ xs) us (y ∷ ys) vs h k = (h.0, each_append xs us ys vs h.1 k)

  pub each_push : (xs : List X) (ys : List Y) (x : X) (y : Y) → Each R xs ys → R x y → Each R (xs ++ (x ∷ [])) (ys ++ (y ∷ []))
  each_push xs ys x y h r = each_append xs (x ∷ []) ys (y ∷ []) h (r, refl)

  -- one more of a list that is gone through
  pub each_more : (xs : List X) (ys : List Y) (i : ℕ) (d : X) (y : Y) → i < length xs → Each R (take i xs) ys → R (get_or xs i d) y
      → Each R (take (i + 1) xs) (ys ++ (y ∷ []))
  each_more xs ys i d y lt h r = subst (λ l. Each R l (ys ++ (y ∷ []))) (sym (take_more xs i d lt)) (each_push (take i xs) ys (get_or xs i d) y h r)

  pub each_long : (xs : List X) (ys : List Y) → Each R xs ys → length xs ≡ length ys
  each_long [] [] h = refl
  each_long [] (y ∷ ys) h = absurd (cc)
  each_long (x ∷ xs) [] h = absurd h
  each_long (x ∷ xs) (y ∷ ys) h = ap suc (each_long xs ys h.1)

module _ {X Y : Type 0} (f : X → Y) where
  pub map_more : (xs : List X) (i : ℕ) (d : X) → i < length xs → map f (take (i + 1) xs) ≡ map f (take i xs) ++ (f (get_or xs i d) ∷ [])
  map_more xs i d lt = ap (map f) (take_more xs i d lt) ∙ map-append f (take i xs) (get_or xs i d ∷ [])

  pub map_long : (xs : List X) (i : ℕ) → i ≤ length xs → length (map f (take i xs)) ≡ i
  map_long xs i le = length-map (take i xs) f ∙ length-take-le i xs le

pub zip_push : {X Y : Type 0} (xs : List X) (ys : List Y) (x : X) (y : Y) → length xs ≡ length ys
    → zip (xs ++ (x ∷ [])) (ys ++ (y ∷ [])) ≡ zip xs ys ++ ((x, y) ∷ [])
zip_push [] [] x y long = refl
zip_push [] (b ∷ ys) x y long = absurd (omega (arith, long))
zip_push (a ∷ xs) [] x y long = absurd (omega (arith, long))
zip_push (a ∷ xs) (b ∷ ys) x y long = ap (λ l. (a, b) ∷ l) (zip_push xs ys x y (omega (arith, long)))

-- a list up to a place, what is there, and what comes after it
pub in_parts : {X : Type 0} (xs : List X) (i : ℕ) (d : X) → i < length xs → xs ≡ take i xs ++ (get_or xs i d ∷ drop (i + 1) xs)
in_parts [] i d lt = absurd (omega (arith, lt))
in_parts (x ∷ xs) zero d lt = refl
in_parts (x ∷ xs) (suc i) d lt =
    let after : suc i + 1 ≡ suc (i + 1) = omega arith in
    ap (λ l. x ∷ l) (in_parts xs i d (omega (arith, lt))) ∙ ap (λ n. x ∷ (take i xs ++ (get_or xs i d ∷ drop n (x ∷ xs)))) (sym after)

-- one more of a list that is gone through, after what was there
pub grown_one : {X Y : Type 0} (f : X → Y) (first all : List Y) (xs : List X) (i : ℕ) (d : X) (y : Y) → i < length xs → all ≡ first ++ map f (take i xs)
    → y ≡ f (get_or xs i d) → all ++ (y ∷ []) ≡ first ++ map f (take (i + 1) xs)
grown_one f first all xs i d y lt is same =
    (λ k. is k ++ (same k ∷ [])) ∙ append_assoc first (map f (take i xs)) (f (get_or xs i d) ∷ []) ∙ ap (λ l. first ++ l) (sym (map_more f xs i d lt))

-- two lists that are gone through side by side
pub zip_more : {X Y Z : Type 0} (h : Y → Z) (xs : List X) (ys : List Y) (i : ℕ) (d : X) (e : Y) → i < length xs → i < length ys
    → zip (take (i + 1) xs) (map h (take (i + 1) ys)) ≡ zip (take i xs) (map h (take i ys)) ++ ((get_or xs i d, h (get_or ys i e)) ∷ [])
zip_more h xs ys i d e low high =
    ap₂ zip (take_more xs i d low) (map_more h ys i e high)
    ∙ zip_push (take i xs) (map h (take i ys)) (get_or xs i d) (h (get_or ys i e))
    (length-take-le i xs (omega (arith, low)) ∙ sym (map_long h ys i (omega (arith, high))))

pub joined_more : {X Y Z : Type 0} (f : X × Y → Z) (xs : List X) (ys : List Y) (i : ℕ) (d : X) (e : Y) → i < length xs → i < length ys
    → map f (zip (take (i + 1) xs) (take (i + 1) ys)) ≡ map f (zip (take i xs) (take i ys)) ++ (f (get_or xs i d, get_or ys i e) ∷ [])
joined_more f xs ys i d e low high =
    ap (map f) (ap₂ zip (take_more xs i d low) (take_more ys i e high)
    ∙ zip_push (take i xs) (take i ys) (get_or xs i d) (get_or ys i e)
    (length-take-le i xs (omega (arith, low)) ∙ sym (length-take-le i ys (omega (arith, high)))))
    ∙ map-append f (zip (take i xs) (take i ys)) ((get_or xs i d, get_or ys i e) ∷ [])

-- no more are joined than the shorter list has
pub zip_short : {X Y : Type 0} (xs : List X) (ys : List Y) (n : ℕ) → min (length xs) (length ys) ≤ n → zip (take n xs) (take n ys) ≡ zip xs ys
zip_short [] ys zero h = refl
zip_short [] ys (suc n) h = refl
zip_short (x ∷ xs) [] zero h = refl
zip_short (x ∷ xs) [] (suc n) h = refl
zip_short (x ∷ xs) (y ∷ ys) zero h = absurd (omega (arith, h))
zip_short (x ∷ xs) (y ∷ ys) (suc n) h = ap (λ l. (x, y) ∷ l) (zip_short xs ys n (omega (arith, h)))

-- ---- rounds

module _ (g : Grammar) (p : Performance) where
  pub come_none : (k i : ℕ) (best : Option Barring) → ComeTo g p k i [] best best
  come_none zero i best = refl
  come_none (suc k) i best = refl

  pub come_more : (k i : ℕ) (front : List Barring) (best : Option Barring) (next : List Barring) (next_best last : Option Barring) → 1 ≤ length front
      → IsRound g p i front best next next_best → ComeTo g p k (suc i) next next_best last → ComeTo g p (suc k) i front best last
  come_more k i [] best next next_best last some round rest = absurd (omega (arith, some))
  come_more k i (b ∷ front) best next next_best last some round rest = (next, next_best, round, rest)
