-- Lists that grow at their ends.
use Rattle.std.proofs.Common.{◌≡◌, ℕ, zero, suc, ◌+◌, ◌-◌, ◌<◌, ◌≤◌, ◌⊎◌, inl, inr, List, [], ◌∷◌, ◌++◌, length, get_or, take, drop, map, refl, sym, ap, subst, ◌∙◌, arith, append-nil, append_assoc}
use Rattle.std.specs.Prelude.{Some, slice_get}
use Rattle.std.proofs.lemmas.List.{drop-append-le, map-append, take-append-le}
use Rattle.grammar_plan.proofs.LeafTables.{some_one}
use Rattle.grammar_plan.specs.Drafts.{ArePairs, ArePushed, HasPair, HavePairs, IsLonger}
use Rattle.grammar_plan.specs.Plans.{between}

module _ {X : Type 0} where
  pub longer-itself : (xs : List X) → IsLonger xs xs
  longer-itself xs = ([], sym (append-nil xs))

  pub longer-same : (xs ys : List X) → ys ≡ xs → IsLonger xs ys
  longer-same xs ys e = ([], e ∙ sym (append-nil xs))

  pub longer-then : (xs ys zs : List X) → IsLonger xs ys → IsLonger ys zs → IsLonger xs zs
  longer-then xs ys zs h k = (h.0 ++ k.0, k.1 ∙ ap (λ l. l ++ k.0) h.1 ∙ append_assoc xs h.0 k.0)

  get-append : (xs ys : List X) (n : ℕ) (x : X) → slice_get xs n ≡ Some x → slice_get (xs ++ ys) n ≡ Some x
  get-append [] ys n x h = absurd (cc)
  get-append (y ∷ xs) ys zero x h = h
  get-append (y ∷ xs) ys (suc n) x h = get-append xs ys n x h

  pub get-longer : (xs ys : List X) (n : ℕ) (x : X) → IsLonger xs ys → slice_get xs n ≡ Some x → slice_get ys n ≡ Some x
  get-longer xs ys n x h e = ap (λ l. slice_get l n) h.1 ∙ get-append xs h.0 n x e

  pub length-longer : (xs ys : List X) → IsLonger xs ys → length xs ≤ length ys
  length-longer xs ys h = let e = ap length h.1 in let s = length_sum xs h.0 in omega (arith, e, s)
    where
      length_sum : (xs ys : List X) → length (xs ++ ys) ≡ length xs + length ys
      length_sum [] ys = omega arith
      length_sum (x ∷ xs) ys = let h = length_sum xs ys in omega (arith, h)

  pub get-within : (xs : List X) (n : ℕ) → n < length xs → (x : X) × (slice_get xs n ≡ Some x)
  get-within [] n h = absurd (omega (arith, h))
  get-within (x ∷ xs) zero h = (x, refl)
  get-within (x ∷ xs) (suc n) h = get-within xs n (omega (arith, h))

  pub get-shorter : (xs ys : List X) (n : ℕ) (x : X) → IsLonger xs ys → n < length xs → slice_get ys n ≡ Some x → slice_get xs n ≡ Some x
  get-shorter xs ys n x h low e =
      let own = get-within xs n low in
      let there = get-longer xs ys n own.0 h own.1 in
      own.1 ∙ ap Some (some_one own.0 x (sym there ∙ e))

  -- one more
  pub get-last : (xs : List X) (y x : X) (n : ℕ) → slice_get (xs ++ y ∷ []) n ≡ Some x → (slice_get xs n ≡ Some x) ⊎ ((n ≡ length xs) × (x ≡ y))
  get-last [] y x zero e = inr (refl, sym (some_one y x e))
  get-last [] y x (suc n) e = absurd (cc)
  get-last (z ∷ xs) y x zero e = inl e
  get-last (z ∷ xs) y x (suc n) e = elim (get-last xs y x n e) [
    | inl h ↦ inl h
    | inr h ↦ inr (ap suc h.0, h.1)
  ]

  pub get-new : (xs : List X) (y : X) → slice_get (xs ++ y ∷ []) (length xs) ≡ Some y
  get-new [] y = refl
  get-new (x ∷ xs) y = get-new xs y

  pub between-longer : (xs ys : List X) (first end : ℕ) → IsLonger xs ys → first ≤ end → end ≤ length xs → between ys first end ≡ between xs first end
  between-longer xs ys first end h order within =
      ap (λ l. between l first end) h.1
      ∙ ap (take (end - first)) (drop-append-le first xs h.0 (omega (arith, order, within)))
      ∙ take-append-le (end - first) (drop first xs) h.0 (let l = length_drop xs first in omega (arith, l, within))
    where
      length_drop : (xs : List X) (n : ℕ) → length (drop n xs) ≡ length xs - n
      length_drop xs zero = omega arith
      length_drop [] (suc n) = omega arith
      length_drop (x ∷ xs) (suc n) = let h = length_drop xs n in omega (arith, h)

  pub between-new : (xs ys : List X) → between (xs ++ ys) (length xs) (length (xs ++ ys)) ≡ ys
  between-new [] ys = take_all ys (length ys) (omega arith)
    where
      take_all : (ys : List X) (n : ℕ) → n ≡ length ys → take (n - 0) ys ≡ ys
      take_all ys n e = ap (λ m. take m ys) (omega (arith, e)) ∙ whole ys
        where
          whole : (ys : List X) → take (length ys) ys ≡ ys
          whole [] = refl
          whole (y ∷ ys) = ap (◌∷◌ y) (whole ys)
  between-new (x ∷ xs) ys = ap (λ n. take n (drop (length xs) (xs ++ ys))) (omega arith) ∙ between-new xs ys

pub have-longer : (pairs more : List (ℕ × ℕ)) (ns : List ℕ) (qs : List (ℕ × ℕ)) → IsLonger pairs more → HavePairs pairs ns qs → HavePairs more ns qs
have-longer pairs more [] [] h k = k
have-longer pairs more [] (q ∷ qs) h k = k
have-longer pairs more (n ∷ ns) [] h k = k
have-longer pairs more (n ∷ ns) (q ∷ qs) h k = (get-longer pairs more n q h k.0, have-longer pairs more ns qs h k.1)

have-more : (pairs : List (ℕ × ℕ)) (ns : List ℕ) (qs : List (ℕ × ℕ)) (n : ℕ) (q : ℕ × ℕ) → HavePairs pairs ns qs → HasPair pairs n q → HavePairs pairs (ns ++ n ∷ []) (qs ++ q ∷ [])
have-more pairs [] [] n q h k = (k, tt)
have-more pairs [] (p ∷ qs) n q h k = absurd h
have-more pairs (m ∷ ns) [] n q h k = absurd h
have-more pairs (m ∷ ns) (p ∷ qs) n q h k = (h.0, have-more pairs ns qs n q h.1 k)

-- ---- parts

pub pushed-none : (pairs : List (ℕ × ℕ)) (parts : List ℕ) → ArePushed pairs pairs parts parts []
pushed-none pairs parts = record {
  longer = longer-itself pairs;
  numbers = [];
  parts_longer = sym (append-nil parts);
  have = tt;
  lawful = λ most names h k. h;
}

-- the seat of one part more
pub pushed-next : (old pairs new : List (ℕ × ℕ)) (parts more : List ℕ) (qs : List (ℕ × ℕ)) (n : ℕ) (q : ℕ × ℕ) → ArePushed old pairs parts more qs
    → (new ≡ pairs) ⊎ (new ≡ pairs ++ q ∷ []) → HasPair new n q → ArePushed old new parts (more ++ n ∷ []) (qs ++ q ∷ [])
pushed-next old pairs new parts more qs n q h step has = record {
  longer = longer-then old pairs new h.longer longer;
  numbers = h.numbers ++ n ∷ [];
  parts_longer = ap (λ l. l ++ n ∷ []) h.parts_longer ∙ append_assoc parts h.numbers (n ∷ []);
  have = have-more new h.numbers qs n q (have-longer pairs new h.numbers qs longer h.have) has;
  lawful = λ most names k l. elim step [
    | inl same ↦ subst (ArePairs most names) (sym same) (h.lawful most names k (before most names l))
    | inr more ↦ subst (ArePairs most names) (sym more) (λ i p e. elim (get-last pairs q p i e) [
      | inl old ↦ h.lawful most names k (before most names l) i p old
      | inr new ↦ subst (λ (p : ℕ × ℕ). (1 ≤ p.0) × (p.0 ≤ most) × (p.1 < names)) (sym new.1) (l (length qs) q (get-new qs q))
    ])
  ];
}
  where
    longer : IsLonger pairs new
    longer = elim step [
      | inl same ↦ longer-same pairs new same
      | inr more ↦ (q ∷ [], more)
    ]

    before : (most names : ℕ) → ArePairs most names (qs ++ q ∷ []) → ArePairs most names qs
    before most names l i p e = l i p (get-append qs (q ∷ []) i p e)

-- ---- a part for each thing of a list

take-suc : {X : Type 0} (xs : List X) (i : ℕ) (d : X) → i < length xs → take (suc i) xs ≡ take i xs ++ get_or xs i d ∷ []
take-suc [] i d h = absurd (omega (arith, h))
take-suc (x ∷ xs) zero d h = refl
take-suc (x ∷ xs) (suc i) d h = ap (◌∷◌ x) (take-suc xs i d (omega (arith, h)))

pub take-next : {X : Type 0} (xs : List X) (i : ℕ) (d : X) → i < length xs → take (i + 1) xs ≡ take i xs ++ get_or xs i d ∷ []
take-next xs i d h = let e : i + 1 ≡ suc i = omega arith in ap (λ n. take n xs) e ∙ take-suc xs i d h

pub take-past : {X : Type 0} (xs : List X) (i : ℕ) → length xs ≤ i → take i xs ≡ xs
take-past [] zero h = refl
take-past [] (suc i) h = refl
take-past (x ∷ xs) zero h = absurd (omega (arith, h))
take-past (x ∷ xs) (suc i) h = ap (◌∷◌ x) (take-past xs i (omega (arith, h)))

module _ {X : Type 0} (f : X → ℕ × ℕ) (xs : List X) (old pairs : List (ℕ × ℕ)) (parts more : List ℕ) (i : ℕ) where
  pub pushed-taken : (d : X) (new : List (ℕ × ℕ)) (n : ℕ) → i < length xs → ArePushed old pairs parts more (map f (take i xs))
      → (new ≡ pairs) ⊎ (new ≡ pairs ++ f (get_or xs i d) ∷ []) → HasPair new n (f (get_or xs i d)) → ArePushed old new parts (more ++ n ∷ []) (map f (take (i + 1) xs))
  pushed-taken d new n low h step has =
      subst (ArePushed old new parts (more ++ n ∷ []))
      (sym (ap (map f) (take-next xs i d low) ∙ map-append f (take i xs) (get_or xs i d ∷ [])))
      (pushed-next old pairs new parts more (map f (take i xs)) n (f (get_or xs i d)) h step has)

  pub pushed-all : length xs ≤ i → ArePushed old pairs parts more (map f (take i xs)) → ArePushed old pairs parts more (map f xs)
  pushed-all past h = subst (λ l. ArePushed old pairs parts more (map f l)) (take-past xs i past) h
