-- The offers so far, from the proposals so far.
use Rattle.std.proofs.Common.{◌≡◌, ℕ, ◌+◌, ◌<◌, Bool, true, false, List, [], ◌∷◌, ◌++◌, length, take, get_or, refl, ap, sym, ◌∙◌, arith}
use Rattle.std.specs.Prelude.{filter, if◌then◌else◌}
use Rattle.std.specs.List.{flat_map, range_with_len}
use Rattle.std.proofs.lemmas.List.{append-nil, append_assoc, take_more}
use Rattle.std.proofs.lemmas.Grind.{flat_map-append}
use Rattle.barline_follow.specs.Least.{AreFirstLeast}
use Rattle.barline_follow.proofs.FirstLeast.{none_contained}
use Rattle.barline_follow.proofs.Paired.{range_more}

module _ {X : Type 0} (value tick : X → ℕ) where
  -- of nothing nothing is kept
  pub none_kept : AreFirstLeast value tick [] []
  none_kept = record {
    in_order = λ i j d lt within. absurd (omega (arith, within));
    exactly = λ x. (λ c. absurd (none_contained x c), λ h. let got = h.there in absurd (cc));
  }

module _ {X : Type 0} (p : X → Bool) where
  filter-append : (xs ys : List X) → filter p (xs ++ ys) ≡ filter p xs ++ filter p ys
  filter-append [] ys = refl
  filter-append (x ∷ xs) ys = at (p x) (filter-append xs ys)
    where
      at : (b : Bool) → filter p (xs ++ ys) ≡ filter p xs ++ filter p ys
          → (if b then x ∷ filter p (xs ++ ys) else filter p (xs ++ ys)) ≡ (if b then x ∷ filter p xs else filter p xs) ++ filter p ys
      at true rest = ap (λ l. x ∷ l) rest
      at false rest = rest

  one_passes : (x : X) → p x ≡ true → filter p (x ∷ []) ≡ x ∷ []
  one_passes x is = rw is refl

  one_fails : (x : X) → p x ≡ false → filter p (x ∷ []) ≡ []
  one_fails x is = rw is refl

  -- one more of a list is tried
  pub passed_more : (xs ys : List X) (i : ℕ) (d : X) → i < length ys → p (get_or ys i d) ≡ true
      → (xs ++ filter p (take i ys)) ++ (get_or ys i d ∷ []) ≡ xs ++ filter p (take (i + 1) ys)
  passed_more xs ys i d lt is =
      append_assoc xs (filter p (take i ys)) (get_or ys i d ∷ [])
      ∙ ap (λ l. xs ++ l) (sym (ap (filter p) (take_more ys i d lt) ∙ filter-append (take i ys) (get_or ys i d ∷ [])
      ∙ ap (λ l. filter p (take i ys) ++ l) (one_passes (get_or ys i d) is)))

  pub failed_more : (xs ys : List X) (i : ℕ) (d : X) → i < length ys → p (get_or ys i d) ≡ false
      → xs ++ filter p (take i ys) ≡ xs ++ filter p (take (i + 1) ys)
  failed_more xs ys i d lt is =
      ap (λ l. xs ++ l) (sym (ap (filter p) (take_more ys i d lt) ∙ filter-append (take i ys) (get_or ys i d ∷ [])
      ∙ ap (λ l. filter p (take i ys) ++ l) (one_fails (get_or ys i d) is) ∙ append-nil (filter p (take i ys))))

  -- what passes of one more row of a list of rows
  pub rows_more : (f : ℕ → List X) (n : ℕ)
      → filter p (flat_map f (range_with_len 0 n)) ++ filter p (f n) ≡ filter p (flat_map f (range_with_len 0 (n + 1)))
  rows_more f n =
      sym (filter-append (flat_map f (range_with_len 0 n)) (f n))
      ∙ ap (filter p) (sym (ap (flat_map f) (range_more n) ∙ flat_map-append f (range_with_len 0 n) (n ∷ [])
      ∙ ap (λ l. flat_map f (range_with_len 0 n) ++ l) (append-nil (f n))))
