-- Two lists taken place by place, from a place on.
use Rattle.std.proofs.Common.{◌≡◌, ℕ, zero, suc, ◌+◌, ◌-◌, ◌<◌, ◌≤◌, inl, inr, List, [], ◌∷◌, ◌++◌, length, min, get_or, drop, refl, ap, ap₂, sym, ◌∙◌, arith}
use Rattle.std.specs.List.{range_with_len}
use Rattle.rhythm_base.specs.Lists.{last_end}
use Rattle.std.proofs.lemmas.Bool.{cases_lt}
use Rattle.std.proofs.lemmas.List.{drop_more, drop_all}
use Rattle.barline_follow.specs.Stages.{paired, shifts}

module _ {X : Type 0} (f : ℕ → ℕ → X) where
  pub paired_more : (xs ys : List ℕ) (n d e : ℕ) → n < length xs → n < length ys
      → paired f (drop n xs) (drop n ys) ≡ f (get_or xs n d) (get_or ys n e) ∷ paired f (drop (n + 1) xs) (drop (n + 1) ys)
  paired_more xs ys n d e low high = ap₂ (paired f) (drop_more xs n d low) (drop_more ys n e high)

  none_right : (xs ys : List ℕ) → ys ≡ [] → paired f xs ys ≡ []
  none_right [] ys h = refl
  none_right (x ∷ xs) [] h = refl
  none_right (x ∷ xs) (y ∷ ys) h = absurd (cc)

  none_left : (xs ys : List ℕ) → xs ≡ [] → paired f xs ys ≡ []
  none_left [] ys h = refl
  none_left (x ∷ xs) ys h = absurd (cc)

  pub paired_end : (xs ys : List ℕ) (n : ℕ) → min (length xs) (length ys) ≤ n → paired f (drop n xs) (drop n ys) ≡ []
  paired_end xs ys n h =
      elim (cases_lt n (length xs)) [
        | inl low ↦ none_right (drop n xs) (drop n ys) (drop_all n ys (omega (arith, low, h)))
        | inr past ↦ none_left (drop n xs) (drop n ys) (drop_all n xs past)
      ]

  pub paired_short : (xs ys : List ℕ) → length (paired f xs ys) ≤ length xs
  paired_short [] ys = omega arith
  paired_short (x ∷ xs) [] = omega arith
  paired_short (x ∷ xs) (y ∷ ys) = let h = paired_short xs ys in omega (arith, h)

pub shifts_more : (xs ys : List ℕ) (n d e : ℕ) → n < length xs → n < length ys
    → shifts n (drop n xs) (drop n ys) ≡ record { bar = n; tick = get_or xs n d; to = get_or ys n e } ∷ shifts (suc n) (drop (n + 1) xs) (drop (n + 1) ys)
shifts_more xs ys n d e low high = ap₂ (shifts n) (drop_more xs n d low) (drop_more ys n e high)

no_shifts_right : (n : ℕ) (xs ys : List ℕ) → ys ≡ [] → shifts n xs ys ≡ []
no_shifts_right n [] ys h = refl
no_shifts_right n (x ∷ xs) [] h = refl
no_shifts_right n (x ∷ xs) (y ∷ ys) h = absurd (cc)

no_shifts_left : (n : ℕ) (xs ys : List ℕ) → xs ≡ [] → shifts n xs ys ≡ []
no_shifts_left n [] ys h = refl
no_shifts_left n (x ∷ xs) ys h = absurd (cc)

pub shifts_end : (xs ys : List ℕ) (n : ℕ) → min (length xs) (length ys) ≤ n → shifts n (drop n xs) (drop n ys) ≡ []
shifts_end xs ys n h =
    elim (cases_lt n (length xs)) [
      | inl low ↦ no_shifts_right n (drop n xs) (drop n ys) (drop_all n ys (omega (arith, low, h)))
      | inr past ↦ no_shifts_left n (drop n xs) (drop n ys) (drop_all n xs past)
    ]

-- ---- numbers in a row, and the last of a list

range_on : (a n : ℕ) → range_with_len a (suc n) ≡ range_with_len a n ++ ((a + n) ∷ [])
range_on a zero = ap (λ x. x ∷ []) (omega arith)
range_on a (suc n) =
    ap (λ xs. a ∷ xs) (range_on (a + 1) n ∙ ap (λ x. range_with_len (a + 1) n ++ (x ∷ [])) (omega arith))

pub range_more : (n : ℕ) → range_with_len 0 (n + 1) ≡ range_with_len 0 n ++ (n ∷ [])
range_more n =
    let e : n + 1 ≡ suc n = omega arith in
    ap (range_with_len 0) e ∙ range_on 0 n ∙ ap (λ x. range_with_len 0 n ++ (x ∷ [])) (omega arith)

pub last_is : (e : ℕ) (xs : List ℕ) (d : ℕ) → 1 ≤ length xs → last_end e xs ≡ get_or xs (length xs - 1) d
last_is e [] d h = absurd (omega (arith, h))
last_is e (x ∷ []) d h = refl
last_is e (x ∷ y ∷ xs) d h =
    let at : length (x ∷ y ∷ xs) - 1 ≡ suc (length (y ∷ xs) - 1) = omega arith in
    last_is x (y ∷ xs) d (omega arith) ∙ ap (λ n. get_or (x ∷ y ∷ xs) n d) (sym at)
