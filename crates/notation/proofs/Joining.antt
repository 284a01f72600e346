-- Tokens that are joined to those before them.
use Rattle.std.proofs.Common.{◌≡◌, ℕ, zero, suc, ◌-◌, ◌<◌, ◌≤◌, List, [], ◌∷◌, ◌++◌, Some, append_assoc, length, get_or, take, drop, refl, sym, ap, ◌∙◌, arith}
use Rattle.std.specs.Prelude.{slice_get}
use Rattle.std.proofs.lemmas.List.{length-take-le}
use Rattle.std.proofs.lemmas.Option.{get_or_from_slice_get, slice_get_within}
use Rattle.notation.specs.Rests.{joined, joined_from}
use Rattle.notation.specs.Tokens.{Token}

-- a token that ends and goes on as another
abbrev pub ended : Token → Token → Token
ended t u = record t { end = u.end; goes = u.goes }

-- a token that is joined with others ends and goes on as the last of them
pub joined_at : (n : ℕ) (t : Token) (more : List Token) (d : Token) → n < length more → joined (suc n) t more ≡ ended t (get_or more n d)
joined_at n t [] d lt = absurd (omega (arith, lt))
joined_at zero t (u ∷ more) d lt = refl
joined_at (suc n) t (u ∷ []) d lt = absurd (omega (arith, lt))
joined_at (suc n) t (u ∷ v ∷ more) d lt = joined_at n (ended t u) (v ∷ more) d (omega (arith, lt))

pub joined_last : (t : Token) (more : List Token) (u : Token) → slice_get more (length more - 1) ≡ Some u → joined (length more) t more ≡ ended t u
joined_last t more u last =
    let n = length more - 1 in
    let lt = slice_get_within more n u last in
    let e : length more ≡ suc n = omega (arith, lt) in
    ap (λ k. joined k t more) e ∙ joined_at n t more u lt ∙ ap (ended t) (get_or_from_slice_get more n u u last)

joined_front : (k : ℕ) (t : Token) (more : List Token) → k ≤ length more → joined (length (take k more)) t (take k more) ≡ joined k t more
joined_front k t more few = ap (λ n. joined n t (take k more)) (length-take-le k more few) ∙ same k t more
  where
    same : (k : ℕ) (t : Token) (more : List Token) → joined k t (take k more) ≡ joined k t more
    same zero t more = refl
    same (suc k) t [] = refl
    same (suc k) t (u ∷ more) = same k (ended t u) more

-- those that are joined to an earlier one are passed over
skipped : (count : Token → List Token → ℕ) (k : ℕ) (ts : List Token) → joined_from count k ts ≡ joined_from count 0 (drop k ts)
skipped count zero [] = refl
skipped count zero (t ∷ ts) = refl
skipped count (suc k) [] = refl
skipped count (suc k) (t ∷ ts) = skipped count k ts

-- one more token with those that are joined to it
pub join_step :
    (count : Token → List Token → ℕ) (later more rest : List Token) (t one : Token) (k : ℕ) (done new all : List Token)
    → later ≡ t ∷ more → k ≡ count t more → k ≤ length more → rest ≡ drop k more → one ≡ joined (length (take k more)) t (take k more)
    → new ≡ done ++ one ∷ []
    → done ++ joined_from count 0 later ≡ all → new ++ joined_from count 0 rest ≡ all
join_step count later more rest t one k done new all split taken few left is more_is h =
    let own : one ≡ joined (count t more) t more = is ∙ joined_front k t more few ∙ ap (λ n. joined n t more) taken in
    let others : joined_from count 0 rest ≡ joined_from count (count t more) more = ap (joined_from count 0) left ∙ ap
    (λ n. joined_from count 0 (drop n more)) taken ∙ sym (skipped count (count t more) more) in
    let list : new ++ joined_from count 0 rest ≡ done ++ (joined (count t more) t more ∷ joined_from count (count t more) more) =
    ap (λ xs. xs ++ joined_from count 0 rest) more_is ∙ append_assoc done (one ∷ []) (joined_from count 0 rest) ∙ (λ i. done ++ (own i ∷ others i)) in
    list ∙ ap (λ ts. done ++ joined_from count 0 ts) (sym split) ∙ h
