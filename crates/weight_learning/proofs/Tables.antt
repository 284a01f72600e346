-- Tables of numbers, tested place by place.
use Rattle.std.proofs.Common.{◌≡◌, ℕ, zero, suc, ◌+◌, ◌<◌, Bool, true, ◌&&◌, List, [], ◌∷◌, length, sym, subst, arith}
use Rattle.std.specs.Prelude.{slice_index}
use Rattle.std.proofs.lemmas.Bool.{and_parts}

-- each number of the list passes with its place, counted from j on
abbrev pub all_from : (ℕ → ℕ → Bool) → ℕ → List ℕ → Bool
all_from p j [] = true
all_from p j (t ∷ ts) = p j t && all_from p (j + 1) ts

pub passes_at : (p : ℕ → ℕ → Bool) (j : ℕ) (ts : List ℕ) (i : ℕ) → all_from p j ts ≡ true → i < length ts → p (j + i) (slice_index ts i) ≡ true
passes_at p j [] i h lt = absurd (omega arith)
passes_at p j (t ∷ ts) zero h lt =
    let none : j + 0 ≡ j = omega arith in
    subst (λ n. p n t ≡ true) (sym none) (and_parts (p j t) _ h).0
passes_at p j (t ∷ ts) (suc i) h lt =
    let moved : j + 1 + i ≡ j + suc i = omega arith in
    subst (λ n. p n (slice_index ts i) ≡ true) moved (passes_at p (j + 1) ts i (and_parts (p j t) _ h).1 (omega arith))
