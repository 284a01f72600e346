-- The run of bytes of one kind with which a text begins.
use Rattle.std.proofs.Common.{◌≡◌, ℕ, Bool, true, List, [], ◌∷◌, ◌++◌, length, take, drop, ap, ◌∙◌, arith}
use Rattle.std.specs.List.{list_all, prefix_len, take_while}
use Rattle.std.proofs.lemmas.Bool.{and_parts}
use Rattle.rhythm_base.proofs.ListParts.{front, back}

-- it ends where bytes of another kind begin
pub run_ends : (p : ℕ → Bool) (xs ys : List ℕ) → list_all p xs ≡ true → prefix_len p ys ≡ 0 → prefix_len p (xs ++ ys) ≡ length xs
run_ends p [] ys all none = none
run_ends p (x ∷ xs) ys all none =
    let parts = and_parts (p x) (list_all p xs) all in
    let rest = run_ends p xs ys parts.1 none in
    rw (parts.0, rest) (omega arith)

pub run_taken : (p : ℕ → Bool) (xs ys : List ℕ) → list_all p xs ≡ true → prefix_len p ys ≡ 0 → take_while p (xs ++ ys) ≡ xs
run_taken p xs ys all none = ap (λ n. take n (xs ++ ys)) (run_ends p xs ys all none) ∙ front xs ys

pub run_dropped : (p : ℕ → Bool) (xs ys : List ℕ) → list_all p xs ≡ true → prefix_len p ys ≡ 0 → drop (prefix_len p (xs ++ ys)) (xs ++ ys) ≡ ys
run_dropped p xs ys all none = ap (λ n. drop n (xs ++ ys)) (run_ends p xs ys all none) ∙ back xs ys
