-- What holds or does not hold, for what is built of equations and numbers.
use Rattle.std.proofs.Common.{◌≡◌, ℕ, ◌≤◌, ◌⊎◌, inl, inr, Bool, true, false, List, [], ◌∷◌, Option, Some, None, refl, arith}
use Rattle.std.proofs.lemmas.Bool.{cases_lt}

-- it holds, or it does not
abbrev pub Decided : Type 0 → Type 0
Decided P = P ⊎ (P → ⊥)

pub decided_like : {P Q : Type 0} → (P → Q) → (Q → P) → Decided P → Decided Q
decided_like to from (inl p) = inl (to p)
decided_like to from (inr never) = inr (λ q. never (from q))

pub decided_both : {P Q : Type 0} → Decided P → Decided Q → Decided (P × Q)
decided_both (inl p) (inl q) = inl (p, q)
decided_both (inl p) (inr never) = inr (λ both. never both.1)
decided_both (inr never) q = inr (λ both. never both.0)

pub decided_true : (b : Bool) → Decided (b ≡ true)
decided_true true = inl refl
decided_true false = inr (λ e. cc)

pub decided_most : (m n : ℕ) → Decided (m ≤ n)
decided_most m n = elim (cases_lt n m) [
  | inl more ↦ inr (λ few. omega (arith, more, few))
  | inr few ↦ inl few
]

-- equal lists, by their elements
pub decided_lists : {X : Type 0} → ((x y : X) → Decided (x ≡ y)) → (xs ys : List X) → Decided (xs ≡ ys)
decided_lists each [] [] = inl refl
decided_lists each [] (y ∷ ys) = inr (λ e. cc)
decided_lists each (x ∷ xs) [] = inr (λ e. cc)
decided_lists each (x ∷ xs) (y ∷ ys) =
    decided_like (λ both i. both.0 i ∷ both.1 i) (λ e. (let first : x ≡ y = cc in first, let others : xs ≡ ys = cc in others))
    (decided_both (each x y) (decided_lists each xs ys))

pub decided_options : {X : Type 0} → ((x y : X) → Decided (x ≡ y)) → (a b : Option X) → Decided (a ≡ b)
decided_options each None None = inl refl
decided_options each None (Some y) = inr (λ e. cc)
decided_options each (Some x) None = inr (λ e. cc)
decided_options each (Some x) (Some y) = decided_like (λ same i. Some (same i)) (λ e. cc) (each x y)
