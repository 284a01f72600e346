-- Five of a row.
use Rattle.std.proofs.Common.{◌≡◌, ℕ, zero, suc, ◌<◌, List, [], ◌∷◌, length, get_or, arith}
use Rattle.std.specs.Prelude.{slice_index_or, slice_set}
use Rattle.rhythm_base.specs.Ranked.{five}

-- five places that are written one after the other
pub each_written : {A : Type 0} (P : ℕ → A → A → Type 0) (xs : List A) (z v0 v1 v2 v3 v4 : A) → length xs ≡ 5
    → P 0 (slice_index_or xs 0 z) v0
    → P 1 (slice_index_or (slice_set xs 0 v0) 1 z) v1
    → P 2 (slice_index_or (slice_set (slice_set xs 0 v0) 1 v1) 2 z) v2
    → P 3 (slice_index_or (slice_set (slice_set (slice_set xs 0 v0) 1 v1) 2 v2) 3 z) v3
    → P 4 (slice_index_or (slice_set (slice_set (slice_set (slice_set xs 0 v0) 1 v1) 2 v2) 3 v3) 4 z) v4
    → (k : ℕ) → k < 5 → P k (slice_index_or xs k z) (slice_index_or (slice_set (slice_set (slice_set (slice_set (slice_set xs 0 v0) 1 v1) 2 v2) 3 v3) 4 v4) k z)
each_written P (a ∷ b ∷ c ∷ d ∷ e ∷ []) z v0 v1 v2 v3 v4 long p0 p1 p2 p3 p4 zero h = p0
each_written P (a ∷ b ∷ c ∷ d ∷ e ∷ []) z v0 v1 v2 v3 v4 long p0 p1 p2 p3 p4 (suc zero) h = p1
each_written P (a ∷ b ∷ c ∷ d ∷ e ∷ []) z v0 v1 v2 v3 v4 long p0 p1 p2 p3 p4 (suc (suc zero)) h = p2
each_written P (a ∷ b ∷ c ∷ d ∷ e ∷ []) z v0 v1 v2 v3 v4 long p0 p1 p2 p3 p4 (suc (suc (suc zero))) h = p3
each_written P (a ∷ b ∷ c ∷ d ∷ e ∷ []) z v0 v1 v2 v3 v4 long p0 p1 p2 p3 p4 (suc (suc (suc (suc zero)))) h = p4
each_written P (a ∷ b ∷ c ∷ d ∷ e ∷ []) z v0 v1 v2 v3 v4 long p0 p1 p2 p3 p4 (suc (suc (suc (suc (suc k))))) h = absurd (omega arith)
each_written P [] z v0 v1 v2 v3 v4 long p0 p1 p2 p3 p4 k h = absurd (cc)
each_written P (a ∷ []) z v0 v1 v2 v3 v4 long p0 p1 p2 p3 p4 k h = absurd (omega arith)
each_written P (a ∷ b ∷ []) z v0 v1 v2 v3 v4 long p0 p1 p2 p3 p4 k h = absurd (omega arith)
each_written P (a ∷ b ∷ c ∷ []) z v0 v1 v2 v3 v4 long p0 p1 p2 p3 p4 k h = absurd (omega arith)
each_written P (a ∷ b ∷ c ∷ d ∷ []) z v0 v1 v2 v3 v4 long p0 p1 p2 p3 p4 k h = absurd (omega arith)
each_written P (a ∷ b ∷ c ∷ d ∷ e ∷ f ∷ xs) z v0 v1 v2 v3 v4 long p0 p1 p2 p3 p4 k h = absurd (omega arith)

-- a list of five, one by one
pub list-five : {A : Type 0} (xs : List A) (z : A) (f : ℕ → A) → length xs ≡ 5 → ((a : ℕ) → a < 5 → get_or xs a z ≡ f a) → xs ≡ five f
list-five (a ∷ b ∷ c ∷ d ∷ e ∷ []) z f long h = λ i. h 0 (omega arith) i ∷ h 1 (omega arith) i ∷ h 2 (omega arith) i ∷ h 3 (omega arith) i ∷ h 4 (omega arith) i ∷ []
list-five [] z f long h = absurd (omega arith)
list-five (a ∷ []) z f long h = absurd (omega arith)
list-five (a ∷ b ∷ []) z f long h = absurd (omega arith)
list-five (a ∷ b ∷ c ∷ []) z f long h = absurd (omega arith)
list-five (a ∷ b ∷ c ∷ d ∷ []) z f long h = absurd (omega arith)
list-five (a ∷ b ∷ c ∷ d ∷ e ∷ g ∷ xs) z f long h = absurd (omega arith)
