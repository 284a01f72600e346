-- Reading and writing at a place.
use Rattle.std.proofs.Common.{◌≡◌, ◌≢◌, ℕ, zero, suc, ◌<◌, ◌≤◌, List, [], ◌∷◌, length, take, inl, inr, refl, sym, subst, ap, ◌∙◌, arith}
use Rattle.std.specs.Prelude.{slice_index_or, slice_set}
use Rattle.std.proofs.lemmas.Bool.{cases_lt}
use Rattle.rhythm_base.specs.Ranked.{CarryMatrix, five}
use Rattle.rhythm_base.specs.Paths.{IsCheap, AreCheap}
use Rattle.chain_bars.specs.Tower.{Level, level, room_at, tier}
use Rattle.chain_bars.proofs.Towers.{cheap_at}

pub index_same : {A : Type 0} (xs : List A) (n : ℕ) (x z : A) → n < length xs → x ≡ slice_index_or xs n x → x ≡ slice_index_or xs n z
index_same [] n x z h e = absurd (omega arith)
index_same (y ∷ xs) zero x z h e = e
index_same (y ∷ xs) (suc n) x z h e = index_same xs n x z (omega arith) e

pub default_same : {A : Type 0} (xs : List A) (n : ℕ) (z w : A) → n < length xs → slice_index_or xs n z ≡ slice_index_or xs n w
default_same [] n z w h = absurd (omega arith)
default_same (y ∷ xs) zero z w h = refl
default_same (y ∷ xs) (suc n) z w h = default_same xs n z w (omega arith)

pub index_cheap : (c : ℕ) (es : List CarryMatrix) (n : ℕ) (x : CarryMatrix) → AreCheap c es → n < length es → x ≡ slice_index_or es n x → IsCheap c x
index_cheap c es n x h low e = subst (IsCheap c) (sym (index_same es n x [] low e)) (cheap_at c es n h)

pub set_length : {A : Type 0} (xs : List A) (n : ℕ) (x : A) → length (slice_set xs n x) ≡ length xs
set_length [] n x = refl
set_length (y ∷ xs) zero x = refl
set_length (y ∷ xs) (suc n) x = ap suc (set_length xs n x)

pub set_same : {A : Type 0} (xs : List A) (n : ℕ) (x z : A) → n < length xs → slice_index_or (slice_set xs n x) n z ≡ x
set_same [] n x z h = absurd (omega arith)
set_same (y ∷ xs) zero x z h = refl
set_same (y ∷ xs) (suc n) x z h = set_same xs n x z (omega arith)

pub set_other : {A : Type 0} (xs : List A) (n k : ℕ) (x z : A) → k ≢ n → slice_index_or (slice_set xs n x) k z ≡ slice_index_or xs k z
set_other [] n k x z h = refl
set_other (y ∷ xs) zero zero x z h = absurd (h refl)
set_other (y ∷ xs) zero (suc k) x z h = refl
set_other (y ∷ xs) (suc n) zero x z h = refl
set_other (y ∷ xs) (suc n) (suc k) x z h = set_other xs n k x z (λ e. h (ap suc e))

-- five members, of which those below n are so
pub record AreFilled {A : Type 0} (z : A) (P : ℕ → A → Type 0) (xs : List A) (n : ℕ) : Type 0 where
  pub five : length xs ≡ 5
  pub each : (k : ℕ) → k < n → P k (slice_index_or xs k z)

-- and one more
pub fill : {A : Type 0} (z : A) (P : ℕ → A → Type 0) (xs : List A) (n m : ℕ) (x : A) → m ≡ suc n → n < 5 → AreFilled z P xs n → P n x → AreFilled z P (slice_set xs n x) m
fill {A} z P xs n m x next low h own = record { five = set_length xs n x ∙ h.five; each = each }
  where
    each : (k : ℕ) → k < m → P k (slice_index_or (slice_set xs n x) k z)
    each k lk = elim (cases_lt k n) [
      | inl below ↦ subst (P k) (sym (set_other xs n k x z (λ e. absurd (omega (arith, below, e))))) (h.each k below)
      | inr above ↦
          let same : n ≡ k = omega (arith, lk, next, above) in
          subst (λ j. P j (slice_index_or (slice_set xs n x) j z)) same (subst (P n) (sym (set_same xs n x z (omega (arith, low, h.five)))) own)
    ]

pub filled : {A : Type 0} (z : A) (f : ℕ → A) (xs : List A) (n : ℕ) → 5 ≤ n → AreFilled z (λ k x. x ≡ f k) xs n → xs ≡ five f
filled {A} z f xs n all h = go xs h.five h.each
  where
    go : (ys : List A) → length ys ≡ 5 → ((k : ℕ) → k < n → slice_index_or ys k z ≡ f k) → ys ≡ five f
    go (a ∷ b ∷ c ∷ d ∷ e ∷ []) size each = λ i. each 0 (omega (arith, all)) i ∷ each 1 (omega (arith, all)) i ∷ each 2 (omega (arith, all)) i ∷ each 3 (omega (arith, all)) i ∷ each 4 (omega (arith, all)) i ∷ []
    go [] size each = absurd (cc)
    go (a ∷ []) size each = absurd (omega (arith, size))
    go (a ∷ b ∷ []) size each = absurd (omega (arith, size))
    go (a ∷ b ∷ c ∷ []) size each = absurd (omega (arith, size))
    go (a ∷ b ∷ c ∷ d ∷ []) size each = absurd (omega (arith, size))
    go (a ∷ b ∷ c ∷ d ∷ e ∷ g ∷ ys) size each = absurd (omega (arith, size))

pub length_take : {A : Type 0} (xs : List A) (n : ℕ) → n ≤ length xs → length (take n xs) ≡ n
length_take xs zero h = refl
length_take [] (suc n) h = absurd (omega (arith, h))
length_take (x ∷ xs) (suc n) h = ap suc (length_take xs n (omega (arith, h)))

-- what an index step reads
pub tier_read : (ls : List Level) (k : ℕ) (x : Level) → k < length ls → x ≡ slice_index_or ls k x → x ≡ tier ls k
tier_read ls k x low e = index_same ls k x _ low e

pub level_read : (ls : List Level) (k : ℕ) (x : Level) → k < length ls → (slice_index_or ls k x).nodes ≡ level ls k
level_read ls k x low = ap (λ (t : Level). t.nodes) (default_same ls k x _ low)

pub room_read : (ls : List Level) (k : ℕ) (x : Level) → k < length ls → (slice_index_or ls k x).room ≡ room_at ls k
room_read ls k x low = ap (λ (t : Level). t.room) (default_same ls k x _ low)
