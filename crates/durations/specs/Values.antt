-- The values of a length, one after another.
use Rattle.std.specs.Prelude.{◌≡◌, ℕ, ◌-◌, ◌*◌, ◌≤◌, ◌⊎◌, List, [], ◌∷◌}
use Rattle.std.specs.Int.{IsGcd, IsPowerOfTwo}
use Rattle.durations.specs.declared.value.Recip.{Recip}
use Rattle.durations.specs.declared.value.Recip.TheVariants.{Of, Breve, Long}
use Rattle.durations.specs.declared.value.Value.{Value}
use Rattle.durations.specs.Value.{IsSingle}

-- len/whole in lowest terms is a/b: both were divided by their greatest common divisor
abbrev pub IsLowest : ℕ → ℕ → ℕ → ℕ → Type 0
IsLowest len whole a b = (g : ℕ) × IsGcd len whole g × (len ≡ a * g) × (whole ≡ b * g)

-- c/b of a whole note is a value without dots: 1/n of a whole note for a whole n, or 2 whole notes, or 4
abbrev pub IsPlain : ℕ → ℕ → Recip → Type 0
IsPlain c b (Of n) = c * n ≡ b
IsPlain c b Breve = c ≡ 2 * b
IsPlain c b Long = c ≡ 4 * b

-- what is taken off a/b where it is no single value: the largest power of two c, at most a, for which c/b is a value
-- without dots
pub record IsTaken (a b c : ℕ) (recip : Recip) : Type 0 where
  pub power : IsPowerOfTwo c
  pub within : c ≤ a
  pub plain : IsPlain c b recip
  pub largest : (d : ℕ) (other : Recip) → IsPowerOfTwo d → d ≤ a → IsPlain d b other → d ≤ c

-- the length a/b is one value
abbrev pub HasSingle : ℕ → ℕ → Type 0
HasSingle a b = (v : Value) × IsSingle a b v

-- A length in lowest terms is written as one value where it is one. Else the first value is taken off, and the rest is
-- treated by the same rule
abbrev pub AreValues : ℕ → ℕ → List Value → Type 0
AreValues len whole [] = len ≡ 0
AreValues len whole (v ∷ more) =
    (a : ℕ) × (b : ℕ) × IsLowest len whole a b
    × ((IsSingle a b v × (more ≡ []))
    ⊎ ((HasSingle a b → ⊥) × (v.dots ≡ 0) × (c : ℕ) × IsTaken a b c v.recip × AreValues (a - c) b more))
