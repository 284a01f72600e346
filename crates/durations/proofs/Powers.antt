-- Powers of two, the largest first.
use Rattle.std.proofs.Common.{◌≡◌, ℕ, zero, suc, ◌*◌, ◌/◌, ◌%◌, ◌^◌, ◌≤◌, ◌<◌, refl, ◌∙◌, ◌⊎◌, inl, inr, arith}
use Rattle.std.specs.Int.{IsPowerOfTwo}
use Rattle.std.proofs.Math.Nat.{pow-suc, mod-eq_of_lt}
use Rattle.std.proofs.lemmas.Bool.{cases_lt}
use Rattle.std.proofs.Math.Pow.{pow-lt, pow_mono}
use Rattle.std.proofs.lemmas.Nat.{pow_pos}

pub power_some : (c : ℕ) → IsPowerOfTwo c → 1 ≤ c
power_some c h = let e = pow_pos h.0 in omega (arith, e, h.1)

-- half of a power of two above 1 is one
pub power_half : (c : ℕ) → 1 < c → IsPowerOfTwo c → IsPowerOfTwo (c / 2)
power_half c more (zero, e) = let f : 2 ^ 0 ≡ 1 = refl in absurd (omega (arith, e, f))
power_half c more (suc k, e) = let f : 2 ^ suc k ≡ 2 ^ k * 2 = pow-suc 2 k in (k, omega (arith, e, f))

-- a power of two below another is at most half of it
pub power_below : (d c : ℕ) → IsPowerOfTwo d → IsPowerOfTwo c → d < c → d ≤ c / 2
power_below d c (j, e) (zero, f) lt = let one : 2 ^ 0 ≡ 1 = refl in let p = pow_pos j in omega (arith, e, f, one, p)
power_below d c (j, e) (suc k, f) lt = go (cases_lt k j)
  where
    go : (k < j) ⊎ (j ≤ k) → d ≤ c / 2
    go (inl past) = let m = pow_mono {i = suc k} {j = j} (omega arith) in omega (arith, e, f, m, lt)
    go (inr le) = let g : 2 ^ suc k ≡ 2 ^ k * 2 = pow-suc 2 k in let m = pow_mono le in omega (arith, e, f, g, m)

-- no other power of two at most a is larger than the one that a is less than two times of
pub power_largest : (a k d : ℕ) → a < 2 * 2 ^ k → IsPowerOfTwo d → d ≤ a → d ≤ 2 ^ k
power_largest a k d lt (j, e) le = go (cases_lt k j)
  where
    go : (k < j) ⊎ (j ≤ k) → d ≤ 2 ^ k
    go (inl past) = let g : 2 ^ suc k ≡ 2 ^ k * 2 = pow-suc 2 k in let m = pow_mono {i = suc k} {j = j} (omega arith) in absurd (omega (arith, e, g, m, lt, le))
    go (inr h) = let m = pow_mono h in omega (arith, e, m)

-- a bit of a word, by its number
pub bit_is : (k : ℕ) → k < 64 → 1 * 2 ^ k % 2 ^ 64 ≡ 2 ^ k
bit_is k lt = let e = pow-lt lt in let f : 1 * 2 ^ k ≡ 2 ^ k = omega arith in mod-eq_of_lt {n = 1 * 2 ^ k} (omega (arith, e, f)) ∙ f
