-- The keys of a set: a key is in it where its bit is one.
use Rattle.std.proofs.Common.{◌≡◌, ℕ, zero, suc, ◌+◌, ◌<◌, ◌≤◌, ◌==◌, true, refl, sym, ◌∙◌, arith, bit_or, inl, inr, ◌⊎◌}
use Rattle.std.specs.Prelude.{max}
use Rattle.std.specs.Int.{bit_at}
use Rattle.std.specs.List.{range_with_len}
use Rattle.std.proofs.lemmas.Bool.{cases_lt}
use Rattle.std.proofs.lemmas.Bool.Decides.{nat_tests}
use Rattle.std.proofs.lemmas.Nat.Bits.{bit_at-lt, bit_at-zero, bit_at_or}
use Rattle.score_words.specs.Keys.{rising_keys}
use Rattle.rhythm_base.proofs.Members.{Among, Pairwise, kept_by, out_of, pairs_filter}

pub keys_among : (keys k : ℕ) → k < 128 → bit_at keys k ≡ 1 → Among k (rising_keys keys)
unfolding rising_keys
keys_among keys k within set = kept_by (λ j. bit_at keys j == 1) (range_with_len 0 128) k (in_range 0 128 k (omega arith) (omega arith)) (rw set refl)
  where
    in_range : (a n k : ℕ) → a ≤ k → k < a + n → Among k (range_with_len a n)
    in_range a zero k low high = absurd (omega arith)
    in_range a (suc n) k low high = elim (cases_lt a k) [
      | inl later ↦ inr (in_range (a + 1) n k (omega arith) (omega arith))
      | inr here ↦ inl (omega arith)
    ]

range_low : (a n k : ℕ) → Among k (range_with_len a n) → (a ≤ k) × (k < a + n)
range_low a zero k h = absurd h
range_low a (suc n) k (inl e) = (omega (arith, e), omega (arith, e))
range_low a (suc n) k (inr h) = let r = range_low (a + 1) n k h in (omega (arith, r.0), omega (arith, r.1))

pub one_bit : (b : ℕ) → (b == 1) ≡ true → b ≡ 1
one_bit b h = grind (arith, nat_tests, h)

pub among_keys : (keys k : ℕ) → Among k (rising_keys keys) → (k < 128) × (bit_at keys k ≡ 1)
unfolding rising_keys
among_keys keys k h =
    let r = out_of (λ j. bit_at keys j == 1) (range_with_len 0 128) k h in
    let w = range_low 0 128 k r.0 in
    (omega (arith, w.1), one_bit (bit_at keys k) r.1)

range_rises : (a n : ℕ) → Pairwise (λ (j : ℕ) k. j < k) (range_with_len a n)
range_rises a zero = tt
range_rises a (suc n) = ((λ k h. let r = range_low (a + 1) n k h in omega (arith, r.0)), range_rises (a + 1) n)

pub keys_rise : (keys : ℕ) → Pairwise (λ (j : ℕ) k. j < k) (rising_keys keys)
unfolding rising_keys
keys_rise keys = pairs_filter (λ (j : ℕ) k. j < k) (λ j. bit_at keys j == 1) (range_with_len 0 128) (range_rises 0 128)

-- ---- joined sets

pub or_left : (a b k : ℕ) → bit_at a k ≡ 1 → bit_at (bit_or a b) k ≡ 1
or_left a b k set = bit_at_or a b k ∙ by (bit_at a k) (bit_at b k) set (bit_at-lt b k)
  where
    by : (x y : ℕ) → x ≡ 1 → y < 2 → max x y ≡ 1
    by x y e lt = grind (arith, nat_tests)

pub or_right : (a b k : ℕ) → bit_at b k ≡ 1 → bit_at (bit_or a b) k ≡ 1
or_right a b k set = bit_at_or a b k ∙ by (bit_at a k) (bit_at b k) set (bit_at-lt a k)
  where
    by : (x y : ℕ) → y ≡ 1 → x < 2 → max x y ≡ 1
    by x y e lt = grind (arith, nat_tests)

pub of_either : (a b k : ℕ) → bit_at (bit_or a b) k ≡ 1 → (bit_at a k ≡ 1) ⊎ (bit_at b k ≡ 1)
of_either a b k set = by (bit_at a k) (bit_at b k) (sym (bit_at_or a b k) ∙ set)
  where
    by : (x y : ℕ) → max x y ≡ 1 → (x ≡ 1) ⊎ (y ≡ 1)
    by x y e = elim (cases_lt x y) [
      | inl less ↦ inr (let same : max x y ≡ y = grind (arith, nat_tests) in sym same ∙ e)
      | inr more ↦ inl (let same : max x y ≡ x = grind (arith, nat_tests) in sym same ∙ e)
    ]

pub no_bit : (k : ℕ) → bit_at 0 k ≡ 1 → ⊥
no_bit k set = let none : 0 ≡ 1 = sym (bit_at-zero k) ∙ set in absurd (omega (arith, none))
