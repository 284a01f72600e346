-- Tests that are made of others, and tests of numbers.
use Rattle.std.proofs.Common.{◌≡◌, ◌&&◌, Bool, true, false, refl, ◌||◌, true≢false, ◌⊎◌, inl, inr, ℕ, ◌<◌, arith, ◌≤◌, ◌==◌}
use Rattle.std.specs.Prelude.{nat_lt}
use Rattle.std.proofs.lemmas.Bool.Decides.{nat_tests}

pub and_left : (a b : Bool) → a && b ≡ true → a ≡ true
and_left true b h = refl
and_left false b h = h

pub and_right : (a b : Bool) → a && b ≡ true → b ≡ true
and_right true b h = h
and_right false b h = absurd (cc)

-- neither holds
pub or_false : (a b : Bool) → (a || b) ≡ false → (a ≡ false) × (b ≡ false)
or_false true b e = absurd (true≢false e)
or_false false b e = (refl, e)

-- one of them holds
pub or_true : (a b : Bool) → (a || b) ≡ true → (a ≡ true) ⊎ (b ≡ true)
or_true true b h = inl refl
or_true false b h = inr h

pub lt_test : (a b : ℕ) → a < b → nat_lt a b ≡ true
lt_test a b h = grind (arith, nat_tests, h)

pub ge_test : (a b : ℕ) → b ≤ a → nat_lt a b ≡ false
ge_test a b h = grind (arith, nat_tests, h)

pub not_both_tests : (b : Bool) → b ≡ true → b ≡ false → ⊥
not_both_tests b on off = absurd (cc)

pub equal_test : (m n : ℕ) → m ≡ n → (m == n) ≡ true
equal_test m n is = grind (arith, nat_tests)
