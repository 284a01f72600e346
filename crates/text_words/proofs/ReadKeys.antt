-- Whether what is read is this key.
use Rattle.std.proofs.Common.{◌≡◌, ℕ, ◌==◌, Bool, true, false, Some, None, ap, arith}
use Rattle.std.specs.Prelude.{Option}
use Rattle.std.proofs.lemmas.Bool.Decides.{nat_tests}

unfoldable pub is_key : ℕ → Option ℕ → Bool
is_key k None = false
is_key k (Some n) = n == k

pub read_key : (k : ℕ) (o : Option ℕ) → is_key k o ≡ true → o ≡ Some k
unfolding is_key
read_key k None e = cc
read_key k (Some n) e = let same : n ≡ k = grind (arith, nat_tests) in ap Some same
