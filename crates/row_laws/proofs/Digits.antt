-- Numbers of a first number and a digit are ordered as the two are, one after the other.
use Rattle.std.proofs.Common.{◌≡◌, ◌≢◌, ℕ, ◌<◌, ◌≤◌, ◌+◌, ◌*◌, Bool, true, false, nat_lt, refl, sym, ap, arith}
use Rattle.std.specs.Cmp.{nat_cmp_is, ranked}
use Rattle.std.specs.Ordering.{nat_cmp, ordering_then}
use Rattle.std.specs.declared.cmp.Ordering.{Ordering}
use Rattle.std.specs.declared.cmp.Ordering.TheVariants.{Less, Equal, Greater}
use Rattle.std.proofs.Math.Nat.{mul-le-mul_right}
use Rattle.std.proofs.lemmas.Bool.Decides.{nat_tests}

digits-below : (n e f g k : ℕ) → f < n → e < g → e * n + f < g * n + k
digits-below n e f g k low less =
    let next : (e + 1) * n ≤ g * n = mul-le-mul_right n (omega (arith, less)) in
    let split : (e + 1) * n ≡ e * n + n = grind arith in
    omega (arith, next, split, low)

-- below n is a digit
pub digits-cmp : (n e f g k : ℕ) → f < n → k < n → nat_cmp (e * n + f) (g * n + k) ≡ ordering_then (nat_cmp e g) (nat_cmp f k)
digits-cmp n e f g k lf lk = go (nat_cmp e g) refl
  where
    last : (o : Ordering) → nat_cmp f k ≡ o → e ≡ g → nat_cmp (e * n + f) (g * n + k) ≡ o
    last Less h s = let low : f < k = ranked f k Less (sym h) in let top = ap (λ x. x * n) s in sym (nat_cmp_is (e * n + f) (g * n + k) Less (omega (arith, low, top)))
    last Equal h s = let low : f ≡ k = ranked f k Equal (sym h) in let top = ap (λ x. x * n) s in sym (nat_cmp_is (e * n + f) (g * n + k) Equal (omega (arith, low, top)))
    last Greater h s = let low : k < f = ranked f k Greater (sym h) in let top = ap (λ x. x * n) s in sym (nat_cmp_is (e * n + f) (g * n + k) Greater (omega (arith, low, top)))

    go : (o : Ordering) → nat_cmp e g ≡ o → nat_cmp (e * n + f) (g * n + k) ≡ ordering_then o (nat_cmp f k)
    go Less h = sym (nat_cmp_is (e * n + f) (g * n + k) Less (digits-below n e f g k lf (ranked e g Less (sym h))))
    go Equal h = last (nat_cmp f k) refl (ranked e g Equal (sym h))
    go Greater h = sym (nat_cmp_is (e * n + f) (g * n + k) Greater (digits-below n g k e f lk (ranked e g Greater (sym h))))

-- the first numbers decide where they differ
pub digits-lt : (n e f g k : ℕ) → f < n → k < n → e ≢ g → nat_lt (e * n + f) (g * n + k) ≡ nat_lt e g
digits-lt n e f g k lf lk other = go (nat_lt e g) refl
  where
    less : e * n + f < g * n + k → nat_lt (e * n + f) (g * n + k) ≡ true
    less h = grind (arith, nat_tests)

    more : g * n + k < e * n + f → nat_lt (e * n + f) (g * n + k) ≡ false
    more h = grind (arith, nat_tests)

    go : (b : Bool) → nat_lt e g ≡ b → nat_lt (e * n + f) (g * n + k) ≡ b
    go true h = less (digits-below n e f g k lf (grind (arith, nat_tests)))
    go false h = more (digits-below n g k e f lk (grind (arith, nat_tests)))
