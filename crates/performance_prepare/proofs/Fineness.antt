-- How many times finer ticks are made.
use Rattle.std.proofs.Common.{◌≡◌, ◌⊎◌, ℕ, zero, suc, ◌+◌, ◌*◌, ◌<◌, ◌≤◌, ltb, Bool, true, false, cond, inl, inr, refl, ap, ◌∙◌, arith}
use Rattle.std.proofs.lemmas.Bool.Decides.{nat_tests}
use Rattle.std.proofs.Math.Nat.{mul-le-mul_left}
use Rattle.performance_prepare.specs.Tempo.{finer, fineness}

pub at_least : (a d : ℕ) → 1 ≤ d → a ≤ a * d
at_least a d some = let more = mul-le-mul_left a some in omega (arith, more)

-- a power that is 1, or leaves a quarter with 8,192 ticks at most
pub record IsFine (division times : ℕ) : Type 0 where
  pub some : 1 ≤ times
  pub near : (times ≡ 1) ⊎ (times * division ≤ 8192)

pub finer_few : (division times : ℕ) → 1 ≤ division → IsFine division times → times ≤ 8192
finer_few division times some h = elim h.near [
  | inl one ↦ omega (arith, one)
  | inr low ↦ omega (arith, low, at_least times division some)
]

pub finer_low : (division times : ℕ) → division ≤ 32767 → IsFine division times → division * times ≤ 32767
finer_low division times few h = elim h.near [
  | inl one ↦ (let same : division * times ≡ division = ap (λ n. division * n) one ∙ omega arith in omega (arith, same))
  | inr low ↦ (let same : division * times ≡ times * division = grind arith in omega (arith, low, same))
]

low_test : (n : ℕ) → ltb 8192 n ≡ false → n ≤ 8192
low_test n h = grind (arith, nat_tests)

doubled : (times division : ℕ) → 2 * times * division ≤ 8192 → (2 * times) * division ≤ 8192
doubled times division h = h

pub are_fine : (n division times : ℕ) → 1 ≤ division → IsFine division times → IsFine division (finer n division times)
unfolding finer
are_fine zero division times some h = h
are_fine (suc n) division times some h = go (ltb 8192 (2 * times * division)) refl (λ next. are_fine n division (2 * times) some next)
  where
    go : (b : Bool) → ltb 8192 (2 * times * division) ≡ b → (IsFine division (2 * times) → IsFine division (finer n division (2 * times)))
        → IsFine division (cond b times (finer n division (2 * times)))
    go true is more = h
    go false is more = more (record { some = omega (arith, h.some); near = inr (low_test (2 * times * division) is) })

pub fineness_fine : (division : ℕ) → 1 ≤ division → IsFine division (fineness division)
unfolding fineness
fineness_fine division some = are_fine 13 division 1 some (record { some = omega arith; near = inl refl })

-- ---- doubling by doubling

pub finer_stop : (n division times : ℕ) → 8192 < 2 * times * division → finer n division times ≡ times
unfolding finer
finer_stop zero division times enough = refl
finer_stop (suc n) division times enough = let yes : ltb 8192 (2 * times * division) ≡ true = grind (arith, nat_tests) in rw yes refl

pub finer_none : (division times : ℕ) → finer 0 division times ≡ times
unfolding finer
finer_none division times = refl

pub finer_more : (m n division times : ℕ) → m ≡ n + 1 → 2 * times * division ≤ 8192 → finer m division times ≡ finer n division (times * 2)
unfolding finer
finer_more m n division times next low =
    let one : m ≡ suc n = omega (arith, next) in
    let below : ltb 8192 (2 * times * division) ≡ false = grind (arith, nat_tests) in
    let twice : 2 * times ≡ times * 2 = omega arith in
    ap (λ k. finer k division times) one ∙ (rw below (ap (finer n division) twice))

pub finer_begin : (division : ℕ) → finer 13 division 1 ≡ fineness division
unfolding fineness
finer_begin division = refl

pub times_low : (division times : ℕ) → 1 ≤ division → 2 * times * division ≤ 8192 → times * 2 ≤ 8192
times_low division times some low = let more = at_least (2 * times) division some in omega (arith, low, more)

-- ---- a product that is small

pub small_product : (a b : ℕ) → a ≤ 16384 → b ≤ 65535 → a * b ≤ 1073725440
small_product a b la lb =
    let one = mul-le-mul_left a lb in
    let swap : a * 65535 ≡ 65535 * a = omega arith in
    let two = mul-le-mul_left 65535 la in
    omega (arith, one, swap, two)
