-- Values that count in one grid: their least common multiple divides it, and how wide they are in it.
use Rattle.std.proofs.Common.{◌≡◌, ℕ, zero, suc, ◌+◌, ◌-◌, ◌*◌, ◌/◌, ◌%◌, ◌^◌, ◌<◌, ◌≤◌, ◌==◌, Bool, true, false, List, [], ◌∷◌, refl, sym, ap, ◌∙◌, subst, arith}
use Rattle.std.specs.Prelude.{All, if◌then◌else◌}
use Rattle.std.specs.Int.{◌∣◌}
use Rattle.std.proofs.Math.Nat.{div-mul_cancel, dvd-sub, dvd_trans, dvd-mul_right, dvd_of_mul-dvd-mul_right, le_of_dvd, mul-div_left, mul-dvd-mul_right, zero-dvd, mul_comm}
use Rattle.std.proofs.lemmas.Bool.Decides.{nat_tests}
use Rattle.std.proofs.lemmas.List.Elements.{All-head, All-tail}
use Rattle.std.proofs.lemmas.Nat.{pow_pos, div-add-mod'}
use Rattle.durations.specs.declared.value.Value.{Value}
use Rattle.durations.specs.Value.{IsWide, parts, plain_grid, value_grid, width}
use Rattle.text_words.specs.Divisors.{gcd, gcd_within}
use Rattle.kern_reader.specs.Columns.{grid_with, lcm}
use Rattle.text_words.specs.Values.{IsWellValue}
use Rattle.text_words.proofs.Divisors.{gcd_is, gcd_some}

-- ---- the least common multiple

common_scaled : (steps a b n d : ℕ) → b < steps → d ∣ n * a → d ∣ n * b → d ∣ n * gcd_within steps a b
common_scaled zero a b n d few h k = absurd (omega (arith, few))
common_scaled (suc steps) a b n d few h k = at (b == 0) refl (λ less. common_scaled steps b (a % b) n d less k rest)
  where
    whole : n * a ≡ n * b * (a / b) + n * (a % b)
    whole = ap (λ x. n * x) (sym (div-add-mod' a b)) ∙ ring n (a / b) b (a % b)
      where
        ring : (n q b r : ℕ) → n * (q * b + r) ≡ n * b * q + n * r
        ring n q b r = grind arith

    left : n * a - n * b * (a / b) ≡ n * (a % b)
    left = omega (arith, whole)

    rest : d ∣ n * (a % b)
    rest = subst (λ x. d ∣ x) left (dvd-sub d h (dvd_trans d k (dvd-mul_right (n * b) (a / b))))

    at : (t : Bool) → (b == 0) ≡ t → (a % b < steps → d ∣ n * gcd_within steps b (a % b)) → d ∣ n * (if t then a else gcd_within steps b (a % b))
    at true e next = h
    at false e next = let some : 0 < b = grind (arith, nat_tests) in next (omega arith)

gcd_scaled : (a b n d : ℕ) → d ∣ n * a → d ∣ n * b → d ∣ n * gcd a b
unfolding gcd
gcd_scaled a b n d h k = common_scaled (suc b) a b n d (omega arith) h k

-- it divides each common multiple
pub lcm_divides : (a b n : ℕ) → 1 ≤ b → a ∣ n → b ∣ n → lcm a b ∣ n
lcm_divides a b n some h k =
    let g = gcd a b in
    let some_g : 0 < g = (gcd_some a b some).0 in
    let first : a * b ∣ n * a = subst (λ x. x ∣ n * a) (turned b a) (mul-dvd-mul_right b k a) in
    let second : a * b ∣ n * b = mul-dvd-mul_right a h b in
    let both : a * b ∣ n * g = gcd_scaled a b n (a * b) first second in
    let split : a * (b / g) * g ≡ a * b = regrouped a (b / g) g ∙ ap (λ x. a * x) (div-mul_cancel g (gcd_is a b).1) in
    dvd_of_mul-dvd-mul_right {k = g} (a * (b / g)) {n = n} some_g (subst (λ x. x ∣ n * g) (sym split) both)
  where
    turned : (x y : ℕ) → x * y ≡ y * x
    turned x y = grind arith

    regrouped : (x y z : ℕ) → x * y * z ≡ x * (y * z)
    regrouped x y z = grind arith

pub divisor_some : (d n : ℕ) → 1 ≤ n → d ∣ n → 1 ≤ d
divisor_some zero n some divides = let e : n ≡ zero = (zero-dvd {n = n}).0 divides in absurd (omega arith)
divisor_some (suc d) n some divides = omega arith

pub grid_divides : (n grid : ℕ) (vs : List Value) → 1 ≤ n → grid ∣ n → All (λ v. value_grid v ∣ n) vs → grid_with grid vs ∣ n
grid_divides n grid [] some h all = h
grid_divides n grid (v ∷ vs) some h all =
    let k = All-head (λ v. value_grid v ∣ n) v vs all in
    grid_divides n (lcm grid (value_grid v)) vs some (lcm_divides grid (value_grid v) n (divisor_some (value_grid v) n some k) h k) (All-tail (λ v. value_grid v ∣ n) v vs all)

-- a finer grid has a whole number of times as many parts
pub finer_times : (g n : ℕ) → 1 ≤ n → g ∣ n → (t : ℕ) × (1 ≤ t) × (g * t ≡ n)
finer_times g n some divides =
    let whole : n / g * g ≡ n = div-mul_cancel g divides in
    (n / g, factor (n / g) (subst (λ x. 1 ≤ x) (sym whole) some), mul_comm g (n / g) ∙ whole)
  where
    factor : (t : ℕ) → 1 ≤ t * g → 1 ≤ t
    factor zero h = absurd (omega (arith, h))
    factor (suc t) h = omega arith

-- ---- widths

-- a value is so many times as wide in parts that are as many times finer
pub width_finer : (whole k n : ℕ) (v : Value) → 1 ≤ value_grid v → whole * k ≡ n → IsWide whole v → width n v ≡ k * width whole v
width_finer whole k n v some finer wide =
    let w = width whole v in
    let is : w * value_grid v ≡ parts v * whole = div-mul_cancel (value_grid v) wide in
    let product : parts v * n ≡ k * w * value_grid v = ap (λ x. parts v * x) (sym finer) ∙ apart (parts v) whole k ∙ ap (λ x. k * x) (sym is) ∙ joined k w (value_grid v) in
    ap (λ x. x / value_grid v) product ∙ mul-div_left (k * w) some
  where
    apart : (p a b : ℕ) → p * (a * b) ≡ b * (p * a)
    apart p a b = grind arith

    joined : (a b c : ℕ) → a * (b * c) ≡ a * b * c
    joined a b c = grind arith

-- a value that counts in a grid of at most 61,440 parts is one that is read
small_plain : (g p n : ℕ) → 1 ≤ p → 1 ≤ n → g * p ∣ n → n ≤ 61440 → (1 ≤ g) × (g ≤ 61440)
small_plain g p n some long h few =
    let first : g ∣ n = dvd_trans g (dvd-mul_right g p) h in
    (divisor_some g n long first, omega (arith, le_of_dvd {m = g} {n = n} long first, few))

pub well_value : (v : Value) (n : ℕ) → 1 ≤ n → n ≤ 61440 → value_grid v ∣ n → v.dots ≤ 2 → IsWellValue v
well_value v n some few h dots =
    let small = small_plain (plain_grid v.recip) (2 ^ v.dots) n (pow_pos v.dots) some h few in
    record { some = small.0; few = small.1; dots = dots }
