-- The values of a length sum to it.
use Rattle.std.proofs.Common.{◌≡◌, ℕ, zero, suc, ◌+◌, ◌-◌, ◌*◌, ◌/◌, ◌^◌, ◌≤◌, List, [], ◌∷◌, refl, sym, ap, ◌∙◌, subst, inl, inr, arith}
use Rattle.std.specs.Int.{◌∣◌}
use Rattle.std.proofs.Math.Nat.{dvd-mul_left, mul-div_cancel}
use Rattle.std.proofs.lemmas.List.Elements.{All-cons}
use Rattle.std.proofs.lemmas.List.Sums.{sum-map, sum_by-cons}
use Rattle.durations.specs.declared.value.Recip.{Recip}
use Rattle.durations.specs.declared.value.Recip.TheVariants.{Of, Breve, Long}
use Rattle.durations.specs.declared.value.Value.{Value}
use Rattle.durations.specs.Value.{IsValueRow, IsWide, value_grid, parts, plain_grid, plain_parts, width}
use Rattle.durations.specs.Values.{AreValues, IsPlain}
use Rattle.durations.specs.Laws.{SumTo}
use Rattle.durations.proofs.Firsts.{Ways}
use Rattle.durations.proofs.LowestTerms.{lowest_some}

-- a/b is the length of the value, and the value counts in some parts
abbrev pub IsLong : ℕ → ℕ → Value → Type 0
IsLong a b v = (1 ≤ value_grid v) × (a * value_grid v ≡ parts v * b)

abbrev pub IsLongAs : ℕ → ℕ → Recip → ℕ → Type 0
IsLongAs a b r j = (1 ≤ plain_grid r * 2 ^ j) × (a * (plain_grid r * 2 ^ j) ≡ plain_parts r * (2 * 2 ^ j - 1) * b)

one_long : (a b k l n : ℕ) → 1 ≤ b → a ≡ l → b ≡ k * n → (1 ≤ n * k) × (a * (n * k) ≡ l * b)
one_long a b k l n some e f = (omega (arith, some, f, turned), ap (λ x. x * (n * k)) e ∙ ap (λ x. l * x) (turned ∙ sym f))
  where
    turned : n * k ≡ k * n
    turned = grind arith

row_long : (a b : ℕ) (r : Recip) (j : ℕ) → 1 ≤ b → IsValueRow a b r j → IsLongAs a b r j
row_long a b (Of n) zero some h = one_long a b 1 1 n some h.0 (omega (arith, h.1))
row_long a b (Of n) (suc zero) some h = one_long a b 2 3 n some h.0 h.1
row_long a b (Of n) (suc (suc zero)) some h = one_long a b 4 7 n some h.0 h.1
row_long a b (Of n) (suc (suc (suc j))) some h = absurd h
row_long a b Breve zero some h = (omega arith, omega (arith, h.0, h.1))
row_long a b Breve (suc zero) some h = (omega arith, omega (arith, h.0, h.1))
row_long a b Breve (suc (suc j)) some h = absurd h
row_long a b Long zero some h = (omega arith, omega (arith, h.0, h.1))
row_long a b Long (suc j) some h = absurd h

plain_long : (c b : ℕ) (r : Recip) → 1 ≤ b → IsPlain c b r → IsLongAs c b r 0
plain_long c b (Of zero) some h = absurd (omega (arith, h, some))
plain_long c b (Of (suc n)) some h = (omega arith, ap (λ x. c * x) (omega arith) ∙ h ∙ omega arith)
plain_long c b Breve some h = (omega arith, omega (arith, h))
plain_long c b Long some h = (omega arith, omega (arith, h))

-- values whose lengths sum to len/whole
abbrev pub Summing : ℕ → ℕ → List Value → Type 0
Summing len whole [] = len ≡ 0
Summing len whole (v ∷ vs) = (first : ℕ) × (rest : ℕ) × (len ≡ first + rest) × IsLong first whole v × Summing rest whole vs

-- the same in smaller parts
long_scaled : (a b g : ℕ) (v : Value) → IsLong a b v → IsLong (a * g) (b * g) v
long_scaled a b g v h = (h.0, scaled a b g (value_grid v) (parts v) h.1)
  where
    scaled : (a b g n p : ℕ) → a * n ≡ p * b → a * g * n ≡ p * (b * g)
    scaled a b g n p e = let f : a * g * n ≡ a * n * g = grind arith in let k : p * b * g ≡ p * (b * g) = grind arith in f ∙ ap (λ x. x * g) e ∙ k

summing_scaled : (len whole g : ℕ) (vs : List Value) → Summing len whole vs → Summing (len * g) (whole * g) vs
summing_scaled len whole g [] h = ap (λ x. x * g) h ∙ omega arith
summing_scaled len whole g (v ∷ vs) (first, rest, e, long, more) =
    (first * g, rest * g, ap (λ x. x * g) e ∙ grind arith, long_scaled first whole g v long, summing_scaled rest whole g vs more)

pub values_summing : (len whole : ℕ) (vs : List Value) → 1 ≤ whole → AreValues len whole vs → Summing len whole vs
values_summing len whole [] some h = h
values_summing len whole (v ∷ more) some (a, b, lowest, h) =
    let scaled = summing_scaled a b lowest.0 (v ∷ more) (go (lowest_some len whole a b some lowest) h (λ rest. values_summing rest b more)) in
    subst (λ x. Summing x whole (v ∷ more)) (sym lowest.2) (subst (λ x. Summing (a * lowest.0) x (v ∷ more)) (sym lowest.3) scaled)
  where
    go : 1 ≤ b → Ways a b v more → ((rest : ℕ) → 1 ≤ b → AreValues rest b more → Summing rest b more) → Summing a b (v ∷ more)
    go positive (inl (single, last)) next = (a, 0, omega arith, row_long a b v.recip v.dots positive single, subst (Summing 0 b) (sym last) refl)
    go positive (inr (none, plain, c, taken, rest)) next =
        let long : IsLongAs c b v.recip v.dots = subst (λ j. IsLongAs c b v.recip j) (sym plain) (plain_long c b v.recip positive taken.plain) in
        (c, a - c, omega (arith, taken.within), long, next (a - c) positive rest)

-- a value that is a/b long is a parts of 1/b of a whole note wide
long_width : (a b : ℕ) (v : Value) → IsLong a b v → IsWide b v × (width b v ≡ a)
long_width a b v h = (subst (λ x. value_grid v ∣ x) h.1 (dvd-mul_left (value_grid v) a), ap (λ x. x / value_grid v) (sym h.1) ∙ mul-div_cancel a h.0)

pub sums : (len whole : ℕ) (vs : List Value) → Summing len whole vs → SumTo len whole vs
sums len whole [] h = record { wide = λ k d lt. absurd (omega arith); sum = sym h }
sums len whole (v ∷ vs) (first, rest, e, long, more) =
    let wide = long_width first whole v long in
    let next = sums rest whole vs more in
    record {
      wide = All-cons (IsWide whole) v vs wide.0 next.wide;
      sum = sum-map (width whole) (v ∷ vs) ∙ sum_by-cons (width whole) v vs ∙ omega (arith, e, wide.1, next.sum, sum-map (width whole) vs);
    }

pub values_sum : (len whole : ℕ) (vs : List Value) → 1 ≤ whole → AreValues len whole vs → SumTo len whole vs
values_sum len whole vs some h = sums len whole vs (values_summing len whole vs some h)
