-- How long a written value is, and which lengths are one value. A length of a/b is a of b equal parts of a whole note.
use Rattle.std.specs.Prelude.{◌≡◌, ℕ, zero, suc, ◌-◌, ◌*◌, ◌/◌, ◌^◌}
use Rattle.std.specs.Int.{◌∣◌}
use Rattle.durations.specs.declared.value.Recip.{Recip}
use Rattle.durations.specs.declared.value.Recip.TheVariants.{Of, Breve, Long}
use Rattle.durations.specs.declared.value.Value.{Value}

-- ---- a value without dots is 1/n of a whole note, 2 whole notes or 4

abbrev pub plain_grid : Recip → ℕ
plain_grid (Of n) = n
plain_grid Breve = 1
plain_grid Long = 1

abbrev pub plain_parts : Recip → ℕ
plain_parts (Of n) = 1
plain_parts Breve = 2
plain_parts Long = 4

-- ---- each dot adds half of what was added before: with j dots the value is 2 - 1/2^j times as long

-- a value counts in equal parts of a whole note: the number of these parts in a whole note
abbrev pub value_grid : Value → ℕ
value_grid v = plain_grid v.recip * 2 ^ v.dots

-- and how many of these parts it is long
abbrev pub parts : Value → ℕ
parts v = plain_parts v.recip * (2 * 2 ^ v.dots - 1)

-- it is long a whole number of 1/whole of a whole note ..
abbrev pub IsWide : ℕ → Value → Type 0
IsWide whole v = value_grid v ∣ parts v * whole

-- .. and this is the number
abbrev pub width : ℕ → Value → ℕ
width whole v = parts v * whole / value_grid v

-- ---- the lengths that are one value: a/b in lowest terms, by the value and its number of dots

abbrev pub IsValueRow : ℕ → ℕ → Recip → ℕ → Type 0
IsValueRow a b (Of n) zero = (a ≡ 1) × (b ≡ n)
IsValueRow a b (Of n) (suc zero) = (a ≡ 3) × (b ≡ 2 * n)
IsValueRow a b (Of n) (suc (suc zero)) = (a ≡ 7) × (b ≡ 4 * n)
IsValueRow a b (Of n) (suc (suc (suc j))) = ⊥
IsValueRow a b Breve zero = (a ≡ 2) × (b ≡ 1)
IsValueRow a b Breve (suc zero) = (a ≡ 3) × (b ≡ 1)
IsValueRow a b Breve (suc (suc j)) = ⊥
IsValueRow a b Long zero = (a ≡ 4) × (b ≡ 1)
IsValueRow a b Long (suc j) = ⊥

abbrev pub IsSingle : ℕ → ℕ → Value → Type 0
IsSingle a b v = IsValueRow a b v.recip v.dots
