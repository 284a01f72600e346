-- The text of a value: a power of two, dots, and a scale where 1/n of a whole note is no such power.
use Rattle.std.specs.Prelude.{ℕ, ◌/◌, ◌==◌, nat_le, if◌then◌else◌, List, [], ◌∷◌, ◌++◌, codes, decimal, find, replicate, unwrap_or}
use Rattle.durations.specs.declared.value.Recip.{Recip}
use Rattle.durations.specs.declared.value.Recip.TheVariants.{Of, Breve, Long}
use Rattle.durations.specs.declared.value.Value.{Value}
use Rattle.text_words.specs.Divisors.{gcd}

-- 1/n of a whole note is written by the largest power of two that is at most n, up to 64
abbrev pub written_part : ℕ → ℕ
written_part n = unwrap_or (find (λ p. nat_le p n) (64 ∷ 32 ∷ 16 ∷ 8 ∷ 4 ∷ 2 ∷ 1 ∷ [])) 1

abbrev pub base_text : Recip → List ℕ
base_text (Of n) = decimal (written_part n)
base_text Breve = codes "\\breve"
base_text Long = codes "\\longa"

-- 1/n is p/n of 1/p: the scale is p/n in lowest terms
abbrev pub scale_of_part : ℕ → ℕ → List ℕ
scale_of_part p n = if p == n then [] else codes "*" ++ decimal (p / gcd p n) ++ codes "/" ++ decimal (n / gcd p n)

abbrev pub scale_text : Recip → List ℕ
scale_text (Of n) = scale_of_part (written_part n) n
scale_text Breve = []
scale_text Long = []

-- dots stand before the scale
abbrev pub lily_value : Value → List ℕ
lily_value v = base_text v.recip ++ replicate v.dots 46 ++ scale_text v.recip
