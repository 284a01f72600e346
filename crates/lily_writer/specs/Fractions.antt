-- Numbers of whole notes, in lowest terms.
use Rattle.std.specs.Prelude.{ℕ, ◌+◌, ◌*◌, ◌/◌, ◌==◌, ◌&&◌, Bool}
use Rattle.rhythm_base.specs.declared.span.Frac.{Frac}
use Rattle.text_words.specs.Divisors.{gcd}

abbrev pub frac : ℕ → ℕ → Frac
frac n d = record { num = n / gcd n d; den = d / gcd n d }

abbrev pub nothing : Frac
nothing = record { num = 0; den = 1 }

abbrev pub frac_plus : Frac → Frac → Frac
frac_plus f g = frac (f.num * g.den + g.num * f.den) (f.den * g.den)

abbrev pub frac_times : Frac → Frac → Frac
frac_times f g = frac (f.num * g.num) (f.den * g.den)

abbrev pub same_frac : Frac → Frac → Bool
same_frac f g = (f.num == g.num) && (f.den == g.den)
