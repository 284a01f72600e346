-- Sums and products of fractions in lowest terms.
use Rattle.std.proofs.Common.{◌≡◌, ℕ, ◌+◌, ◌*◌, ◌/◌, ◌≤◌, ap₂, ◌∙◌, arith}
use Rattle.rhythm_base.specs.declared.span.Frac.{Frac}
use Rattle.durations.specs.Spans.{IsFrac}
use Rattle.durations.proofs.LowestTerms.{divided}
use Rattle.derivation.proofs.Fractions.{frac_one}
use Rattle.text_words.proofs.Divisors.{gcd_is}
use Rattle.text_words.specs.Divisors.{gcd}
use Rattle.voice_events.proofs.SameFractions.{frac_same}
use Rattle.lily_writer.specs.Fractions.{frac, frac_plus, frac_times}
use Rattle.durations.proofs.Wide.{some_product}
use Rattle.durations.proofs.FractionLemmas.{frac_of_lowest}

-- n / d is in lowest terms
pub frac_is : (n d : ℕ) → 1 ≤ d → IsFrac n d (frac n d)
frac_is n d some = frac_of_lowest n d (n / gcd n d) (d / gcd n d) some (divided n d (gcd n d) some (gcd_is n d))

-- a fraction in lowest terms is this one
pub is_frac : (n d : ℕ) (f : Frac) → 1 ≤ d → IsFrac n d f → f ≡ frac n d
is_frac n d f some is = frac_one n d f (frac n d) some is (frac_is n d some)

-- equal fractions
pub same_value : (a b c d : ℕ) → 1 ≤ b → 1 ≤ d → a * d ≡ c * b → frac a b ≡ frac c d
same_value a b c d some other e = is_frac c d (frac a b) other (frac_same a b c d (frac a b) some e (frac_is a b some))

-- of parts of one kind
plus_is : (a b d : ℕ) (f g : Frac) → 1 ≤ d → IsFrac a d f → IsFrac b d g → IsFrac (a + b) d (frac_plus f g)
plus_is a b d f g some first second =
    let whole = some_product f.den g.den first.some second.some in
    frac_same (f.num * g.den + g.num * f.den) (f.den * g.den) (a + b) d (frac_plus f g) whole
    (spread f.num g.den g.num f.den d ∙ ap₂ (λ x y. x * g.den + y * f.den) first.value second.value
    ∙ joined a f.den g.den b) (frac_is _ (f.den * g.den) whole)
  where
    spread : (a b c e d : ℕ) → (a * b + c * e) * d ≡ a * d * b + c * d * e
    spread a b c e d = grind arith

    joined : (a e g b : ℕ) → a * e * g + b * g * e ≡ (a + b) * (e * g)
    joined a e g b = grind arith

pub plus_parts : (a b d : ℕ) → 1 ≤ d → frac_plus (frac a d) (frac b d) ≡ frac (a + b) d
plus_parts a b d some = is_frac (a + b) d (frac_plus (frac a d) (frac b d)) some
    (plus_is a b d (frac a d) (frac b d) some (frac_is a d some) (frac_is b d some))

times_is : (a d b e : ℕ) (f g : Frac) → 1 ≤ d → 1 ≤ e → IsFrac a d f → IsFrac b e g → IsFrac (a * b) (d * e) (frac_times f g)
times_is a d b e f g some other first second =
    let whole = some_product f.den g.den first.some second.some in
    frac_same (f.num * g.num) (f.den * g.den) (a * b) (d * e) (frac_times f g) whole
    (turned f.num g.num d e ∙ ap₂ (λ x y. x * y) first.value second.value ∙ turned a f.den b g.den) (frac_is _ (f.den * g.den) whole)
  where
    turned : (a b c e : ℕ) → a * b * (c * e) ≡ a * c * (b * e)
    turned a b c e = grind arith

pub times_parts : (a d b e : ℕ) → 1 ≤ d → 1 ≤ e → frac_times (frac a d) (frac b e) ≡ frac (a * b) (d * e)
times_parts a d b e some other =
    is_frac (a * b) (d * e) (frac_times (frac a d) (frac b e)) (some_product d e some other)
    (times_is a d b e (frac a d) (frac b e) some other (frac_is a d some) (frac_is b e other))
