-- A fraction in lowest terms is counted in parts.
use Rattle.std.proofs.Common.{◌≡◌, ℕ, zero, suc, ◌*◌, ◌/◌, ◌≤◌, sym, ap, ◌∙◌, subst, arith}
use Rattle.std.specs.Int.{◌∣◌}
use Rattle.std.proofs.Math.Nat.{div-mul_cancel, dvd-mul_right, eq_of_mul-eq-mul_right}
use Rattle.std.proofs.lemmas.Nat.Gcd.{dvd-zero}
use Rattle.rhythm_base.specs.declared.span.Frac.{Frac}
use Rattle.durations.specs.Spans.{IsFrac}
use Rattle.durations.proofs.ValuesExist.{lowest_exist}
use Rattle.derivation.proofs.Fractions.{frac_one}
use Rattle.voice_events.specs.Laws.{PartsAreCounted}
use Rattle.voice_events.specs.Parts.{IsWhole, frac_parts}
use Rattle.durations.proofs.FractionLemmas.{frac_of_lowest}

divides : (n d : ℕ) (f : Frac) → 1 ≤ d → IsFrac n d f → f.den ∣ d
divides n d f some is =
    let (a, b, lowest) = lowest_exist n d some in
    let same : record { num = a; den = b } ≡ f = frac_one n d (record { num = a; den = b }) f some (frac_of_lowest n d a b some lowest) is in
    subst (λ (x : Frac). x.den ∣ d) same (subst (λ x. b ∣ x) (sym lowest.3) (dvd-mul_right b lowest.0))

-- its denominator divides d
pub den_divides : (n d : ℕ) (f : Frac) → IsFrac n d f → f.den ∣ d
den_divides n zero f is = dvd-zero f.den
den_divides n (suc d) f is = divides n (suc d) f (omega arith) is

-- and it is n parts
pub parts_counted : (n d : ℕ) (f : Frac) → IsFrac n d f → frac_parts d f ≡ n
parts_counted n d f is =
    let whole : d / f.den * f.den ≡ d = div-mul_cancel f.den (den_divides n d f is) in
    eq_of_mul-eq-mul_right f.den is.some (f.num * (d / f.den)) n (turned f.num (d / f.den) f.den ∙ ap (λ x. f.num * x) whole ∙ is.value)
  where
    turned : (a b c : ℕ) → a * b * c ≡ a * (b * c)
    turned a b c = grind arith

pub counted : PartsAreCounted
counted n d f is = (den_divides n d f is, parts_counted n d f is)

pub is_whole : (n d : ℕ) (f : Frac) → IsFrac n d f → IsWhole d f
is_whole n d f is = subst (λ k. IsFrac k d f) (sym (parts_counted n d f is)) is
