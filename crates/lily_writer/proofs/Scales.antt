-- The scale of a part of a whole note.
use Rattle.std.proofs.Common.{◌≡◌, ℕ, ◌/◌, ◌==◌, ◌≤◌, ◌++◌, false, List, [], append_assoc, sym, ap, ◌∙◌, arith}
use Rattle.std.specs.Prelude.{codes, decimal, if◌then◌else◌}
use Rattle.std.proofs.Math.Nat.{mul-div_left, pos_of_dvd_of_pos}
use Rattle.std.proofs.lemmas.Bool.Decides.{nat_tests}
use Rattle.std.proofs.lemmas.Nat.Gcd.{same_from_IsGcd}
use Rattle.durations.specs.Values.{IsLowest}
use Rattle.text_words.specs.Divisors.{gcd}
use Rattle.text_words.proofs.Divisors.{gcd_is}
use Rattle.lily_writer.specs.Values.{scale_of_part}

-- what is left of two numbers by their greatest common divisor
pub lowest_is : (p n a b : ℕ) → 1 ≤ n → IsLowest p n a b → (a ≡ p / gcd p n) × (b ≡ n / gcd p n)
lowest_is p n a b some (g, is, first, second) =
    let same : gcd p n ≡ g = same_from_IsGcd p n (gcd p n) g (gcd_is p n) is in
    let some_g : 1 ≤ g = pos_of_dvd_of_pos is.1 some in (
      sym (ap (λ d. p / d) same ∙ ap (λ x. x / g) first ∙ mul-div_left a some_g),
      sym
          (ap (λ d. n / d) same ∙ ap (λ x. x / g) second ∙ mul-div_left b some_g),
    )

pub scale_is : (p n a b : ℕ) → 1 ≤ n → (p ≡ n → ⊥) → IsLowest p n a b → codes "*" ++ decimal a ++ codes "/" ++ decimal b ≡ scale_of_part p n
scale_is p n a b some apart lowest =
    let differs : (p == n) ≡ false = grind (arith, nat_tests) in
    let (first, second) = lowest_is p n a b some lowest in
    ap (λ x. codes "*" ++ decimal x ++ codes "/" ++ decimal b) first ∙ ap
    (λ x. codes "*" ++ decimal (p / gcd p n) ++ codes "/" ++ decimal x) second
    ∙ ap (λ t. if t then [] else codes "*" ++ decimal (p / gcd p n) ++ codes "/" ++ decimal (n / gcd p n)) (sym differs)

-- after a text
pub scale_after : (p n a b : ℕ) (text first second third last : List ℕ) → 1 ≤ n → (p ≡ n → ⊥) → IsLowest p n a b
    → first ≡ text ++ codes "*" → second ≡ first ++ decimal a → third ≡ second ++ codes "/" → last ≡ third ++ decimal b
    → last ≡ text ++ scale_of_part p n
scale_after p n a b text first second third last some apart lowest one two three four =
    let all : last ≡ text ++ (codes "*" ++ decimal a ++ codes "/" ++ decimal b) = grind (arith, append_assoc) in
    all ∙ ap (λ t. text ++ t) (scale_is p n a b some apart lowest)
