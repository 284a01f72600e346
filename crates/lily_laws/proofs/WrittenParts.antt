-- The power of two by which a part of a whole note is written, and its scale.
use Rattle.std.proofs.Common.{◌≡◌, ℕ, zero, suc, ◌*◌, ◌/◌, ◌≤◌, ◌==◌, Bool, true, false, ◌||◌, not, List, [], ◌∷◌, ◌++◌, Some, refl, sym, ap, ◌∙◌, subst, inl, inr, arith, append_assoc}
use Rattle.std.specs.Prelude.{codes, decimal, find, nat_le, unwrap_or, if◌then◌else◌, ◌⊎◌}
use Rattle.std.specs.Char.{is_ascii_digit}
use Rattle.std.specs.Fmt.{digits}
use Rattle.std.specs.List.{slice_split}
use Rattle.std.specs.Int.{IsGcd, ◌∣◌}
use Rattle.std.proofs.Math.Nat.{div-le_self, div-mul_cancel}
use Rattle.std.proofs.lemmas.Bool.Decides.{nat_tests}
use Rattle.rhythm_base.specs.Signatures.{is_den}
use Rattle.text_words.proofs.Divisors.{gcd_is}
use Rattle.text_words.specs.Divisors.{gcd}
use Rattle.text_words.specs.Numbers.{number_of}
use Rattle.text_words.proofs.TextNumbers.{number_back}
use Rattle.text_words.proofs.TextSplits.{split_first, split_last}
use Rattle.lily_writer.specs.Fractions.{frac}
use Rattle.lily_writer.specs.Values.{scale_of_part, written_part}
use Rattle.lily_writer.specs.Words.{base_of, ratio_of, scale_of}
use Rattle.lily_laws.proofs.Fractions.{same_value}
use Rattle.rhythm_base.proofs.Booleans.{or_true}
use Rattle.text_words.proofs.TextTests.{slash_free}

-- ---- powers of two up to 64

same : (n k : ℕ) → (n == k) ≡ true → k ≡ n
same n k e = grind (arith, nat_tests)

-- what holds of each of them holds of all
pub part_by : (P : ℕ → Type 0) → P 1 → P 2 → P 4 → P 8 → P 16 → P 32 → P 64 → (n : ℕ) → is_den n ≡ true → P n
part_by P a b c d e f g n h = go (or_true (n == 1) _ h)
  where
    six : (n == 32 ≡ true) ⊎ (n == 64 ≡ true) → P n
    six (inl h) = subst P (same n 32 h) f
    six (inr h) = subst P (same n 64 h) g

    five : (n == 16 ≡ true) ⊎ ((n == 32 || n == 64) ≡ true) → P n
    five (inl h) = subst P (same n 16 h) e
    five (inr h) = six (or_true (n == 32) _ h)

    four : (n == 8 ≡ true) ⊎ ((n == 16 || (n == 32 || n == 64)) ≡ true) → P n
    four (inl h) = subst P (same n 8 h) d
    four (inr h) = five (or_true (n == 16) _ h)

    three : (n == 4 ≡ true) ⊎ ((n == 8 || (n == 16 || (n == 32 || n == 64))) ≡ true) → P n
    three (inl h) = subst P (same n 4 h) c
    three (inr h) = four (or_true (n == 8) _ h)

    two : (n == 2 ≡ true) ⊎ ((n == 4 || (n == 8 || (n == 16 || (n == 32 || n == 64)))) ≡ true) → P n
    two (inl h) = subst P (same n 2 h) b
    two (inr h) = three (or_true (n == 4) _ h)

    go : (n == 1 ≡ true) ⊎ ((n == 2 || (n == 4 || (n == 8 || (n == 16 || (n == 32 || n == 64))))) ≡ true) → P n
    go (inl h) = subst P (same n 1 h) a
    go (inr h) = two (or_true (n == 2) _ h)

-- ---- the largest one that is at most n

abbrev IsPart : ℕ → ℕ → Type 0
IsPart n p = (is_den p ≡ true) × (p ≤ n)

find_part : (n p : ℕ) (ps : List ℕ) → is_den p ≡ true → IsPart n (unwrap_or (find (λ p. nat_le p n) ps) 1)
    → IsPart n (unwrap_or (find (λ p. nat_le p n) (p ∷ ps)) 1)
find_part n p ps den rest = go (nat_le p n) refl
  where
    go : (b : Bool) → nat_le p n ≡ b → IsPart n (unwrap_or (if b then Some p else find (λ p. nat_le p n) ps) 1)
    go true e = let le : p ≤ n = grind (arith, nat_tests) in (den, le)
    go false e = rest

pub part_is : (n : ℕ) → 1 ≤ n → (is_den (written_part n) ≡ true) × (written_part n ≤ n)
part_is n some =
    find_part n 64 (32 ∷ 16 ∷ 8 ∷ 4 ∷ 2 ∷ 1 ∷ []) refl
    (find_part n 32 (16 ∷ 8 ∷ 4 ∷ 2 ∷ 1 ∷ []) refl
    (find_part n 16 (8 ∷ 4 ∷ 2 ∷ 1 ∷ []) refl
    (find_part n 8 (4 ∷ 2 ∷ 1 ∷ []) refl (find_part n 4 (2 ∷ 1 ∷ []) refl
    (find_part n 2 (1 ∷ []) refl (find_part n 1 [] refl (refl, some)))))))

pub part_range : (p : ℕ) → is_den p ≡ true → (1 ≤ p) × (p ≤ 64)
part_range p den =
    part_by (λ p. (1 ≤ p) × (p ≤ 64)) (omega arith, omega arith) (omega arith, omega arith) (omega arith, omega arith)
    (omega arith, omega arith) (omega arith, omega arith)
    (omega arith, omega arith) (omega arith, omega arith) p den

-- it is read as such a part of a whole note
pub base_read : (p : ℕ) → is_den p ≡ true → base_of (decimal p) ≡ Some (frac 1 p)
unfolding base_of number_of digits
base_read p den = part_by (λ p. base_of (decimal p) ≡ Some (frac 1 p)) refl refl refl refl refl refl refl p den

-- ---- the scale: p of n parts

-- quotients by a common divisor are above 0
quotient_some : (n d : ℕ) → 1 ≤ n → d ∣ n → 1 ≤ n / d
quotient_some n d some divides = go (n / d) (div-mul_cancel d divides)
  where
    go : (q : ℕ) → q * d ≡ n → 1 ≤ q
    go zero e = absurd (omega (arith, e, some))
    go (suc q) e = omega arith

digit_no_slash : (b : ℕ) → is_ascii_digit b ≡ true → not (b == 47) ≡ true
digit_no_slash b h = let no : (b == 47) ≡ false = grind (arith, nat_tests) in rw no refl

ratio_read : (a b : ℕ) → 1 ≤ a → a ≤ 64 → 1 ≤ b → b ≤ 61440 → ratio_of (slice_split (λ b. b == 47) (decimal a ++ 47 ∷ decimal b))
    ≡ Some (frac a b)
ratio_read a b some few other most =
    ap ratio_of (split_first 47 (decimal a) (decimal b) (slash_free a)
    ∙ ap (λ pieces. decimal a ∷ pieces) (split_last 47 (decimal b) (slash_free b)))
    ∙ rw (number_back 64 a some few (omega arith), number_back 61440 b other most (omega arith)) refl

pub scale_read : (p n : ℕ) → 1 ≤ p → p ≤ 64 → 1 ≤ n → n ≤ 61440 → scale_of (scale_of_part p n) ≡ Some (frac p n)
unfolding scale_of
scale_read p n some few other most = go (p == n) refl
  where
    is : IsGcd p n (gcd p n)
    is = gcd_is p n

    ring : (a b g : ℕ) → a * (b * g) ≡ a * g * b
    ring a b g = grind arith

    -- p / g over n / g is p over n
    reduced : frac (p / gcd p n) (n / gcd p n) ≡ frac p n
    reduced =
        let first = div-mul_cancel (gcd p n) is.0 in
        let second = div-mul_cancel (gcd p n) is.1 in
        same_value (p / gcd p n) (n / gcd p n) p n (quotient_some n (gcd p n) other is.1) other
        (ap (λ x. p / gcd p n * x) (sym second) ∙ ring (p / gcd p n) (n / gcd p n) (gcd p n) ∙ ap (λ x. x * (n / gcd p n)) first)

    text : codes "*" ++ decimal (p / gcd p n) ++ codes "/" ++ decimal (n / gcd p n)
        ≡ 42 ∷ (decimal (p / gcd p n) ++ 47 ∷ decimal (n / gcd p n))
    text = ap (λ xs. 42 ∷ xs) (append_assoc (decimal (p / gcd p n)) (47 ∷ []) (decimal (n / gcd p n)))

    go : (b : Bool) → (p == n) ≡ b
        → scale_of (if b then [] else codes "*" ++ decimal (p / gcd p n) ++ codes "/" ++ decimal (n / gcd p n)) ≡ Some (frac p n)
    go true e =
        let whole : p ≡ n = grind (arith, nat_tests) in
        ap Some (same_value 1 1 p n (omega arith) other (omega (arith, whole)))
    go false e =
        let low = div-le_self p (gcd p n) in
        let high = div-le_self n (gcd p n) in
        ap scale_of text
        ∙ ratio_read (p / gcd p n) (n / gcd p n) (quotient_some p (gcd p n) some is.0) (omega (arith, low, few))
        (quotient_some n (gcd p n) other is.1) (omega (arith, high, most))
        ∙ ap Some reduced
