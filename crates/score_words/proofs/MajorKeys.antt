-- The name of a major key is its letter, and `es` or `is` where it is a black key.
use Rattle.std.proofs.Common.{◌≡◌, ℕ, ◌<◌, Bool, true, false, List, [], ◌∷◌, ◌++◌, append_assoc, refl, sym, ap, ◌∙◌, arith}
use Rattle.std.specs.Prelude.{◌≤◌, codes, if◌then◌else◌, nat_lt, slice_index, slice_index_or}
use Rattle.std.specs.Str.{bytes_eq}
use Rattle.std.proofs.lemmas.Bool.Decides.{nat_tests}
use Rattle.std.proofs.lemmas.List.{append-nil}
use Rattle.std.proofs.lemmas.Slice.Eq.{bytes_eq-Decides}
use Rattle.rhythm_base.proofs.NumbersBelow.{one_below, all_below}
use Rattle.score_words.specs.LilyChanges.{key_names}

abbrev fifth_letter : ℕ → List ℕ
fifth_letter n = slice_index (codes "cgdaebfcgdaebfc") n ∷ []

abbrev is_fifth : List ℕ → ℕ → Bool
is_fifth suffix n = bytes_eq (fifth_letter n ++ suffix) (slice_index_or key_names n [])

-- of so many flats, then of no black key, then of so many sharps
abbrev are_fifths : ℕ → Bool
are_fifths n = is_fifth (if nat_lt n 6 then codes "es" else if nat_lt 12 n then codes "is" else []) n

all_fifths : all_below are_fifths 15 ≡ true
all_fifths = refl

fifth_is : (n : ℕ) → n < 15 → fifth_letter n ++ (if nat_lt n 6 then codes "es" else if nat_lt 12 n then codes "is" else
    []) ≡ slice_index_or key_names n []
fifth_is n within = (bytes_eq-Decides (fifth_letter n ++ (if nat_lt n 6 then codes "es" else if nat_lt 12 n then codes "is" else []))
    (slice_index_or key_names n [])).0 (one_below are_fifths 15 n all_fifths within)

pub flat_key : (n : ℕ) (text : List ℕ) → n < 6 → (text ++ fifth_letter n) ++ codes "es" ≡ text ++ slice_index_or key_names n []
flat_key n text few =
    let test : nat_lt n 6 ≡ true = grind (arith, nat_tests) in
    append_assoc text (fifth_letter n) (codes "es") ∙ ap (λ b. text ++ (fifth_letter n ++ (if b then codes "es" else if nat_lt 12 n then
    codes "is" else []))) (sym test)
    ∙ ap (λ t. text ++ t) (fifth_is n (omega (arith, few)))

pub sharp_key : (n : ℕ) (text : List ℕ) → 12 < n → n < 15 → (text ++ fifth_letter n) ++ codes "is" ≡ text ++ slice_index_or key_names n []
sharp_key n text some few =
    let first : nat_lt n 6 ≡ false = grind (arith, nat_tests) in
    let test : nat_lt 12 n ≡ true = grind (arith, nat_tests) in
    append_assoc text (fifth_letter n) (codes "is")
    ∙ ap (λ b. text ++ (fifth_letter n ++ (if b then codes "is" else []))) (sym test)
    ∙ ap (λ b. text ++ (fifth_letter n ++ (if b then codes "es" else if nat_lt 12 n then codes "is" else []))) (sym first)
    ∙ ap (λ t. text ++ t) (fifth_is n few)

pub plain_key : (n : ℕ) (text : List ℕ) → 6 ≤ n → n ≤ 12 → text ++ fifth_letter n ≡ text ++ slice_index_or key_names n []
plain_key n text some few =
    let first : nat_lt n 6 ≡ false = grind (arith, nat_tests) in
    let test : nat_lt 12 n ≡ false = grind (arith, nat_tests) in
    ap (λ t. text ++ t) (
    sym (append-nil (fifth_letter n))
    ∙ ap (λ b. fifth_letter n ++ (if b then codes "is" else [])) (sym test)
    ∙ ap (λ b. fifth_letter n ++ (if b then codes "es" else if nat_lt 12 n then codes "is" else [])) (sym first)
    ∙ fifth_is n (omega (arith, few))
    )
