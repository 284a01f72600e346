-- Quantities are read back as their numbers.
use Rattle.std.proofs.Common.{◌≡◌, ℕ, ◌+◌, ◌≤◌, ◌/◌, ◌%◌, true, false, List, [], ◌∷◌, ◌++◌, length, take, drop, ap, ◌∙◌, refl, inl, inr, arith, Some, Ok}
use Rattle.std.specs.Prelude.{nat_lt}
use Rattle.std.proofs.lemmas.Bool.{cases_lt}
use Rattle.std.proofs.lemmas.Bool.Decides.{nat_tests}
use Rattle.smf_bytes.specs.Quantity.{quantity_bytes}
use Rattle.smf_bytes.specs.declared.quantity.TheConstants.{GREATEST_QUANTITY}
use Rattle.smf_bytes.proofs.ShortForms.{four_bytes, one_byte, three_bytes, two_bytes}
use Rattle.smf_reader.specs.Quantity.{last_place, quantity, seven_bits}
use Rattle.smf_reader.proofs.StandingBytes.{quantity_at}

high : (m : ℕ) → nat_lt (128 + m % 128) 128 ≡ false
high m = grind (arith, nat_tests)

low : (m : ℕ) → nat_lt (m % 128) 128 ≡ true
low m = grind (arith, nat_tests)

one_last : (n : ℕ) (rest : List ℕ) → last_place ((n % 128) ∷ rest) ≡ Some 0
one_last n rest = rw (low n) (grind (arith, nat_tests))

two_last : (m n : ℕ) (rest : List ℕ) → last_place ((128 + m % 128) ∷ (n % 128) ∷ rest) ≡ Some 1
two_last m n rest = rw (high m, low n) (grind (arith, nat_tests))

three_last : (l m n : ℕ) (rest : List ℕ) → last_place ((128 + l % 128) ∷ (128 + m % 128) ∷ (n % 128) ∷ rest) ≡ Some 2
three_last l m n rest = rw (high l, high m, low n) (grind (arith, nat_tests))

four_last : (k l m n : ℕ) (rest : List ℕ) → last_place ((128 + k % 128) ∷ (128 + l % 128) ∷ (128 + m % 128) ∷ (n % 128) ∷ rest) ≡ Some 3
four_last k l m n rest = rw (high k, high l, high m, low n) refl

in_form : (bytes : List ℕ) (p n k : ℕ) (form rest : List ℕ) → quantity_bytes n ≡ form → drop p bytes ≡ quantity_bytes n ++ rest → length form ≡ k + 1 → last_place (form ++ rest) ≡ Some k → seven_bits (take (k + 1) (form ++ rest)) ≡ n
    → quantity bytes p ≡ Ok (n, p + length (quantity_bytes n))
in_form bytes p n k form rest e at long last said =
    let place : p + k + 1 ≡ p + length (quantity_bytes n) = omega (arith, ap length e) in
    quantity_at bytes p (form ++ rest) k n (at ∙ ap (λ (xs : List ℕ). xs ++ rest) e) last said ∙ ap (λ (q : ℕ). Ok (n, q)) place

-- a quantity is read as its number
pub quantity_read : (bytes : List ℕ) (p n : ℕ) (rest : List ℕ) → n ≤ GREATEST_QUANTITY → drop p bytes ≡ quantity_bytes n ++ rest → quantity bytes p ≡ Ok (n, p + length (quantity_bytes n))
quantity_read bytes p n rest few at = elim (cases_lt n 128) [
  | inl one ↦ in_form bytes p n 0 ((n % 128) ∷ []) rest (one_byte n one) at refl (one_last n rest) (omega arith)
  | inr more ↦ (elim (cases_lt n 16384) [
    | inl two ↦ in_form bytes p n 1 ((128 + (n / 128) % 128) ∷ (n % 128) ∷ []) rest (two_bytes n more two) at refl (two_last (n / 128) n rest) (omega arith)
    | inr further ↦ (elim (cases_lt n 2097152) [
      | inl three ↦ in_form bytes p n 2 ((128 + (n / 16384) % 128) ∷ (128 + (n / 128) % 128) ∷ (n % 128) ∷ []) rest (three_bytes n further three) at refl (three_last (n / 16384) (n / 128) n rest) (omega arith)
      | inr last ↦ in_form bytes p n 3 ((128 + (n / 2097152) % 128) ∷ (128 + (n / 16384) % 128) ∷ (128 + (n / 128) % 128) ∷ (n % 128) ∷ []) rest (four_bytes n last) at refl (four_last (n / 2097152) (n / 16384) (n / 128) n rest) (omega arith)
    ])
  ])
]
