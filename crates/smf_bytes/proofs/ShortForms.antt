-- The forms of quantities.
use Rattle.std.proofs.lemmas.Bool.{cases_lt}
use Rattle.std.proofs.Common.{inl, inr, ◌≡◌, ℕ, ◌+◌, ◌/◌, ◌%◌, ◌<◌, ◌≤◌, Bool, true, false, if◌then◌else◌, List, [], ◌∷◌, length, arith}
use Rattle.std.specs.Prelude.{nat_lt}
use Rattle.std.proofs.lemmas.Bool.Decides.{nat_tests}
use Rattle.smf_bytes.specs.Quantity.{IsShortest, quantity_bytes, said_after}

pub one_byte : (n : ℕ) → n < 128 → quantity_bytes n ≡ (n % 128) ∷ []
one_byte n high = grind (arith, nat_tests)

pub two_bytes : (n : ℕ) → 128 ≤ n → n < 16384 → quantity_bytes n ≡ (128 + (n / 128) % 128) ∷ (n % 128) ∷ []
two_bytes n low high = grind (arith, nat_tests)

pub three_bytes : (n : ℕ) → 16384 ≤ n → n < 2097152 → quantity_bytes n ≡ (128 + (n / 16384) % 128) ∷ (128 + (n / 128) % 128) ∷ (n % 128) ∷ []
three_bytes n low high = grind (arith, nat_tests)

pub four_bytes : (n : ℕ) → 2097152 ≤ n → quantity_bytes n ≡ (128 + (n / 2097152) % 128) ∷ (128 + (n / 16384) % 128) ∷ (128 + (n / 128) % 128) ∷ (n % 128) ∷ []
four_bytes n low = grind (arith, nat_tests)

either_short : (b : Bool) (xs ys : List ℕ) → length xs ≤ 4 → length ys ≤ 4 → length (if b then xs else ys) ≤ 4
either_short true xs ys first second = first
either_short false xs ys first second = second

-- four bytes at most
pub quantity_short : (n : ℕ) → length (quantity_bytes n) ≤ 4
quantity_short n =
    let one : List ℕ = (n % 128) ∷ [] in
    let two : List ℕ = (128 + (n / 128) % 128) ∷ (n % 128) ∷ [] in
    let three : List ℕ = (128 + (n / 16384) % 128) ∷ (128 + (n / 128) % 128) ∷ (n % 128) ∷ [] in
    let four : List ℕ = (128 + (n / 2097152) % 128) ∷ (128 + (n / 16384) % 128) ∷ (128 + (n / 128) % 128) ∷ (n % 128) ∷ [] in
    let after : List ℕ = if nat_lt n 2097152 then three else four in
    either_short (nat_lt n 128) one (if nat_lt n 16384 then two else after) (omega arith)
    (either_short (nat_lt n 16384) two after (omega arith) (either_short (nat_lt n 2097152) three four (omega arith) (omega arith)))

-- ---- no fewer bytes say the number

less_two : (n : ℕ) (bytes : List ℕ) → 128 ≤ n → 1 ≤ length bytes → said_after 0 bytes ≡ n → 2 ≤ length bytes
less_two n [] low some e = absurd (omega arith)
less_two n (b ∷ []) low some e = absurd (omega arith)
less_two n (b ∷ c ∷ bs) low some e = omega arith

less_three : (n : ℕ) (bytes : List ℕ) → 16384 ≤ n → 1 ≤ length bytes → said_after 0 bytes ≡ n → 3 ≤ length bytes
less_three n [] low some e = absurd (omega arith)
less_three n (b ∷ []) low some e = absurd (omega arith)
less_three n (b ∷ c ∷ []) low some e = absurd (omega arith)
less_three n (b ∷ c ∷ d ∷ bs) low some e = omega arith

less_four : (n : ℕ) (bytes : List ℕ) → 2097152 ≤ n → 1 ≤ length bytes → said_after 0 bytes ≡ n → 4 ≤ length bytes
less_four n [] low some e = absurd (omega arith)
less_four n (b ∷ []) low some e = absurd (omega arith)
less_four n (b ∷ c ∷ []) low some e = absurd (omega arith)
less_four n (b ∷ c ∷ d ∷ []) low some e = absurd (omega arith)
less_four n (b ∷ c ∷ d ∷ f ∷ bs) low some e = omega arith

one_shortest : (n : ℕ) → n < 128 → IsShortest n
one_shortest n high = record {
  says = rw (one_byte n high) (omega arith);
  shortest = λ bytes some e. rw (one_byte n high) some;
}

two_shortest : (n : ℕ) → 128 ≤ n → n < 16384 → IsShortest n
two_shortest n low high = record {
  says = rw (two_bytes n low high) (omega arith);
  shortest = λ bytes some e. rw (two_bytes n low high) (less_two n bytes low some e);
}

three_shortest : (n : ℕ) → 16384 ≤ n → n < 2097152 → IsShortest n
three_shortest n low high = record {
  says = rw (three_bytes n low high) (omega arith);
  shortest = λ bytes some e. rw (three_bytes n low high) (less_three n bytes low some e);
}

four_shortest : (n : ℕ) → 2097152 ≤ n → n < 268435456 → IsShortest n
four_shortest n low high = record {
  says = rw (four_bytes n low) (omega arith);
  shortest = λ bytes some e. rw (four_bytes n low) (less_four n bytes low some e);
}

pub quantity-shortest : (n : ℕ) → n < 268435456 → IsShortest n
quantity-shortest n high = elim (cases_lt n 128) [
  | inl one ↦ one_shortest n one
  | inr more ↦ (elim (cases_lt n 16384) [
    | inl two ↦ two_shortest n more two
    | inr further ↦ (elim (cases_lt n 2097152) [
      | inl three ↦ three_shortest n further three
      | inr last ↦ four_shortest n last high
    ])
  ])
]
