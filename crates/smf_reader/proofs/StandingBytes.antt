-- Bytes at places of a file: what stands from a place on is read there.
use Rattle.std.proofs.Common.{◌≡◌, ℕ, zero, suc, ◌+◌, ◌<◌, ◌≤◌, true, false, List, [], ◌∷◌, ◌++◌, length, take, drop, sym, ap, ◌∙◌, refl, arith, Some, Ok}
use Rattle.std.specs.Prelude.{nat_lt}
use Rattle.std.specs.List.{slice_get}
use Rattle.std.proofs.lemmas.Bool.Decides.{nat_tests}
use Rattle.std.proofs.lemmas.List.{drop-drop, length-drop}
use Rattle.std.proofs.Math.Seq.{drop-append_seam, take-append_seam}
use Rattle.smf_reader.specs.Bytes.{byte, content, data_byte}
use Rattle.smf_reader.specs.Quantity.{last_place, quantity, seven_bits}

-- the byte at a place
first_get : (bytes : List ℕ) (p b : ℕ) (rest : List ℕ) → drop p bytes ≡ b ∷ rest → slice_get bytes p ≡ Some b
first_get [] zero b rest at = absurd (cc)
first_get [] (suc p) b rest at = absurd (cc)
first_get (x ∷ bytes) zero b rest at = cc
first_get (x ∷ bytes) (suc p) b rest at = first_get bytes p b rest at

pub byte_read : (bytes : List ℕ) (p b : ℕ) (rest : List ℕ) → drop p bytes ≡ b ∷ rest → byte bytes p ≡ Ok b
byte_read bytes p b rest at = rw (first_get bytes p b rest at) refl

-- and how many there are
pub bytes_are_at : (bytes : List ℕ) (p b : ℕ) (rest : List ℕ) → drop p bytes ≡ b ∷ rest → length bytes ≡ p + 1 + length rest
bytes_are_at bytes p b rest at = omega (arith, length-drop p bytes, ap length at)

-- the bytes after those that were read
pub stands_after : (bytes : List ℕ) (p : ℕ) (read rest : List ℕ) → drop p bytes ≡ read ++ rest → drop (p + length read) bytes ≡ rest
stands_after bytes p read rest at = sym (drop-drop (length read) p bytes) ∙ ap (drop (length read)) at ∙ drop-append_seam read rest

pub stands_after_one : (bytes : List ℕ) (p b : ℕ) (rest : List ℕ) → drop p bytes ≡ b ∷ rest → drop (p + 1) bytes ≡ rest
stands_after_one bytes p b rest at = stands_after bytes p (b ∷ []) rest at

pub data_read : (bytes : List ℕ) (p b : ℕ) (rest : List ℕ) → b < 128 → drop p bytes ≡ b ∷ rest → data_byte bytes p ≡ Ok b
unfolding data_byte
data_read bytes p b rest low at =
    let t : nat_lt b 128 ≡ true = grind (arith, nat_tests) in
    rw (first_get bytes p b rest at, t) refl

pub content_read : (bytes : List ℕ) (p : ℕ) (said rest : List ℕ) → p + length said ≤ length bytes → drop p bytes ≡ said ++ rest → content bytes p (length said) ≡ Ok said
content_read bytes p said rest room at =
    let t : nat_lt (length bytes) (p + length said) ≡ false = grind (arith, nat_tests) in
    rw (t, at, take-append_seam said rest) refl

-- ---- quantities

-- a quantity, by the place of its last byte
pub quantity_at : (bytes : List ℕ) (p : ℕ) (front : List ℕ) (k n : ℕ) → drop p bytes ≡ front → last_place front ≡ Some k → seven_bits (take (k + 1) front) ≡ n → quantity bytes p ≡ Ok (n, p + k + 1)
unfolding quantity
quantity_at bytes p front k n at last said = rw (at, last, said) refl

-- a quantity of one byte
pub short_read : (bytes : List ℕ) (p n : ℕ) (rest : List ℕ) → n < 128 → drop p bytes ≡ n ∷ rest → quantity bytes p ≡ Ok (n, p + 1)
short_read bytes p n rest short at =
    let place : p + 0 + 1 ≡ p + 1 = omega arith in
    quantity_at bytes p (n ∷ rest) 0 n at (last n rest short) (omega arith) ∙ ap (λ (q : ℕ). Ok (n, q)) place
  where
    last : (n : ℕ) (rest : List ℕ) → n < 128 → last_place (n ∷ rest) ≡ Some 0
    last n rest short = let t : nat_lt n 128 ≡ true = grind (arith, nat_tests) in rw t (grind (arith, nat_tests))
