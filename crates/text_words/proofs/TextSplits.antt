-- Texts that are joined, and cut again where they were joined.
use Rattle.std.proofs.Common.{◌≡◌, ℕ, ◌==◌, Bool, true, false, not, List, [], ◌∷◌, ◌++◌, refl, sym, ap, ◌∙◌, arith}
use Rattle.std.specs.List.{join_with_byte, list_all, onto_first, slice_split}
use Rattle.std.proofs.lemmas.Bool.{and_parts}
use Rattle.std.proofs.lemmas.Bool.Decides.{nat_tests}
use Rattle.std.proofs.lemmas.List.Splits.{slice_split-cons_no, slice_split-cons_yes}
use Rattle.text_words.proofs.TextTests.{lacks}

pub false_of_not : (b : Bool) → not b ≡ true → b ≡ false
false_of_not true e = sym e
false_of_not false e = refl

same_byte : (byte : ℕ) → (byte == byte) ≡ true
same_byte byte = grind (arith, nat_tests)

-- a text without the byte is cut at the first one after it
pub split_first : (byte : ℕ) (text more : List ℕ) → lacks byte text ≡ true
    → slice_split (λ b. b == byte) (text ++ byte ∷ more) ≡ text ∷ slice_split (λ b. b == byte) more
split_first byte [] more h = slice_split-cons_yes (λ b. b == byte) byte more (same_byte byte)
split_first byte (b ∷ text) more h =
    let parts = and_parts (not (b == byte)) (lacks byte text) h in
    slice_split-cons_no (λ b. b == byte) b (text ++ byte ∷ more) (false_of_not (b == byte) parts.0) ∙ ap (onto_first b)
    (split_first byte text more parts.1)

pub split_last : (byte : ℕ) (text : List ℕ) → lacks byte text ≡ true → slice_split (λ b. b == byte) text ≡ text ∷ []
split_last byte [] h = refl
split_last byte (b ∷ text) h =
    let parts = and_parts (not (b == byte)) (lacks byte text) h in
    slice_split-cons_no (λ b. b == byte) b text (false_of_not (b == byte) parts.0) ∙ ap (onto_first b) (split_last byte text parts.1)

pub split_joined : (byte : ℕ) (first : List ℕ) (rest : List (List ℕ)) → list_all (lacks byte) (first ∷ rest) ≡ true
    → slice_split (λ b. b == byte) (join_with_byte byte (first ∷ rest)) ≡ first ∷ rest
split_joined byte first [] h = split_last byte first (and_parts (lacks byte first) true h).0
split_joined byte first (next ∷ rest) h =
    let parts = and_parts (lacks byte first) (list_all (lacks byte) (next ∷ rest)) h in
    split_first byte first (join_with_byte byte (next ∷ rest)) parts.0 ∙ ap (λ pieces. first ∷ pieces) (split_joined byte next rest parts.1)
