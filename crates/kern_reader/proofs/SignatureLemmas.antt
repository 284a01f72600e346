-- Signatures.
use Rattle.std.proofs.Common.{◌≡◌, ℕ, ◌<◌, List, [], ◌∷◌, length, drop, Option, Some, None, refl, sym, ap, ◌∙◌, arith}
use Rattle.std.specs.List.{slice_split}
use Rattle.std.specs.Prelude.{◌==◌, ◌+◌, count_by}
use Rattle.std.proofs.lemmas.List.Splits.{length-slice_split}
use Rattle.text_words.specs.declared.time_signature.TimeSignature.{TimeSignature}
use Rattle.kern_reader.specs.Lines.{signature_of}
use Rattle.text_words.specs.TimeSignatures.{signature_of_numbers}
use Rattle.kern_reader.specs.Text.{pieces_in}

-- a second slash
pub too_many_numbers : (first second text third : List ℕ) → slice_split (λ b. b == 47) text ≡ second ∷ pieces_in 47 (Some third)
    → None ≡ signature_of_numbers (first ∷ pieces_in 47 (Some text))
too_many_numbers first second text third pieces = rw pieces (at (slice_split (λ b. b == 47) third) (length-slice_split (λ b. b == 47) third))
  where
    at : (pieces : List (List ℕ)) → length pieces ≡ count_by (λ b. b == 47) third + 1 → None ≡ signature_of_numbers (first ∷ second ∷ pieces)
    at [] n = absurd (omega arith)
    at (piece ∷ pieces) n = refl

-- a word of less than two bytes
pub short_word : (word : List ℕ) → length word < 2 → None ≡ signature_of word
unfolding signature_of
short_word [] short = refl
short_word (b ∷ []) short = refl
short_word (b ∷ d ∷ bs) short = absurd (omega arith)

pub from_pieces : (word text first : List ℕ) (rest : List (List ℕ)) (r : Option TimeSignature) → text ≡ drop 2 word
    → slice_split (λ b. b == 47) text ≡ first ∷ rest → r ≡ signature_of_numbers (first ∷ rest) → r ≡ signature_of word
unfolding signature_of
from_pieces word text first rest r is pieces found = found ∙ ap signature_of_numbers (sym pieces) ∙ ap (λ t. signature_of_numbers (slice_split (λ b. b == 47) t)) is
