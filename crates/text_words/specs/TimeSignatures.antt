-- Time signatures as texts write them.
use Rattle.std.specs.Prelude.{ℕ, if◌then◌else◌, List, [], ◌∷◌, Option, Some, None}
use Rattle.rhythm_base.specs.Signatures.{is_den}
use Rattle.text_words.specs.Numbers.{number_of}
use Rattle.text_words.specs.Steps.{◌>>=◌}
use Rattle.text_words.specs.declared.time_signature.TimeSignature.{TimeSignature}

abbrev pub signature_of_parts : ℕ → ℕ → Option TimeSignature
signature_of_parts num den = if is_den den then Some (record { num = num; den = den }) else None

-- 1 to 64 over a power of two up to 64
abbrev pub signature_of_numbers : List (List ℕ) → Option TimeSignature
signature_of_numbers (first ∷ second ∷ []) = do
  num ← number_of 64 first
  den ← number_of 64 second
  signature_of_parts num den
signature_of_numbers _ = None
