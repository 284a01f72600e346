-- Lines of words.
use Rattle.std.specs.Prelude.{ℕ, List, ◌++◌, codes, decimal}
use Rattle.std.specs.Fmt.{signed_decimal}
use Rattle.std.specs.List.{join_with_byte}
use Rattle.notes_writer.specs.declared.line.Word.{Word}
use Rattle.notes_writer.specs.declared.line.Word.TheVariants.{Number, Sharps, Signature}

-- words with a space between two, and a newline after the last
abbrev pub words_line : List (List ℕ) → List ℕ
words_line words = join_with_byte 32 words ++ codes "\n"

-- beats, and the value of a beat as the part of a whole note
abbrev pub record_signature : ℕ → ℕ → List ℕ
record_signature num den = decimal num ++ codes "/" ++ decimal den

abbrev pub record_word : Word → List ℕ
record_word (Number n) = decimal n
record_word (Sharps sf) = signed_decimal sf
record_word (Signature num den) = record_signature num den
