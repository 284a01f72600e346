-- Words that are joined by spaces are the words of the line.
use Rattle.std.proofs.Common.{◌≡◌, ℕ, ◌==◌, List, [], ◌∷◌, ◌++◌, append-nil, append_assoc, ap, ◌∙◌, decimal, refl, sym}
use Rattle.std.proofs.lemmas.Grind.{flat_map-append}
use Rattle.std.specs.List.{All, join_with_byte}
use Rattle.std.proofs.lemmas.List.Elements.{All-head, All-tail}
use Rattle.std.proofs.lemmas.List.Splits.{slice_split_at, slice_split_none}
use Rattle.edit_script.specs.ScriptLines.{script_words, words_of}
use Rattle.script_writer.specs.EditText.{named_numbers, spaced_numbers}
use Rattle.script_writer.proofs.PrintedBytes.{IsGraphic, IsPrinting, no_space, nothing_trimmed}

-- the first word, and the words of the text after its space
pub first_word : (word text : List ℕ) → IsGraphic word → words_of (word ++ 32 ∷ text) ≡ word ∷ words_of text
first_word word text graphic = slice_split_at (λ b. b == 32) word 32 text (no_space word graphic) refl

pub joined_words : (word : List ℕ) (words : List (List ℕ)) → All IsGraphic (word ∷ words)
    → words_of (join_with_byte 32 (word ∷ words)) ≡ word ∷ words
joined_words word [] all = slice_split_none (λ b. b == 32) word (no_space word (All-head IsGraphic word [] all))
joined_words word (next ∷ words) all =
    first_word word (join_with_byte 32 (next ∷ words)) (All-head IsGraphic word (next ∷ words) all)
    ∙ ap (λ ws. word ∷ ws) (joined_words next words (All-tail IsGraphic word (next ∷ words) all))

-- the words of a line without a carriage return at its end
pub words_of_line : (line : List ℕ) (words : List (List ℕ)) → IsPrinting line → words_of line ≡ words → script_words line ≡ words
words_of_line line words printing are = ap words_of (nothing_trimmed line printing) ∙ are

-- ---- as words are written

-- a name and numbers that are each after a space
pub written_words : (name : List ℕ) (numbers : List ℕ)
    → name ++ spaced_numbers numbers ≡ named_numbers name numbers
written_words name [] = append-nil name
written_words name (n ∷ numbers) = ap (λ text. name ++ 32 ∷ text) (written_words (decimal n) numbers)

-- and more numbers after them
pub more_written : (name : List ℕ) (front back : List ℕ)
    → named_numbers name front ++ spaced_numbers back ≡ named_numbers name (front ++ back)
more_written name front back =
    ap (λ text. text ++ spaced_numbers back) (sym (written_words name front))
    ∙ append_assoc name (spaced_numbers front) (spaced_numbers back)
    ∙ ap (λ text. name ++ text) (sym (flat_map-append (λ n. 32 ∷ decimal n) front back))
    ∙ written_words name (front ++ back)
