-- The words of a reply's line.
use Rattle.std.specs.Prelude.{ℕ, List, [], ◌∷◌, decimal, map}
use Rattle.std.specs.List.{flat_map, join_with_byte}
use Rattle.edit_script.specs.Replies.{reply_line}
use Rattle.edit_script.specs.declared.word.Word.{Word}
use Rattle.edit_script.specs.declared.word.Word.TheVariants.{Name, Number}
use Rattle.edit_script.specs.declared.refusal_words.Details.{Details}
use Rattle.edit_script.specs.declared.refusal_words.Details.TheVariants as details

abbrev pub word_text : Word → List ℕ
word_text (Name text) = text.now
word_text (Number number) = decimal number

-- a word after a separator
abbrev pub after : ℕ → Word → List ℕ
after separator word = separator ∷ word_text word

-- words with a space between two, or with one before each
abbrev pub words_text : List Word → List ℕ
words_text words = join_with_byte 32 (map word_text words)

abbrev pub more_words : List Word → List ℕ
more_words words = flat_map (λ w. 32 ∷ word_text w) words

-- the words are a whole line
abbrev pub words_line : List Word → List ℕ
words_line words = reply_line (map word_text words)

-- numbers with a comma before each
abbrev pub more_numbers : List ℕ → List ℕ
more_numbers numbers = flat_map (λ n. 44 ∷ decimal n) numbers

-- what stands after the name of a refusal
abbrev pub details_texts : Details → List (List ℕ)
details_texts details.None = []
details_texts (details.One word) = word_text word ∷ []
details_texts (details.Two word next) = word_text word ∷ word_text next ∷ []
