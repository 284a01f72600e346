-- The words of a line as they are read, one after another.
use Rattle.std.specs.Prelude.{ℕ, List, [], ◌∷◌, Option, Some, None}
use Rattle.rhythm_base.specs.Numerals.{IsNumber}
use Rattle.edit_script.specs.ScriptLines.{Are, words_of}

-- the words of the text that is left; none where no text is
abbrev pub words_in : Option (List ℕ) → List (List ℕ)
words_in None = []
words_in (Some text) = words_of text

-- there is a first word, and it is as asked
abbrev pub Begins : (List ℕ → Type 0) → List (List ℕ) → Type 0
Begins Is [] = ⊥
Begins Is (word ∷ words) = Is word

-- the words are so many numbers, each up to its greatest one
abbrev pub AreTwo : ℕ × ℕ → ℕ × ℕ → List (List ℕ) → Type 0
AreTwo most n words = Are (IsNumber most.0 n.0 ∷ IsNumber most.1 n.1 ∷ []) words

abbrev pub AreThree : ℕ × ℕ × ℕ → ℕ × ℕ × ℕ → List (List ℕ) → Type 0
AreThree most n words = Are (IsNumber most.0 n.0 ∷ IsNumber most.1 n.1 ∷ IsNumber most.2 n.2 ∷ []) words

abbrev pub AreFour : ℕ × ℕ × ℕ × ℕ → ℕ × ℕ × ℕ × ℕ → List (List ℕ) → Type 0
AreFour most n words = Are (IsNumber most.0 n.0 ∷ IsNumber most.1 n.1 ∷ IsNumber most.2 n.2 ∷ IsNumber most.3 n.3 ∷ []) words
