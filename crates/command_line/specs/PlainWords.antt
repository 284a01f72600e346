-- Plain words, which say what they say without `clap`.
use Rattle.std.specs.Prelude.{◌≢◌, ℕ, ◌==◌, ◌≤◌, ◌||◌, Bool, IsTrue, false, not, if◌then◌else◌, List, [], ◌∷◌, ◌++◌, codes, count_by, drop, slice_get, Option, None}
use Rattle.std.specs.List.{list_all}
use Rattle.std.specs.Str.{bytes_eq}

-- the word is the option for the number of workers
abbrev pub is_workers : List ℕ → Bool
is_workers word = bytes_eq word (codes "--workers")

abbrev pub begins_with_hyphen : List ℕ → Bool
begins_with_hyphen [] = false
begins_with_hyphen (byte ∷ bytes) = byte == 45

-- at most one word is the option, it is not the last word, and no other word begins with `-`
pub record ArePlainWords (words : List (List ℕ)) : Type 0 where
  pub once : count_by is_workers words ≤ 1
  pub followed : (before : List (List ℕ)) → words ≢ before ++ codes "--workers" ∷ []
  pub others : IsTrue (list_all (λ word. is_workers word || not (begins_with_hyphen word)) words)

-- the word after the option
abbrev pub word_of_workers : List (List ℕ) → Option (List ℕ)
word_of_workers [] = None
word_of_workers (word ∷ words) = if is_workers word then slice_get words 0 else word_of_workers words

-- the words without the option and the word after it
abbrev pub other_words : List (List ℕ) → List (List ℕ)
other_words [] = []
other_words (word ∷ words) = if is_workers word then drop 1 words else word ∷ other_words words
