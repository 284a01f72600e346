-- Words that ask for help or for the version.
use Rattle.std.specs.Prelude.{ℕ, ◌==◌, ◌&&◌, ◌||◌, Bool, false, not, List, [], ◌∷◌, ◌++◌, codes, is_some}
use Rattle.std.specs.List.{before_first, list_all, list_any}
use Rattle.std.specs.Str.{bytes_eq}
use Rattle.command_line.specs.OptionTable.{OptionRow, options}

-- the word is the option, its name after two hyphens, and this takes the next word
abbrev pub is_taking : List ℕ → OptionRow → Bool
is_taking word row = is_some row.word && bytes_eq word (codes "--" ++ row.name)

-- the word is an option that takes the next word
abbrev pub takes_next : List ℕ → Bool
takes_next word = list_any (is_taking word) options

-- the word is `--`, after which no word is an option
abbrev pub is_dashes : List ℕ → Bool
is_dashes word = bytes_eq word (codes "--")

-- a short name is a letter: h or V
abbrev pub is_short_name : ℕ → Bool
is_short_name letter = (letter == 104) || (letter == 86)

-- the word is `-` and short names
abbrev pub has_short_names : List ℕ → Bool
has_short_names [] = false
has_short_names (byte ∷ letters) = (byte == 45) && list_all is_short_name letters

-- the word is the long name, or has short names with this letter among them
abbrev pub is_named : List ℕ → ℕ → List ℕ → Bool
is_named long letter word = bytes_eq word long || (has_short_names word && list_any (λ byte. byte == letter) word)

-- `--help`, or h among the short names
abbrev pub is_help : List ℕ → Bool
is_help = is_named (codes "--help") 104

-- `--version`, or V among them
abbrev pub is_version : List ℕ → Bool
is_version = is_named (codes "--version") 86

-- some word passes the test and is not the word of an option; `follows` says whether the first one is
abbrev pub has_free : (List ℕ → Bool) → Bool → List (List ℕ) → Bool
has_free test follows [] = false
has_free test follows (word ∷ words) = (test word && not follows) || has_free test (takes_next word) words

-- some word before the first `--` passes the test, other than the word of an option
abbrev pub asks : (List ℕ → Bool) → List (List ℕ) → Bool
asks test words = has_free test false (before_first is_dashes words)
