-- How a rule ends an interval, in a file: the word of an ending, what stands after it, the ending that both say, and the
-- words that it is printed with.
use Rattle.std.specs.Prelude.{ℕ, ◌==◌, ◌&&◌, Bool, if◌then◌else◌, List, [], ◌∷◌, length, Option, Some, None, Result, Ok, Err, codes}
use Rattle.std.specs.Fmt.{decimal}
use Rattle.std.specs.List.{list_all}
use Rattle.std.specs.Str.{bytes_eq}
use Rattle.rhythm_base.specs.declared.rule.Body.{Body}
use Rattle.rhythm_base.specs.declared.rule.Body.TheVariants as bodies
use Rattle.rhythm_base.specs.declared.rule.Ending.{Ending}
use Rattle.rhythm_base.specs.declared.rule.Ending.TheVariants as endings
use Rattle.grammar_file.specs.Numbers.{is_numeral, number_within}
use Rattle.grammar_file.specs.Outcome.{◌>>=◌}
use Rattle.grammar_file.specs.declared.endings.EndingWord.{EndingWord}
use Rattle.grammar_file.specs.declared.endings.EndingWord.TheVariants as word
use Rattle.grammar_file.specs.declared.fault.GrammarWhat.{GrammarWhat}
use Rattle.grammar_file.specs.declared.fault.GrammarWhat.TheVariants.{Line}

-- the word of an ending
unfoldable pub ending_word_of : List ℕ → Option EndingWord
ending_word_of text =
    if bytes_eq text (codes "note") then Some word.Note
    else if bytes_eq text (codes "short") then Some word.Short
    else if bytes_eq text (codes "tie") then Some word.Tie
    else if bytes_eq text (codes "rest") then Some word.Rest
    else if bytes_eq text (codes "grace") then Some word.Grace
    else None

-- what stands after that word: a number, or nothing
abbrev pub has_ending_form : EndingWord → List (List ℕ) → Bool
has_ending_form word.Note words = length words == 0
has_ending_form word.Short words = length words == 0
has_ending_form word.Tie words = length words == 0
has_ending_form word.Rest words = length words == 0
has_ending_form word.Grace words = (length words == 1) && list_all is_numeral words

-- the number of grace chords
abbrev pub graces_of : List (List ℕ) → Result ℕ GrammarWhat
graces_of (digits ∷ []) = number_within 1 3 digits
graces_of _ = Err Line

-- the ending with these words after its first, where they have its form
abbrev pub ending_of_words : EndingWord → List (List ℕ) → Result Ending GrammarWhat
ending_of_words word.Note words = Ok endings.Note
ending_of_words word.Short words = Ok endings.Short
ending_of_words word.Tie words = Ok endings.Tie
ending_of_words word.Rest words = Ok endings.Rest
ending_of_words word.Grace words = graces_of words >>= λ graces. Ok (endings.Grace graces)

-- the words that say an ending
abbrev pub ending_words : Ending → List (List ℕ)
ending_words endings.Note = codes "note" ∷ []
ending_words endings.Short = codes "short" ∷ []
ending_words endings.Tie = codes "tie" ∷ []
ending_words endings.Rest = codes "rest" ∷ []
ending_words (endings.Grace graces) = codes "grace" ∷ decimal graces ∷ []

-- the body that ends an interval so
abbrev pub body_of_ending : Ending → Body
body_of_ending endings.Note = bodies.Note
body_of_ending endings.Short = bodies.Short
body_of_ending endings.Tie = bodies.Tie
body_of_ending endings.Rest = bodies.Rest
body_of_ending (endings.Grace graces) = bodies.Grace graces
