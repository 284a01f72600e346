-- The line of a bar.
use Rattle.std.specs.Prelude.{ℕ, ◌==◌, Bool, true, false, if◌then◌else◌, List, [], ◌∷◌, ◌++◌, codes, decimal}
use Rattle.derivation.specs.declared.score.ScoreBar.{ScoreBar}
use Rattle.notation.specs.Notes.{Group, Note}
use Rattle.page_writer.specs.Groups.{graces_word, groups_words}
use Rattle.page_writer.specs.Words.{words_text}

-- a rest over the whole bar
abbrev pub rest_word : ScoreBar → List ℕ
rest_word bar = codes "R1*" ++ decimal bar.num ++ codes "/" ++ decimal bar.den

-- the words of a bar, where the grace chords of its first note have been written or not; without groups it rests
abbrev pub sounding_words : ScoreBar → Bool → List Group → List (List ℕ)
sounding_words bar written [] = rest_word bar ∷ []
sounding_words bar written (g ∷ groups) = groups_words bar.sf written (g ∷ groups)

-- the grace chords before the first note
abbrev pub note_graces : List Note → List ℕ
note_graces [] = []
note_graces (n ∷ notes) = n.graces

abbrev pub first_graces : List Group → List ℕ
first_graces [] = []
first_graces (g ∷ groups) = note_graces g.notes

-- Where silent grace chords begin a bar, those of its first note stand with them, after them and outside of a bracket
abbrev pub bar_words : ScoreBar → ℕ → List Group → List (List ℕ)
bar_words bar silent groups =
    if silent == 0 then sounding_words bar false groups
    else graces_word bar.sf silent (first_graces groups) ∷ sounding_words bar true groups

abbrev pub bar_line : ScoreBar → ℕ → List Group → List ℕ
bar_line bar silent groups = words_text (bar_words bar silent groups) ++ codes "|"
