-- The words of notes, and of the groups that are under one bracket.
use Rattle.std.specs.Prelude.{ℕ, ℤ, ◌==◌, ◌||◌, nat_lt, Bool, false, if◌then◌else◌, List, [], ◌∷◌, ◌++◌, Option, codes, decimal, map, replicate}
use Rattle.notation.specs.declared.note.Ratio.{Ratio}
use Rattle.notation.specs.Notes.{Group, Note, is_empty}
use Rattle.page_writer.specs.Pitches.{page_chord}
use Rattle.page_writer.specs.Values.{page_value}
use Rattle.page_writer.specs.Words.{words_text}

-- ---- grace chords: eighths with a stroke

-- silent ones stand for grace chords that another staff has at this place
abbrev pub silent_graces_text : ℕ → List ℕ
silent_graces_text count = words_text (replicate count (codes "s8"))

abbrev pub grace_text : Option ℤ → ℕ → List ℕ
grace_text sf keys = page_chord sf keys ++ codes "8"

-- so many silent ones, and these
abbrev pub graces_word : Option ℤ → ℕ → List ℕ → List ℕ
graces_word sf silent graces =
    codes "\\slashedGrace { " ++ silent_graces_text silent ++ words_text (map (grace_text sf) graces) ++ codes "}"

-- ---- notes, chords and rests

abbrev pub short_text : Bool → List ℕ
short_text short = if short then codes "-." else []

abbrev pub tie_text : Bool → List ℕ
tie_text goes = if goes then codes "~" else []

abbrev pub chord_word : Option ℤ → Note → List ℕ
chord_word sf n = page_chord sf n.keys ++ page_value n.value ++ short_text n.short ++ tie_text n.goes

abbrev pub note_word : Option ℤ → Note → List ℕ
note_word sf n = if n.keys == 0 then codes "r" ++ page_value n.value else chord_word sf n

-- the grace chords before a note, where there are some that have not been written
abbrev pub own_graces : Option ℤ → Bool → Note → List (List ℕ)
own_graces sf written n = if written || is_empty n.graces then [] else graces_word sf 0 n.graces ∷ []

abbrev pub note_words : Option ℤ → Bool → Note → List (List ℕ)
note_words sf written n = own_graces sf written n ++ note_word sf n ∷ []

-- those of several notes, where the grace chords of the first have been written or not
abbrev pub notes_words : Option ℤ → Bool → List Note → List (List ℕ)
notes_words sf written [] = []
notes_words sf written (n ∷ notes) = note_words sf written n ++ notes_words sf false notes

-- ---- groups

abbrev pub bracket_word : Ratio → List ℕ
bracket_word r = codes "\\tuplet " ++ decimal r.actual ++ codes "/" ++ decimal r.normal ++ codes " {"

-- of 1 in the time of 1 there is no bracket
abbrev pub group_words : Option ℤ → Bool → Group → List (List ℕ)
group_words sf written g =
    if nat_lt 1 g.ratio.actual then bracket_word g.ratio ∷ (notes_words sf written g.notes ++ codes "}" ∷ [])
    else notes_words sf written g.notes

abbrev pub groups_words : Option ℤ → Bool → List Group → List (List ℕ)
groups_words sf written [] = []
groups_words sf written (g ∷ groups) = group_words sf written g ++ groups_words sf false groups
