-- The lines of the notes of a bar, group by group.
use Rattle.std.specs.Prelude.{ℕ, ℤ, ◌*◌, ◌/◌, nat_lt, Bool, true, false, ◌&&◌, List, [], ◌∷◌, ◌++◌, codes, decimal, Option}
use Rattle.std.specs.List.{flat_map}
use Rattle.derivation.specs.declared.score.ScoreBar.{ScoreBar}
use Rattle.notation.specs.declared.note.Ratio.{Ratio}
use Rattle.notation.specs.Notes.{Group, Note, is_empty}
use Rattle.musicxml_writer.specs.declared.marks.Setting.{Setting}
use Rattle.musicxml_writer.specs.Elements.{element, empty_with, line}
use Rattle.musicxml_writer.specs.Notes.{note_text}

-- how a note is set that is the first of its group or not, and the last or not. Of 1 in the time of 1 there is no bracket
abbrev pub set : Option ℤ → Ratio → Bool → Bool → Setting
set sf ratio first last = record {
  sf = sf;
  ratio = ratio;
  bracket = record { starts = nat_lt 1 ratio.actual && first; stops = nat_lt 1 ratio.actual && last };
}

-- notes of a group up to its last, of which the first is the first of the group or is not
abbrev pub notes_text : Option ℤ → Ratio → Bool → List Note → List ℕ
notes_text sf ratio first [] = []
notes_text sf ratio first (n ∷ notes) = note_text (set sf ratio first (is_empty notes)) n ++ notes_text sf ratio false notes

unfoldable pub group_text : Option ℤ → Group → List ℕ
group_text sf g = notes_text sf g.ratio true g.notes

-- a bar is its signature long, in parts of 1/(64 * resolution) of a whole note
abbrev pub bar_length : ℕ → ScoreBar → ℕ
bar_length resolution bar = 64 * resolution * bar.num / bar.den

unfoldable pub bar_rest : ℕ → ScoreBar → List ℕ
bar_rest resolution bar = line (element (codes "note") (
    empty_with (codes "rest") (codes "measure") (codes "yes") ++ element (codes "duration") (decimal (bar_length resolution bar))
    ))

-- a bar of rests alone has no groups
unfoldable pub bar_notes : ℕ → ScoreBar → List Group → List ℕ
bar_notes resolution bar [] = bar_rest resolution bar
bar_notes resolution bar (g ∷ groups) = flat_map (group_text bar.sf) (g ∷ groups)
