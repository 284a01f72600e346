-- The lines of a note: of each key of a chord, each key of its grace chords, or a rest.
use Rattle.rhythm_base.specs.declared.limits.TheConstants.{MOST_UNITS}
use Rattle.std.specs.Prelude.{ℕ, ◌≤◌, ◌==◌, Bool, true, false, not, ◌&&◌, ◌||◌, if◌then◌else◌, List, [], ◌∷◌, ◌++◌, codes, decimal, IfSome}
use Rattle.std.specs.List.{flat_map}
use Rattle.derivation.specs.Score.{IsKeySignature}
use Rattle.score_words.specs.Keys.{rising_keys}
use Rattle.notation.specs.Notes.{Note}
use Rattle.musicxml_writer.specs.declared.marks.Bracket.{Bracket}
use Rattle.musicxml_writer.specs.declared.marks.Setting.{Setting}
use Rattle.musicxml_writer.specs.Elements.{element, empty_element, empty_with, line, some_element, text_if}
use Rattle.musicxml_writer.specs.Pitches.{key_pitch}
use Rattle.musicxml_writer.specs.Values.{value_text}

-- the ranges of a setting
pub record IsSetting (s : Setting) : Type 0 where
  pub few : s.ratio.actual ≤ MOST_UNITS
  pub key : IfSome s.sf IsKeySignature

-- ---- marks

-- where something starts, as a tie or a bracket, and where it stops
abbrev pub start_tag : List ℕ → List ℕ
start_tag name = empty_with name (codes "type") (codes "start")

abbrev pub stop_tag : List ℕ → List ℕ
stop_tag name = empty_with name (codes "type") (codes "stop")

-- of a tie that comes to the note and of one that goes on from it: `tie` is what sounds, `tied` what is drawn
unfoldable pub tie_ends : List ℕ → Note → List ℕ
tie_ends name n = text_if n.comes (stop_tag name) ++ text_if n.goes (start_tag name)

unfoldable pub bracket_ends : Bracket → List ℕ
bracket_ends bracket = text_if bracket.starts (start_tag (codes "tuplet")) ++ text_if bracket.stops (stop_tag (codes "tuplet"))

unfoldable pub short_mark : Bool → List ℕ
short_mark short = text_if short (element (codes "articulations") (empty_element (codes "staccato")))

-- what is drawn at a key: what is said of the whole chord stands at its lowest key alone
unfoldable pub key_marks : Bracket → Note → Bool → List ℕ
key_marks bracket n lowest = tie_ends (codes "tied") n ++ text_if lowest (bracket_ends bracket ++ short_mark n.short)

-- something is drawn there
abbrev pub is_marked : Bracket → Note → Bool → Bool
is_marked bracket n lowest = n.comes || n.goes || (lowest && (bracket.starts || bracket.stops || n.short))

abbrev pub notations : List ℕ → List ℕ
notations marks = some_element (codes "notations") marks

-- ---- chords

-- a key of a chord sounds with the one before it, but for the lowest
unfoldable pub chord_mark : Bool → List ℕ
chord_mark lowest = text_if (not lowest) (empty_element (codes "chord"))

-- the lines of keys, of which the first is the lowest of its chord or is not
abbrev pub keys_text : (Bool → ℕ → List ℕ) → Bool → List ℕ → List ℕ
keys_text one lowest [] = []
keys_text one lowest (key ∷ keys) = one lowest key ++ keys_text one false keys

-- the lines of a chord, by rising key
abbrev pub chord_text : (Bool → ℕ → List ℕ) → ℕ → List ℕ
chord_text one keys = keys_text one true (rising_keys keys)

unfoldable pub key_text : Setting → Note → Bool → ℕ → List ℕ
key_text s n lowest key = line (element (codes "note") (
    chord_mark lowest
    ++ key_pitch s.sf key
    ++ element (codes "duration") (decimal n.duration)
    ++ tie_ends (codes "tie") n
    ++ value_text s.ratio n.value
    ++ notations (key_marks s.bracket n lowest)
    ))

unfoldable pub grace_text : Setting → Bool → ℕ → List ℕ
grace_text s lowest key = line (element (codes "note") (
    empty_with (codes "grace") (codes "slash") (codes "yes")
    ++ chord_mark lowest
    ++ key_pitch s.sf key
    ++ element (codes "type") (codes "eighth")
    ))

-- ---- notes

unfoldable pub rest_text : Setting → Note → List ℕ
rest_text s n = line (element (codes "note") (
    empty_element (codes "rest")
    ++ element (codes "duration") (decimal n.duration)
    ++ value_text s.ratio n.value
    ++ notations (bracket_ends s.bracket)
    ))

unfoldable pub note_text : Setting → Note → List ℕ
note_text s n =
    if n.keys == 0 then rest_text s n
    else flat_map (chord_text (grace_text s)) n.graces ++ chord_text (key_text s n) n.keys
