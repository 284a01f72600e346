-- The elements of a bar: what stands between its spaces, grace chords and their braces as one.
use Rattle.std.specs.Prelude.{ℕ, Bool, if◌then◌else◌, List, [], ◌++◌, codes}
use Rattle.std.specs.List.{flat_map}
use Rattle.durations.specs.declared.value.Value.{Value}
use Rattle.lily_writer.specs.Pitches.{lily_chord}
use Rattle.lily_writer.specs.Values.{lily_value}

-- grace chords before a note; a value of a chord, of which the first one of a short chord is marked, and which is tied where
-- another value of the chord follows; and a value of a rest
pub data Element : Type 0 where
  grace_group : List ℕ → Element
  note_value : (keys : ℕ) (value : Value) (short : Bool) (tied : Bool) → Element
  rest_value : Value → Element

abbrev pub lily_short : Bool → List ℕ
lily_short short = if short then codes "-." else []

abbrev pub lily_tie : Bool → List ℕ
lily_tie tied = if tied then codes "~" else []

-- a grace chord is an eighth
abbrev pub lily_grace : Bool → ℕ → List ℕ
lily_grace flats keys = lily_chord flats keys ++ codes "8 "

abbrev pub element_text : Bool → Element → List ℕ
element_text flats (grace_group chords) = codes "\\grace { " ++ flat_map (lily_grace flats) chords ++ codes "}"
element_text flats (note_value keys value short tied) = lily_chord flats keys ++ lily_value value ++ lily_short short ++ lily_tie tied
element_text flats (rest_value value) = codes "r" ++ lily_value value

abbrev pub spaced : Bool → Element → List ℕ
spaced flats e = element_text flats e ++ codes " "

-- elements with a space after each
abbrev pub elements_text : Bool → List Element → List ℕ
elements_text flats elements = flat_map (λ e. element_text flats e ++ codes " ") elements
