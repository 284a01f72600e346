-- What is said before the notes of a bar: in the first bar all, later the key, the signature and the tempo where they change.
use Rattle.std.specs.Prelude.{ℕ, ℤ, ◌*◌, Bool, true, false, not, ◌&&◌, ◌||◌, List, [], ◌++◌, codes, decimal, Option, Some, None}
use Rattle.std.specs.Fmt.{signed_decimal}
use Rattle.derivation.specs.declared.score.ScoreBar.{ScoreBar}
use Rattle.notation.specs.declared.clef.Clef.{Clef}
use Rattle.notation.specs.declared.clef.Clef.TheVariants.{BassBelow, Bass, Treble, TrebleAbove}
use Rattle.score_words.specs.Changes.{key_before, quarters_of_minute, same_key, same_signature, same_tempo}
use Rattle.musicxml_writer.specs.declared.part.Part.{Part}
use Rattle.musicxml_writer.specs.Elements.{closing, element, empty_with, line, opening_with, some_element, text_if}

-- ---- attributes

-- how many parts of 1/(64 * resolution) of a whole note are a quarter
unfoldable pub divisions : ℕ → List ℕ
divisions resolution = element (codes "divisions") (decimal (16 * resolution))

-- no key is said while there is none
unfoldable pub key_change : Option ℤ → Option ℤ → List ℕ
key_change before None = []
key_change before (Some sf) = text_if (not (same_key before sf)) (element (codes "key") (element (codes "fifths") (signed_decimal sf)))

unfoldable pub time : ScoreBar → List ℕ
time bar = element (codes "time") (element (codes "beats") (decimal bar.num) ++ element (codes "beat-type") (decimal bar.den))

-- a signature is said where it is not the one before
abbrev pub time_change : Option ScoreBar → ScoreBar → List ℕ
time_change before bar = text_if (not (same_signature before bar)) (time bar)

abbrev pub sign_text : Clef → List ℕ
sign_text BassBelow = codes "F"
sign_text Bass = codes "F"
sign_text Treble = codes "G"
sign_text TrebleAbove = codes "G"

abbrev pub line_text : Clef → List ℕ
line_text BassBelow = codes "4"
line_text Bass = codes "4"
line_text Treble = codes "2"
line_text TrebleAbove = codes "2"

abbrev pub octave_text : Clef → List ℕ
octave_text BassBelow = codes "-1"
octave_text Bass = []
octave_text Treble = []
octave_text TrebleAbove = codes "1"

unfoldable pub clef_text : Clef → List ℕ
clef_text clef = element (codes "clef") (
    element (codes "sign") (sign_text clef)
    ++ element (codes "line") (line_text clef)
    ++ some_element (codes "clef-octave-change") (octave_text clef)
    )

abbrev pub is_none : {X : Type 0} → Option X → Bool
is_none None = true
is_none (Some x) = false

abbrev pub changes_key : Option ℤ → Option ℤ → Bool
changes_key before None = false
changes_key before (Some sf) = not (same_key before sf)

unfoldable pub attributes : Part → Option ScoreBar → ScoreBar → List ℕ
attributes part before bar =
    text_if (is_none before) (divisions part.resolution)
    ++ key_change (key_before before) bar.sf
    ++ time_change before bar
    ++ text_if (is_none before) (clef_text part.clef)

-- the line stands where the key or the signature changes, and so in the first bar, before which there is no signature
unfoldable pub attributes_line : Part → Option ScoreBar → ScoreBar → List ℕ
attributes_line part before bar =
    text_if (changes_key (key_before before) bar.sf || not (same_signature before bar)) (line (element (codes "attributes") (attributes part before bar)))

-- ---- tempos

unfoldable pub metronome : ℕ → List ℕ
metronome quarters = element (codes "metronome") (element (codes "beat-unit") (codes "quarter") ++ element (codes "per-minute") (decimal quarters))

-- quarter notes of a minute as what sounds
abbrev pub sounding_tempo : ℕ → List ℕ
sounding_tempo quarters = empty_with (codes "sound") (codes "tempo") (decimal quarters)

-- quarter notes of a minute, as a mark and as what sounds
unfoldable pub tempo_text : ℕ → List ℕ
tempo_text quarters =
    opening_with (codes "direction") (codes "placement") (codes "above")
    ++ element (codes "direction-type") (metronome quarters)
    ++ sounding_tempo quarters
    ++ closing (codes "direction")

-- tempos are said in the first part alone. One that is rounded to the same number has not changed
unfoldable pub tempo_line : Part → Option ScoreBar → ScoreBar → List ℕ
tempo_line part before bar = text_if (part.is_first && not (same_tempo before bar)) (line (tempo_text (quarters_of_minute bar.tempo)))
