-- Worked texts, by the definitions: a whole text, and the notes of bars.
use Rattle.std.specs.Prelude.{◌≡◌, ℕ, ◌^◌, ◌+◌, negsuc, true, false, List, [], ◌∷◌, ◌++◌, codes, refl, Some, None}
use Rattle.std.specs.Fmt.{digits}
use Rattle.rhythm_base.specs.declared.sound.Sound.{Sound}
use Rattle.rhythm_base.specs.declared.sound.SoundKind.TheVariants.{Begin}
use Rattle.durations.specs.declared.value.Recip.TheVariants.{Of}
use Rattle.durations.specs.declared.value.Value.{Value}
use Rattle.derivation.specs.declared.score.ScoreBar.{ScoreBar}
use Rattle.score_words.specs.Keys.{rising_keys}
use Rattle.notation.specs.declared.clef.Clef.TheVariants.{BassBelow, Treble}
use Rattle.notation.specs.Names.{first_place}
use Rattle.notation.specs.Notes.{Group, Note}
use Rattle.musicxml_writer.specs.declared.part.Part.{Part}
use Rattle.musicxml_writer.specs.Attributes.{attributes, attributes_line, clef_text, divisions, key_change, metronome, tempo_line, tempo_text, time}
use Rattle.musicxml_writer.specs.Bars.{bar_notes, bar_rest, group_text}
use Rattle.musicxml_writer.specs.Elements.{attribute_start, closing, element, empty_element, empty_with, opening, opening_with, some_element}
use Rattle.musicxml_writer.specs.Notes.{bracket_ends, chord_mark, grace_text, key_marks, key_text, note_text, rest_text, short_mark, tie_ends}
use Rattle.musicxml_writer.specs.Parts.{bar_text, final_barline, part_text}
use Rattle.musicxml_writer.specs.Pitches.{key_pitch, pitch_text}
use Rattle.musicxml_writer.specs.Text.{head, listed_part, named_instrument, part_list, played_instrument, score_text}
use Rattle.musicxml_writer.specs.Values.{ratio_text, value_text}

abbrev whole_bar : ScoreBar
whole_bar = record { num = 4; den = 4; tempo = 500000; sf = None }

abbrev value : ℕ → ℕ → Value
value n dots = record { recip = Of n; dots = dots }

abbrev plain : ℕ → Value → ℕ → Note
plain duration v keys = record { duration = duration; value = v; keys = keys; graces = []; short = false; comes = false; goes = false }

abbrev alone : Note → Group
alone n = record { ratio = record { actual = 1; normal = 1 }; notes = n ∷ [] }

-- ---- a whole text: four quarters

abbrev quarter_sound : ℕ → ℕ → Sound
quarter_sound place keys = record { bar = 0; place = place; width = 1; kind = Begin; keys = keys; graces = [] }

abbrev quarter_group : ℕ → Group
quarter_group keys = alone (plain 64 (value 4 0) keys)

abbrev quarter_sounds : List Sound
quarter_sounds = quarter_sound 0 (2 ^ 60) ∷ quarter_sound 1 (2 ^ 62) ∷ quarter_sound 2 (2 ^ 64) ∷ quarter_sound 3 (2 ^ 65) ∷ []

abbrev quarter_groups : List Group
quarter_groups = quarter_group (2 ^ 60) ∷ quarter_group (2 ^ 62) ∷ quarter_group (2 ^ 64) ∷ quarter_group (2 ^ 65) ∷ []

writes_quarters : score_text (record { resolution = 4; bars = whole_bar ∷ []; voices = quarter_sounds ∷ [] }) (0 ∷ []) ((quarter_groups ∷ []) ∷ [])
    ≡ codes "<?xml version=\"1.0\" encoding=\"UTF-8\"?>\n"
    ++ codes "<!DOCTYPE score-partwise PUBLIC \"-//Recordare//DTD MusicXML 4.0 Partwise//EN\" \"http://www.musicxml.org/dtds/partwise.dtd\">\n"
    ++ codes "<score-partwise version=\"4.0\">\n"
    ++ codes "<part-list>\n"
    ++ codes "<score-part id=\"P1\"><part-name>Channel 0</part-name>"
    ++ codes "<score-instrument id=\"P1-I1\"><instrument-name>Channel 0</instrument-name></score-instrument>"
    ++ codes "<midi-instrument id=\"P1-I1\"><midi-channel>1</midi-channel></midi-instrument></score-part>\n"
    ++ codes "</part-list>\n"
    ++ codes "<part id=\"P1\">\n"
    ++ codes "<measure number=\"1\">\n"
    ++ codes "<attributes><divisions>64</divisions><time><beats>4</beats><beat-type>4</beat-type></time>"
    ++ codes "<clef><sign>G</sign><line>2</line></clef></attributes>\n"
    ++ codes "<direction placement=\"above\"><direction-type><metronome><beat-unit>quarter</beat-unit><per-minute>120</per-minute></metronome>"
    ++ codes "</direction-type><sound tempo=\"120\"/></direction>\n"
    ++ codes "<note><pitch><step>C</step><octave>4</octave></pitch><duration>64</duration><type>quarter</type></note>\n"
    ++ codes "<note><pitch><step>D</step><octave>4</octave></pitch><duration>64</duration><type>quarter</type></note>\n"
    ++ codes "<note><pitch><step>E</step><octave>4</octave></pitch><duration>64</duration><type>quarter</type></note>\n"
    ++ codes "<note><pitch><step>F</step><octave>4</octave></pitch><duration>64</duration><type>quarter</type></note>\n"
    ++ codes "<barline location=\"right\"><bar-style>light-heavy</bar-style></barline>\n"
    ++ codes "</measure>\n"
    ++ codes "</part>\n"
    ++ codes "</score-partwise>\n"
unfolding opening closing attribute_start chord_mark opening_with empty_element empty_with element some_element first_place pitch_text key_pitch ratio_text value_text tie_ends bracket_ends short_mark key_marks key_text grace_text rest_text note_text group_text bar_rest bar_notes digits rising_keys divisions key_change time clef_text attributes attributes_line metronome tempo_text tempo_line final_barline bar_text part_text head named_instrument played_instrument listed_part part_list score_text
writes_quarters = refl

-- ---- a bracket of five, a short note of two values, ties, dots

abbrev five : Group
five = record {
  ratio = record { actual = 5; normal = 4 };
  notes =
      plain 64 (value 16 0) (2 ^ 60) ∷ (record (plain 256 (value 4 0) (2 ^ 62)) { short = true; goes = true })
      ∷ (record (plain 64 (value 16 0) (2 ^ 62)) { comes = true }) ∷ plain 256 (value 4 0) (2 ^ 64) ∷ [];
}

writes_five : bar_notes 20 whole_bar (five ∷ alone (plain 640 (value 2 0) (2 ^ 65)) ∷ [])
    ≡ codes "<note><pitch><step>C</step><octave>4</octave></pitch><duration>64</duration><type>16th</type>"
    ++ codes "<time-modification><actual-notes>5</actual-notes><normal-notes>4</normal-notes></time-modification>"
    ++ codes "<notations><tuplet type=\"start\"/></notations></note>\n"
    ++ codes "<note><pitch><step>D</step><octave>4</octave></pitch><duration>256</duration>"
    ++ codes "<tie type=\"start\"/><type>quarter</type>"
    ++ codes "<time-modification><actual-notes>5</actual-notes><normal-notes>4</normal-notes></time-modification>"
    ++ codes "<notations><tied type=\"start\"/><articulations><staccato/></articulations></notations></note>\n"
    ++ codes "<note><pitch><step>D</step><octave>4</octave></pitch><duration>64</duration>"
    ++ codes "<tie type=\"stop\"/><type>16th</type>"
    ++ codes "<time-modification><actual-notes>5</actual-notes><normal-notes>4</normal-notes></time-modification>"
    ++ codes "<notations><tied type=\"stop\"/></notations></note>\n"
    ++ codes "<note><pitch><step>E</step><octave>4</octave></pitch><duration>256</duration><type>quarter</type>"
    ++ codes "<time-modification><actual-notes>5</actual-notes><normal-notes>4</normal-notes></time-modification>"
    ++ codes "<notations><tuplet type=\"stop\"/></notations></note>\n"
    ++ codes "<note><pitch><step>F</step><octave>4</octave></pitch><duration>640</duration><type>half</type></note>\n"
unfolding opening closing attribute_start chord_mark opening_with empty_element empty_with element some_element first_place pitch_text key_pitch ratio_text value_text tie_ends bracket_ends short_mark key_marks key_text grace_text rest_text note_text group_text bar_rest bar_notes digits rising_keys
writes_five = refl

-- ---- a grace note within a bracket, dots, a rest

abbrev nine : Group
nine = record {
  ratio = record { actual = 9; normal = 8 };
  notes =
      plain 384 (value 8 1) (2 ^ 60) ∷ plain 128 (value 16 0) (2 ^ 62)
      ∷ (record (plain 256 (value 8 0) (2 ^ 64)) { graces = 2 ^ 65 ∷ []; goes = true })
      ∷ (record (plain 384 (value 8 1) (2 ^ 64)) { comes = true }) ∷ [];
}

writes_nine : bar_notes 36 whole_bar (nine ∷ alone (plain 1152 (value 2 0) 0) ∷ [])
    ≡ codes "<note><pitch><step>C</step><octave>4</octave></pitch><duration>384</duration><type>eighth</type><dot/>"
    ++ codes "<time-modification><actual-notes>9</actual-notes><normal-notes>8</normal-notes></time-modification>"
    ++ codes "<notations><tuplet type=\"start\"/></notations></note>\n"
    ++ codes "<note><pitch><step>D</step><octave>4</octave></pitch><duration>128</duration><type>16th</type>"
    ++ codes "<time-modification><actual-notes>9</actual-notes><normal-notes>8</normal-notes></time-modification></note>\n"
    ++ codes "<note><grace slash=\"yes\"/><pitch><step>F</step><octave>4</octave></pitch><type>eighth</type></note>\n"
    ++ codes "<note><pitch><step>E</step><octave>4</octave></pitch><duration>256</duration>"
    ++ codes "<tie type=\"start\"/><type>eighth</type>"
    ++ codes "<time-modification><actual-notes>9</actual-notes><normal-notes>8</normal-notes></time-modification>"
    ++ codes "<notations><tied type=\"start\"/></notations></note>\n"
    ++ codes "<note><pitch><step>E</step><octave>4</octave></pitch><duration>384</duration>"
    ++ codes "<tie type=\"stop\"/><type>eighth</type><dot/>"
    ++ codes "<time-modification><actual-notes>9</actual-notes><normal-notes>8</normal-notes></time-modification>"
    ++ codes "<notations><tied type=\"stop\"/><tuplet type=\"stop\"/></notations></note>\n"
    ++ codes "<note><rest/><duration>1152</duration><type>half</type></note>\n"
unfolding opening closing attribute_start chord_mark opening_with empty_element empty_with element some_element first_place pitch_text key_pitch ratio_text value_text tie_ends bracket_ends short_mark key_marks key_text grace_text rest_text note_text group_text bar_rest bar_notes digits rising_keys
writes_nine = refl

-- ---- below a 1024th

abbrev fine : Group
fine = record { ratio = record { actual = 3; normal = 2 }; notes = plain 4 (value 1024 0) (2 ^ 64) ∷ plain 2 (value 2048 0) (2 ^ 65) ∷ [] }

writes_finer : bar_notes 96 whole_bar (fine ∷ [])
    ≡ codes "<note><pitch><step>E</step><octave>4</octave></pitch><duration>4</duration><type>1024th</type>"
    ++ codes "<time-modification><actual-notes>3</actual-notes><normal-notes>2</normal-notes></time-modification>"
    ++ codes "<notations><tuplet type=\"start\"/></notations></note>\n"
    ++ codes "<note><pitch><step>F</step><octave>4</octave></pitch><duration>2</duration><type>1024th</type>"
    ++ codes "<time-modification><actual-notes>6</actual-notes><normal-notes>2</normal-notes></time-modification>"
    ++ codes "<notations><tuplet type=\"stop\"/></notations></note>\n"
unfolding opening closing attribute_start chord_mark opening_with empty_element empty_with element some_element first_place pitch_text key_pitch ratio_text value_text tie_ends bracket_ends short_mark key_marks key_text grace_text rest_text note_text group_text bar_rest bar_notes digits rising_keys
writes_finer = refl

-- ---- a short chord of two keys; a bar of rests

writes_chord : bar_notes 1 whole_bar (alone (record (plain 64 (value 1 0) (2 ^ 60 + 2 ^ 64)) { short = true; goes = true }) ∷ [])
    ≡ codes "<note><pitch><step>C</step><octave>4</octave></pitch><duration>64</duration><tie type=\"start\"/><type>whole</type>"
    ++ codes "<notations><tied type=\"start\"/><articulations><staccato/></articulations></notations></note>\n"
    ++ codes "<note><chord/><pitch><step>E</step><octave>4</octave></pitch><duration>64</duration>"
    ++ codes "<tie type=\"start\"/><type>whole</type><notations><tied type=\"start\"/></notations></note>\n"
unfolding opening closing attribute_start chord_mark opening_with empty_element empty_with element some_element first_place pitch_text key_pitch ratio_text value_text tie_ends bracket_ends short_mark key_marks key_text grace_text rest_text note_text group_text bar_rest bar_notes digits rising_keys
writes_chord = refl

writes_bar_rest : bar_notes 12 (record whole_bar { num = 5 }) [] ≡ codes "<note><rest measure=\"yes\"/><duration>960</duration></note>\n"
unfolding opening closing attribute_start chord_mark opening_with empty_element empty_with element some_element first_place pitch_text key_pitch ratio_text value_text tie_ends bracket_ends short_mark key_marks key_text grace_text rest_text note_text group_text bar_rest bar_notes digits rising_keys
writes_bar_rest = refl

-- ---- what changes

abbrev first_part : Part
first_part = record { resolution = 4; clef = Treble; is_first = true }

says_key_alone : attributes_line first_part (Some whole_bar) (record whole_bar { sf = Some (negsuc 1) })
    ≡ codes "<attributes><key><fifths>-2</fifths></key></attributes>\n"
unfolding opening closing element divisions key_change time clef_text attributes attributes_line digits
says_key_alone = refl

says_nothing : attributes_line first_part (Some whole_bar) whole_bar ≡ []
unfolding attributes_line
says_nothing = refl

says_clef : clef_text BassBelow ≡ codes "<clef><sign>F</sign><line>4</line><clef-octave-change>-1</clef-octave-change></clef>"
unfolding opening closing element some_element clef_text
says_clef = refl
