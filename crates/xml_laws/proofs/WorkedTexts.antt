-- Texts worked out: what is read of them, and of which texts nothing is read.
use Rattle.std.proofs.Common.{◌≡◌, ℕ, ◌+◌, ◌^◌, Bool, true, false, List, [], ◌∷◌, ◌++◌, Some, None, refl}
use Rattle.std.specs.Prelude.{codes}
use Rattle.rhythm_base.specs.declared.span.Span.{Span}
use Rattle.text_words.specs.Divisors.{gcd}
use Rattle.text_words.specs.Numbers.{number_of}
use Rattle.xml_laws.specs.Hearing.{hear_tag, hear_value, hear_xml_word}
use Rattle.xml_laws.specs.Notes.{kinds}
use Rattle.xml_laws.specs.Pitches.{xml_key}
use Rattle.xml_laws.specs.Reading.{measure_lengths, musicxml_events, text_parts}
use Rattle.xml_laws.specs.Words.{head_marks, head_values, part_marks, part_values, xml_words}

-- ---- words

cut : xml_words (codes "\n<step>C</step>\n<dot/>")
    ≡ record { content = []; tag = codes "step" } ∷ record { content = codes "C"; tag = codes "/step" }
    ∷ record { content = []; tag = codes "dot/" } ∷ []
cut = refl

cut_off : xml_words (codes "<step>C</st") ≡ record { content = []; tag = codes "step" } ∷ record { content = codes "C"; tag = [] } ∷ []
cut_off = refl

-- ---- pitches: middle C by two names, the lowest key, two flats

middle : xml_key (codes "C") [] (codes "4") ≡ Some 60
unfolding xml_key
middle = refl

sharp : xml_key (codes "B") (codes "1") (codes "3") ≡ Some 60
unfolding xml_key
sharp = refl

lowest : xml_key (codes "B") (codes "1") (codes "-2") ≡ Some 0
unfolding xml_key
lowest = refl

flats : xml_key (codes "E") (codes "-2") (codes "4") ≡ Some 62
unfolding xml_key
flats = refl

too_low : xml_key (codes "C") (codes "-1") (codes "-1") ≡ None
unfolding xml_key
too_low = refl

no_letter : xml_key (codes "H") [] (codes "4") ≡ None
unfolding xml_key
no_letter = refl

-- ---- texts

abbrev span : ℕ → ℕ → ℕ → ℕ → ℕ → List ℕ → Bool → Span
span from of len part keys graces short =
    record { start = record { num = from; den = of }; len = record { num = len; den = part }; keys = keys; graces = graces; short = short }

abbrev head : List ℕ
head =
    codes "<?xml version=\"1.0\" encoding=\"UTF-8\"?>\n"
    ++ codes "<!DOCTYPE score-partwise PUBLIC \"-//Recordare//DTD MusicXML 4.0 Partwise//EN\" "
    ++ codes "\"http://www.musicxml.org/dtds/partwise.dtd\">\n"
    ++ codes "<score-partwise version=\"4.0\">\n"
    ++ codes "<part-list>\n"
    ++ codes "<score-part id=\"P1\"><part-name>Channel 0</part-name><score-instrument id=\"P1-I1\">"
    ++ codes "<instrument-name>Channel 0</instrument-name></score-instrument><midi-instrument id=\"P1-I1\">"
    ++ codes "<midi-channel>1</midi-channel></midi-instrument></score-part>\n"
    ++ codes "</part-list>\n"

-- what is said before the first notes: 64 parts of a quarter, 4/4
abbrev attributes : List ℕ
attributes =
    codes "<attributes><divisions>64</divisions><key><fifths>-2</fifths></key><time><beats>4</beats>"
    ++ codes "<beat-type>4</beat-type></time><clef><sign>G</sign><line>2</line>"
    ++ codes "<clef-octave-change>1</clef-octave-change></clef></attributes>\n"
    ++ codes "<direction placement=\"above\"><direction-type><metronome><beat-unit>quarter</beat-unit>"
    ++ codes "<per-minute>120</per-minute></metronome></direction-type><sound tempo=\"120\"/></direction>\n"

-- a text of one part with these measures
abbrev text : List ℕ → List ℕ
text measures = head ++ codes "<part id=\"P1\">\n" ++ measures ++ codes "</part>\n</score-partwise>\n"

-- of one measure with these notes
abbrev measure : List ℕ → List ℕ
measure notes = text (codes "<measure number=\"1\">\n" ++ attributes ++ notes ++ codes "</measure>\n")

-- a note by its letter in octave 4, or a further one of a chord, with its duration, what sounds of its ties, its type, and its
-- marks
abbrev note_with : List ℕ → List ℕ → List ℕ → List ℕ → List ℕ → List ℕ → List ℕ
note_with front letter duration ties kind marks =
    codes "<note>" ++ front ++ codes "<pitch><step>" ++ letter ++ codes "</step><octave>4</octave></pitch><duration>" ++ duration
    ++ codes "</duration>" ++ ties ++ codes "<type>" ++ kind ++ codes "</type>" ++ marks ++ codes "</note>\n"

abbrev stop : List ℕ
stop = codes "<tie type=\"stop\"/>"

abbrev start : List ℕ
start = codes "<tie type=\"start\"/>"

abbrev whole_note : List ℕ
whole_note = note_with [] (codes "C") (codes "256") [] (codes "whole") []

abbrev grace_note : List ℕ
grace_note = codes "<note><grace slash=\"yes\"/><pitch><step>D</step><octave>4</octave></pitch><type>eighth</type></note>\n"

-- A short chord with a dot, a rest, ties into a triplet, out of it and over a barline, a grace chord, a measure of rests in another
-- signature; and a part of rests
abbrev parts : List ℕ
parts =
    codes "<part id=\"P1\">\n"
    ++ codes "<measure number=\"1\">\n"
    ++ codes "<attributes><divisions>48</divisions><time><beats>4</beats><beat-type>4</beat-type></time>"
    ++ codes "<clef><sign>F</sign><line>4</line></clef></attributes>\n"
    ++ codes "<note><pitch><step>C</step><octave>4</octave></pitch><duration>72</duration>"
    ++ codes "<type>quarter</type><dot/><notations><articulations><staccato/></articulations></notations></note>\n"
    ++ codes "<note><chord/><pitch><step>E</step><alter>-1</alter><octave>4</octave></pitch>"
    ++ codes "<duration>72</duration><type>quarter</type><dot/></note>\n"
    ++ codes "<note><rest/><duration>24</duration><type>eighth</type></note>\n"
    ++ codes "<note><pitch><step>C</step><octave>4</octave></pitch><duration>32</duration>"
    ++ codes "<tie type=\"start\"/><type>quarter</type><time-modification><actual-notes>3</actual-notes>"
    ++ codes "<normal-notes>2</normal-notes></time-modification><notations><tied type=\"start\"/>"
    ++ codes "<tuplet type=\"start\"/></notations></note>\n"
    ++ codes "<note><pitch><step>C</step><octave>4</octave></pitch><duration>16</duration><tie type=\"stop\"/>"
    ++ codes "<tie type=\"start\"/><type>eighth</type><time-modification><actual-notes>3</actual-notes>"
    ++ codes "<normal-notes>2</normal-notes></time-modification><notations><tied type=\"stop\"/>"
    ++ codes "<tied type=\"start\"/><tuplet type=\"stop\"/></notations></note>\n"
    ++ codes "<note><pitch><step>C</step><octave>4</octave></pitch><duration>48</duration><tie type=\"stop\"/>"
    ++ codes "<tie type=\"start\"/><type>quarter</type><notations><tied type=\"stop\"/>"
    ++ codes "<tied type=\"start\"/></notations></note>\n"
    ++ codes "</measure>\n"
    ++ codes "<measure number=\"2\">\n"
    ++ codes "<note><pitch><step>C</step><octave>4</octave></pitch><duration>96</duration><tie type=\"stop\"/>"
    ++ codes "<type>half</type><notations><tied type=\"stop\"/></notations></note>\n"
    ++ codes "<note><grace slash=\"yes\"/><pitch><step>D</step><octave>4</octave></pitch><type>eighth</type></note>\n"
    ++ codes "<note><grace slash=\"yes\"/><chord/><pitch><step>F</step><octave>4</octave></pitch>"
    ++ codes "<type>eighth</type></note>\n"
    ++ codes "<note><pitch><step>B</step><octave>3</octave></pitch><duration>96</duration><type>half</type></note>\n"
    ++ codes "</measure>\n"
    ++ codes "<measure number=\"3\">\n"
    ++ codes "<attributes><time><beats>3</beats><beat-type>8</beat-type></time></attributes>\n"
    ++ codes "<note><rest measure=\"yes\"/><duration>72</duration></note>\n"
    ++ codes "<barline location=\"right\"><bar-style>light-heavy</bar-style></barline>\n"
    ++ codes "</measure>\n"
    ++ codes "</part>\n"
    ++ codes "<part id=\"P2\">\n"
    ++ codes "<measure number=\"1\">\n"
    ++ codes "<attributes><divisions>48</divisions><time><beats>4</beats><beat-type>4</beat-type></time></attributes>\n"
    ++ codes "<note><rest measure=\"yes\"/><duration>192</duration></note>\n"
    ++ codes "</measure>\n"
    ++ codes "<measure number=\"2\">\n"
    ++ codes "<note><rest measure=\"yes\"/><duration>192</duration></note>\n"
    ++ codes "</measure>\n"
    ++ codes "<measure number=\"3\">\n"
    ++ codes "<attributes><time><beats>3</beats><beat-type>8</beat-type></time></attributes>\n"
    ++ codes "<note><rest measure=\"yes\"/><duration>72</duration></note>\n"
    ++ codes "</measure>\n"
    ++ codes "</part>\n"
    ++ codes "</score-partwise>\n"

reads_parts : musicxml_events (head ++ parts)
    ≡ Some ((
    span 0 1 3 8 (2 ^ 60 + 2 ^ 63) [] true ∷ span 1 2 1 1 (2 ^ 60) [] false
    ∷ span 3 2 1 2 (2 ^ 59) ((2 ^ 62 + 2 ^ 65) ∷ []) false ∷ []) ∷ [] ∷ [])
unfolding kinds text_parts hear_tag hear_value hear_xml_word xml_key part_values part_marks head_values head_marks number_of gcd
    lib.Count.ones
reads_parts = refl

reads_lengths : measure_lengths (head ++ parts) ≡ Some ((192 ∷ 192 ∷ 72 ∷ []) ∷ (192 ∷ 192 ∷ 72 ∷ []) ∷ [])
unfolding kinds text_parts hear_tag hear_value hear_xml_word xml_key part_values part_marks head_values head_marks number_of gcd
    lib.Count.ones
reads_lengths = refl

reads_whole : musicxml_events (measure whole_note) ≡ Some ((span 0 1 1 1 (2 ^ 60) [] false ∷ []) ∷ [])
unfolding kinds text_parts hear_tag hear_value hear_xml_word xml_key part_values part_marks head_values head_marks number_of gcd
    lib.Count.ones
reads_whole = refl

-- ---- of such texts nothing is read: a chord whose keys fall, whose notes differ in their duration, or in their ties, a second note
-- that is marked short, a further note of a rest

falling :
    musicxml_events (measure (note_with [] (codes "E") (codes "256") [] (codes "whole") []
    ++ note_with (codes "<chord/>") (codes "C") (codes "256") [] (codes "whole") [])) ≡ None
unfolding kinds text_parts hear_tag hear_value hear_xml_word xml_key part_values part_marks head_values head_marks number_of gcd
    lib.Count.ones
falling = refl

two_lengths :
    musicxml_events (measure (note_with [] (codes "C") (codes "256") [] (codes "whole") []
    ++ note_with (codes "<chord/>") (codes "E") (codes "128") [] (codes "half") [])) ≡ None
unfolding kinds text_parts hear_tag hear_value hear_xml_word xml_key part_values part_marks head_values head_marks number_of gcd
    lib.Count.ones
two_lengths = refl

two_ties :
    musicxml_events (measure (note_with [] (codes "C") (codes "256") [] (codes "whole") []
    ++ note_with (codes "<chord/>") (codes "E") (codes "256") start (codes "whole") [])) ≡ None
unfolding kinds text_parts hear_tag hear_value hear_xml_word xml_key part_values part_marks head_values head_marks number_of gcd
    lib.Count.ones
two_ties = refl

second_short :
    musicxml_events (measure (note_with [] (codes "C") (codes "256") [] (codes "whole") []
    ++ note_with (codes "<chord/>") (codes "E") (codes "256") [] (codes "whole")
    (codes "<notations><articulations><staccato/></articulations></notations>"))) ≡ None
unfolding kinds text_parts hear_tag hear_value hear_xml_word xml_key part_values part_marks head_values head_marks number_of gcd
    lib.Count.ones
second_short = refl

of_rest :
    musicxml_events (measure (codes "<note><rest/><duration>256</duration><type>whole</type></note>\n"
    ++ note_with (codes "<chord/>") (codes "E") (codes "256") [] (codes "whole") [])) ≡ None
unfolding kinds text_parts hear_tag hear_value hear_xml_word xml_key part_values part_marks head_values head_marks number_of gcd
    lib.Count.ones
of_rest = refl

-- ---- nor of a tie to other keys, to a rest, to the end, from nowhere, or that is not taken up

to_others :
    musicxml_events (measure (note_with [] (codes "C") (codes "128") start (codes "half") []
    ++ note_with [] (codes "D") (codes "128") stop (codes "half") [])) ≡ None
unfolding kinds text_parts hear_tag hear_value hear_xml_word xml_key part_values part_marks head_values head_marks number_of gcd
    lib.Count.ones
to_others = refl

to_a_rest :
    musicxml_events (measure (note_with [] (codes "C") (codes "128") start (codes "half") []
    ++ codes "<note><rest/><duration>128</duration><type>half</type></note>\n")) ≡ None
unfolding kinds text_parts hear_tag hear_value hear_xml_word xml_key part_values part_marks head_values head_marks number_of gcd
    lib.Count.ones
to_a_rest = refl

to_the_end : musicxml_events (measure (note_with [] (codes "C") (codes "256") start (codes "whole") [])) ≡ None
unfolding kinds text_parts hear_tag hear_value hear_xml_word xml_key part_values part_marks head_values head_marks number_of gcd
    lib.Count.ones
to_the_end = refl

from_nowhere : musicxml_events (measure (note_with [] (codes "C") (codes "256") stop (codes "whole") [])) ≡ None
unfolding kinds text_parts hear_tag hear_value hear_xml_word xml_key part_values part_marks head_values head_marks number_of gcd
    lib.Count.ones
from_nowhere = refl

not_taken_up :
    musicxml_events (measure (note_with [] (codes "C") (codes "128") start (codes "half") []
    ++ note_with [] (codes "C") (codes "128") [] (codes "half") [])) ≡ None
unfolding kinds text_parts hear_tag hear_value hear_xml_word xml_key part_values part_marks head_values head_marks number_of gcd
    lib.Count.ones
not_taken_up = refl

-- ---- of a grace chord before a rest, within a tie, or at the end of a measure

grace_of_rest :
    musicxml_events (measure (grace_note
    ++ codes "<note><rest/><duration>256</duration><type>whole</type></note>\n")) ≡ None
unfolding kinds text_parts hear_tag hear_value hear_xml_word xml_key part_values part_marks head_values head_marks number_of gcd
    lib.Count.ones
grace_of_rest = refl

grace_in_tie :
    musicxml_events (measure (note_with [] (codes "C") (codes "128") start (codes "half") []
    ++ grace_note
    ++ note_with [] (codes "C") (codes "128") stop (codes "half") [])) ≡ None
unfolding kinds text_parts hear_tag hear_value hear_xml_word xml_key part_values part_marks head_values head_marks number_of gcd
    lib.Count.ones
grace_in_tie = refl

grace_at_end : musicxml_events (measure (whole_note ++ grace_note)) ≡ None
unfolding kinds text_parts hear_tag hear_value hear_xml_word xml_key part_values part_marks head_values head_marks number_of gcd
    lib.Count.ones
grace_at_end = refl

-- ---- of a measure that is too short, a value that is not the duration, a ratio that is not, a note without a pitch, and an element
-- that is not known

too_short : musicxml_events (measure (note_with [] (codes "C") (codes "128") [] (codes "half") [])) ≡ None
unfolding kinds text_parts hear_tag hear_value hear_xml_word xml_key part_values part_marks head_values head_marks number_of gcd
    lib.Count.ones
too_short = refl

other_value : musicxml_events (measure (note_with [] (codes "C") (codes "256") [] (codes "half") [])) ≡ None
unfolding kinds text_parts hear_tag hear_value hear_xml_word xml_key part_values part_marks head_values head_marks number_of gcd
    lib.Count.ones
other_value = refl

other_ratio :
    musicxml_events (measure (note_with [] (codes "C") (codes "256") [] (codes "whole")
    (codes "<time-modification><actual-notes>3</actual-notes><normal-notes>2</normal-notes></time-modification>"))) ≡ None
unfolding kinds text_parts hear_tag hear_value hear_xml_word xml_key part_values part_marks head_values head_marks number_of gcd
    lib.Count.ones
other_ratio = refl

no_pitch : musicxml_events (measure (codes "<note><duration>256</duration><type>whole</type></note>\n")) ≡ None
unfolding kinds text_parts hear_tag hear_value hear_xml_word xml_key part_values part_marks head_values head_marks number_of gcd
    lib.Count.ones
no_pitch = refl

not_known : musicxml_events (measure (whole_note ++ codes "<backup><duration>256</duration></backup>\n")) ≡ None
unfolding kinds text_parts hear_tag hear_value hear_xml_word xml_key part_values part_marks head_values head_marks number_of gcd
    lib.Count.ones
not_known = refl

-- ---- and of a text that is cut off

cut_text : musicxml_events (head ++ codes "<part id=\"P1\">\n<measure number=\"1\">\n" ++ attributes ++ whole_note
    ++ codes "</measure>\n</part") ≡ None
unfolding kinds text_parts hear_tag hear_value hear_xml_word xml_key part_values part_marks head_values head_marks number_of gcd
    lib.Count.ones
cut_text = refl
