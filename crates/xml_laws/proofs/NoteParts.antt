-- The elements of a note, each by what it adds to what was read.
use Rattle.std.proofs.Common.{◌≡◌, ℕ, ◌<◌, ◌&&◌, ◌==◌, Bool, true, false, not, List, [], ◌∷◌, ◌++◌, Option, Some, None, refl, ap, ◌∙◌, arith}
use Rattle.std.specs.Prelude.{ℤ, IfSome, codes, decimal}
use Rattle.std.specs.Char.{is_ascii_digit}
use Rattle.std.specs.Fmt.{signed_decimal}
use Rattle.std.proofs.lemmas.Bool.Decides.{nat_tests}
use Rattle.derivation.specs.Score.{IsKeySignature}
use Rattle.text_words.specs.Steps.{◌>>=◌}
use Rattle.text_words.proofs.TextTests.{all_weaker, decimal_digits}
use Rattle.notation.specs.declared.names.PitchName.{PitchName}
use Rattle.notation.specs.Names.{pitch_name}
use Rattle.notation.specs.Notes.{Note}
use Rattle.musicxml_writer.specs.Elements.{attribute_start, closing, element, empty_element, empty_with, opening, some_element, text_if}
use Rattle.musicxml_writer.specs.Notes.{bracket_ends, chord_mark, key_marks, notations, short_mark, start_tag, stop_tag, tie_ends}
use Rattle.musicxml_writer.specs.Pitches.{alter_text, key_pitch, letter_text, pitch_text}
use Rattle.xml_laws.specs.Hearing.{HeardPart, hear_keys, hear_tag, hear_value, hear_xml_word, within_note}
use Rattle.xml_laws.specs.Notes.{ReadNote, xml_number}
use Rattle.xml_laws.specs.Pitches.{xml_key}
use Rattle.xml_laws.specs.Reading.{read_parts}
use Rattle.xml_laws.specs.Words.{part_marks, part_values, xml_words}
use Rattle.xml_laws.proofs.Cutting.{is_content_byte, is_plain_content, word}
use Rattle.xml_laws.proofs.Names.{alter_plain, letter_plain, name_read, octave_plain}
use Rattle.xml_laws.proofs.ReadTexts.{IsValueName, Reads, reads_both, reads_element, reads_if, reads_none, reads_some, reads_value}

-- ---- numbers are plain contents

digit_plain : (b : ℕ) → is_ascii_digit b ≡ true → is_content_byte b ≡ true
digit_plain b h =
    let angle : (b == 60) ≡ false = grind (arith, nat_tests, h) in
    let line : (b == 10) ≡ false = grind (arith, nat_tests, h) in
    rw (angle, line) refl

pub decimal_plain : (n : ℕ) → is_plain_content (decimal n) ≡ true
decimal_plain n = all_weaker is_ascii_digit is_content_byte (decimal n) digit_plain (decimal_digits n)

-- ---- names

step_name : IsValueName (codes "step")
unfolding hear_xml_word hear_tag hear_value part_values part_marks
step_name = record { angles = refl; opens = refl; closes = refl; silent = λ h. refl }

alter_name : IsValueName (codes "alter")
unfolding hear_xml_word hear_tag hear_value part_values part_marks
alter_name = record { angles = refl; opens = refl; closes = refl; silent = λ h. refl }

octave_name : IsValueName (codes "octave")
unfolding hear_xml_word hear_tag hear_value part_values part_marks
octave_name = record { angles = refl; opens = refl; closes = refl; silent = λ h. refl }

duration_name : IsValueName (codes "duration")
unfolding hear_xml_word hear_tag hear_value part_values part_marks
duration_name = record { angles = refl; opens = refl; closes = refl; silent = λ h. refl }

-- ---- within a note

abbrev pub noted : HeardPart → ReadNote → HeardPart
noted h n = record h { note = Some n }

pub mark_read : (h : HeardPart) (n : ReadNote) (lowest : Bool)
    → Reads (noted h (record n { further = false })) (chord_mark lowest) (noted h (record n { further = not lowest }))
unfolding chord_mark empty_element hear_xml_word hear_tag part_values part_marks
mark_read h n true more = refl
mark_read h n false more = refl

-- ---- pitches

step_read : (h : HeardPart) (n : ReadNote) (text : List ℕ) → is_plain_content text ≡ true
    → Reads (noted h n) (element (codes "step") text) (noted h (record n { step = text }))
unfolding hear_xml_word hear_tag hear_value part_values part_marks
step_read h n text plain = reads_value (noted h n) (noted h (record n { step = text })) (codes "step") text step_name plain refl

alter_read : (h : HeardPart) (n : ReadNote) (text : List ℕ) → is_plain_content text ≡ true
    → Reads (noted h (record n { alter = [] })) (some_element (codes "alter") text) (noted h (record n { alter = text }))
unfolding some_element hear_xml_word hear_tag hear_value part_values part_marks
alter_read h n [] plain = reads_none (noted h (record n { alter = [] }))
alter_read h n (c ∷ text) plain = reads_value (noted h (record n { alter = [] })) (noted h (record n { alter = c ∷ text }))
    (codes "alter") (c ∷ text) alter_name plain refl

octave_read : (h : HeardPart) (n : ReadNote) (text : List ℕ) → is_plain_content text ≡ true
    → Reads (noted h n) (element (codes "octave") text) (noted h (record n { octave = text }))
unfolding hear_xml_word hear_tag hear_value part_values part_marks
octave_read h n text plain = reads_value (noted h n) (noted h (record n { octave = text })) (codes "octave") text octave_name plain refl

pitch_opens : (h : HeardPart) → Reads h (opening (codes "pitch")) h
unfolding opening hear_xml_word hear_tag part_values part_marks
pitch_opens h more = refl

pitch_closes : (h : HeardPart) (n : ReadNote) (k : ℕ) → xml_key n.step n.alter n.octave ≡ Some k
    → Reads (noted h (record n { keys = None })) (closing (codes "pitch")) (noted h (record n { keys = Some (k ∷ []) }))
unfolding closing hear_xml_word hear_tag part_values part_marks
pitch_closes h n k is more =
    ap (λ o. (o >>= λ key. hear_keys (noted h (record n { keys = None })) (record n { keys = None }) (key ∷ []))
    >>= λ next. read_parts (Some next) (xml_words more)) is

-- a note by its pitch
abbrev pub pitched : ReadNote → PitchName → ℕ → ReadNote
pitched n name k = record n {
  step = letter_text name.letter;
  alter = alter_text name.alteration;
  octave = signed_decimal name.octave;
  keys = Some (k ∷ []);
}

pub pitch_read : (h : HeardPart) (n : ReadNote) (sf : Option ℤ) (k : ℕ) → IfSome sf IsKeySignature → k < 128
    → Reads (noted h (record n { alter = []; keys = None })) (key_pitch sf k) (noted h (pitched n (pitch_name sf k) k))
unfolding key_pitch pitch_text
pitch_read h n sf k key within =
    let name = pitch_name sf k in
    let letter = letter_text name.letter in
    let alter = alter_text name.alteration in
    let octave = signed_decimal name.octave in
    let first : ReadNote = record n { alter = []; keys = None } in
    let second : ReadNote = record n { step = letter; alter = []; keys = None } in
    let third : ReadNote = record n { step = letter; alter = alter; keys = None } in
    let fourth : ReadNote = record n { step = letter; alter = alter; octave = octave; keys = None } in
    let one = element (codes "step") letter in
    let two = some_element (codes "alter") alter in
    let three = element (codes "octave") octave in
    reads_element (noted h first) (noted h first) (noted h fourth) (noted h (pitched n name k)) (codes "pitch") (one ++ two ++ three)
    (pitch_opens (noted h first))
    (reads_both (noted h first) (noted h third) (noted h fourth) (one ++ two) three
    (reads_both (noted h first) (noted h second) (noted h third) one two (step_read h first letter (letter_plain name.letter))
    (alter_read h second alter (alter_plain name.alteration)))
    (octave_read h third octave (octave_plain sf k key within)))
    (pitch_closes h fourth k (name_read sf k key within))

-- ---- durations

duration_heard : (h : HeardPart) (n : ReadNote) (quarter d : ℕ) → h.divisions ≡ Some quarter → xml_number (decimal d) ≡ Some d
    → hear_xml_word (noted h n) (word (decimal d) (codes "/duration")) ≡ Some (noted h (record n { duration = Some d }))
unfolding hear_xml_word hear_value part_values
duration_heard h n quarter d said number =
    ap (λ o. o >>= λ quarter. xml_number (decimal d) >>= λ len. within_note (noted h n) (λ n. record n { duration = Some len })) said
    ∙ ap (λ o. o >>= λ len. within_note (noted h n) (λ n. record n { duration = Some len })) number

pub duration_read : (h : HeardPart) (n : ReadNote) (quarter d : ℕ) → h.divisions ≡ Some quarter → xml_number (decimal d) ≡ Some d
    → Reads (noted h n) (element (codes "duration") (decimal d)) (noted h (record n { duration = Some d }))
duration_read h n quarter d said number = reads_value (noted h n) (noted h (record n { duration = Some d })) (codes "duration") (decimal d)
    duration_name (decimal_plain d) (duration_heard h n quarter d said number)

-- ---- ties and marks

stop_read : (h : HeardPart) (n : ReadNote) (comes : Bool)
    → Reads (noted h (record n { comes = false })) (text_if comes (stop_tag (codes "tie"))) (noted h (record n { comes = comes }))
unfolding empty_with attribute_start hear_xml_word hear_tag part_values part_marks
stop_read h n true more = refl
stop_read h n false more = refl

start_read : (h : HeardPart) (n : ReadNote) (goes : Bool)
    → Reads (noted h (record n { goes = false })) (text_if goes (start_tag (codes "tie"))) (noted h (record n { goes = goes }))
unfolding empty_with attribute_start hear_xml_word hear_tag part_values part_marks
start_read h n true more = refl
start_read h n false more = refl

pub ties_read : (h : HeardPart) (n : ReadNote) (written : Note)
    → Reads (noted h (record n { comes = false; goes = false })) (tie_ends (codes "tie") written)
    (noted h (record n { comes = written.comes; goes = written.goes }))
unfolding tie_ends
ties_read h n written = reads_both (noted h (record n { comes = false; goes = false }))
    (noted h (record n { comes = written.comes; goes = false }))
    (noted h (record n { comes = written.comes; goes = written.goes })) (text_if written.comes (stop_tag (codes "tie")))
    (text_if written.goes (start_tag (codes "tie"))) (stop_read h (record n { goes = false }) written.comes)
    (start_read h (record n { comes = written.comes }) written.goes)

tied_stops : (h : HeardPart) → Reads h (stop_tag (codes "tied")) h
unfolding empty_with attribute_start hear_xml_word hear_tag part_values part_marks
tied_stops h more = refl

tied_starts : (h : HeardPart) → Reads h (start_tag (codes "tied")) h
unfolding empty_with attribute_start hear_xml_word hear_tag part_values part_marks
tied_starts h more = refl

tied_read : (h : HeardPart) (written : Note) → Reads h (tie_ends (codes "tied") written) h
unfolding tie_ends
tied_read h written = reads_both h h h (text_if written.comes (stop_tag (codes "tied"))) (text_if written.goes (start_tag (codes "tied")))
    (reads_if h written.comes (stop_tag (codes "tied")) (tied_stops h)) (reads_if h written.goes (start_tag (codes "tied")) (tied_starts h))

tuplet_stops : (h : HeardPart) → Reads h (stop_tag (codes "tuplet")) h
unfolding empty_with attribute_start hear_xml_word hear_tag part_values part_marks
tuplet_stops h more = refl

tuplet_starts : (h : HeardPart) → Reads h (start_tag (codes "tuplet")) h
unfolding empty_with attribute_start hear_xml_word hear_tag part_values part_marks
tuplet_starts h more = refl

bracket_read : (h : HeardPart) (starts stops : Bool) → Reads h (bracket_ends (record { starts = starts; stops = stops })) h
unfolding bracket_ends
bracket_read h starts stops = reads_both h h h (text_if starts (start_tag (codes "tuplet"))) (text_if stops (stop_tag (codes "tuplet")))
    (reads_if h starts (start_tag (codes "tuplet")) (tuplet_starts h)) (reads_if h stops (stop_tag (codes "tuplet")) (tuplet_stops h))

short_read : (h : HeardPart) (n : ReadNote) (short : Bool)
    → Reads (noted h (record n { short = false })) (short_mark short) (noted h (record n { short = short }))
unfolding short_mark element empty_element opening closing hear_xml_word hear_tag part_values part_marks
short_read h n true more = refl
short_read h n false more = refl

notations_open : (h : HeardPart) → Reads h (opening (codes "notations")) h
unfolding opening hear_xml_word hear_tag part_values part_marks
notations_open h more = refl

notations_close : (h : HeardPart) → Reads h (closing (codes "notations")) h
unfolding closing hear_xml_word hear_tag part_values part_marks
notations_close h more = refl

-- the mark of a short note stands at its lowest key
pub marks_read : (h : HeardPart) (n : ReadNote) (starts stops : Bool) (written : Note) (lowest : Bool)
    → Reads (noted h (record n { short = false })) (notations (key_marks (record { starts = starts; stops = stops }) written lowest))
    (noted h (record n { short = lowest && written.short }))
unfolding key_marks
marks_read h n starts stops written lowest =
    let before = noted h (record n { short = false }) in
    let after = noted h (record n { short = lowest && written.short }) in
    reads_some before after (codes "notations") (key_marks (record { starts = starts; stops = stops }) written lowest)
    (notations_open before)
    (reads_both before before after (tie_ends (codes "tied") written)
    (text_if lowest (bracket_ends (record { starts = starts; stops = stops }) ++ short_mark written.short))
    (tied_read before written) (go lowest))
    (notations_close after)
  where
    go : (lowest : Bool)
        → Reads (noted h (record n { short = false }))
        (text_if lowest (bracket_ends (record { starts = starts; stops = stops }) ++ short_mark written.short))
        (noted h (record n { short = lowest && written.short }))
    go true = reads_both (noted h (record n { short = false })) (noted h (record n { short = false }))
        (noted h (record n { short = written.short }))
        (bracket_ends (record { starts = starts; stops = stops })) (short_mark written.short)
        (bracket_read (noted h (record n { short = false })) starts stops)
        (short_read h n written.short)
    go false = reads_none (noted h (record n { short = false }))

pub rest_marks_read : (h : HeardPart) (starts stops : Bool)
    → Reads h (notations (bracket_ends (record { starts = starts; stops = stops }))) h
rest_marks_read h starts stops = reads_some h h (codes "notations") (bracket_ends (record { starts = starts; stops = stops }))
    (notations_open h)
    (bracket_read h starts stops) (notations_close h)
