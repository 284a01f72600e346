-- What stands outside of the parts says nothing of what is heard.
use Rattle.std.proofs.Common.{◌≡◌, ℕ, ◌+◌, ◌==◌, not, true, false, List, [], ◌∷◌, ◌++◌, None, refl, ap, ◌∙◌, append_assoc}
use Rattle.std.specs.Prelude.{codes, decimal}
use Rattle.text_words.proofs.TextTests.{all_append, lacks}
use Rattle.musicxml_writer.specs.Elements.{closing, element, line, opening, opening_with}
use Rattle.musicxml_writer.specs.Parts.{part_name}
use Rattle.musicxml_writer.specs.Text.{channel_name, head, instrument_name, listed_part, listed_parts, named_instrument, part_list, played_instrument}
use Rattle.xml_laws.specs.Reading.{begins_part, read_parts}
use Rattle.xml_laws.specs.Words.{XmlWord, head_marks, head_values, is_word_of, xml_words}
use Rattle.xml_laws.proofs.Cutting.{element_cut, is_plain_content, opening_cut, tag_with, word}
use Rattle.xml_laws.proofs.NoteParts.{decimal_plain}
use Rattle.xml_laws.proofs.Settings.{decimal_inside}

-- what follows a text is read as if it stood alone
abbrev pub Passes : List ℕ → Type 0
Passes text = (more : List ℕ) → read_parts None (xml_words (text ++ more)) ≡ read_parts None (xml_words more)

passes_both : (xs ys : List ℕ) → Passes xs → Passes ys → Passes (xs ++ ys)
passes_both xs ys first second more = ap (λ t. read_parts None (xml_words t)) (append_assoc xs ys more) ∙ first (ys ++ more) ∙ second more

passes_line : (text : List ℕ) → Passes text → Passes (line text)
passes_line text is more = ap (λ t. read_parts None (xml_words t)) (append_assoc text (codes "\n") more) ∙ is (codes "\n" ++ more)

word_passes : (w : XmlWord) (ws : List XmlWord) → begins_part w ≡ false → is_word_of head_values head_marks w ≡ true
    → read_parts None (w ∷ ws) ≡ read_parts None ws
word_passes w ws begins is = rw (begins, is) refl

record IsHeadValue (name : List ℕ) : Type 0 where
  angles : lacks 62 name ≡ true
  begins : begins_part (word [] name) ≡ false
  opens : is_word_of head_values head_marks (word [] name) ≡ true
  ends : (text : List ℕ) → begins_part (word text (47 ∷ name)) ≡ false
  closes : (text : List ℕ) → is_word_of head_values head_marks (word text (47 ∷ name)) ≡ true

value_passes : (name text : List ℕ) → IsHeadValue name → is_plain_content text ≡ true → Passes (element name text)
value_passes name text is plain more =
    ap (read_parts None) (element_cut name text more is.angles plain)
    ∙ word_passes (word [] name) (word text (47 ∷ name) ∷ xml_words more) is.begins is.opens
    ∙ word_passes (word text (47 ∷ name)) (xml_words more) (is.ends text) (is.closes text)

opening_passes : (name attribute value : List ℕ) → lacks 62 name ≡ true → lacks 62 attribute ≡ true → lacks 62 value ≡ true
    → begins_part (word [] (tag_with name attribute value [])) ≡ false
    → is_word_of head_values head_marks (word [] (tag_with name attribute value [])) ≡ true → Passes (opening_with name attribute value)
opening_passes name attribute value a b c begins is more =
    ap (read_parts None) (opening_cut name attribute value more a b c)
    ∙ word_passes (word [] (tag_with name attribute value [])) (xml_words more) begins is

-- ---- the head, and the list of the parts

pub head_passes : Passes head
unfolding head head_values head_marks
head_passes more = refl

name_value : IsHeadValue (codes "part-name")
unfolding head_values head_marks
name_value = record { angles = refl; begins = refl; opens = refl; ends = λ text. refl; closes = λ text. refl }

instrument_value : IsHeadValue (codes "instrument-name")
unfolding head_values head_marks
instrument_value = record { angles = refl; begins = refl; opens = refl; ends = λ text. refl; closes = λ text. refl }

channel_value : IsHeadValue (codes "midi-channel")
unfolding head_values head_marks
channel_value = record { angles = refl; begins = refl; opens = refl; ends = λ text. refl; closes = λ text. refl }

pub name_inside : (n : ℕ) → lacks 62 (part_name n) ≡ true
name_inside n = decimal_inside n

instrument_inside : (n : ℕ) → lacks 62 (instrument_name n) ≡ true
instrument_inside n = all_append (λ b. not (b == 62)) (part_name n) (codes "-I1") (name_inside n) refl

score_part_opens : (n : ℕ) → Passes (opening_with (codes "score-part") (codes "id") (part_name n))
unfolding head_values head_marks
score_part_opens n = opening_passes (codes "score-part") (codes "id") (part_name n) refl refl (name_inside n) refl refl

score_instrument_opens : (n : ℕ) → Passes (opening_with (codes "score-instrument") (codes "id") (instrument_name n))
unfolding head_values head_marks
score_instrument_opens n = opening_passes (codes "score-instrument") (codes "id") (instrument_name n) refl refl
    (instrument_inside n) refl refl

midi_instrument_opens : (n : ℕ) → Passes (opening_with (codes "midi-instrument") (codes "id") (instrument_name n))
unfolding head_values head_marks
midi_instrument_opens n = opening_passes (codes "midi-instrument") (codes "id") (instrument_name n) refl refl
    (instrument_inside n) refl refl

score_part_closes : Passes (closing (codes "score-part"))
unfolding closing head_values head_marks
score_part_closes more = refl

score_instrument_closes : Passes (closing (codes "score-instrument"))
unfolding closing head_values head_marks
score_instrument_closes more = refl

midi_instrument_closes : Passes (closing (codes "midi-instrument"))
unfolding closing head_values head_marks
midi_instrument_closes more = refl

list_opens : Passes (opening (codes "part-list"))
unfolding opening head_values head_marks
list_opens more = refl

list_closes : Passes (closing (codes "part-list"))
unfolding closing head_values head_marks
list_closes more = refl

named_passes : (n channel : ℕ) → Passes (named_instrument n channel)
unfolding named_instrument
named_passes n channel =
    let one = opening_with (codes "score-instrument") (codes "id") (instrument_name n) in
    let two = element (codes "instrument-name") (channel_name channel) in
    passes_both (one ++ two) (closing (codes "score-instrument"))
    (passes_both one two (score_instrument_opens n)
    (value_passes (codes "instrument-name") (channel_name channel) instrument_value (decimal_plain channel))) score_instrument_closes

played_passes : (n channel : ℕ) → Passes (played_instrument n channel)
unfolding played_instrument
played_passes n channel =
    let one = opening_with (codes "midi-instrument") (codes "id") (instrument_name n) in
    let two = element (codes "midi-channel") (decimal (channel + 1)) in
    passes_both (one ++ two) (closing (codes "midi-instrument"))
    (passes_both one two (midi_instrument_opens n)
    (value_passes (codes "midi-channel") (decimal (channel + 1)) channel_value (decimal_plain (channel + 1)))) midi_instrument_closes

listed_passes : (n channel : ℕ) → Passes (listed_part n channel)
unfolding listed_part
listed_passes n channel =
    let one = opening_with (codes "score-part") (codes "id") (part_name n) in
    let two = element (codes "part-name") (channel_name channel) in
    let three = named_instrument n channel in
    let four = played_instrument n channel in
    passes_line (one ++ two ++ three ++ four ++ closing (codes "score-part"))
    (passes_both (one ++ two ++ three ++ four) (closing (codes "score-part"))
    (passes_both (one ++ two ++ three) four
    (passes_both (one ++ two) three
    (passes_both one two (score_part_opens n) (value_passes (codes "part-name") (channel_name channel) name_value (decimal_plain channel)))
    (named_passes n channel)) (played_passes n channel)) score_part_closes)

all_listed : (n : ℕ) (channels : List ℕ) → Passes (listed_parts n channels)
all_listed n [] more = refl
all_listed n (channel ∷ channels) more =
    passes_both (listed_part n channel) (listed_parts (n + 1) channels) (listed_passes n channel) (all_listed (n + 1) channels) more

pub list_passes : (channels : List ℕ) → Passes (part_list channels)
unfolding part_list
list_passes channels =
    let one = line (opening (codes "part-list")) in
    passes_both (one ++ listed_parts 1 channels) (line (closing (codes "part-list")))
    (passes_both one (listed_parts 1 channels) (passes_line (opening (codes "part-list")) list_opens) (all_listed 1 channels))
    (passes_line (closing (codes "part-list")) list_closes)
