-- What stands before the notes of a bar says nothing of what is heard, but for the parts of a quarter.
use Rattle.std.proofs.Common.{◌≡◌, ℕ, zero, suc, ◌+◌, ◌*◌, ◌/◌, ◌≤◌, ◌&&◌, ◌||◌, ◌==◌, Bool, true, false, not, List, [], ◌∷◌, ◌++◌, Option, Some, None, refl, ap, subst, arith}
use Rattle.std.specs.Prelude.{ℤ, pos, negsuc, IsTrue, codes, decimal}
use Rattle.std.specs.Char.{is_ascii_digit}
use Rattle.std.specs.Fmt.{signed_decimal}
use Rattle.std.specs.Option.{option_map}
use Rattle.std.proofs.Math.Nat.{div-mul_cancel}
use Rattle.std.proofs.lemmas.Bool.{and_parts}
use Rattle.std.proofs.lemmas.Bool.Decides.{nat_tests}
use Rattle.rhythm_base.specs.declared.limits.TheConstants.{MOST_UNITS}
use Rattle.derivation.specs.declared.score.ScoreBar.{ScoreBar}
use Rattle.derivation.specs.Score.{IsScoreBar}
use Rattle.rhythm_base.specs.Signatures.{is_den}
use Rattle.durations.proofs.Beats.{beat_part}
use Rattle.score_words.specs.Changes.{key_before, quarters_of_minute, same_key, same_signature, same_tempo}
use Rattle.text_words.proofs.TextTests.{all_weaker, decimal_digits, lacks}
use Rattle.notation.specs.declared.clef.Clef.{Clef}
use Rattle.notation.specs.declared.clef.Clef.TheVariants.{BassBelow, Bass, Treble, TrebleAbove}
use Rattle.musicxml_writer.specs.Attributes.{attributes, attributes_line, changes_key, clef_text, divisions, is_none, key_change, line_text, metronome, octave_text, sign_text, tempo_line, tempo_text, time}
use Rattle.musicxml_writer.specs.Elements.{attribute_start, closing, element, empty_with, line, opening, opening_with, some_element, text_if}
use Rattle.xml_laws.specs.Hearing.{HeardPart, hear_tag, hear_value, hear_xml_word}
use Rattle.xml_laws.specs.Notes.{xml_number}
use Rattle.xml_laws.specs.Words.{part_marks, part_values}
use Rattle.xml_laws.proofs.Cutting.{is_plain_content, word}
use Rattle.xml_laws.proofs.Durations.{number_read}
use Rattle.xml_laws.proofs.NoteParts.{decimal_plain}
use Rattle.xml_laws.proofs.ReadTexts.{IsValueName, Reads, reads_both, reads_element, reads_empty, reads_if, reads_line, reads_none, reads_value}

-- ---- elements that say nothing of what is heard

record IsSilentValue (name : List ℕ) : Type 0 where
  own : IsValueName name
  said : (h : HeardPart) (text : List ℕ) → hear_xml_word h (word text (47 ∷ name)) ≡ Some h

silent_read : (h : HeardPart) (name text : List ℕ) → IsSilentValue name → is_plain_content text ≡ true → Reads h (element name text) h
silent_read h name text is plain = reads_value h h name text is.own plain (is.said h text)

record IsMark (name : List ℕ) : Type 0 where
  opens : (h : HeardPart) → Reads h (opening name) h
  closes : (h : HeardPart) → Reads h (closing name) h

mark_element : (h : HeardPart) (name content : List ℕ) → IsMark name → Reads h content h → Reads h (element name content) h
mark_element h name content is own = reads_element h h h h name content (is.opens h) own (is.closes h)

signed_plain : (z : ℤ) → is_plain_content (signed_decimal z) ≡ true
signed_plain (pos n) = decimal_plain n
signed_plain (negsuc n) = decimal_plain (suc n)

digit_inside : (b : ℕ) → is_ascii_digit b ≡ true → not (b == 62) ≡ true
digit_inside b h = let other : (b == 62) ≡ false = grind (arith, nat_tests, h) in rw other refl

pub decimal_inside : (n : ℕ) → lacks 62 (decimal n) ≡ true
decimal_inside n = all_weaker is_ascii_digit (λ b. not (b == 62)) (decimal n) digit_inside (decimal_digits n)

fifths_value : IsSilentValue (codes "fifths")
unfolding hear_xml_word hear_tag hear_value part_values part_marks
fifths_value = record { own = record { angles = refl; opens = refl; closes = refl; silent = λ h. refl }; said = λ h text. refl }

sign_value : IsSilentValue (codes "sign")
unfolding hear_xml_word hear_tag hear_value part_values part_marks
sign_value = record { own = record { angles = refl; opens = refl; closes = refl; silent = λ h. refl }; said = λ h text. refl }

line_value : IsSilentValue (codes "line")
unfolding hear_xml_word hear_tag hear_value part_values part_marks
line_value = record { own = record { angles = refl; opens = refl; closes = refl; silent = λ h. refl }; said = λ h text. refl }

clef_octave_change_value : IsSilentValue (codes "clef-octave-change")
unfolding hear_xml_word hear_tag hear_value part_values part_marks
clef_octave_change_value = record { own = record { angles = refl; opens = refl; closes = refl; silent = λ h. refl }; said = λ h text. refl }

beat_unit_value : IsSilentValue (codes "beat-unit")
unfolding hear_xml_word hear_tag hear_value part_values part_marks
beat_unit_value = record { own = record { angles = refl; opens = refl; closes = refl; silent = λ h. refl }; said = λ h text. refl }

per_minute_value : IsSilentValue (codes "per-minute")
unfolding hear_xml_word hear_tag hear_value part_values part_marks
per_minute_value = record { own = record { angles = refl; opens = refl; closes = refl; silent = λ h. refl }; said = λ h text. refl }

attributes_mark : IsMark (codes "attributes")
unfolding opening closing hear_xml_word hear_tag part_values part_marks
attributes_mark = record { opens = λ h more. refl; closes = λ h more. refl }

key_mark : IsMark (codes "key")
unfolding opening closing hear_xml_word hear_tag part_values part_marks
key_mark = record { opens = λ h more. refl; closes = λ h more. refl }

time_mark : IsMark (codes "time")
unfolding opening closing hear_xml_word hear_tag part_values part_marks
time_mark = record { opens = λ h more. refl; closes = λ h more. refl }

clef_mark : IsMark (codes "clef")
unfolding opening closing hear_xml_word hear_tag part_values part_marks
clef_mark = record { opens = λ h more. refl; closes = λ h more. refl }

direction_type_mark : IsMark (codes "direction-type")
unfolding opening closing hear_xml_word hear_tag part_values part_marks
direction_type_mark = record { opens = λ h more. refl; closes = λ h more. refl }

metronome_mark : IsMark (codes "metronome")
unfolding opening closing hear_xml_word hear_tag part_values part_marks
metronome_mark = record { opens = λ h more. refl; closes = λ h more. refl }

-- ---- keys, signatures and clefs

key_read : (h : HeardPart) (before sf : Option ℤ) → Reads h (key_change before sf) h
unfolding key_change
key_read h before None = reads_none h
key_read h before (Some sf) =
    let fifths = element (codes "fifths") (signed_decimal sf) in
    reads_if h (not (same_key before sf)) (element (codes "key") fifths)
    (mark_element h (codes "key") fifths key_mark (silent_read h (codes "fifths") (signed_decimal sf) fifths_value (signed_plain sf)))

-- where so much is said of the parts of a quarter, and of the signature
abbrev pub said : HeardPart → Option ℕ → Option ℕ → Option ℕ → HeardPart
said h d m n = record h { divisions = d; beats = m; beat_type = n }

beats_name : IsValueName (codes "beats")
unfolding hear_xml_word hear_tag hear_value part_values part_marks
beats_name = record { angles = refl; opens = refl; closes = refl; silent = λ h. refl }

beat_type_name : IsValueName (codes "beat-type")
unfolding hear_xml_word hear_tag hear_value part_values part_marks
beat_type_name = record { angles = refl; opens = refl; closes = refl; silent = λ h. refl }

beats_heard : (h : HeardPart) (n : ℕ) → xml_number (decimal n) ≡ Some n
    → hear_xml_word h (word (decimal n) (codes "/beats")) ≡ Some (record h { beats = Some n })
unfolding hear_xml_word hear_value part_values
beats_heard h n is = ap (option_map (λ n. record h { beats = Some n })) is

beat_type_heard : (h : HeardPart) (n : ℕ) → xml_number (decimal n) ≡ Some n
    → hear_xml_word h (word (decimal n) (codes "/beat-type")) ≡ Some (record h { beat_type = Some n })
unfolding hear_xml_word hear_value part_values
beat_type_heard h n is = ap (option_map (λ n. record h { beat_type = Some n })) is

beat_few : (den : ℕ) → IsTrue (is_den den) → (1 ≤ den) × (den ≤ 64)
beat_few den is = (some den (div-mul_cancel den (beat_part den is)), few (64 / den) (div-mul_cancel den (beat_part den is)))
  where
    some : (n : ℕ) → 64 / den * n ≡ 64 → 1 ≤ n
    some zero same = let none : 64 / den * zero ≡ 0 = omega arith in absurd (omega (arith, same, none))
    some (suc n) same = omega arith

    few : (k : ℕ) → k * den ≡ 64 → den ≤ 64
    few zero same = let none : zero * den ≡ 0 = omega arith in absurd (omega (arith, same, none))
    few (suc k) same = let more : suc k * den ≡ den + k * den = omega arith in omega (arith, same, more)

time_read : (h : HeardPart) (d m n : Option ℕ) (bar : ScoreBar) → IsScoreBar bar
    → Reads (said h d m n) (time bar) (said h d (Some bar.num) (Some bar.den))
unfolding time
time_read h d m n bar right =
    let start = said h d m n in
    let mid = said h d (Some bar.num) n in
    let next = said h d (Some bar.num) (Some bar.den) in
    let (some_den, few_den) = beat_few bar.den right.signature.power in
    let few_num = right.signature.few in
    let one = element (codes "beats") (decimal bar.num) in
    let two = element (codes "beat-type") (decimal bar.den) in
    reads_element start start next next (codes "time") (one ++ two) (time_mark.opens start)
    (reads_both start mid next one two
    (reads_value start mid (codes "beats") (decimal bar.num) beats_name (decimal_plain bar.num)
    (beats_heard start bar.num (number_read bar.num right.signature.some (omega (arith, few_num)))))
    (reads_value mid next (codes "beat-type") (decimal bar.den) beat_type_name (decimal_plain bar.den)
    (beat_type_heard mid bar.den (number_read bar.den some_den (omega (arith, few_den)))))) (time_mark.closes next)

sign_plain : (clef : Clef) → (is_plain_content (sign_text clef) ≡ true) × (is_plain_content (line_text clef) ≡ true)
    × (is_plain_content (octave_text clef) ≡ true)
sign_plain BassBelow = (refl, refl, refl)
sign_plain Bass = (refl, refl, refl)
sign_plain Treble = (refl, refl, refl)
sign_plain TrebleAbove = (refl, refl, refl)

some_value : (h : HeardPart) (name text : List ℕ) → IsSilentValue name → is_plain_content text ≡ true → Reads h (some_element name text) h
unfolding some_element
some_value h name [] is plain = reads_none h
some_value h name (c ∷ text) is plain = silent_read h name (c ∷ text) is plain

clef_read : (h : HeardPart) (clef : Clef) → Reads h (clef_text clef) h
unfolding clef_text
clef_read h clef =
    let (sign_is, line_is, octave_is) = sign_plain clef in
    let sign = element (codes "sign") (sign_text clef) in
    let row = element (codes "line") (line_text clef) in
    let octave = some_element (codes "clef-octave-change") (octave_text clef) in
    mark_element h (codes "clef") (sign ++ row ++ octave) clef_mark
    (reads_both h h h (sign ++ row) octave
    (reads_both h h h sign row (silent_read h (codes "sign") (sign_text clef) sign_value sign_is)
    (silent_read h (codes "line") (line_text clef) line_value line_is))
    (some_value h (codes "clef-octave-change") (octave_text clef) clef_octave_change_value octave_is))

-- ---- attributes

divisions_name : IsValueName (codes "divisions")
unfolding hear_xml_word hear_tag hear_value part_values part_marks
divisions_name = record { angles = refl; opens = refl; closes = refl; silent = λ h. refl }

divisions_heard : (h : HeardPart) (m k : Option ℕ) (n : ℕ) → xml_number (decimal n) ≡ Some n
    → hear_xml_word (said h None m k) (word (decimal n) (codes "/divisions")) ≡ Some (said h (Some n) m k)
unfolding hear_xml_word hear_value part_values
divisions_heard h m k n is = ap (option_map (λ n. said h (Some n) m k)) is

-- what is said after a bar: the parts of a quarter and a signature are said in the first one
abbrev pub said_after : ℕ → HeardPart → Option ScoreBar → HeardPart
said_after r h None = said h None None None
said_after r h (Some bar) = said h (Some (16 * r)) (Some bar.num) (Some bar.den)

same_said : (r : ℕ) (h : HeardPart) (before bar : ScoreBar) → same_signature (Some before) bar ≡ true
    → said_after r h (Some before) ≡ said_after r h (Some bar)
same_said r h before bar same =
    let (num, den) = and_parts (before.num == bar.num) (before.den == bar.den) same in
    let one : before.num ≡ bar.num = grind (arith, nat_tests, num) in
    let two : before.den ≡ bar.den = grind (arith, nat_tests, den) in
    λ i. said h (Some (16 * r)) (Some (one i)) (Some (two i))

module _ (r : ℕ) (units : 1 ≤ r) (few : r ≤ MOST_UNITS) (h : HeardPart) where
  divisions_read : Reads (said h None None None) (divisions r) (said h (Some (16 * r)) None None)
  unfolding divisions
  divisions_read =
      let number = number_read (16 * r) (omega (arith, units)) (omega (arith, few)) in
      reads_value (said h None None None) (said h (Some (16 * r)) None None) (codes "divisions") (decimal (16 * r)) divisions_name
      (decimal_plain (16 * r)) (divisions_heard h None None (16 * r) number)

  -- after what is said of the parts of a quarter
  mid_said : Option ScoreBar → HeardPart
  mid_said None = said h (Some (16 * r)) None None
  mid_said (Some before) = said h (Some (16 * r)) (Some before.num) (Some before.den)

  first_divisions : (before : Option ScoreBar) → Reads (said_after r h before) (text_if (is_none before) (divisions r)) (mid_said before)
  unfolding mid_said
  first_divisions None = divisions_read
  first_divisions (Some before) = reads_none (said_after r h (Some before))

  time_said : (before : Option ScoreBar) (bar : ScoreBar) → IsScoreBar bar
      → Reads (mid_said before) (text_if (not (same_signature before bar)) (time bar)) (said_after r h (Some bar))
  unfolding mid_said
  time_said None bar right = time_read h (Some (16 * r)) None None bar right
  time_said (Some before) bar right = go (same_signature (Some before) bar) refl
    where
      go : (b : Bool) → same_signature (Some before) bar ≡ b
          → Reads (said_after r h (Some before)) (text_if (not b) (time bar)) (said_after r h (Some bar))
      go true same =
          subst (λ p. Reads (said_after r h (Some before)) [] p) (same_said r h before bar same) (reads_none (said_after r h (Some before)))
      go false same = time_read h (Some (16 * r)) (Some before.num) (Some before.den) bar right

  attributes_read : (clef : Clef) (first : Bool) (before : Option ScoreBar) (bar : ScoreBar) → IsScoreBar bar
      → Reads (said_after r h before) (line
      (element (codes "attributes") (attributes (record { resolution = r; clef = clef; is_first = first }) before bar)))
      (said_after r h (Some bar))
  unfolding attributes
  attributes_read clef first before bar right =
      let start = said_after r h before in
      let mid = mid_said before in
      let next = said_after r h (Some bar) in
      let one = text_if (is_none before) (divisions r) in
      let two = key_change (key_before before) bar.sf in
      let three = text_if (not (same_signature before bar)) (time bar) in
      let four = text_if (is_none before) (clef_text clef) in
      reads_line start next (element (codes "attributes") (one ++ two ++ three ++ four))
      (reads_element start start next next (codes "attributes") (one ++ two ++ three ++ four) (attributes_mark.opens start)
      (reads_both start next next (one ++ two ++ three) four
      (reads_both start mid next (one ++ two) three
      (reads_both start mid mid one two (first_divisions before) (key_read mid (key_before before) bar.sf))
      (time_said before bar right))
      (reads_if next (is_none before) (clef_text clef) (clef_read next clef)))
      (attributes_mark.closes next))

  pub attributes_line_read : (clef : Clef) (first : Bool) (before : Option ScoreBar) (bar : ScoreBar) → IsScoreBar bar
      → Reads (said_after r h before) (attributes_line (record { resolution = r; clef = clef; is_first = first }) before bar)
      (said_after r h (Some bar))
  unfolding attributes_line
  attributes_line_read clef first None bar right = go (changes_key None bar.sf)
    where
      text : List ℕ
      text = line (element (codes "attributes") (attributes (record { resolution = r; clef = clef; is_first = first }) None bar))

      go : (b : Bool) → Reads (said_after r h None) (text_if (b || true) text) (said_after r h (Some bar))
      go true = attributes_read clef first None bar right
      go false = attributes_read clef first None bar right
  attributes_line_read clef first (Some before) bar right = go (changes_key before.sf bar.sf) (same_signature (Some before) bar) refl
    where
      text : List ℕ
      text = line (element (codes "attributes") (attributes (record { resolution = r; clef = clef; is_first = first }) (Some before) bar))

      go : (a b : Bool) → same_signature (Some before) bar ≡ b
          → Reads (said_after r h (Some before)) (text_if (a || not b) text) (said_after r h (Some bar))
      go true b same = attributes_read clef first (Some before) bar right
      go false false same = attributes_read clef first (Some before) bar right
      go false true same =
          subst (λ p. Reads (said_after r h (Some before)) [] p) (same_said r h before bar same) (reads_none (said_after r h (Some before)))

-- ---- tempos

direction_opens : (h : HeardPart) → Reads h (opening_with (codes "direction") (codes "placement") (codes "above")) h
unfolding opening_with attribute_start hear_xml_word hear_tag part_values part_marks
direction_opens h more = refl

direction_closes : (h : HeardPart) → Reads h (closing (codes "direction")) h
unfolding closing hear_xml_word hear_tag part_values part_marks
direction_closes h more = refl

sound_read : (h : HeardPart) (n : ℕ) → Reads h (empty_with (codes "sound") (codes "tempo") (decimal n)) h
unfolding hear_xml_word hear_tag part_values part_marks
sound_read h n = reads_empty h h (codes "sound") (codes "tempo") (decimal n) refl refl (decimal_inside n) refl refl

metronome_read : (h : HeardPart) (n : ℕ) → Reads h (metronome n) h
unfolding metronome
metronome_read h n =
    let unit = element (codes "beat-unit") (codes "quarter") in
    let minute = element (codes "per-minute") (decimal n) in
    mark_element h (codes "metronome") (unit ++ minute) metronome_mark
    (reads_both h h h unit minute (silent_read h (codes "beat-unit") (codes "quarter") beat_unit_value refl)
    (silent_read h (codes "per-minute") (decimal n) per_minute_value (decimal_plain n)))

tempo_read : (h : HeardPart) (n : ℕ) → Reads h (tempo_text n) h
unfolding tempo_text
tempo_read h n =
    let one = opening_with (codes "direction") (codes "placement") (codes "above") in
    let two = element (codes "direction-type") (metronome n) in
    let three = empty_with (codes "sound") (codes "tempo") (decimal n) in
    reads_both h h h (one ++ two ++ three) (closing (codes "direction"))
    (reads_both h h h (one ++ two) three
    (reads_both h h h one two (direction_opens h)
    (mark_element h (codes "direction-type") (metronome n) direction_type_mark (metronome_read h n)))
    (sound_read h n)) (direction_closes h)

pub tempo_line_read : (h : HeardPart) (r : ℕ) (clef : Clef) (first : Bool) (before : Option ScoreBar) (bar : ScoreBar)
    → Reads h (tempo_line (record { resolution = r; clef = clef; is_first = first }) before bar) h
unfolding tempo_line
tempo_line_read h r clef first before bar =
    let n = quarters_of_minute bar.tempo in
    reads_if h (first && not (same_tempo before bar)) (line (tempo_text n)) (reads_line h h (tempo_text n) (tempo_read h n))
