-- A bar that is read says what is heard of its notes, and a part its spans and the lengths of its measures.
use Rattle.std.proofs.Common.{◌≡◌, ℕ, zero, suc, ◌+◌, ◌^◌, ◌-◌, ◌*◌, ◌/◌, ◌<◌, ◌≤◌, ◌&&◌, ◌==◌, Bool, true, false, List, [], ◌∷◌, ◌++◌, map, Option, Some, None, refl, sym, ap, ap₂, ◌∙◌, subst, arith, append_assoc, append-nil}
use Rattle.std.specs.Prelude.{All, codes, decimal, if◌then◌else◌}
use Rattle.std.specs.Int.{◌∣◌}
use Rattle.std.proofs.Math.Nat.{div-le_self, div-mul_cancel, mul-div_assoc}
use Rattle.std.proofs.lemmas.Bool.Decides.{nat_tests}
use Rattle.std.proofs.lemmas.List.Elements.{All-head, All-tail}
use Rattle.rhythm_base.specs.declared.limits.TheConstants.{MOST_UNITS}
use Rattle.derivation.specs.declared.score.ScoreBar.{ScoreBar}
use Rattle.derivation.specs.Score.{IsScoreBar}
use Rattle.durations.proofs.Beats.{beat_part}
use Rattle.durations.proofs.Wide.{some_product}
use Rattle.voice_events.specs.Parts.{score_bar_parts}
use Rattle.text_words.specs.Steps.{◌>>=◌}
use Rattle.notation.specs.declared.clef.Clef.{Clef}
use Rattle.notation.specs.Notes.{Group, is_empty}
use Rattle.notation_laws.specs.Hearing.{HeardVoice, hear}
use Rattle.notation_laws.specs.NotesHeard.{AreHeardInFull, hear_bar, hear_bars, rest_stretch}
use Rattle.notation_laws.specs.Written.{IsWrittenGroup}
use Rattle.musicxml_writer.specs.Attributes.{attributes_line, tempo_line}
use Rattle.musicxml_writer.specs.Bars.{bar_length, bar_notes, bar_rest}
use Rattle.musicxml_writer.specs.Elements.{attribute_start, closing, element, empty_with, line, opening, opening_with, text_if}
use Rattle.musicxml_writer.specs.Parts.{bar_text, bars_text, final_barline}
use Rattle.xml_laws.specs.Hearing.{HeardPart, bar_ends, hear_tag, hear_value, hear_xml_word, heard_with, is_of_beats}
use Rattle.xml_laws.specs.Notes.{ReadChord, ReadNote, blank_note, xml_number}
use Rattle.xml_laws.specs.Reading.{read_parts}
use Rattle.xml_laws.specs.Words.{part_marks, part_values, xml_words}
use Rattle.xml_laws.proofs.Durations.{at_most, number_read}
use Rattle.xml_laws.proofs.NoteParts.{duration_read, noted}
use Rattle.xml_laws.proofs.NoteLines.{known, note_ends, note_opens}
use Rattle.xml_laws.proofs.NotesRead.{IsTurned, groups_turn}
use Rattle.xml_laws.proofs.ReadTexts.{Reads, reads_both, reads_element, reads_if, reads_line, reads_opening}
use Rattle.xml_laws.proofs.Settings.{attributes_line_read, decimal_inside, said_after, tempo_line_read}

-- ---- bars of rests

-- a bar is a whole number of parts long
parts_are : (r num den : ℕ) → den ∣ 64 → 64 * r * num / den ≡ r * (num * (64 / den))
parts_are r num den part =
    ap (λ n. n / den) (turned r num) ∙ mul-div_assoc den (r * num) part ∙ joined r num (64 / den)
  where
    turned : (r num : ℕ) → 64 * r * num ≡ r * num * 64
    turned r num = grind arith

    joined : (r num d : ℕ) → r * num * d ≡ r * (num * d)
    joined r num d = grind arith

pub length_is : (r : ℕ) (bar : ScoreBar) → IsScoreBar bar → bar_length r bar ≡ score_bar_parts r bar
length_is r bar right = parts_are r bar.num bar.den (beat_part bar.den right.signature.power)

rest_tag : (p : HeardPart) → Reads (noted p blank_note) (empty_with (codes "rest") (codes "measure") (codes "yes"))
    (noted p (record blank_note { whole = true; keys = Some [] }))
unfolding empty_with attribute_start hear_xml_word hear_tag part_values part_marks
rest_tag p more = refl

abbrev rest_of : ℕ → ReadChord
rest_of len = record { grace = false; keys = []; len = len; short = false; comes = false; goes = false }

rest_read : (h : HeardPart) (quarter r : ℕ) (bar : ScoreBar) (v : HeardVoice ℕ) → h.divisions ≡ Some quarter
    → xml_number (decimal (bar_length r bar)) ≡ Some (bar_length r bar)
    → Reads (known h v None) (bar_rest r bar) (known h v (Some (rest_of (bar_length r bar))))
unfolding bar_rest
rest_read h quarter r bar v is number =
    let p = known h v None in
    let n1 : ReadNote = record blank_note { whole = true; keys = Some [] } in
    let n2 : ReadNote = record n1 { duration = Some (bar_length r bar) } in
    let one = empty_with (codes "rest") (codes "measure") (codes "yes") in
    let two = element (codes "duration") (decimal (bar_length r bar)) in
    let next = known h v (Some (rest_of (bar_length r bar))) in
    reads_line p next (element (codes "note") (one ++ two))
    (reads_element p (noted p blank_note) (noted p n2) next (codes "note") (one ++ two) (note_opens h v None)
    (reads_both (noted p blank_note) (noted p n1) (noted p n2) one two (rest_tag p)
    (duration_read p n1 quarter (bar_length r bar) is number))
    (note_ends h v v None n2 (rest_of (bar_length r bar)) (ap (λ o. o >>= λ quarter. Some (rest_of (bar_length r bar))) is) refl))

-- ---- bars

module _ (r : ℕ) (units : 1 ≤ r) (few : r ≤ MOST_UNITS) (bar : ScoreBar) (right : IsScoreBar bar) where
  beat_some : 1 ≤ 64 / bar.den
  beat_some = beats (64 / bar.den) (div-mul_cancel bar.den (beat_part bar.den right.signature.power))
    where
      beats : (n : ℕ) → n * bar.den ≡ 64 → 1 ≤ n
      beats zero e = let none : zero * bar.den ≡ 0 = omega arith in absurd (omega (arith, e, none))
      beats (suc n) e = omega arith

  bar_some : 1 ≤ score_bar_parts r bar
  bar_some = some_product r (bar.num * (64 / bar.den)) units (some_product bar.num (64 / bar.den) right.signature.some beat_some)

  bar_few : score_bar_parts r bar < 2 ^ 32
  bar_few =
      let num = right.signature.few in
      let most = at_most r (bar.num * (64 / bar.den)) 960 4096 few (at_most bar.num (64 / bar.den) 64 64 num (div-le_self 64 bar.den)) in
      omega (arith, most)

barline_read : (h : HeardPart) → Reads h final_barline h
unfolding final_barline opening_with attribute_start element opening closing hear_xml_word hear_tag hear_value part_values part_marks
barline_read h more = refl

measure_opens : (h : HeardPart) (n : ℕ) → Reads h (opening_with (codes "measure") (codes "number") (decimal n)) h
unfolding hear_xml_word hear_tag part_values part_marks
measure_opens h n = reads_opening h h (codes "measure") (codes "number") (decimal n) refl refl (decimal_inside n) refl refl

-- what is known at a barline, but for the parts of a quarter and the signature
abbrev pub at_barline : HeardVoice ℕ → List ℕ → HeardPart
at_barline v lengths = record {
  divisions = None;
  beats = None;
  beat_type = None;
  heard = v;
  chord = None;
  note = None;
  began = v.at;
  lengths = lengths;
}

measure_closes : (r : ℕ) (bar : ScoreBar) (v u w : HeardVoice ℕ) (c : Option ReadChord) (lengths : List ℕ) → IsScoreBar bar
    → heard_with u c ≡ Some w → w.graces ≡ [] → w.at - v.at ≡ score_bar_parts r bar
    → Reads (known (said_after r (at_barline v lengths) (Some bar)) u c) (closing (codes "measure"))
    (said_after r (at_barline w (lengths ++ score_bar_parts r bar ∷ [])) (Some bar))
unfolding closing hear_xml_word hear_tag part_values part_marks
measure_closes r bar v u w c lengths right heard bare long more =
    let at = known (said_after r (at_barline v lengths) (Some bar)) u c in
    let next : ℕ → HeardPart = λ n. said_after r (at_barline w (lengths ++ n ∷ [])) (Some bar) in
    ap (λ o. (o >>= bar_ends at) >>= λ next. read_parts (Some next) (xml_words more)) heard
    ∙ ap (λ gs. (if is_empty gs && is_of_beats (Some (16 * r)) (Some bar.num) (Some bar.den) (w.at - v.at)
    then Some (next (w.at - v.at)) else None)
    >>= λ next. read_parts (Some next) (xml_words more)) bare
    ∙ ap (λ n. (if is_of_beats (Some (16 * r)) (Some bar.num) (Some bar.den) n then Some (next n) else None)
    >>= λ next. read_parts (Some next) (xml_words more)) long
    ∙ ap (λ b. (if b then Some (next (score_bar_parts r bar)) else None) >>= λ next. read_parts (Some next) (xml_words more)) full
  where
    tested : (x y : ℕ) → x ≡ y → (x == y) ≡ true
    tested x y e = grind (arith, nat_tests, e)

    turned : (r num q den : ℕ) → r * (num * q) * den ≡ r * num * (q * den)
    turned r num q den = grind arith

    parted : (r num : ℕ) → r * num * 64 ≡ 4 * (16 * r) * num
    parted r num = grind arith

    full : is_of_beats (Some (16 * r)) (Some bar.num) (Some bar.den) (score_bar_parts r bar) ≡ true
    full = tested _ _
        (turned r bar.num (64 / bar.den) bar.den
        ∙ ap (λ x. r * bar.num * x) (div-mul_cancel bar.den (beat_part bar.den right.signature.power))
        ∙ parted r bar.num)

module _ (r : ℕ) (units : 1 ≤ r) (few : r ≤ MOST_UNITS) where
  length_number : (bar : ScoreBar) → IsScoreBar bar → xml_number (decimal (bar_length r bar)) ≡ Some (bar_length r bar)
  length_number bar right =
      let is = length_is r bar right in
      number_read (bar_length r bar) (subst (λ n. 1 ≤ n) (sym is) (bar_some r units few bar right))
      (subst (λ n. n < 2 ^ 32) (sym is) (bar_few r units few bar right))

  notes_read : (bar : ScoreBar) → IsScoreBar bar → (groups : List Group) (lengths : List ℕ) (v w : HeardVoice ℕ)
      → All (IsWrittenGroup r) groups
      → hear_bar r bar v groups ≡ Some w → IsTurned (said_after r (at_barline v lengths) (Some bar)) v None (bar_notes r bar groups) w
  unfolding bar_notes
  notes_read bar right [] lengths v w all e =
      let h = said_after r (at_barline v lengths) (Some bar) in
      record {
        before = v;
        chord = Some (rest_of (bar_length r bar));
        reads = rest_read h (16 * r) r bar v refl (length_number bar right);
        heard = ap (λ n. hear ◌+◌ v (rest_stretch n)) (length_is r bar right) ∙ e;
      }
  notes_read bar right (g ∷ groups) lengths v w all e =
      groups_turn r units few bar.sf right.key (said_after r (at_barline v lengths) (Some bar)) (16 * r) refl (omega arith)
      (g ∷ groups) v w all e v None refl

  bar_read : (clef : Clef) (first : Bool) (before : Option ScoreBar) (bar : ScoreBar) (number : ℕ) (last : Bool) (groups : List Group)
      (lengths : List ℕ) (v w : HeardVoice ℕ) → IsScoreBar bar → All (IsWrittenGroup r) groups → hear_bar r bar v groups ≡ Some w
      → w.at ≡ v.at + score_bar_parts r bar → w.graces ≡ []
      → Reads (said_after r (at_barline v lengths) before)
      (bar_text (record { resolution = r; clef = clef; is_first = first }) before bar number last groups)
      (said_after r (at_barline w (lengths ++ score_bar_parts r bar ∷ [])) (Some bar))
  unfolding bar_text
  bar_read clef first before bar number last groups lengths v w right all e at bare =
      let h0 = said_after r (at_barline v lengths) before in
      let h1 = said_after r (at_barline v lengths) (Some bar) in
      let turned = notes_read bar right groups lengths v w all e in
      let h2 = known h1 turned.before turned.chord in
      let h3 = said_after r (at_barline w (lengths ++ score_bar_parts r bar ∷ [])) (Some bar) in
      let one = line (opening_with (codes "measure") (codes "number") (decimal number)) in
      let two = attributes_line (record { resolution = r; clef = clef; is_first = first }) before bar in
      let three = tempo_line (record { resolution = r; clef = clef; is_first = first }) before bar in
      let four = bar_notes r bar groups in
      let five = text_if last final_barline in
      let six = line (closing (codes "measure")) in
      let long : w.at - v.at ≡ score_bar_parts r bar = omega (arith, at) in
      reads_both h0 h2 h3 (one ++ two ++ three ++ four ++ five) six
      (reads_both h0 h2 h2 (one ++ two ++ three ++ four) five
      (reads_both h0 h1 h2 (one ++ two ++ three) four
      (reads_both h0 h1 h1 (one ++ two) three
      (reads_both h0 h0 h1 one two
      (reads_line h0 h0 (opening_with (codes "measure") (codes "number") (decimal number)) (measure_opens h0 number))
      (attributes_line_read r units few (at_barline v lengths) clef first before bar right))
      (tempo_line_read h1 r clef first before bar))
      turned.reads)
      (reads_if h2 last final_barline (barline_read h2)))
      (reads_line h2 h3 (closing (codes "measure"))
      (measure_closes r bar v turned.before w turned.chord lengths right turned.heard bare long))

  -- ---- the bars of a part

  -- the last of some bars, after one or none
  abbrev pub last_bar : Option ScoreBar → List ScoreBar → Option ScoreBar
  last_bar before [] = before
  last_bar before (bar ∷ bars) = last_bar (Some bar) bars

  pub bars_read : (clef : Clef) (first : Bool) (bars : List ScoreBar) (before : Option ScoreBar) (number : ℕ) (all : List (List Group))
      (lengths : List ℕ) (v last : HeardVoice ℕ) → All IsScoreBar bars → All (All (IsWrittenGroup r)) all → AreHeardInFull r bars v all
      → hear_bars r bars v all ≡ Some last
      → Reads (said_after r (at_barline v lengths) before)
      (bars_text (record { resolution = r; clef = clef; is_first = first }) before number bars all)
      (said_after r (at_barline last (lengths ++ map (score_bar_parts r) bars)) (last_bar before bars))
  bars_read clef first [] before number [] lengths v last right written full heard more =
      let same : v ≡ last = cc in
      ap₂ (λ v ls. read_parts (Some (said_after r (at_barline v ls) before)) (xml_words more)) same (sym (append-nil lengths))
  bars_read clef first [] before number (groups ∷ all) lengths v last right written full heard more = absurd (cc)
  bars_read clef first (bar ∷ bars) before number [] lengths v last right written full heard more = absurd full
  bars_read clef first (bar ∷ bars) before number (groups ∷ all) lengths v last right written (next, one, at, bare, full) heard more =
      let own = All-head IsScoreBar bar bars right in
      let mine = All-head (All (IsWrittenGroup r)) groups all written in
      let p = score_bar_parts r bar in
      let mid = said_after r (at_barline next (lengths ++ p ∷ [])) (Some bar) in
      let end = last_bar (Some bar) bars in
      let text = bar_text (record { resolution = r; clef = clef; is_first = first }) before bar number (is_empty bars) groups in
      let others = bars_text (record { resolution = r; clef = clef; is_first = first }) (Some bar) (number + 1) bars all in
      reads_both (said_after r (at_barline v lengths) before) mid
      (said_after r (at_barline last ((lengths ++ p ∷ []) ++ map (score_bar_parts r) bars)) end)
      text others
      (bar_read clef first before bar number (is_empty bars) groups lengths v next own mine one at bare)
      (bars_read clef first bars (Some bar) (number + 1) all (lengths ++ p ∷ []) next last (All-tail IsScoreBar bar bars right)
      (All-tail (All (IsWrittenGroup r)) groups all written) full
      (sym (ap (λ o. o >>= λ next. hear_bars r bars next all) one) ∙ heard)) more
      ∙ ap (λ ls. read_parts (Some (said_after r (at_barline last ls) end)) (xml_words more))
      (append_assoc lengths (p ∷ []) (map (score_bar_parts r) bars))
