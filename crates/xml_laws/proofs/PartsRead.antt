-- A part is read as the spans of its voice, with measures as long as the bars.
use Rattle.std.proofs.Common.{◌≡◌, ℕ, ◌+◌, ◌*◌, ◌≤◌, ◌==◌, List, [], ◌∷◌, ◌++◌, length, map, Option, Some, None, refl, ap, ◌∙◌, arith, append_assoc}
use Rattle.std.specs.Prelude.{All, codes}
use Rattle.std.specs.Option.{option_map}
use Rattle.std.proofs.lemmas.List.Elements.{All-head, All-tail}
use Rattle.rhythm_base.specs.declared.limits.TheConstants.{MOST_UNITS}
use Rattle.rhythm_base.specs.declared.note.Bar.{Bar}
use Rattle.rhythm_base.specs.declared.sound.Sound.{Sound}
use Rattle.rhythm_base.specs.declared.span.Span.{Span}
use Rattle.rhythm_base.specs.Lists.{Each}
use Rattle.durations.specs.Spans.{AreSpans}
use Rattle.derivation.specs.declared.score.ScoreBar.{ScoreBar}
use Rattle.derivation.specs.Score.{IsScoreBar}
use Rattle.derivation.specs.WellSounded.{AreWellSounded}
use Rattle.voice_events.specs.Events.{HaveSignatures}
use Rattle.voice_events.specs.Parts.{score_bar_parts}
use Rattle.text_words.specs.Steps.{◌>>=◌}
use Rattle.lily_laws.proofs.Fractions.{frac_is}
use Rattle.notation.specs.Bars.{AreVoiceGroups}
use Rattle.notation.specs.Clefs.{clef_of}
use Rattle.notation.specs.Notes.{Group}
use Rattle.notation_laws.specs.Hearing.{HeardSpan, HeardVoice, ended_spans, unheard}
use Rattle.notation_laws.specs.Laws.{IsVoice}
use Rattle.notation_laws.specs.NotesHeard.{IsSpanHeard, hear_bars}
use Rattle.notation_laws.proofs.FullBars.{bars_in_full}
use Rattle.notation_laws.proofs.Says.{heard_first}
use Rattle.notation_laws.proofs.VoiceHeard.{voices_heard}
use Rattle.notation_laws.proofs.WrittenNotes.{notes_can_be_written}
use Rattle.musicxml_writer.specs.Elements.{closing, line, opening_with}
use Rattle.musicxml_writer.specs.Parts.{bars_text, part_name, part_text}
use Rattle.musicxml_writer.specs.Text.{parts_text}
use Rattle.xml_laws.specs.Hearing.{unheard_part}
use Rattle.xml_laws.specs.Reading.{ReadPart, read_parts, span_of, spans_of}
use Rattle.xml_laws.specs.Words.{xml_words}
use Rattle.xml_laws.proofs.BarsRead.{at_barline, bars_read, last_bar}
use Rattle.xml_laws.proofs.Cutting.{opening_cut}
use Rattle.xml_laws.proofs.OutsideParts.{name_inside}
use Rattle.xml_laws.proofs.Settings.{said_after}

-- ---- where a part begins and ends

part_opens : (n : ℕ) (more : List ℕ) → read_parts None (xml_words (opening_with (codes "part") (codes "id") (part_name n) ++ more))
    ≡ read_parts (Some unheard_part) (xml_words more)
part_opens n more = ap (read_parts None) (opening_cut (codes "part") (codes "id") (part_name n) more refl refl (name_inside n))

part_closes : (r : ℕ) (before : Option ScoreBar) (v : HeardVoice ℕ) (lengths more : List ℕ) (spans : List (HeardSpan ℕ))
    → ended_spans v ≡ Some spans
    → read_parts (Some (said_after r (at_barline v lengths) before)) (xml_words (closing (codes "part") ++ more))
    ≡ option_map (λ parts. record {
      spans = spans_of
          (said_after r (at_barline v lengths) before).divisions spans;
      lengths = lengths;
    } ∷ parts)
    (read_parts None (xml_words more))
unfolding closing
part_closes r None v lengths more spans is =
    ap (λ o. option_map (λ spans. record { spans = spans_of None spans; lengths = lengths }) o
    >>= λ part. option_map (λ parts. part ∷ parts) (read_parts None (xml_words more))) is
part_closes r (Some before) v lengths more spans is =
    ap (λ o. option_map (λ spans. record { spans = spans_of (Some (16 * r)) spans; lengths = lengths }) o
    >>= λ part. option_map (λ parts. part ∷ parts) (read_parts None (xml_words more))) is

heard_spans : (d : ℕ) (some : 1 ≤ d) (xs : List (HeardSpan ℕ)) → Each (IsSpanHeard d) xs (map (span_of d) xs)
heard_spans d some [] = refl
heard_spans d some (x ∷ xs) =
    (record { start = frac_is x.start d some; len = frac_is x.len d some; keys = refl; graces = refl; short = refl }, heard_spans d some xs)

module _ (r : ℕ) (units : 1 ≤ r) (few : r ≤ MOST_UNITS) (sbars : List ScoreBar) (bars : List Bar) (right : All IsScoreBar sbars)
    (signatures : HaveSignatures sbars bars) where
  -- where there is no bar nothing was heard
  spans_after : (sbars : List ScoreBar) (before : ScoreBar) (spans : List (HeardSpan ℕ)) (v : HeardVoice ℕ) (lengths : List ℕ)
      → spans_of (said_after r (at_barline v lengths) (last_bar r units few (Some before) sbars)).divisions spans
      ≡ map (span_of (64 * r)) spans
  spans_after [] before spans v lengths =
      let whole : 4 * (16 * r) ≡ 64 * r = omega arith in
      ap (λ n. map (span_of n) spans) whole
  spans_after (bar ∷ sbars) before spans v lengths = spans_after sbars bar spans v lengths

  spans_are : (sbars : List ScoreBar) (all : List (List Group)) (last : HeardVoice ℕ) (spans : List (HeardSpan ℕ)) (lengths : List ℕ)
      → hear_bars r sbars (unheard 0) all ≡ Some last → ended_spans last ≡ Some spans
      → spans_of (said_after r (at_barline last lengths) (last_bar r units few None sbars)).divisions spans ≡ map (span_of (64 * r)) spans
  spans_are [] [] last spans lengths one end =
      let same : unheard 0 ≡ last = cc in
      let none : [] ≡ spans = go spans (ap ended_spans same ∙ end) in
      ap (λ xs. map (span_of (64 * r)) xs) none
    where
      go : (spans : List (HeardSpan ℕ)) → Some [] ≡ Some spans → [] ≡ spans
      go spans e = cc
  spans_are [] (groups ∷ all) last spans lengths one end = absurd (cc)
  spans_are (bar ∷ sbars) all last spans lengths one end = spans_after sbars bar spans last lengths

  record IsPartRead (number : ℕ) (sounds : List Sound) (all : List (List Group)) : Type 0 where
    own : List Span
    are : AreSpans r bars sounds own
    read : (more : List ℕ) → read_parts None (xml_words (part_text r number sbars sounds all ++ more))
        ≡ option_map (λ parts. record { spans = own; lengths = map (score_bar_parts r) sbars } ∷ parts) (read_parts None (xml_words more))

  part_read : (number : ℕ) (sounds : List Sound) (all : List (List Group)) → AreWellSounded r (length sbars) sounds
      → AreVoiceGroups r 0 sbars sounds all → IsPartRead number sounds all
  unfolding part_text
  part_read number sounds all well groups =
      let voice : IsVoice r sbars sounds = record { some_unit = units; few_units = few; each_bar = right; well = well } in
      let heard = voices_heard r sbars bars sounds all voice signatures groups in
      let (last, one, end) = heard_first (hear_bars r sbars (unheard 0) all) ended_spans heard.heard heard.hears in
      let ended = last_bar r units few None sbars in
      let lengths = map (score_bar_parts r) sbars in
      let opens = line (opening_with (codes "part") (codes "id") (part_name number)) in
      let body = bars_text (record { resolution = r; clef = clef_of sounds; is_first = number == 1 }) None 1 sbars all in
      let closes = line (closing (codes "part")) in
      let read = bars_read r units few (clef_of sounds) (number == 1) sbars None 1 all [] (unheard 0) last right
      (notes_can_be_written r sbars sounds all voice groups) (bars_in_full r sbars sounds all voice groups) one in
      record {
        own = map (span_of (64 * r)) heard.heard;
        are = (heard.spans (map (span_of (64 * r)) heard.heard)).0 (heard_spans (64 * r) (omega (arith, units)) heard.heard);
        read = λ more.
            ap (λ t. read_parts None (xml_words t))
            (append_assoc (opens ++ body) closes more ∙ append_assoc opens body (closes ++ more)
            ∙ append_assoc (opening_with (codes "part") (codes "id") (part_name number)) (codes "\n") (body ++ (closes ++ more)))
            ∙ part_opens number (codes "\n" ++ (body ++ (closes ++ more)))
            ∙ read (closes ++ more)
            ∙ ap (λ t. read_parts (Some (said_after r (at_barline last lengths) ended)) (xml_words t))
            (append_assoc (closing (codes "part")) (codes "\n") more)
            ∙ part_closes r ended last lengths (codes "\n" ++ more) heard.heard end
            ∙ ap (λ spans. option_map (λ parts. record { spans = spans; lengths = lengths } ∷ parts) (read_parts None (xml_words more)))
            (spans_are sbars all last heard.heard lengths one end);
      }

  -- ---- all parts

  pub record ArePartsRead (voices : List (List Sound)) (text : List ℕ) : Type 0 where
    pub parts : List ReadPart
    pub read : read_parts None (xml_words text) ≡ Some parts
    pub are : Each (AreSpans r bars) voices (map (λ part. part.spans) parts)
    pub long : map (λ part. part.lengths) parts ≡ map (λ sounds. map (score_bar_parts r) sbars) voices

  pub parts_read : (number : ℕ) (voices : List (List Sound)) (written : List (List (List Group))) (tail : List ℕ)
      → All (AreWellSounded r (length sbars)) voices → Each (AreVoiceGroups r 0 sbars) voices written
      → read_parts None (xml_words tail) ≡ Some []
      → ArePartsRead voices (parts_text r sbars number voices written ++ tail)
  parts_read number [] written tail well each last = record { parts = []; read = last; are = refl; long = refl }
  parts_read number (sounds ∷ voices) [] tail well each last = absurd each
  parts_read number (sounds ∷ voices) (all ∷ written) tail well (groups, each) last =
      let one = part_read number sounds all (All-head (AreWellSounded r (length sbars)) sounds voices well) groups in
      let more = parts_read (number + 1) voices written tail (All-tail (AreWellSounded r (length sbars)) sounds voices well) each last in
      let part : ReadPart = record { spans = one.own; lengths = map (score_bar_parts r) sbars } in
      let others = parts_text r sbars (number + 1) voices written in
      record {
        parts = part ∷ more.parts;
        read = ap (λ t. read_parts None (xml_words t)) (append_assoc (part_text r number sbars sounds all) others tail)
            ∙ one.read (others ++ tail) ∙ ap (option_map (λ parts. part ∷ parts)) more.read;
        are = (one.are, more.are);
        long = ap (λ ls. map (score_bar_parts r) sbars ∷ ls) more.long;
      }
