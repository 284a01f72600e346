-- The page of a score is read as the spans of its voices.
use Rattle.rhythm_base.specs.declared.limits.TheConstants.{MOST_UNITS}
use Rattle.std.proofs.Common.{◌≡◌, ℕ, ◌*◌, ◌≤◌, ◌==◌, ◌&&◌, not, Bool, true, false, List, [], ◌∷◌, ◌++◌, length, map, Option, Some, None, refl, sym, ap, ◌∙◌, arith, append_assoc}
use Rattle.std.specs.Prelude.{All, codes, decimal, if◌then◌else◌, nat_lt}
use Rattle.std.specs.Option.{option_map}
use Rattle.std.proofs.Math.Nat.{one-dvd}
use Rattle.std.proofs.lemmas.Bool.{and_from}
use Rattle.std.proofs.lemmas.List.FromFn.{length-map-range_with_len}
use Rattle.std.proofs.lemmas.List.Elements.{All-head, All-tail}
use Rattle.rhythm_base.specs.declared.note.Bar.{Bar}
use Rattle.rhythm_base.specs.declared.sound.Sound.{Sound}
use Rattle.rhythm_base.specs.declared.span.Frac.{Frac}
use Rattle.rhythm_base.specs.declared.span.Span.{Span}
use Rattle.rhythm_base.specs.Lists.{Each}
use Rattle.durations.specs.Spans.{AreSpans}
use Rattle.derivation.specs.declared.score.ScoreBar.{ScoreBar}
use Rattle.derivation.specs.Score.{IsScoreBar}
use Rattle.derivation.specs.WellSounded.{AreWellSounded}
use Rattle.voice_events.specs.Events.{HaveSignatures}
use Rattle.text_words.specs.Lines.{text_lines}
use Rattle.text_words.specs.Steps.{◌>>=◌}
use Rattle.text_words.proofs.TextTests.{all_append, lacks}
use Rattle.lily_writer.specs.Fractions.{frac, nothing}
use Rattle.lily_laws.proofs.BarWords.{signature}
use Rattle.lily_laws.proofs.Fractions.{frac_is, is_frac}
use Rattle.lily_laws.proofs.PageLines.{are_lines, lines_split, number_free}
use Rattle.notation.specs.Bars.{AreVoiceGroups}
use Rattle.notation.specs.Clefs.{clef_of}
use Rattle.notation.specs.Notes.{Group, is_empty}
use Rattle.notation_laws.specs.Hearing.{HeardSpan, HeardVoice, ended_spans, is_none, unheard}
use Rattle.notation_laws.specs.Laws.{IsVoice}
use Rattle.notation_laws.specs.NotesHeard.{AreHeardInFull, IsSpanHeard, hear_bars}
use Rattle.notation_laws.specs.Written.{IsWrittenGroup}
use Rattle.notation_laws.proofs.FullBars.{bars_in_full}
use Rattle.notation_laws.proofs.Says.{heard_first}
use Rattle.notation_laws.proofs.VoiceHeard.{voices_heard}
use Rattle.notation_laws.proofs.WrittenNotes.{notes_can_be_written}
use Rattle.page_writer.specs.Bars.{bar_line}
use Rattle.score_words.specs.LilyChanges.{lily_changes}
use Rattle.page_writer.specs.Graces.{most_graces, most_in_bars, silent_graces}
use Rattle.page_writer.specs.Page.{closing_lines, head_lines, opening_lines, page_lines, score_lines, size_line, staff_size, tail_lines}
use Rattle.page_writer.specs.Staves.{bars_lines, clef_line, staff_end, staff_head, staff_lines, staves_lines}
use Rattle.page_laws.specs.Hearing.{among_notes}
use Rattle.page_laws.specs.Laws.{PagesAreReadBack}
use Rattle.page_laws.specs.Reading.{PageStaff, hear_page_line, blank_staff, page_events, span_of, spans_of_lines, page_staff_spans}
use Rattle.page_laws.proofs.BarsRead.{bar_read}
use Rattle.page_laws.proofs.InWholes.{in_wholes, none_in, span_in}
use Rattle.page_laws.proofs.LinesRead.{IsSaid, bar_lines_free, bar_said, changes_said, clef_free, clef_more, head_free, line_more, none_said, some_said}

-- ---- the spans of a staff that ends

module _ (d : ℕ) (some : 1 ≤ d) where
  spans_in : List (HeardSpan ℕ) → List Span
  spans_in xs = map span_of (map (span_in d some) xs)

  ended_in : (h : HeardVoice ℕ) (xs : List (HeardSpan ℕ)) → ended_spans h ≡ Some xs → ended_spans (in_wholes d some h)
      ≡ Some (map (span_in d some) xs)
  ended_in h xs e =
      ap (λ b. if b && is_empty h.graces then Some (map (span_in d some) h.spans) else None) (none_in d some h.going)
      ∙ go (is_none h.going && is_empty h.graces) e
    where
      go : (b : Bool) → (if b then Some h.spans else None) ≡ Some xs → (if b then Some (map (span_in d some) h.spans) else None)
          ≡ Some (map (span_in d some) xs)
      go true e = ap (option_map (map (span_in d some))) e
      go false e = absurd (cc)

  heard_spans : (xs : List (HeardSpan ℕ)) → Each (IsSpanHeard d) xs (spans_in xs)
  unfolding spans_in
  heard_spans [] = refl
  heard_spans (x ∷ xs) =
      (record { start = frac_is x.start d some; len = frac_is x.len d some; keys = refl; graces = refl; short = refl }, heard_spans xs)

-- ---- the bars of a staff

module _ (r : ℕ) (some : 1 ≤ 64 * r) where
  -- what is known of a staff
  abbrev known : Option Frac → HeardVoice ℕ → PageStaff
  known said h = record {
    signature = said;
    heard =
        record { heard = in_wholes (64 * r) some h; ratio = None; side = among_notes; keys = [] };
  }

  bars_read : (first : Bool) (bars : List ScoreBar) (before : Option ScoreBar) (said : Option Frac) (most : List ℕ)
      (all : List (List Group))
      (h last : HeardVoice ℕ) (more : List (List ℕ)) → All IsScoreBar bars → length most ≡ length bars → IsSaid before (known said h)
      → All (All (IsWrittenGroup r)) all → AreHeardInFull r bars h all → hear_bars r bars h all ≡ Some last
      → (now : Option Frac)
      × (spans_of_lines (Some (known said h)) (bars_lines first before bars most all ++ more)
      ≡ spans_of_lines (Some (known now last)) more)
  bars_read first [] before said most [] h last more right long is written full heard =
      let same : h ≡ last = cc in (said, ap (λ h. spans_of_lines (Some (known said h)) more) same)
  bars_read first [] before said most (groups ∷ all) h last more right long is written full heard = absurd (cc)
  bars_read first (bar ∷ bars) before said [] all h last more right long is written full heard = absurd (omega (arith, long))
  bars_read first (bar ∷ bars) before said (m ∷ most) [] h last more right long is written full heard = absurd full
  bars_read first (bar ∷ bars) before said (m ∷ most) (groups ∷ all) h last more right long is written (next, one, at, bare, full) heard =
      let own = All-head IsScoreBar bar bars right in
      let mine = All-head (All (IsWrittenGroup r)) groups all written in
      let silent = silent_graces before bar m groups in
      let changes = lily_changes first before bar in
      let line = bar_line bar silent groups in
      let others = bars_lines first (Some bar) bars most all in
      let there = known (Some (signature bar)) h in
      let after = known (Some (signature bar)) next in
      let rest = bars_read first bars (Some bar) (Some (signature bar)) most all next last more (All-tail IsScoreBar bar bars right)
      (omega (arith, long))
      (some_said bar after refl) (All-tail (All (IsWrittenGroup r)) groups all written) full
      (sym (ap (λ o. o >>= λ next. hear_bars r bars next all) one) ∙ heard) in (
        rest.0,
        ap (spans_of_lines (Some (known said h))) (append_assoc changes (line ∷ others) more)
            ∙ changes_said first before bar (known said h) (line ∷ (others ++ more)) own is
            ∙ line_more there after line (others ++ more)
            (bar_said r some bar silent groups there after.heard own mine refl
            (bar_read r some bar own silent groups h next mine one at bare))
            ∙ rest.1,
      )

  bars_free : (first : Bool) (bars : List ScoreBar) (before : Option ScoreBar) (most : List ℕ) (all : List (List Group))
      → All IsScoreBar bars
      → All (All (IsWrittenGroup r)) all → are_lines (bars_lines first before bars most all) ≡ true
  bars_free first [] before most all right written = refl
  bars_free first (bar ∷ bars) before [] all right written = refl
  bars_free first (bar ∷ bars) before (m ∷ most) [] right written = refl
  bars_free first (bar ∷ bars) before (m ∷ most) (groups ∷ all) right written =
      bar_lines_free r some first before bar (silent_graces before bar m groups) groups (bars_lines first (Some bar) bars most all)
      (All-head IsScoreBar bar bars right)
      (All-head (All (IsWrittenGroup r)) groups all written)
      (bars_free first bars (Some bar) most all (All-tail IsScoreBar bar bars right) (All-tail (All (IsWrittenGroup r)) groups all written))

  -- ---- a staff

  end_said : (staff : PageStaff) (more : List (List ℕ)) → spans_of_lines (Some staff) (staff_end ++ more) ≡ spans_of_lines (Some staff) more
  unfolding hear_page_line
  end_said staff more = refl

  zero_is : nothing ≡ frac 0 (64 * r)
  zero_is = is_frac 0 (64 * r) nothing some
      (record { value = omega arith; some = omega arith; lowest = (one-dvd 0, one-dvd 1, λ e h k. k) })

  -- what is known of a staff after its lines
  record IsStaffRead (sbars : List ScoreBar) (bars : List Bar) (sounds : List Sound) (body more : List (List ℕ)) : Type 0 where
    staff : PageStaff
    read : spans_of_lines (Some blank_staff) (body ++ more) ≡ spans_of_lines (Some staff) more
    own : List Span
    spans : page_staff_spans staff ≡ Some own
    are : AreSpans r bars sounds own

  new_is : blank_staff ≡ known None (unheard 0)
  new_is = λ i. record {
    signature = None;
    heard = record {
      heard = record { spans = []; at = zero_is i; going = None; graces = [] };
      ratio = None;
      side = among_notes;
      keys = [];
    };
  }

  abbrev body_lines : Bool → List ScoreBar → List ℕ → List Sound → List (List Group) → List (List ℕ)
  body_lines first sbars most sounds all = clef_line (clef_of sounds) ∷ (bars_lines first None sbars most all ++ staff_end)

  staff_read : (first : Bool) (sbars : List ScoreBar) (bars : List Bar) (most : List ℕ) (sounds : List Sound) (all : List (List Group))
      (more : List (List ℕ))
      → IsVoice r sbars sounds → HaveSignatures sbars bars → length most ≡ length sbars → AreVoiceGroups r 0 sbars sounds all
      → IsStaffRead sbars bars sounds (body_lines first sbars most sounds all) more
  unfolding spans_in
  staff_read first sbars bars most sounds all more voice signatures long groups =
      let heard = voices_heard r sbars bars sounds all voice signatures groups in
      let (last, one, end) = heard_first (hear_bars r sbars (unheard 0) all) ended_spans heard.heard heard.hears in
      let read = bars_read first sbars None None most all (unheard 0) last (staff_end ++ more) voice.each_bar long
      (none_said (known None (unheard 0)))
      (notes_can_be_written r sbars sounds all voice groups) (bars_in_full r sbars sounds all voice groups) one in
      let staff = known read.0 last in
      let lines = bars_lines first None sbars most all in
      record {
        staff = staff;
        read = clef_more blank_staff (clef_of sounds) ((lines ++ staff_end) ++ more)
            ∙ ap (spans_of_lines (Some blank_staff)) (append_assoc lines staff_end more)
            ∙ ap (λ s. spans_of_lines (Some s) (lines ++ (staff_end ++ more))) new_is ∙ read.1 ∙ end_said staff more;
        own = spans_in (64 * r) some heard.heard;
        spans = ap (option_map (map span_of)) (ended_in (64 * r) some last heard.heard end);
        are = (heard.spans (spans_in (64 * r) some heard.heard)).0 (heard_spans (64 * r) some heard.heard);
      }

  -- ---- the staves

  module _ (sbars : List ScoreBar) (bars : List Bar) (most : List ℕ) (units : 1 ≤ r) (few : r ≤ MOST_UNITS) (right : All IsScoreBar sbars)
      (signatures : HaveSignatures sbars bars) (long : length most ≡ length sbars) where
    voice_is : (sounds : List Sound) → AreWellSounded r (length sbars) sounds → IsVoice r sbars sounds
    voice_is sounds well = record { some_unit = units; few_units = few; each_bar = right; well = well }

    record AreStavesRead (voices : List (List Sound)) (staff : PageStaff) (own : List Span) (lines : List (List ℕ)) : Type 0 where
      others : List (List Span)
      are : Each (AreSpans r bars) voices others
      read : spans_of_lines (Some staff) lines ≡ Some (own ∷ others)

    -- a staff that begins ends the one before it
    staff_begins : (staff : PageStaff) (own : List Span) (channel : ℕ) (lines : List (List ℕ)) → page_staff_spans staff ≡ Some own
        → spans_of_lines (Some staff) (staff_head channel ∷ lines)
        ≡ option_map (λ others. own ∷ others) (spans_of_lines (Some blank_staff) lines)
    staff_begins staff own channel lines is = ap
        (λ o. o >>= λ spans. option_map (λ others. spans ∷ others) (spans_of_lines (Some blank_staff) lines)) is

    staves_read : (first : Bool) (channels : List ℕ) (voices : List (List Sound)) (written : List (List (List Group)))
        (tail : List (List ℕ)) (staff : PageStaff) (own : List Span)
        → All (AreWellSounded r (length sbars)) voices → Each (AreVoiceGroups r 0 sbars) voices written → length channels ≡ length voices
        → ((staff : PageStaff) → spans_of_lines (Some staff) tail ≡ option_map (λ spans. spans ∷ []) (page_staff_spans staff)) → page_staff_spans staff
        ≡ Some own
        → AreStavesRead voices staff own (staves_lines first sbars most channels voices written ++ tail)
    staves_read first channels [] written tail staff own well each count last is = record {
      others = [];
      are = refl;
      read = last staff ∙ ap (option_map (λ spans. spans ∷ [])) is;
    }
    staves_read first [] (sounds ∷ voices) written tail staff own well each count last is = absurd (omega (arith, count))
    staves_read first (channel ∷ channels) (sounds ∷ voices) [] tail staff own well each count last is = absurd each
    staves_read first (channel ∷ channels) (sounds ∷ voices) (all ∷ written) tail staff own well (groups, each) count last is =
        let body = body_lines first sbars most sounds all in
        let rest = staves_lines false sbars most channels voices written in
        let one = staff_read first sbars bars most sounds all (rest ++ tail)
        (voice_is sounds (All-head (AreWellSounded r (length sbars)) sounds voices well)) signatures long groups in
        let more = staves_read false channels voices written tail one.staff one.own
        (All-tail (AreWellSounded r (length sbars)) sounds voices well) each (omega (arith, count)) last one.spans in
        record {
          others = one.own ∷ more.others;
          are = (one.are, more.are);
          read = ap (spans_of_lines (Some staff)) (append_assoc (staff_head channel ∷ body) rest tail)
              ∙ staff_begins staff own channel (body ++ (rest ++ tail)) is
              ∙ ap (option_map (λ others. own ∷ others)) (one.read ∙ more.read);
        }

    -- none of their lines has a newline in it
    staves_free : (first : Bool) (channels : List ℕ) (voices : List (List Sound)) (written : List (List (List Group)))
        → All (AreWellSounded r (length sbars)) voices → Each (AreVoiceGroups r 0 sbars) voices written
        → are_lines (staves_lines first sbars most channels voices written) ≡ true
    staves_free first channels [] written well each = refl
    staves_free first [] (sounds ∷ voices) written well each = refl
    staves_free first (channel ∷ channels) (sounds ∷ voices) [] well each = refl
    staves_free first (channel ∷ channels) (sounds ∷ voices) (all ∷ written) well (groups, each) =
        let lines = bars_lines first None sbars most all in
        let rest = staves_lines false sbars most channels voices written in
        let voice = voice_is sounds (All-head (AreWellSounded r (length sbars)) sounds voices well) in
        all_append (lacks 10) (staff_lines first sbars most channel sounds all) rest
        (and_from (lacks 10 (staff_head channel)) _ (head_free channel)
        (and_from (lacks 10 (clef_line (clef_of sounds))) _ (clef_free (clef_of sounds))
        (all_append (lacks 10) lines staff_end
        (bars_free first sbars None most all right (notes_can_be_written r sbars sounds all voice groups)) refl)))
        (staves_free false channels voices written (All-tail (AreWellSounded r (length sbars)) sounds voices well) each)

-- ---- the page

head_read : (n : ℕ) (lines : List (List ℕ)) → spans_of_lines None (head_lines n ++ (opening_lines n ++ lines)) ≡ spans_of_lines None lines
head_read n lines = go (nat_lt 1 n)
  where
    go : (b : Bool) → spans_of_lines None (head_lines n ++ ((if b then codes "\\new StaffGroup <<" ∷ [] else []) ++ lines))
        ≡ spans_of_lines None lines
    go true = refl
    go false = refl

tail_read : (n : ℕ) (staff : PageStaff) → spans_of_lines (Some staff) (closing_lines n ++ tail_lines)
    ≡ option_map (λ spans. spans ∷ []) (page_staff_spans staff)
unfolding hear_page_line
tail_read n staff = go (nat_lt 1 n)
  where
    go : (b : Bool) → spans_of_lines (Some staff) ((if b then codes ">>" ∷ [] else []) ++ tail_lines)
        ≡ option_map (λ spans. spans ∷ []) (page_staff_spans staff)
    go true = refl
    go false = refl

head_lines_free : (n : ℕ) → are_lines (head_lines n ++ opening_lines n) ≡ true
head_lines_free n =
    all_append (lacks 10) (head_lines n) (opening_lines n)
    (and_from (lacks 10 (size_line n)) _
    (all_append (λ b. not (b == 10)) (codes "#(set-global-staff-size " ++ decimal (staff_size n)) (codes ")")
    (all_append (λ b. not (b == 10)) (codes "#(set-global-staff-size ") (decimal (staff_size n)) refl
    (number_free (staff_size n))) refl) refl)
    (go (nat_lt 1 n))
  where
    go : (b : Bool) → are_lines (if b then codes "\\new StaffGroup <<" ∷ [] else []) ≡ true
    go true = refl
    go false = refl

tail_free : (n : ℕ) → are_lines (closing_lines n ++ tail_lines) ≡ true
tail_free n = go (nat_lt 1 n)
  where
    go : (b : Bool) → are_lines ((if b then codes ">>" ∷ [] else []) ++ tail_lines) ≡ true
    go true = refl
    go false = refl

-- the staves after the head, of which there are some
record AreAllRead (r : ℕ) (bars : List Bar) (voices : List (List Sound)) (lines : List (List ℕ)) : Type 0 where
  spans : List (List Span)
  are : Each (AreSpans r bars) voices spans
  read : spans_of_lines None lines ≡ Some spans

all_read : (r : ℕ) (some : 1 ≤ 64 * r) (sbars : List ScoreBar) (bars : List Bar) (most : List ℕ) → 1 ≤ r → r ≤ MOST_UNITS
    → All IsScoreBar sbars
    → HaveSignatures sbars bars → length most ≡ length sbars
    → (channels : List ℕ) (voices : List (List Sound)) (written : List (List (List Group))) (n : ℕ)
    → 1 ≤ length voices → All (AreWellSounded r (length sbars)) voices → Each (AreVoiceGroups r 0 sbars) voices written → length channels
    ≡ length voices
    → AreAllRead r bars voices (staves_lines true sbars most channels voices written ++ (closing_lines n ++ tail_lines))
all_read r some sbars bars most units few right signatures long channels [] written n voiced well each count = absurd
    (omega (arith, voiced))
all_read r some sbars bars most units few right signatures long [] (sounds ∷ voices) written n voiced well each count = absurd
    (omega (arith, count))
all_read r some sbars bars most units few right signatures long (channel ∷ channels)
    (sounds ∷ voices) [] n voiced well each count = absurd each
all_read r some sbars bars most units few right signatures long (channel ∷ channels) (sounds ∷ voices) (all ∷ written) n voiced well
    (groups, each) count =
    let tail = closing_lines n ++ tail_lines in
    let body = body_lines r some true sbars most sounds all in
    let rest = staves_lines false sbars most channels voices written in
    let voice = voice_is r some sbars bars most units few right signatures long sounds
    (All-head (AreWellSounded r (length sbars)) sounds voices well) in
    let one = staff_read r some true sbars bars most sounds all (rest ++ tail) voice signatures long groups in
    let more = staves_read r some sbars bars most units few right signatures long false channels voices written tail one.staff one.own
    (All-tail (AreWellSounded r (length sbars)) sounds voices well) each (omega (arith, count)) (tail_read n) one.spans in
    record {
      spans = one.own ∷ more.others;
      are = (one.are, more.are);
      read = ap (spans_of_lines None) (append_assoc (staff_head channel ∷ body) rest tail) ∙ one.read ∙ more.read;
    }

pub pages_read : PagesAreReadBack
unfolding page_events
pages_read s bars channels text is signatures count (written, each, same) = record {
  spans = all.spans;
  read = ap (λ ls. spans_of_lines None ls) (ap text_lines same ∙ lines_split (page_lines s channels written) free ∙ parted)
      ∙ head_read n (staves ++ tail) ∙ all.read;
  are = all.are;
}
  where
    n : ℕ
    n = length s.voices

    most : List ℕ
    most = most_in_bars s.voices (length s.bars)

    long : length most ≡ length s.bars
    long = length-map-range_with_len (most_graces s.voices) 0 (length s.bars)

    some : 1 ≤ 64 * s.resolution
    some = let units = is.some_unit in omega (arith, units)

    front : List (List ℕ)
    front = head_lines n ++ opening_lines n

    staves : List (List ℕ)
    staves = score_lines s channels written

    tail : List (List ℕ)
    tail = closing_lines n ++ tail_lines

    after_front : page_lines s channels written ≡ front ++ (staves ++ tail)
    after_front = append_assoc (front ++ staves) (closing_lines n) tail_lines ∙ append_assoc front staves tail

    parted : page_lines s channels written ≡ head_lines n ++ (opening_lines n ++ (staves ++ tail))
    parted = after_front ∙ append_assoc (head_lines n) (opening_lines n) (staves ++ tail)

    free : are_lines (page_lines s channels written) ≡ true
    free =
        ap are_lines after_front
        ∙ all_append (lacks 10) front (staves ++ tail) (head_lines_free n)
        (all_append (lacks 10) staves tail
        (staves_free s.resolution some s.bars bars most is.some_unit is.few_units is.bars signatures long true channels s.voices written
        is.voices each) (tail_free n))

    all : AreAllRead s.resolution bars s.voices (staves ++ tail)
    all = all_read s.resolution some s.bars bars most is.some_unit is.few_units is.bars signatures long channels s.voices written n
        is.some_voice is.voices each count
