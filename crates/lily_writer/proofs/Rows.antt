-- Worked texts, by the definitions: what is written of values, elements, pieces and changes, and what is read of a text.
use Rattle.std.specs.Prelude.{◌≡◌, ℕ, ◌^◌, ◌+◌, ℤ, pos, negsuc, Bool, true, false, List, [], ◌∷◌, ◌++◌, codes, map, refl, Some, None}
use Rattle.std.specs.Fmt.{digits}
use Rattle.rhythm_base.specs.declared.span.Frac.{Frac}
use Rattle.rhythm_base.specs.declared.span.Span.{Span}
use Rattle.durations.specs.declared.value.Recip.TheVariants.{Of}
use Rattle.durations.specs.declared.value.Value.{Value}
use Rattle.derivation.specs.declared.score.ScoreBar.{ScoreBar}
use Rattle.voice_events.specs.declared.event.KernEvent.{KernEvent}
use Rattle.text_words.specs.Divisors.{gcd}
use Rattle.voice_events.specs.Events.{span_event}
use Rattle.text_words.specs.Numbers.{number_of}
use Rattle.score_words.specs.Keys.{rising_keys}
use Rattle.score_words.specs.LilyChanges.{lily_changes}
use Rattle.lily_writer.specs.Elements.{element_text, note_value}
use Rattle.lily_writer.specs.Hearing.{hear}
use Rattle.lily_writer.specs.Pieces.{piece_begins, elements_of, piece_goes_on, bar_pieces, stretches}
use Rattle.lily_writer.specs.Reading.{hear_bar, hear_line, lily_events}
use Rattle.lily_writer.specs.Staves.{staff_bar}
use Rattle.lily_writer.specs.Text.{page_head, page_tail}
use Rattle.score_words.specs.TextLines.{lines_text}
use Rattle.lily_writer.specs.Values.{lily_value}
use Rattle.lily_writer.specs.Words.{base_of, word_ending, word_key, pitched_word, scale_of, word_of}

abbrev value : ℕ → Value
value n = record { recip = Of n; dots = 0 }

scales : map (λ n. lily_value (value n)) (3 ∷ 6 ∷ 5 ∷ 12 ∷ 128 ∷ 960 ∷ []) ≡ codes "2*2/3" ∷ codes "4*2/3" ∷ codes "4*4/5" ∷ codes
    "8*2/3" ∷ codes "64*1/2" ∷ codes "64*1/15" ∷ []
unfolding digits gcd
scales = refl

chord : element_text false (note_value (2 ^ 60 + 2 ^ 64) (record { recip = Of 6; dots = 1 }) true true) ≡ codes "<c' e'>4.*2/3-.~"
unfolding digits gcd rising_keys
chord = refl

abbrev whole_notes : ℕ → ℕ → Frac
whole_notes n d = record { num = n; den = d }

abbrev span : ℕ → Frac → Frac → List ℕ → Bool → Span
span keys start len graces short = record { start = start; len = len; keys = keys; graces = graces; short = short }

-- ---- the first worked text

abbrev first_text : List ℕ
first_text = lines_text (page_head ++ (codes "\\new Staff {" ∷ codes "\\time 4/4" ∷ codes "\\tempo 4 = 120" ∷ codes "c'4 d'4 e'4 f'4 |" ∷ codes
    "}" ∷ []) ++ page_tail)

abbrev quarters : List Span
quarters =
    span (2 ^ 60) (whole_notes 0 1) (whole_notes 1 4) [] false ∷ span (2 ^ 62) (whole_notes 1 4) (whole_notes 1 4) [] false
    ∷ span (2 ^ 64) (whole_notes 1 2) (whole_notes 1 4) [] false ∷ span (2 ^ 65) (whole_notes 3 4) (whole_notes 1 4) [] false ∷ []

reads_first : lily_events first_text ≡ Some (map (span_event 1) quarters)
unfolding gcd number_of base_of word_ending word_key pitched_word scale_of word_of hear hear_bar hear_line lily_events
reads_first = refl

-- ---- the second

abbrev demo_text : List ℕ
demo_text = lines_text (
    codes "\\version \"2.24.0\""
    ∷ codes "\\score {"
    ∷ codes "<<"
    ∷ codes "\\new Staff {"
    ∷ codes "\\key bes \\major"
    ∷ codes "\\time 4/4"
    ∷ codes "\\tempo 4 = 100"
    ∷ codes "<bes' d''>4 c''2. |"
    ∷ codes "\\tempo 4 = 120"
    ∷ codes "bes'1 |"
    ∷ codes "}"
    ∷ codes "\\new Staff {"
    ∷ codes "\\key bes \\major"
    ∷ codes "\\time 4/4"
    ∷ codes "bes,1~ |"
    ∷ codes "bes,1 |"
    ∷ codes "}"
    ∷ codes ">>"
    ∷ codes "}"
    ∷ []
    )

abbrev demo : List KernEvent
demo =
    span_event 1 (span (2 ^ 70 + 2 ^ 74) (whole_notes 0 1) (whole_notes 1 4) [] false) ∷ span_event 1
    (span (2 ^ 72) (whole_notes 1 4) (whole_notes 3 4) [] false)
    ∷ span_event 1 (span (2 ^ 70) (whole_notes 1 1) (whole_notes 1 1) [] false) ∷ span_event 2
    (span (2 ^ 46) (whole_notes 0 1) (whole_notes 2 1) [] false) ∷ []

reads_second : lily_events demo_text ≡ Some demo
unfolding gcd number_of base_of word_ending word_key pitched_word scale_of word_of hear hear_bar hear_line lily_events
reads_second = refl

-- ---- grace notes, short notes, scales

abbrev one_staff : List (List ℕ) → List ℕ
one_staff bars = lines_text (page_head ++ (codes "\\new Staff {" ∷ codes "\\time 4/4" ∷ bars) ++ codes "}" ∷ page_tail)

reads_graces : lily_events (one_staff (codes "r4 \\grace { d'8 <e' g'>8 } c'4 r2 |" ∷ []))
    ≡ Some (span_event 1 (span (2 ^ 60) (whole_notes 1 4) (whole_notes 1 4) (2 ^ 62 ∷ (2 ^ 64 + 2 ^ 67) ∷ []) false) ∷ [])
unfolding gcd number_of base_of word_ending word_key pitched_word scale_of word_of hear hear_bar hear_line lily_events
reads_graces = refl

reads_scales : lily_events (one_staff (codes "<c' e'>4*2/3-.~ <c' e'>4*2/3 r4*2/3 c'2 |" ∷ []))
    ≡ Some (span_event 1 (span (2 ^ 60 + 2 ^ 64) (whole_notes 0 1) (whole_notes 1 3) [] true) ∷ span_event 1
    (span (2 ^ 60) (whole_notes 1 2) (whole_notes 1 2) [] false) ∷ [])
unfolding gcd number_of base_of word_ending word_key pitched_word scale_of word_of hear hear_bar hear_line lily_events
reads_scales = refl

-- what is no text of this kind: a bar that is not full, a tie to another key, a tie that does not end, a tied rest
reads_no_short_bar : lily_events (one_staff (codes "c'4 r2 |" ∷ [])) ≡ None
unfolding gcd number_of base_of word_ending word_key pitched_word scale_of word_of hear hear_bar hear_line lily_events
reads_no_short_bar = refl

reads_no_other_key : lily_events (one_staff (codes "c'2~ d'2 |" ∷ [])) ≡ None
unfolding gcd number_of base_of word_ending word_key pitched_word scale_of word_of hear hear_bar hear_line lily_events
reads_no_other_key = refl

reads_no_open_tie : lily_events (one_staff (codes "c'1~ |" ∷ [])) ≡ None
unfolding gcd number_of base_of word_ending word_key pitched_word scale_of word_of hear hear_bar hear_line lily_events
reads_no_open_tie = refl

reads_no_tied_rest : lily_events (one_staff (codes "r2~ r2 |" ∷ [])) ≡ None
unfolding gcd number_of base_of word_ending word_key pitched_word scale_of word_of hear hear_bar hear_line lily_events
reads_no_tied_rest = refl

-- ---- pieces and their elements, by values that are given

abbrev quarter_value : Value
quarter_value = value 4

graces_line : staff_bar false (elements_of None true false (quarter_value ∷ []) ++ elements_of
    (Some (span (2 ^ 60) (whole_notes 1 4) (whole_notes 1 4) (2 ^ 62 ∷ 2 ^ 64 ∷ []) false)) true false (quarter_value ∷ []) ++ elements_of
    None true false (value 2 ∷ []))
    ≡ codes "r4 \\grace { d'8 e'8 } c'4 r2 |"
unfolding digits gcd rising_keys
graces_line = refl

-- a short span of 5/4 of a whole note
short_line : staff_bar false (elements_of (Some (span (2 ^ 60) (whole_notes 0 1) (whole_notes 5 4) [] true)) true false
    (value 1 ∷ value 4 ∷ [])) ≡ codes "c'1-.~ c'4 |"
unfolding digits gcd rising_keys
short_line = refl

abbrev long_note : List Span
long_note = span (2 ^ 46) (whole_notes 1 4) (whole_notes 3 2) [] false ∷ []

pieces_first : map {B = ℕ × ℕ × Bool × Bool} (λ p. (p.from, p.to, piece_begins p, piece_goes_on p))
    (bar_pieces 0 256 (stretches 4 0 512 long_note)) ≡ (0, 64, true, false) ∷ (64, 256, true, true) ∷ []
pieces_first = refl

pieces_second : map {B = ℕ × ℕ × Bool × Bool} (λ p. (p.from, p.to, piece_begins p, piece_goes_on p))
    (bar_pieces 256 512 (stretches 4 0 512 long_note)) ≡ (256, 448, false, false) ∷ (448, 512, true, false) ∷ []
pieces_second = refl

abbrev bar : ℤ → ℕ → ScoreBar
bar sf tempo = record { num = 4; den = 4; tempo = tempo; sf = Some sf }

changes_first : lily_changes true None (bar (negsuc 1) 600000) ≡ codes "\\key bes \\major" ∷ codes "\\time 4/4" ∷ codes "\\tempo 4 = 100" ∷ []
unfolding digits
changes_first = refl

same_number_of_quarters : lily_changes true (Some (bar (negsuc 1) 500000)) (bar (pos 7) 500001) ≡ codes "\\key cis \\major" ∷ []
unfolding digits
same_number_of_quarters = refl
