-- The lines of a page are cut where they were joined: none has a newline in it.
use Rattle.rhythm_base.specs.declared.limits.TheConstants.{MOST_UNITS}
use Rattle.std.proofs.Common.{◌≡◌, ℕ, zero, suc, ◌+◌, ◌≤◌, ◌==◌, not, Bool, true, false, List, [], ◌∷◌, ◌++◌, get_or, refl, ap, ◌∙◌, arith, append_assoc, Option, Some, None}
use Rattle.std.specs.Prelude.{ℤ, All, codes, decimal, if◌then◌else◌}
use Rattle.std.specs.Char.{is_ascii_digit}
use Rattle.std.specs.List.{list_all, slice_split}
use Rattle.std.proofs.lemmas.Bool.{and_from, and_parts}
use Rattle.std.proofs.lemmas.List.Splits.{length-slice_split}
use Rattle.rhythm_base.specs.declared.span.Span.{Span}
use Rattle.derivation.specs.declared.score.ScoreBar.{ScoreBar}
use Rattle.score_words.specs.Changes.{key_before, quarters_of_minute, same_key, same_signature, same_tempo, has_flats}
use Rattle.text_words.specs.Lines.{text_lines, lines_of_pieces}
use Rattle.text_words.proofs.TextSplits.{split_first}
use Rattle.text_words.proofs.TextTests.{all_append, all_weaker, decimal_digits, digit_graphic, graphic_prints, lacks, printing_no_newline}
use Rattle.voice_events.specs.Parts.{score_bar_parts, score_parts}
use Rattle.voice_events.specs.VoiceEvents.{IsVoiceSpan}
use Rattle.score_words.specs.LilyChanges.{lily_changes, lily_key_lines, lily_key, key_name, key_names, key_number, lily_tempo_lines, lily_tempo, time_change, time_line}
use Rattle.lily_writer.specs.Pieces.{stretches}
use Rattle.lily_writer.specs.Staves.{AreBarsOfStaff, AreStaffLines, staff_bar}
use Rattle.score_words.specs.TextLines.{lines_text}
use Rattle.lily_laws.proofs.BarWords.{bar_in_line, bar_sounds}
use Rattle.text_words.proofs.LineLemmas.{lines_among_more}

-- ---- lines that were joined

abbrev pub are_lines : List (List ℕ) → Bool
are_lines lines = list_all (lacks 10) lines

pub lines_split : (lines : List (List ℕ)) → are_lines lines ≡ true → text_lines (lines_text lines) ≡ lines
lines_split [] h = refl
lines_split (line ∷ lines) h =
    let parts = and_parts (lacks 10 line) (are_lines lines) h in
    let rest = lines_text lines in
    ap text_lines (append_assoc line (10 ∷ []) rest) ∙ ap lines_of_pieces (split_first 10 line rest parts.0)
    ∙ lines_among_more line (slice_split (λ b. b == 10) rest) (omega (arith, length-slice_split (λ b. b == 10) rest))
    ∙ ap (λ ls. line ∷ ls) (lines_split lines parts.1)

-- ---- the lines of a staff

free : ℕ → Bool
free b = not (b == 10)

pub digit_free : (b : ℕ) → is_ascii_digit b ≡ true → not (b == 10) ≡ true
digit_free b h = printing_no_newline b (graphic_prints b (digit_graphic b h))

pub number_free : (n : ℕ) → lacks 10 (decimal n) ≡ true
number_free n = all_weaker is_ascii_digit (λ b. not (b == 10)) (decimal n) digit_free (decimal_digits n)

-- any one of some texts, or none
one_free : (texts : List (List ℕ)) (i : ℕ) → are_lines texts ≡ true → lacks 10 (get_or texts i []) ≡ true
one_free [] i h = refl
one_free (t ∷ texts) zero h = (and_parts (lacks 10 t) (are_lines texts) h).0
one_free (t ∷ texts) (suc i) h = one_free texts i (and_parts (lacks 10 t) (are_lines texts) h).1

key_free : (sf : ℤ) → lacks 10 (lily_key sf) ≡ true
key_free sf =
    all_append (λ b. not (b == 10)) (codes "\\key " ++ key_name sf) (codes " \\major")
    (all_append (λ b. not (b == 10)) (codes "\\key ") (key_name sf) refl (one_free key_names (key_number sf) refl)) refl

time_free : (bar : ScoreBar) → lacks 10 (time_line bar) ≡ true
time_free bar =
    all_append (λ b. not (b == 10)) (codes "\\time " ++ decimal bar.num ++ codes "/") (decimal bar.den)
    (all_append (λ b. not (b == 10)) (codes "\\time " ++ decimal bar.num) (codes "/")
    (all_append (λ b. not (b == 10)) (codes "\\time ") (decimal bar.num) refl (number_free bar.num)) refl) (number_free bar.den)

tempo_free : (bar : ScoreBar) → lacks 10 (lily_tempo bar) ≡ true
tempo_free bar = all_append (λ b. not (b == 10)) (codes "\\tempo 4 = ") (decimal (quarters_of_minute bar.tempo)) refl
    (number_free (quarters_of_minute bar.tempo))

one_line : (line : List ℕ) → lacks 10 line ≡ true → (b : Bool) → are_lines (if b then [] else line ∷ []) ≡ true
one_line line h true = refl
one_line line h false = and_from (lacks 10 line) true h refl

key_lines : (old sf : Option ℤ) → are_lines (lily_key_lines old sf) ≡ true
key_lines old None = refl
key_lines old (Some sf) = one_line (lily_key sf) (key_free sf) (same_key old sf)

tempo_lines : (first : Bool) (old : Option ScoreBar) (bar : ScoreBar) → are_lines (if first then lily_tempo_lines old bar else []) ≡ true
tempo_lines true old bar = one_line (lily_tempo bar) (tempo_free bar) (same_tempo old bar)
tempo_lines false old bar = refl

pub changes_lines : (first : Bool) (old : Option ScoreBar) (bar : ScoreBar) → are_lines (lily_changes first old bar) ≡ true
changes_lines first old bar =
    let key = lily_key_lines (key_before old) bar.sf in
    let time = time_change old bar in
    let tempo = if first then lily_tempo_lines old bar else [] in
    all_append (lacks 10) (key ++ time) tempo
    (all_append (lacks 10) key time (key_lines (key_before old) bar.sf)
    (one_line (time_line bar) (time_free bar) (same_signature old bar))) (tempo_lines first old bar)

bars_lines : (r end : ℕ) (first : Bool) (spans : List Span) (old : Option ScoreBar) (from : ℕ) (bars : List ScoreBar)
    (lines : List (List ℕ)) → 1 ≤ r → r ≤ MOST_UNITS
    → All (IsVoiceSpan r) spans → AreBarsOfStaff r first (stretches r 0 end spans) old from bars lines → are_lines lines ≡ true
bars_lines r end first spans old from [] lines some few are all = ap are_lines all
bars_lines r end first spans old from (bar ∷ bars) lines some few are (elements, others, own, rest, all) =
    let line = staff_bar (has_flats bar.sf) elements in
    ap are_lines all
    ∙ all_append (lacks 10) (lily_changes first old bar) (line ∷ others) (changes_lines first old bar)
    (and_from (lacks 10 line) (are_lines others) (bar_in_line (has_flats bar.sf) elements
    (bar_sounds r some few from (from + score_bar_parts r bar) end spans elements are own))
    (bars_lines r end first spans (Some bar) (from + score_bar_parts r bar) bars others some few are rest))

pub staff_lines : (r : ℕ) (bars : List ScoreBar) (first : Bool) (spans : List Span) (lines : List (List ℕ)) → 1 ≤ r → r ≤ MOST_UNITS
    → All (IsVoiceSpan r) spans
    → AreStaffLines r bars first spans lines → are_lines lines ≡ true
staff_lines r bars first spans lines some few are (own, all, is) =
    ap are_lines is ∙ all_append (lacks 10) own (codes "}" ∷ [])
    (bars_lines r (score_parts r bars) first spans None 0 bars own some few are all) refl
