-- A text of a score is read where the lines that its records say stand one after another.
use Rattle.std.proofs.Common.{◌≡◌, ℕ, suc, ◌+◌, ◌≤◌, ◌==◌, ◌&&◌, true, false, not, List, [], ◌∷◌, ◌++◌, length, map, reverse, append_assoc, append-nil, refl, sym, ap, ◌∙◌, subst, arith}
use Rattle.std.specs.Prelude.{Ok, None, codes, nat_le}
use Rattle.std.proofs.lemmas.Bool.{and_from, and_right, le-leb, not_from_true}
use Rattle.std.proofs.lemmas.Bool.Decides.{nat_tests}
use Rattle.std.proofs.lemmas.List.{reverse-append}
use Rattle.rhythm_base.specs.Lists.{Each}
use Rattle.kern_writer.specs.Records.{Record, alike, head, tail}
use Rattle.derivation.specs.Score.{IsScore, Score}
use Rattle.kern_writer.specs.Text.{IsScoreText, records_text}
use Rattle.kern_reader.specs.Columns.{announced, columns_of, current_bar, grid_of, spines_of, stage_after, stage_of}
use Rattle.kern_reader.specs.Faults.{first_fault, has_no_head, has_wrong_width, is_head_stage, is_out_of_turn, line_fault, said_tests}
use Rattle.kern_reader.specs.Lines.{is_ending, is_heading, line_of}
use Rattle.kern_reader.specs.Outcome.{at_end, read_from, read_text}
use Rattle.kern_reader.specs.Text.{columns}
use Rattle.text_words.specs.Lines.{text_lines}
use Rattle.kern_reader.proofs.TextLemmas.{read_next}
use Rattle.kern_laws.specs.Lines.{KernLine}
use Rattle.kern_laws.proofs.ScoreLines.{AreScoreLines, Body, ending_line, Head, Heading, Last, LastBarline, Stage, StandFrom}
use Rattle.kern_laws.proofs.RecordsLines.{SaysInside, SaysLine, row_text}
use Rattle.kern_laws.proofs.RecordsSay.{SayScore, records_apart, score_rows}
use Rattle.kern_laws.proofs.LinesOfRecords.{lines_of_records}
use Rattle.kern_laws.proofs.WordsSay.{end_ending, end_says, head_heading, head_says, last_ending, last_says}

-- ---- the tests of a line by its text

-- it is no head where one is wanted, stands out of its turn, or has too few columns or too many
record PassesTests (at : Stage) (spines : ℕ) (text : List ℕ) : Type 0 where
  head : has_no_head at text ≡ false
  turn : is_out_of_turn at text ≡ false
  width : has_wrong_width at spines text ≡ false

as_wide : (spines n : ℕ) (text : List ℕ) → length (columns text) ≡ n → spines ≡ n
    → (not (length text == 0) && not (length (columns text) == spines)) ≡ false
as_wide spines n text wide as_many =
    let same : (length (columns text) == spines) ≡ true = equal (length (columns text)) spines (wide ∙ sym as_many) in
    and_right (not (length text == 0)) (not (length (columns text) == spines)) (not_from_true (length (columns text) == spines) same)
  where
    equal : (a b : ℕ) → a ≡ b → (a == b) ≡ true
    equal a b e = grind (arith, nat_tests, e)

body_passes : (spines n : ℕ) (text : List ℕ) → is_ending text ≡ false → length (columns text) ≡ n → spines ≡ n → PassesTests Body spines text
unfolding has_no_head is_out_of_turn has_wrong_width
body_passes spines n text ending wide as_many = record { head = refl; turn = ending; width = as_wide spines n text wide as_many }

last_passes : (spines n : ℕ) (text : List ℕ) → is_ending text ≡ true → length (columns text) ≡ n → spines ≡ n → PassesTests Last spines text
unfolding has_no_head is_out_of_turn has_wrong_width
last_passes spines n text ending wide as_many =
    record { head = refl; turn = not_from_true (is_ending text) ending; width = as_wide spines n text wide as_many }

head_passes : (spines n : ℕ) (text : List ℕ) → is_heading text ≡ true → length (columns text) ≡ n → n ≤ 16 → PassesTests Head spines text
unfolding has_no_head is_out_of_turn has_wrong_width
head_passes spines n text heading wide few =
    let narrow : nat_le (length (columns text)) 16 ≡ true = ap (λ k. nat_le k 16) wide ∙ le-leb n 16 few in
    let both = and_from (is_heading text) (nat_le (length (columns text)) 16) heading narrow in
    record { head = not_from_true (is_heading text && nat_le (length (columns text)) 16) both; turn = refl; width = refl }

-- ---- one line

no_fault : (before : List KernLine) (text : List ℕ) (line : KernLine) → PassesTests (stage_of before) (length (columns_of before)) text
    → line_of text ≡ line
    → first_fault (said_tests (stage_of before) (grid_of before) (current_bar before) (announced before) (spines_of before) line) ≡ None → line_fault before text ≡ None
unfolding line_fault
no_fault before text line passes is none =
    rw (passes.head, passes.turn, passes.width)
    (ap (λ l. first_fault (said_tests (stage_of before) (grid_of before) (current_bar before) (announced before) (spines_of before) l)) is ∙ none)

step : (n : ℕ) (before : List KernLine) (number : ℕ) (row : Record) (line : KernLine) (texts : List (List ℕ)) → SaysLine n row line
    → PassesTests (stage_of before) (length (columns_of before)) (row_text row)
    → first_fault (said_tests (stage_of before) (grid_of before) (current_bar before) (announced before) (spines_of before) line) ≡ None
    → read_from before number (row_text row ∷ texts) ≡ read_from (line ∷ before) (number + 1) texts
step n before number row line texts says passes none =
    read_next before number (row_text row) texts says.said (no_fault before (row_text row) line passes says.is none)
    ∙ ap (λ l. read_from (l ∷ before) (number + 1) texts) says.is

-- ---- all lines

-- the lines after those before them, last first
abbrev lines_on : List KernLine → List KernLine → List KernLine
lines_on before [] = before
lines_on before (line ∷ lines) = lines_on (line ∷ before) lines

lines_turned : (before lines : List KernLine) → lines_on before lines ≡ reverse lines ++ before
lines_turned before [] = refl
lines_turned before (line ∷ lines) =
    lines_turned (line ∷ before) lines ∙ sym (append_assoc (reverse lines) (line ∷ []) before) ∙ ap (λ ls. ls ++ before)
    (sym (reverse-append (line ∷ []) lines))

over : (number : ℕ) (lines : List KernLine) → at_end (stage_after ending_line) number lines ≡ Ok lines
unfolding line_of
over number lines = refl

-- after the head: the bars, the last barline, and the end
rest_read : (m : ℕ) (rows : List Record) (lines before : List KernLine) (number : ℕ) → Each (SaysInside (suc m)) rows lines → stage_of before ≡ Body
    → StandFrom (suc m) before (lines ++ LastBarline ∷ ending_line ∷ [])
    → read_from before number (map row_text (rows ++ tail (suc m))) ≡ Ok (lines_on before (lines ++ LastBarline ∷ ending_line ∷ []))
rest_read m [] [] before number each at stand =
    let last_row = alike (suc m) (codes "==") in
    let end_row = alike (suc m) (codes "*-") in
    let last = last_says m in
    let end = end_says m in
    let first : PassesTests (stage_of before) (length (columns_of before)) (row_text last_row) =
    subst (λ a. PassesTests a (length (columns_of before)) (row_text last_row)) (sym at)
    (body_passes (length (columns_of before)) (suc m) (row_text last_row) (last_ending m) last.wide (stand.1 (ap is_head_stage at))) in
    let second = last_passes (length (columns_of (LastBarline ∷ before))) (suc m) (row_text end_row) (end_ending m) end.wide (stand.3.1 refl) in
    step (suc m) before number last_row LastBarline (row_text end_row ∷ []) last first stand.2
    ∙ step (suc m) (LastBarline ∷ before) (number + 1) end_row ending_line [] end second stand.3.2
    ∙ over (number + 1 + 1) (ending_line ∷ LastBarline ∷ before)
rest_read m [] (line ∷ lines) before number each at stand = cc
rest_read m (row ∷ rows) [] before number each at stand = absurd each
rest_read m (row ∷ rows) (line ∷ lines) before number each at stand =
    let passes : PassesTests (stage_of before) (length (columns_of before)) (row_text row) =
    subst (λ a. PassesTests a (length (columns_of before)) (row_text row)) (sym at)
    (body_passes (length (columns_of before)) (suc m) (row_text row) each.0.ending each.0.says.wide (stand.1 (ap is_head_stage at))) in
    step (suc m) before number row line (map row_text (rows ++ tail (suc m))) each.0.says passes stand.2
    ∙ rest_read m rows lines (line ∷ before) (number + 1) each.1 each.0.body stand.3

head_body : (text : List ℕ) → is_heading text ≡ true → stage_after (line_of text) ≡ Body
unfolding line_of
head_body text heading = rw heading refl

lines_read : (m : ℕ) (rows : List Record) (lines : List KernLine) → suc m ≤ 16 → Each (SaysInside (suc m)) rows lines
    → StandFrom (suc m) [] (Heading (suc m) ∷ (lines ++ LastBarline ∷ ending_line ∷ []))
    → read_from [] 1 (map row_text (head (suc m) ∷ (rows ++ tail (suc m)))) ≡ Ok (reverse (Heading (suc m) ∷ (lines ++ LastBarline ∷ ending_line ∷ [])))
lines_read m rows lines few each stand =
    let all = Heading (suc m) ∷ (lines ++ LastBarline ∷ ending_line ∷ []) in
    let says = head_says m in
    let body : stage_after (Heading (suc m)) ≡ Body = head_body (row_text (head (suc m))) (head_heading m) in
    step (suc m) [] 1 (head (suc m)) (Heading (suc m)) (map row_text (rows ++ tail (suc m))) says
    (head_passes 0 (suc m) (row_text (head (suc m))) (head_heading m) says.wide few) stand.2
    ∙ rest_read m rows lines (Heading (suc m) ∷ []) (1 + 1) each body stand.3 ∙ ap Ok (lines_turned [] all ∙ append-nil (reverse all))

-- ---- the text

-- the lines of a score, by those of its bars
abbrev with_ends : ℕ → List KernLine → List KernLine
with_ends n bars = Heading n ∷ (bars ++ LastBarline ∷ ending_line ∷ [])

score_read : (m : ℕ) (s : Score) (records : List Record) (text : List ℕ) → text ≡ records_text records → SayScore m s records
    → (lines : List KernLine) × AreScoreLines s lines × (StandFrom (length s.voices) [] lines → read_text text ≡ Ok (reverse lines))
score_read m s records text is h =
    let n = length s.voices in
    let rows = head (suc m) ∷ (h.rows ++ tail (suc m)) in
    let pieces : text_lines text ≡ map row_text rows =
    ap text_lines is ∙ lines_of_records records (records_apart m s records h) ∙ ap (map row_text) h.are_rows in
    let read : StandFrom n [] (with_ends n h.bars) → read_from [] 1 (map row_text rows) ≡ Ok (reverse (with_ends n h.bars)) =
    subst (λ k. StandFrom k [] (with_ends k h.bars) → read_from [] 1 (map row_text rows) ≡ Ok (reverse (with_ends k h.bars)))
    (sym h.count) (lines_read m h.rows h.bars h.few h.say) in
    (with_ends n h.bars, h.are_bars, λ stand. ap (read_from [] 1) pieces ∙ read stand)

-- a text of a score says lines of the score; where they stand, they are all that is read of it
pub reads : (s : Score) (text : List ℕ) → IsScore s → IsScoreText s text
    → (lines : List KernLine) × AreScoreLines s lines × (StandFrom (length s.voices) [] lines → read_text text ≡ Ok (reverse lines))
reads s text well (records, are, is) = let all = score_rows s records well are in score_read all.0 s records text is all.1
