-- The lines of a text of records.
use Rattle.std.proofs.Common.{◌≡◌, ◌==◌, Bool, true, List, [], ◌∷◌, map, refl, ap, ◌∙◌, append_assoc, arith}
use Rattle.std.specs.List.{join_with_byte, list_all, slice_split}
use Rattle.std.proofs.lemmas.Bool.{and_parts}
use Rattle.std.proofs.lemmas.List.Splits.{length-slice_split}
use Rattle.kern_writer.specs.Records.{Record}
use Rattle.kern_writer.specs.Text.{records_text}
use Rattle.text_words.proofs.LineLemmas.{lines_among_more}
use Rattle.text_words.proofs.TextSplits.{split_first}
use Rattle.text_words.proofs.TextTests.{lacks}
use Rattle.text_words.specs.Lines.{text_lines, lines_of_pieces}

-- a record is in one line
abbrev pub in_line : Record → Bool
in_line record_columns = lacks 10 (join_with_byte 9 record_columns)

-- the lines of the text are the records
pub lines_of_records : (records : List Record) → list_all in_line records ≡ true → text_lines (records_text records) ≡ map (join_with_byte 9) records
lines_of_records [] h = refl
lines_of_records (r ∷ records) h =
    let parts = and_parts (in_line r) (list_all in_line records) h in
    let rest = records_text records in
    ap text_lines (append_assoc (join_with_byte 9 r) (10 ∷ []) rest) ∙ ap lines_of_pieces (split_first 10 (join_with_byte 9 r) rest parts.0)
    ∙ lines_among_more (join_with_byte 9 r) (slice_split (λ b. b == 10) rest) (omega (arith, length-slice_split (λ b. b == 10) rest))
    ∙ ap (λ lines. join_with_byte 9 r ∷ lines) (lines_of_records records parts.1)
