-- What a text is of, read off its lines.
use Rattle.std.proofs.Common.{◌≡◌, ◌≢◌, ℕ, ◌<◌, ◌^◌, List, ◌++◌, sym, ◌∙◌, append_assoc, arith}
use Rattle.std.specs.Prelude.{All}
use Rattle.std.specs.List.{enumerate_from, flat_map}
use Rattle.rhythm_base.specs.declared.note.Note.{Note}
use Rattle.rhythm_base.specs.Performance.{Performance}
use Rattle.notes_writer.specs.NotesText.{bar_record, end_line, key_record, note_line, notes_records, tempo_record}
use Rattle.notes_writer.proofs.LineKinds.{IsSmallBar, IsSmallKey, IsSmallNote, IsSmallTempo, bar_byte, bars, end_byte, ends, key_byte, keys, note_byte, notes, tempo_byte, tempos}
use Rattle.notes_writer.proofs.RunsApart.{BeginsNot, line_apart, other_run, runs_apart}

-- numbers of 64 bits
pub record AreSmall (p : Performance) (list : List Note) : Type 0 where
  pub bars : All IsSmallBar (enumerate_from 0 p.bars)
  pub tempos : All IsSmallTempo p.tempos
  pub key_marks : All IsSmallKey p.key_marks
  pub notes : All IsSmallNote list
  pub last : p.last < 2 ^ 64

-- the records of one text are alike
pub record AreAlike (p q : Performance) (some other : List Note) : Type 0 where
  pub bars : enumerate_from 0 p.bars ≡ enumerate_from 0 q.bars
  pub tempos : p.tempos ≡ q.tempos
  pub key_marks : p.key_marks ≡ q.key_marks
  pub notes : some ≡ other
  pub last : p.last ≡ q.last

-- the text from the notes on, from the keys on, and from the tempos on
abbrev from_notes : Performance → List Note → List ℕ
from_notes p list = flat_map note_line list ++ end_line p.last

abbrev from_keys : Performance → List Note → List ℕ
from_keys p list = flat_map key_record p.key_marks ++ from_notes p list

abbrev from_tempos : Performance → List Note → List ℕ
from_tempos p list = flat_map tempo_record p.tempos ++ from_keys p list

text_parts : (p : Performance) (list : List Note) → notes_records p list ≡ flat_map bar_record (enumerate_from 0 p.bars) ++ from_tempos p list
text_parts p list =
    let b = flat_map bar_record (enumerate_from 0 p.bars) in
    let t = flat_map tempo_record p.tempos in
    let k = flat_map key_record p.key_marks in
    append_assoc (b ++ t ++ k) (flat_map note_line list) (end_line p.last) ∙ append_assoc (b ++ t) k (from_notes p list)
    ∙ append_assoc b t (from_keys p list)

end_begins : (byte last : ℕ) → end_byte ≢ byte → BeginsNot byte (end_line last)
end_begins byte last differ rest e = let same : end_byte ≡ byte = cc in differ same

notes_begin : (byte : ℕ) (p : Performance) (list : List Note) → note_byte ≢ byte → end_byte ≢ byte → BeginsNot byte (from_notes p list)
notes_begin byte p list n e = other_run note_byte IsSmallNote note_line notes byte n list (end_line p.last) (end_begins byte p.last e)

keys_begin : (byte : ℕ) (p : Performance) (list : List Note) → key_byte ≢ byte → note_byte ≢ byte → end_byte ≢ byte
    → BeginsNot byte (from_keys p list)
keys_begin byte p list k n e = other_run key_byte IsSmallKey key_record keys byte k p.key_marks (from_notes p list) (notes_begin byte p list n e)

-- no line of a kind comes after those of that kind
after_notes : (p : Performance) → BeginsNot note_byte (end_line p.last)
after_notes p = end_begins note_byte p.last (λ e. omega (arith, e))

after_keys : (p : Performance) (list : List Note) → BeginsNot key_byte (from_notes p list)
after_keys p list = notes_begin key_byte p list (λ e. omega (arith, e)) (λ e. omega (arith, e))

after_tempos : (p : Performance) (list : List Note) → BeginsNot tempo_byte (from_keys p list)
after_tempos p list = keys_begin tempo_byte p list (λ e. omega (arith, e)) (λ e. omega (arith, e)) (λ e. omega (arith, e))

after_bars : (p : Performance) (list : List Note) → BeginsNot bar_byte (from_tempos p list)
after_bars p list =
    let later = keys_begin bar_byte p list (λ e. omega (arith, e)) (λ e. omega (arith, e)) (λ e. omega (arith, e)) in
    other_run tempo_byte IsSmallTempo tempo_record tempos bar_byte (λ e. omega (arith, e)) p.tempos (from_keys p list) later

pub texts_apart : (p q : Performance) (some other : List Note) → AreSmall p some → AreSmall q other
    → notes_records p some ≡ notes_records q other → AreAlike p q some other
texts_apart p q some other h k e =
    let parts = sym (text_parts p some) ∙ e ∙ text_parts q other in
    let first = runs_apart bar_byte IsSmallBar bar_record bars (enumerate_from 0 p.bars) (enumerate_from 0 q.bars)
    (from_tempos p some) (from_tempos q other) h.bars k.bars (after_bars p some) (after_bars q other) parts in
    let second = runs_apart tempo_byte IsSmallTempo tempo_record tempos p.tempos q.tempos
    (from_keys p some) (from_keys q other) h.tempos k.tempos (after_tempos p some) (after_tempos q other) first.1 in
    let third = runs_apart key_byte IsSmallKey key_record keys p.key_marks q.key_marks
    (from_notes p some) (from_notes q other) h.key_marks k.key_marks (after_keys p some) (after_keys q other) second.1 in
    let fourth = runs_apart note_byte IsSmallNote note_line notes some other
    (end_line p.last) (end_line q.last) h.notes k.notes (after_notes p) (after_notes q) third.1 in
    record {
      bars = first.0;
      tempos = second.0;
      key_marks = third.0;
      notes = fourth.0;
      last = line_apart end_byte (λ n. n < 2 ^ 64) end_line ends p.last q.last h.last k.last fourth.1;
    }
