use Rattle.std.proofs.Common.{◌≡◌, ◌+◌, ◌-◌, ◌<◌, ◌≤◌, ◌^◌, List, drop, length}
use Rattle.kern_reader.specs.declared.line.KernLine.{KernLine}
use Rattle.kern_reader.specs.Outcome.{read_from, read_text}
use Rattle.kern_reader.specs.Reading.{IsReading}
use Rattle.text_words.specs.Lines.{text_lines}
use Rattle.kern_reader.proofs.read.read_kern.Given as goal

abbrev pub invariant-lines : goal.invariant-lines
invariant-lines l = record {
  before : (before : List KernLine) × IsReading l.number before l.reading × (read_from before l.number (text_lines l.rest) ≡ read_text l.bytes);
  some : 1 ≤ l.number;
  small : l.number + length l.rest < 2 ^ 32;
  rest : text_lines l.rest ≡ drop (l.number - 1) (text_lines l.bytes);
  count : l.number + length (text_lines l.rest) ≡ length (text_lines l.bytes) + 1;
}

abbrev pub decreases-lines : goal.decreases-lines
decreases-lines l = length l.rest
