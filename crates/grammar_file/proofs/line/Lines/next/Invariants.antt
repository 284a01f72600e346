use Rattle.std.proofs.Common.{◌≡◌, ◌+◌, ◌<◌, ◌≤◌, ◌^◌, length}
use Rattle.grammar_file.specs.Content.{content_from}
use Rattle.grammar_file.specs.Lines.{grammar_lines}
use Rattle.grammar_file.proofs.line.Lines.next.Given as goal

-- the lines that were passed say nothing
abbrev pub invariant-lines : goal.invariant-lines
invariant-lines l = record {
  same : content_from l.self-inside.number (grammar_lines l.self-inside.rest.now) ≡ l.fn.self;
  some : 1 ≤ l.self-inside.number;
  small : l.self-inside.number + length l.self-inside.rest.now < 2 ^ 32;
}

abbrev pub decreases-lines : goal.decreases-lines
decreases-lines l = length l.self-inside.rest.now
