use Rattle.std.proofs.Common.{◌≡◌, [], length}
use Rattle.std.specs.Prelude.{All}
use Rattle.grammar_file.specs.Content.{IsLineNumber}
use Rattle.grammar_file.specs.Statements.{in_turn, names_of, spoken_after}
use Rattle.grammar_file.proofs.draft.read_lines.Given as goal

-- what the lines so far say, with what those after them say, is what all lines say
abbrev pub invariant-lines : goal.invariant-lines
invariant-lines l = record {
  names : l.draft.names ≡ names_of l.draft.spoken.items;
  end : l.lines.end ≡ l.fn.lines.end;
  lines : All (λ s. IsLineNumber l.fn.lines.end s.line) l.draft.spoken.items;
  same : in_turn (spoken_after l.version) l.draft.spoken.items l.lines.lines ≡ in_turn (spoken_after l.version) [] l.fn.lines.lines;
}

abbrev pub decreases-lines : goal.decreases-lines
decreases-lines l = length l.lines.lines
