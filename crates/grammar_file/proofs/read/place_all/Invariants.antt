use Rattle.std.proofs.Common.{◌≡◌, [], take}
use Rattle.grammar_file.specs.Statements.{names_of}
use Rattle.grammar_file.specs.Symbols.{not_understood, rules_in, starts_in}
use Rattle.grammar_file.proofs.read.place_all.Given as goal

abbrev pub invariant-loop-line : goal.invariant-loop-line
invariant-loop-line l = record {
  understood : not_understood (names_of l.lines) (take l.line-index l.lines) ≡ [];
  starts : l.starts.items ≡ starts_in (names_of l.lines) (take l.line-index l.lines);
  rules : l.rules.items ≡ rules_in (names_of l.lines) (take l.line-index l.lines);
}
