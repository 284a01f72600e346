use Rattle.std.proofs.Common.{◌≡◌, ◌++◌, drop, map}
use Rattle.std.specs.List.{flat_map}
use Rattle.grammar_file.specs.Printed.{line_text, start_words}
use Rattle.grammar_file.proofs.print.push_starts.Given as goal

-- what is written, with what is left, is all
abbrev pub invariant-loop-start : goal.invariant-loop-start
invariant-loop-start l = l.text.items ++ flat_map line_text (map (start_words l.names) (drop l.start-index l.starts)) ≡ l.fn.text.items ++ flat_map line_text (map (start_words l.names) l.starts)
