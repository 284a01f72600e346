use Rattle.std.proofs.Common.{◌≡◌, ◌++◌, drop, map}
use Rattle.std.specs.List.{flat_map}
use Rattle.grammar_file.specs.Printed.{line_text, rule_words}
use Rattle.grammar_file.proofs.print.push_rules.Given as goal

-- what is written, with what is left, is all
abbrev pub invariant-loop-rule : goal.invariant-loop-rule
invariant-loop-rule l = l.text.items ++ flat_map line_text (map (rule_words l.names) (drop l.rule-index l.rules)) ≡ l.fn.text.items ++ flat_map line_text (map (rule_words l.names) l.rules)
