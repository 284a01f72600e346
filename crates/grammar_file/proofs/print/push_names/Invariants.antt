use Rattle.std.proofs.Common.{◌≡◌, ◌∷◌, ◌++◌, drop}
use Rattle.std.specs.List.{flat_map}
use Rattle.grammar_file.specs.Printed.{symbol_name}
use Rattle.grammar_file.proofs.print.push_names.Given as goal

-- what is written, with what is left, is all
abbrev pub invariant-loop-symbol : goal.invariant-loop-symbol
invariant-loop-symbol l = l.text.items ++ flat_map (λ s. 32 ∷ symbol_name l.names s) (drop l.symbol-index l.symbols) ≡ l.fn.text.items ++ flat_map (λ s. 32 ∷ symbol_name l.names s) l.symbols
