use Rattle.std.proofs.Common.{◌≡◌, ◌∷◌, ◌++◌, drop}
use Rattle.std.specs.List.{flat_map}
use Rattle.std.specs.Prelude.{decimal}
use Rattle.grammar_file.specs.Printed.{symbol_name}
use Rattle.grammar_file.proofs.print.push_parts.Given as goal

-- what is written, with what is left, is all
abbrev pub invariant-loop-size : goal.invariant-loop-size
invariant-loop-size l = l.text.items ++ flat_map (λ q. 32 ∷ (decimal q.0 ++ 32 ∷ symbol_name l.names q.1)) (drop l.size-index l.parts) ≡ l.fn.text.items ++ flat_map (λ q. 32 ∷ (decimal q.0 ++ 32 ∷ symbol_name l.names q.1)) l.parts
