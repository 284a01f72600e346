use Rattle.std.proofs.Common.{◌≡◌, map, take}
use Rattle.grammar_file.proofs.names.owned_names.Given as goal

abbrev pub invariant-loop-name : goal.invariant-loop-name
invariant-loop-name l = l.owned.items ≡ map (λ n. n.now) (take l.name-index l.names)
