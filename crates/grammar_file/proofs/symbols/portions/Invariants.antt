use Rattle.std.proofs.Common.{◌≡◌, true, map, take}
use Rattle.std.specs.List.{list_all}
use Rattle.grammar_file.specs.Names.{is_known, symbol_of}
use Rattle.grammar_file.proofs.symbols.portions.Given as goal

abbrev pub invariant-loop-size : goal.invariant-loop-size
invariant-loop-size l = record {
  known : list_all (λ w. is_known l.names w.1.now) (take l.size-index l.sizes) ≡ true;
  symbols : l.portions.items ≡ map (λ w. (w.0, symbol_of l.names w.1.now)) (take l.size-index l.sizes);
}
