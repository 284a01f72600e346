use Rattle.std.proofs.Common.{◌≡◌, true, map, take}
use Rattle.std.specs.List.{list_all}
use Rattle.grammar_file.specs.Names.{is_known, symbol_of}
use Rattle.grammar_file.proofs.symbols.kids.Given as goal

abbrev pub invariant-loop-word : goal.invariant-loop-word
invariant-loop-word l = record {
  known : list_all (λ w. is_known l.names w.now) (take l.word-index l.words) ≡ true;
  symbols : l.kids.items ≡ map (λ w. symbol_of l.names w.now) (take l.word-index l.words);
}
