use Rattle.std.proofs.Common.{◌≡◌, map, take}
use Rattle.grammar_plan.specs.Drafts.{ArePushed}
use Rattle.grammar_plan.proofs.parts.push_equal.Given as goal

abbrev pub invariant-symbols : goal.invariant-symbols
invariant-symbols l = record {
  pushed : ArePushed l.fn.draft.pairs.found.items l.draft.pairs.found.items l.fn.draft.parts.items l.draft.parts.items (map (λ s. (l.share, s)) (take l.symbol-index l.symbols));
  cuts : l.draft.cuts ≡ l.fn.draft.cuts;
}
