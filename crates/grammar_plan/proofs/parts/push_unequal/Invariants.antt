use Rattle.std.proofs.Common.{◌≡◌, ◌*◌, map, take}
use Rattle.grammar_plan.specs.Drafts.{ArePushed}
use Rattle.grammar_plan.proofs.parts.push_unequal.Given as goal

abbrev pub invariant-portions : goal.invariant-portions
invariant-portions l = record {
  pushed : ArePushed l.fn.draft.pairs.found.items l.draft.pairs.found.items l.fn.draft.parts.items l.draft.parts.items (map (λ q. (q.0 * l.share, q.1)) (take l.portion-index l.portions));
  cuts : l.draft.cuts ≡ l.fn.draft.cuts;
}
