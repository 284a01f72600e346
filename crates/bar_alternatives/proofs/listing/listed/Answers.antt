use Rattle.std.proofs.Common.{All, sym, subst}
use Rattle.rhythm_base.specs.Ranked.{Key}
use Rattle.rhythm_base.specs.RuleTrees.{IsRuleList, IsTold}
use Rattle.bar_alternatives.proofs.Listed.{listed-next}
use Rattle.bar_alternatives.proofs.listing.listed.Goals as goal

pub from_rules-requires : goal.from_rules-requires
from_rules-requires c =
    let g = c.args.grammar.now in
    let key : Key = c.entry-item.result in
    let P : Key → Type 0 = λ key. IsRuleList g c.args.start key.1 in
    let all : All P c.entries-entry-items.result.now = subst (All P) (sym c.entries-entry-items.ensures) c.requires in
    let own : P key = subst P (sym c.entry-item.is) (all c.entries.entry-index key c.entries-test.true) in
    subst (IsRuleList g c.args.start) (sym c.rules.ensures) own

pub entries-preserved : goal.entries-preserved
entries-preserved c =
    let g = c.args.grammar.now in
    let key : Key = c.entry-item.result in
    listed-next g c.args.start c.entries-entry-items.result.now c.entries.entry-index key c.entries.list.items c.push.new.self.items (c.cost.result, c.in_ok-tree.tree) c.entries-test.true c.entry-item.is
    c.entries.invariant c.in_ok-push.ensures.items (c.cost.ensures, subst (λ l. IsTold g c.args.start l c.in_ok-tree.tree) c.rules.ensures c.in_ok-tree.ensures)
