use Rattle.std.proofs.Common.{rules, ◌≡◌, ◌∙◌, ◌≤◌, None, ap, sym, subst}
use Rattle.std.specs.Prelude.{slice_index_or}
use Rattle.grammar_plan.specs.Plans.{HasLeafRule, place_of_leaf}
use Rattle.grammar_plan.proofs.Finishing.{row-read}
use Rattle.grammar_plan.proofs.plan.Plan.leaf.Goals as goal

pub returns : goal.returns
returns c =
    let leaves = c.args.self.now.leaves.items in
    let symbol = c.args.seat.now.symbol in
    let few : c.args.count ≤ 4 = search rules in
    let row = row-read leaves symbol c.index.result.now c.requires.seat c.index.ensures in
    let place : c.place_of_leaf.result ≡ place_of_leaf c.args.count c.args.sounds = c.place_of_leaf.ensures.place ∙ ap (λ n. place_of_leaf n c.args.sounds) c.in_ok-count.ensures.is in
    subst (HasLeafRule c.args.grammar.now symbol c.args.count c.args.sounds) (sym (λ i. slice_index_or (row i) (place i) None))
    (c.requires.plan.leaves symbol c.args.count c.args.sounds c.requires.seat few)
