use Rattle.std.proofs.Common.{rules, ◌≡◌, ◌<◌, length, refl, sym, ap, ◌∙◌, ◌+◌, subst, arith}
use Rattle.std.specs.Prelude.{Some, None}
use Rattle.std.proofs.lemmas.Grind.{get_or-set_at}
use Rattle.std.proofs.lemmas.List.{get_or-set_other}
use Rattle.least_rows.specs.declared.choice.Choice.{Choice}
use Rattle.row_laws.specs.LeafRules.{HasNoLeafRule, IsFirstLeafRule}
use Rattle.least_rows.proofs.LeafChoices.{no-leaf-choices, one-leaf-choices}
use Rattle.least_rows.proofs.leaf_choices.offer_one.Goals as goal

pub returns-in-None : goal.returns-in-None
returns-in-None c = λ place wide within here.
    let few_in : c.args.from < 5 = omega (arith, c.count.ensures.is, c.count.ensures.within) in
    let rule = subst (λ n. HasNoLeafRule c.args.search.now.grammar.now c.args.seat.now.symbol (n + c.args.leaf.own) c.args.leaf.sounds) c.count.ensures.is c.in-None.ensures in
    no-leaf-choices c.args.search.now.grammar.now c.args.search.now.input.now c.args.search.now.plan.now c.requires.search.ready place c.args.seat.now.width c.args.seat.now.symbol c.args.from wide within few_in
    c.args.best.now c.args.leaf.own c.args.leaf.next c.args.leaf.charges c.args.leaf.sounds here.0 rule (λ b lb. sym (c.requires.none b lb))

pub returns-in-Some : goal.returns-in-Some
returns-in-Some c = λ place wide within here.
    let few_in : c.args.from < 5 = omega (arith, c.count.ensures.is, c.count.ensures.within) in
    let rule = subst (λ n. IsFirstLeafRule c.args.search.now.grammar.now c.args.seat.now.symbol (n + c.args.leaf.own) c.args.leaf.sounds c.in-Some.rule.rule c.in-Some.rule.weight) c.count.ensures.is c.in-Some.ensures in
    let few = c.requires.leaf.1 in
    let long : length c.args.best.now ≡ 5 = search rules in
    let low : c.args.leaf.next < length c.args.best.now = omega (arith, few, long) in
    one-leaf-choices c.args.search.now.grammar.now c.args.search.now.input.now c.args.search.now.plan.now c.requires.search.ready place c.args.seat.now.width c.args.seat.now.symbol c.args.from wide within few_in
    _ c.args.leaf.own c.args.leaf.next c.args.leaf.charges c.args.leaf.sounds here.0 c.in-Some.rule.rule c.in-Some.rule.weight rule
    (get_or-set_at c.args.best.now c.args.leaf.next c.args.leaf.next (Some c.leaf_choice.result) None refl low ∙ ap (λ (x : Choice). Some x) c.leaf_choice.ensures)
    (λ b lb other. get_or-set_other c.args.best.now c.args.leaf.next b (Some c.leaf_choice.result) None other ∙ c.requires.none b lb)
