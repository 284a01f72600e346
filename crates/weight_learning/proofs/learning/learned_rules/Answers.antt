use Rattle.std.proofs.Common.{ℕ, ◌∷◌, ◌++◌, [], List, ap, ap₂, ◌∙◌, get_or, map, sym}
use Rattle.rhythm_base.specs.declared.rule.Rule.{Rule}
use Rattle.weight_learning.specs.Learned.{learned_rule}
use Rattle.weight_learning.proofs.CountedRules.{all_of_them, counted_found, map_with}
use Rattle.weight_learning.proofs.learning.learned_rules.Goals as goal

pub rules-preserved : goal.rules-preserved
rules-preserved c =
    let rules : List Rule = c.args.rules.now in
    let counts : List ℕ = c.args.counts.now in
    let i : ℕ = c.rules.number in
    let r : Rule = c.index-rules-number.result in
    let with : ℕ → Rule = λ w. record r { weight = w } in
    let weight = c.learned_weight-weight.ensures (r, get_or counts i 0) (counted_found rules counts c.requires.counts i r c.rules-test.true (sym c.index-rules-number.is)) in
    c.in_ok-push.ensures.items ∙ ap₂ (λ xs x. xs ++ x ∷ []) c.rules.invariant (c.in_ok-with_weight.ensures ∙ ap with weight)
    ∙ sym (map_with rules counts c.requires.counts r.lhs i r c.rules-test.true (sym c.index-rules-number.is) (learned_rule c.args.bit rules counts))

pub returns : goal.returns
returns c =
    c.rules.invariant
    ∙ ap (map (learned_rule c.args.bit c.args.rules.now c.args.counts.now)) (all_of_them c.args.rules.now c.args.counts.now c.rules.number c.requires.counts c.rules-test.false)
