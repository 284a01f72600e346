use Rattle.std.proofs.Common.{rules, ◌≡◌, ◌∙◌, ℕ, length, ap, sym, subst, ◌+◌, ◌<◌, arith}
use Rattle.rhythm_base.specs.Trees.{suits}
use Rattle.best_trees.specs.Suited.{AreSuiting}
use Rattle.best_trees.proofs.Parts.{rule_here}
use Rattle.best_trees.proofs.SuitedRules.{suiting-push, suiting-skip}
use Rattle.best_trees.proofs.suited.suiting.Goals.{then-suits+in_ok-push, else-suits}
use Rattle.best_trees.proofs.suited.suiting.Goals as goal

pub rules-preserved : goal.rules-preserved
rules-preserved c =
    let g = c.args.grammar.now in
    let q : ℕ × ℕ = (c.args.width, c.args.symbol) in
    let n = c.rules.number in
    let own : c.grammar.inside.rules.items ≡ g.rules = search rules in
    let low : n < length g.rules = search rules in
    let at = rule_here g.rules c.grammar.inside.rules.items n c.index.result.now own low c.index.ensures in
    let is = ap (λ o. suits o q) at ∙ sym c.suits.ensures in
    elim c.if-suits.branch [
      | then-suits+in_ok-push w ↦
          subst (λ l. AreSuiting g.rules q l 0 (n + 1)) (sym (ap (λ v. v.items) w.numbers-is ∙ w.in_ok-push.ensures.items)) (suiting-push g.rules q n c.rules.numbers.items 0 (omega arith) (is ∙ w.if-suits.true) c.rules.invariant)
      | else-suits w ↦ subst (λ l. AreSuiting g.rules q l 0 (n + 1)) (sym (ap (λ v. v.items) w.numbers-is)) (suiting-skip g.rules q n c.rules.numbers.items 0 (is ∙ w.if-suits.false) c.rules.invariant)
    ]
