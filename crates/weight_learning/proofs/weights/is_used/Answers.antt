use Rattle.std.proofs.Common.{◌==◌, ◌&&◌, ap, ◌∙◌, inl, inr, nat_lt, sym}
use Rattle.std.specs.List.{list_any}
use Rattle.weight_learning.specs.Weights.{CountedRule}
use Rattle.weight_learning.proofs.CountedRules.{all_of_them, unused_with, used_here}
use Rattle.weight_learning.proofs.weights.is_used.Goals as goal
use Rattle.weight_learning.proofs.weights.is_used.Goals.{else-rule-symbol-via-then-rule-symbol+else-counts-number-gt0, else-rule-symbol-via-else-rule-symbol}

pub returns-then-counts-number-gt0 : goal.returns-then-counts-number-gt0
returns-then-counts-number-gt0 c =
    sym (used_here c.args.rules.now c.args.counts.now c.requires c.args.symbol c.rules.number c.index-rules-number.result c.rules-test.true (sym c.index-rules-number.is) c.if-rule-symbol.true c.if-counts-number-gt0.true)

pub rules-preserved : goal.rules-preserved
rules-preserved c =
    elim c.else-rule-symbol.branch [
      | else-rule-symbol-via-then-rule-symbol+else-counts-number-gt0 w ↦
          unused_with c.args.rules.now c.args.counts.now c.requires c.args.symbol c.rules.number c.index-rules-number.result c.rules-test.true (sym c.index-rules-number.is) (inr w.if-counts-number-gt0.false) c.rules.invariant
      | else-rule-symbol-via-else-rule-symbol w ↦
          unused_with c.args.rules.now c.args.counts.now c.requires c.args.symbol c.rules.number c.index-rules-number.result c.rules-test.true (sym c.index-rules-number.is) (inl w.if-rule-symbol.false) c.rules.invariant
    ]

pub returns : goal.returns
returns c =
    sym (sym (ap (list_any (λ (q : CountedRule). (q.0.lhs == c.args.symbol) && nat_lt 0 q.1)) (all_of_them c.args.rules.now c.args.counts.now c.rules.number c.requires c.rules-test.false))
    ∙ c.rules.invariant)
