use Rattle.std.proofs.Common.{ℕ, ◌+◌, List, ap, ◌∙◌, arith, sym, get_or}
use Rattle.std.specs.List.{sum_by, zip}
use Rattle.std.proofs.Math.Nat.{le_of_eq, le_trans}
use Rattle.rhythm_base.specs.declared.rule.Rule.{Rule}
use Rattle.weight_learning.specs.Weights.{CountedRule, counted_of, rule_parts, parts_of}
use Rattle.weight_learning.proofs.CountedRules.{all_of_them, sum_with, sum_without}
use Rattle.weight_learning.proofs.WeightLemmas.{share_read}
use Rattle.weight_learning.proofs.weights.part_sum.Goals as goal
use Rattle.weight_learning.proofs.weights.part_sum.Goals.{then-rule-symbol, else-rule-symbol}

pub parts-sum-requires : goal.parts-sum-requires
parts-sum-requires c = record {
  some = omega (arith, c.share_sum-whole.ensures);
  part = le_trans (le_of_eq c.share_of.ensures.value)
      (le_trans (share_read c.args.bit c.args.symbol c.args.rules.now c.rules.number c.index-rules-number.result c.rules-test.true (sym c.index-rules-number.is) c.if-rule-symbol.true)
      (le_of_eq (sym c.share_sum-whole.ensures)));
  few = c.share_of.ensures.few;
}

pub rules-preserved : goal.rules-preserved
rules-preserved c =
    let rules : List Rule = c.args.rules.now in
    let counts : List ℕ = c.args.counts.now in
    let i : ℕ = c.rules.number in
    let r : Rule = c.index-rules-number.result in
    let f : CountedRule → ℕ = parts_of c.args.bit c.share_sum-whole.result in
    elim c.if-rule-symbol.branch [
      | then-rule-symbol w ↦ record {
        sum = w.sum-is ∙ ap (λ n. c.rules.sum + n) (w.parts-sum.ensures.value ∙ ap (λ s. rule_parts (get_or counts i 0) s c.share_sum-whole.result) w.share_of.ensures.value)
            ∙ ap (λ n. n + f (r, get_or counts i 0)) c.rules.invariant.sum
            ∙ sym (sum_with rules counts c.requires.counts c.args.symbol i r c.rules-test.true (sym c.index-rules-number.is) f w.if-rule-symbol.true);
        few = omega (arith, w.sum-is, w.parts-sum.ensures.few, c.rules.invariant.few);
      }
      | else-rule-symbol w ↦ record {
        sum = w.sum-is ∙ c.rules.invariant.sum
            ∙ sym (sum_without rules counts c.requires.counts c.args.symbol i r c.rules-test.true (sym c.index-rules-number.is) f w.if-rule-symbol.false);
        few = omega (arith, w.sum-is, c.rules.invariant.few);
      }
    ]

pub returns-clause-value : goal.returns-clause-value
returns-clause-value c =
    let rules : List Rule = c.args.rules.now in
    let counts : List ℕ = c.args.counts.now in
    c.rules.invariant.sum
    ∙ ap (λ xs. sum_by (parts_of c.args.bit c.share_sum-whole.result) (counted_of c.args.symbol xs)) (all_of_them rules counts c.rules.number c.requires.counts c.rules-test.false)
    ∙ ap (λ whole. sum_by (parts_of c.args.bit whole) (counted_of c.args.symbol (zip rules counts))) c.share_sum-whole.ensures
