use Rattle.std.proofs.Common.{◌≡◌, ℕ, ◌-◌, ◌*◌, ◌/◌, ◌≤◌, ◌<◌, List, length, ap, ◌∙◌, arith, get_or, refl, sym}
use Rattle.std.proofs.Math.Nat.{le_of_eq, le_trans}
use Rattle.rhythm_base.specs.declared.rule.Rule.{Rule}
use Rattle.weight_learning.specs.Steps.{steps}
use Rattle.weight_learning.specs.Weights.{CountedRule, learned_weight, part_sum, rule_parts, parts_of, share_of, share_sum}
use Rattle.weight_learning.proofs.CountedRules.{at_found, sum_has}
use Rattle.weight_learning.proofs.LearnedWeights.{among_unused, among_used}
use Rattle.weight_learning.proofs.Logarithms.{steps_rise}
use Rattle.weight_learning.proofs.WeightLemmas.{own_parts, share_read}
use Rattle.weight_learning.proofs.weights.learned_weight.Goals as goal

pub returns-then-not-is_used : goal.returns-then-not-is_used
returns-then-not-is_used c = λ q found.
    let rules : List Rule = c.args.rules.now in
    let counts : List ℕ = c.args.counts.now in
    let r : Rule = c.index-rules-number.result in
    at_found rules counts c.requires.counts r.lhs c.args.number r c.requires.there (sym c.index-rules-number.is)
    (λ (p : CountedRule). r.weight ≡ learned_weight c.args.bit rules counts p) q found
    (sym (among_unused c.args.bit rules counts r.lhs (r, get_or counts c.args.number 0) (sym c.is_used.ensures ∙ c.if-not-is_used.true)))

pub parts-own-requires : goal.parts-own-requires
parts-own-requires c = record {
  some = omega (arith, c.share_sum-whole.ensures);
  part = le_trans (le_of_eq c.share_of.ensures.value)
      (le_trans (share_read c.args.bit c.index-rules-number.result.lhs c.args.rules.now c.args.number c.index-rules-number.result c.requires.there (sym c.index-rules-number.is) refl)
      (le_of_eq (sym c.share_sum-whole.ensures)));
  few = c.share_of.ensures.few;
}

-- the parts of the rule are within those of its symbol
own_within : (rules : List Rule) (counts : List ℕ) (bit i own all s w : ℕ) (r : Rule) → length counts ≡ length rules → i < length rules → get_or rules i r ≡ r
    → own ≡ rule_parts (get_or counts i 0) s w → s ≡ share_of bit r → w ≡ share_sum bit r.lhs rules → all ≡ part_sum bit r.lhs rules counts → own ≤ all
own_within rules counts bit i own all s w r each lt read own_is share_is whole_is all_is =
    le_trans (le_of_eq (own_parts own (get_or counts i 0) s w bit r.lhs rules r own_is share_is whole_is))
    (le_trans (sum_has rules counts each r.lhs i r lt read (parts_of bit (share_sum bit r.lhs rules)) refl) (le_of_eq (sym all_is)))

pub steps-requires-clause-some : goal.steps-requires-clause-some
steps-requires-clause-some c =
    le_trans c.parts-own.ensures.some
    (own_within c.args.rules.now c.args.counts.now c.args.bit c.args.number c.parts-own.result c.part_sum-all.result c.share_of.result c.share_sum-whole.result
    c.index-rules-number.result c.requires.counts c.requires.there (sym c.index-rules-number.is) c.parts-own.ensures.value c.share_of.ensures.value
    c.share_sum-whole.ensures c.part_sum-all.ensures.value)

pub overflow_sub-result : goal.overflow_sub-result
overflow_sub-result c =
    le_trans (le_of_eq c.steps-2.ensures.value)
    (le_trans
    (steps_rise c.parts-own.result c.part_sum-all.result c.parts-own.ensures.some
    (own_within c.args.rules.now c.args.counts.now c.args.bit c.args.number c.parts-own.result c.part_sum-all.result c.share_of.result c.share_sum-whole.result
    c.index-rules-number.result c.requires.counts c.requires.there (sym c.index-rules-number.is) c.parts-own.ensures.value c.share_of.ensures.value
    c.share_sum-whole.ensures c.part_sum-all.ensures.value)
    c.part_sum-all.ensures.few)
    (le_of_eq (sym c.steps.ensures.value)))

pub returns : goal.returns
returns c = λ q found.
    let rules : List Rule = c.args.rules.now in
    let counts : List ℕ = c.args.counts.now in
    let r : Rule = c.index-rules-number.result in
    let count : ℕ = get_or counts c.args.number 0 in
    let bit : ℕ = c.args.bit in
    let sum : ℕ = part_sum bit r.lhs rules counts in
    let own = own_parts c.parts-own.result count c.share_of.result c.share_sum-whole.result bit r.lhs rules r c.parts-own.ensures.value c.share_of.ensures.value c.share_sum-whole.ensures in
    at_found rules counts c.requires.counts r.lhs c.args.number r c.requires.there (sym c.index-rules-number.is)
    (λ (p : CountedRule). (c.weight.result * (c.steps.result - c.steps-2.result)) / 64 ≡ learned_weight bit rules counts p) q found
    (ap (λ n. n * (c.steps.result - c.steps-2.result) / 64) c.weight.ensures.is
    ∙ ap (λ n. bit * (n - c.steps-2.result) / 64) (c.steps.ensures.value ∙ ap steps c.part_sum-all.ensures.value)
    ∙ ap (λ n. bit * (steps sum - n) / 64) (c.steps-2.ensures.value ∙ ap steps own)
    ∙ sym (among_used bit rules counts r.lhs (r, count) (sym c.is_used.ensures ∙ c.if-not-is_used.false)))
