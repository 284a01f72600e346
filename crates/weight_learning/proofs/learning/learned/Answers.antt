use Rattle.std.proofs.Common.{◌≡◌, List, ℕ, ◌∙◌, ap, arith, subst, sym}
use Rattle.std.proofs.lemmas.Result.{IfOk-weaker}
use Rattle.rhythm_base.specs.Grammar.{Grammar}
use Rattle.rhythm_base.specs.Readable.{IsReadable}
use Rattle.rhythm_base.specs.declared.rule.Rule.{Rule}
use Rattle.weight_learning.specs.Learned.{CanLearn, learned, learned_rules}
use Rattle.weight_learning.proofs.OnlyWeights.{only_weights}
use Rattle.weight_learning.proofs.learning.learned.Goals as goal

pub returns-clause-readable : goal.returns-clause-readable
unfolding learned
returns-clause-readable c =
    let g : Grammar = c.args.grammar.now in
    let counts : List ℕ = c.args.counts.now in
    let bit : ℕ = c.args.bit in
    let with : List Rule → Grammar = λ rules. record g { rules = rules } in
    let were : c.deref.result.now ≡ g.rules = c.deref.ensures.value ∙ ap (λ (h : Grammar). h.rules) c.grammar.view_is in
    let are : c.in_ok-rules.rules.items ≡ learned_rules bit g.rules counts =
    c.in_ok-rules.ensures ∙ ap (λ rules. learned_rules bit rules c.as_slice.result.now) were ∙ ap (learned_rules bit g.rules) c.as_slice.ensures.value in
    let can : CanLearn g counts bit = record {
      few_rules = c.requires.readable.few_rules;
      of_each = c.requires.counts;
      capped = c.as_slice.ensures.capped;
      some_bit = omega (arith, c.weight-weight.ensures.is, c.weight-weight.ensures.some);
      bit_range = omega (arith, c.weight-weight.ensures.is, c.weight-weight.ensures.few);
    } in
    let readable : IsReadable (learned g counts bit) = only_weights.readable g counts bit can c.requires.readable in
    IfOk-weaker c.with_rules.result (λ h. h ≡ with c.in_ok-rules.rules.items) IsReadable
    (λ h is. subst IsReadable (sym (is ∙ ap with are)) readable) c.with_rules.ensures
