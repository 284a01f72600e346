use Rattle.std.proofs.Common.{rules, ◌≡◌, ◌∙◌, ◌+◌, ◌<◌, ◌≤◌, length, get_or, refl, subst, arith}
use Rattle.std.proofs.lemmas.List.{length-set}
use Rattle.std.specs.Prelude.{Some, slice_get}
use Rattle.std.proofs.lemmas.Option.{slice_get_read}
use Rattle.grammar_plan.proofs.SymbolSpans.{spans-next}
use Rattle.grammar_plan.proofs.spans.Spans.of.Goals as goal

pub loop-number-preserved : goal.loop-number-preserved
loop-number-preserved c =
    let g = c.args.grammar.now in
    let n = c.loop-number.number in
    let x = c.index.result.now in
    let own : c.grammar.inside.rules.items ≡ g.rules = search rules in
    let within : n < length g.rules = search rules in
    let at : slice_get g.rules n ≡ Some x = slice_get_read g.rules (length g.rules) n x refl within (subst (λ l. x ≡ get_or l n x) own c.index.ensures) in
    let small : x.lhs < 256 = search rules in
    let first_long = c.loop-number.invariant.first_long in
    let end_long = c.loop-number.invariant.end_long in
    let low : x.lhs < length c.loop-number.first = omega (arith, small, first_long) in
    let high : x.lhs < length c.loop-number.end = omega (arith, small, end_long) in
    let here : c.min.result ≤ n = search rules in
    let below : c.min.result ≤ get_or c.loop-number.first x.lhs 0 = search rules in
    record {
      first_long = length-set c.loop-number.first x.lhs c.min.result ∙ first_long;
      end_long = length-set c.loop-number.end x.lhs (n + 1) ∙ end_long;
      spans = spans-next g.rules n c.min.result x c.loop-number.first c.loop-number.end at low high here below c.loop-number.invariant.spans;
    }
