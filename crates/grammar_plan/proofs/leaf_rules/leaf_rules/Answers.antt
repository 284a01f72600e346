use Rattle.std.proofs.Common.{rules, ◌≡◌, ◌∙◌, ◌+◌, ◌<◌, length, get_or, refl, sym, ap, subst}
use Rattle.std.specs.Prelude.{Some, None, slice_get, slice_set}
use Rattle.std.proofs.lemmas.List.{length-set}
use Rattle.std.proofs.lemmas.Option.{slice_get_read}
use Rattle.grammar_plan.specs.LeafTables.{AreFirstBelow, lighter_of, place_in}
use Rattle.grammar_plan.proofs.LeafTables.{firsts-other, firsts-own, place_in-low}
use Rattle.grammar_plan.specs.declared.leaf_rule.LeafRule.{LeafRule}
use Rattle.grammar_plan.proofs.leaf_rules.leaf_rules.Goals as goal
use Rattle.grammar_plan.proofs.leaf_rules.leaf_rules.Goals.{in-Some, in_default}

pub rules-preserved : goal.rules-preserved
rules-preserved c =
    let g = c.args.grammar.now in
    let n = c.rules.number in
    let x = c.index-rule.result.now in
    let own : c.grammar.inside.rules.items ≡ g.rules = search rules in
    let within : n < length g.rules = search rules in
    let at : slice_get g.rules n ≡ Some x = slice_get_read g.rules (length g.rules) n x refl within (subst (λ l. x ≡ get_or l n x) own c.index-rule.ensures) in
    let long = c.rules.invariant.long in
    let first = c.rules.invariant.first in
    let is = c.place_in.ensures in
    elim c.match-place_in.branch [
      | in-Some w ↦
          let l : LeafRule = record { rule = n; weight = x.weight } in
          let place = w.in-Some.place in
          let here : place_in x c.args.symbol ≡ Some place = sym is ∙ w.in-Some.is in
          let low = place_in-low x c.args.symbol place here in
          let set : c.match-place_in.row ≡ slice_set c.rules.row place (Some (lighter_of (get_or c.rules.row place None) l)) = w.row-is ∙ ap (λ y. slice_set c.rules.row place (Some y)) w.lighter.ensures in
          record {
            long = ap length set ∙ length-set c.rules.row place (Some (lighter_of (get_or c.rules.row place None) l)) ∙ long;
            first = subst (AreFirstBelow g c.args.symbol (n + 1)) (sym set) (firsts-own g c.args.symbol n x at c.rules.row place l long low refl refl here first);
          }
      | in_default w ↦ record {
        long = ap length w.row-is ∙ long;
        first = subst (AreFirstBelow g c.args.symbol (n + 1)) (sym w.row-is) (firsts-other g c.args.symbol n x at c.rules.row (search rules) first);
      }
    ]
