use Rattle.std.proofs.Common.{◌≡◌, ap, sym, ◌∙◌, arith, length, drop, map, []}
use Rattle.std.proofs.Math.ListN.{drop_of_length-le}
use Rattle.std.proofs.lemmas.List.{get_or-map, length-drop, length-map, take_rest}
use Rattle.derivation.proofs.BarsRead.{bar_within, list_read, lists_read, near_later}
use Rattle.derivation.proofs.bars.timed_leaves.Goals as goal

pub push_tree-requires-clause-bar : goal.push_tree-requires-clause-bar
push_tree-requires-clause-bar c =
    let near = c.lists.invariant.near in
    let within = bar_within c.args.grammar.now c.args.last c.lists.number c.lists.later.now _ (record { start = 0; num = 0; den = 0 }) c.in-len1-up.len_at_least (take_rest c.lists.later.now 1) near.0 near.1 near.2 in
    record {
      start = omega (arith, within.0, within.1, c.requires.last);
      length = omega (arith, within.0, within.1, c.requires.last, c.first_barline.ensures);
    }

pub lists-preserved : goal.lists-preserved
lists-preserved c =
    let near = c.lists.invariant.near in
    let one_less = ap length (take_rest c.lists.later.now 1) ∙ length-drop 1 c.lists.later.now in
    record {
      found = λ trees are have. list_read c.args.grammar.now c.args.last c.lists.number c.lists.later.now _ (record { start = 0; num = 0; den = 0 }) c.in-len1-up.len_at_least (take_rest c.lists.later.now 1) _ (map (λ l. l.now) c.args.lists.now) c.lists.list-index _ _ _ _ _ _ _ _
          (c.as_slice.ensures.value ∙ ap (λ g. g.rules) c.grammar.view_is) c.requires.units c.count-units.ensures.is c.first_barline.ensures (omega (arith, c.lists-test.true, length-map c.args.lists.now (λ l. l.now)))
          (sym (get_or-map (λ l. l.now) c.args.lists.now c.lists.list-index _ _ c.lists-test.true)) c.in_ok-push_tree.ensures.read (c.lists.invariant.found trees are have);
      count = omega (arith, one_less, c.in-len1-up.len_at_least, c.lists.invariant.count);
      near = near_later c.args.grammar.now c.args.last c.lists.number c.lists.later.now _ (record { start = 0; num = 0; den = 0 }) c.in-len1-up.len_at_least (take_rest c.lists.later.now 1) near.0 near.1 near.2;
    }

pub returns : goal.returns
returns c = λ trees are have.
    let lists = map (λ l. l.now) c.args.lists.now in
    let over : drop c.lists.list-index lists ≡ [] = drop_of_length-le lists (omega (arith, c.lists-test.false, length-map c.args.lists.now (λ l. l.now))) in
    lists_read c.args.grammar.now _ lists c.lists.list-index c.lists.number _ c.lists.leaves.items over (c.lists.invariant.found trees are have)
