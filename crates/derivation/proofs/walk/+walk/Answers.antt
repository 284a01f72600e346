use Rattle.std.proofs.Common.{rules, sym, ◌∙◌, arith, ◌≡◌, ◌<◌, ◌-◌, ℕ, List, drop, get_or, length, take, Some}
use Rattle.std.specs.Prelude.{slice_get}
use Rattle.std.proofs.lemmas.Result.{IfOk-weaker}
use Rattle.rhythm_base.proofs.ShapeTexts.{first_and_rest}
use Rattle.rhythm_base.specs.Bodies.{children}
use Rattle.derivation.proofs.ListWalk.{all_left, one_read, part_and_rest, parts_within, read-cut}
use Rattle.derivation.proofs.walk.+walk.Goals as goal

pub push_tree-returns-clause-read : goal.push_tree-returns-clause-read
push_tree-returns-clause-read t c =
    let list : List ℕ = c.args.list.now in
    let found : slice_get c.args.rules.now (get_or list 0 0) ≡ Some c.in-Some.rule.now = search rules in
    IfOk-weaker c.push_parts.result _ _ (λ rest read. λ symbol. read-cut c.args.rules.now c.args.bar.now c.args.place c.args.width symbol list (get_or list 0 0) (take (length list - 1) (drop 1 list))
    (first_and_rest 0 list c.in-len1-up.len_at_least) c.in-Some.rule.now found rest.now c.args.leaves.now.items c.push_parts.new.leaves.items (sym c.ending.ensures ∙ c.in_default-ending.is) read) c.push_parts.ensures.read

pub push_parts-parts-init : goal.push_parts-parts-init
push_parts-parts-init t c = record {
  left = all_left c.args.rules.now c.args.bar.now c.args.place (children c.args.body.now c.args.width) c.args.list.now c.args.leaves.now.items;
  within = omega (arith, parts_within c.args.body.now c.args.width);
  shorter = omega arith;
}

pub push_parts-push_tree-requires : goal.push_parts-push_tree-requires
push_parts-push_tree-requires t c =
    let within : c.parts.number < length (children c.args.body.now c.args.width) = omega (arith, c.parts-test.true, c.part_count-number-end.ensures c.args.width) in
    let rest = part_and_rest (children c.args.body.now c.args.width) c.parts.number (0, 0) within in
    (omega (arith, c.parts.invariant.shorter, c.decreases), (c.requires.bar, omega (arith, c.requires.within, c.parts.invariant.within, rest, c.part_width-part.ensures (0, 0))))

pub push_parts-overflow_add-place : goal.push_parts-overflow_add-place
push_parts-overflow_add-place t c =
    let within : c.parts.number < length (children c.args.body.now c.args.width) = omega (arith, c.parts-test.true, c.part_count-number-end.ensures c.args.width) in
    let rest = part_and_rest (children c.args.body.now c.args.width) c.parts.number (0, 0) within in
    omega (arith, c.requires.within, c.parts.invariant.within, rest, c.part_width-part.ensures (0, 0))

pub push_parts-parts-preserved : goal.push_parts-parts-preserved
push_parts-parts-preserved t c =
    let within : c.parts.number < length (children c.args.body.now c.args.width) = omega (arith, c.parts-test.true, c.part_count-number-end.ensures c.args.width) in
    let rest = part_and_rest (children c.args.body.now c.args.width) c.parts.number (0, 0) within in
    record {
      left = one_read c.args.rules.now c.args.bar.now c.args.place (children c.args.body.now c.args.width) c.args.list.now c.args.leaves.now.items c.parts.number c.parts.place c.parts.rest.now c.parts.leaves.items
          c.parts.invariant.left (0, 0) c.part_width-part.result c.in_ok-rest.rest.now c.push_tree.new.leaves.items within (c.part_width-part.ensures (0, 0)) c.in_ok-rest.ensures.read;
      within = omega (arith, c.parts.invariant.within, rest, c.part_width-part.ensures (0, 0));
      shorter = omega (arith, c.parts.invariant.shorter, c.in_ok-rest.ensures.shorter);
    }
