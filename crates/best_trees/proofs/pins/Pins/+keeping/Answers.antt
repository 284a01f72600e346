use Rattle.std.proofs.Common.{◌≡◌, ◌-◌, ◌∙◌, ap, arith, get_or, length, subst}
use Rattle.std.proofs.lemmas.List.{at_drop_all}
use Rattle.rhythm_base.specs.Shape.{Shape, cuts, shape_of_parts}
use Rattle.best_trees.specs.Pins.{HasOutline}
use Rattle.best_trees.proofs.Outlines.{Grows-same, Grows-then, kept_from, shape-falls}
use Rattle.best_trees.proofs.pins.Pins.+keeping.Goals as goal

pub shapes-init : goal.shapes-init
shapes-init t c = record {
  grown = Grows-same c.args.self.now;
  outline = at_drop_all shape_of_parts c.args.shapes.now (length c.args.shapes.now) (omega arith);
}

pub shapes-preserved : goal.shapes-preserved
shapes-preserved t c =
    let x : Shape = c.index-shapes-place.result in
    let own : shape_of_parts c.parts.result.now ≡ get_or c.args.shapes.now (c.shapes.place - 1) x = c.parts.ensures ∙ c.index-shapes-place.is in
    let below = c.in_ok-parts.ensures.more in
    record {
      grown = Grows-then c.args.self.now c.keep_all.new.self c.keep.new.self
          (Grows-then c.args.self.now c.shapes.self c.keep_all.new.self c.shapes.invariant.grown below) c.in_ok-keep.ensures.more;
      outline = kept_from c.shapes.self c.keep_all.new.self c.keep.new.self c.args.shapes.now c.shapes.place x c.in_ok-parts.parts c.shapes.number
          c.in_ok-keep.field-0 c.shapes-test.true c.shapes.auto.place below
          (subst (HasOutline c.keep_all.new.self c.in_ok-parts.parts) own c.in_ok-parts.ensures.outline)
          c.in_ok-keep.ensures.outline c.shapes.invariant.outline;
    }

pub keep_all-requires : goal.keep_all-requires
keep_all-requires t c =
    let x : Shape = c.index-shapes-place.result in
    let own : shape_of_parts c.parts.result.now ≡ get_or c.args.shapes.now (c.shapes.place - 1) x = c.parts.ensures ∙ c.index-shapes-place.is in
    let same : cuts (shape_of_parts c.parts.result.now) ≡ cuts (get_or c.args.shapes.now (c.shapes.place - 1) x) = ap cuts own in
    let fewer = shape-falls c.args.shapes.now (c.shapes.place - 1) x (omega (arith, c.shapes-test.true, c.shapes.auto.place)) in
    (omega (arith, fewer, same, c.decreases), tt)
