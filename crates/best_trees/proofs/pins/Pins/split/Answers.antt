use Rattle.std.proofs.Common.{rules, ◌≡◌, ◌∙◌, ◌≤◌, ◌<◌, [], length, get_or, ap, subst, sym}
use Rattle.std.specs.Prelude.{Some}
use Rattle.rhythm_base.specs.Shape.{end, part}
use Rattle.tree_laws.specs.Forests.{first_shape, one_shape, other_shapes}
use Rattle.best_trees.proofs.Outlines.{outline_is, outline_none}
use Rattle.best_trees.specs.Pins.{demanded, outline_at, outline_before, outlines}
use Rattle.best_trees.proofs.pins.Pins.split.Goals as goal

pub returns-then-number-len : goal.returns-then-number-len
returns-then-number-len c =
    let xs = c.self.inside.parts.items in
    let high : length xs ≤ c.in-Shapes.number = search rules in
    ap (demanded c.args.self.now) c.in-Shapes.is ∙ ap Some (subst (λ os. outline_at os (Some c.in-Shapes.number) ≡ end) c.self.view_is (outline_none xs c.in-Shapes.number high))

pub returns-else-number-len : goal.returns-else-number-len
returns-else-number-len c =
    let xs = c.self.inside.parts.items in
    let os = c.args.self.now in
    let n = c.in-Shapes.number in
    let low : n < length xs = search rules in
    let at : get_or xs n c.index-part.result.now ≡ c.index-part.result.now = search rules in
    let x = c.index-part.result.now in
    let is : outline_at os (Some n) ≡ part (outline_before os n x.parts) (outline_before os n x.others) =
    subst (λ os. outline_at os (Some n) ≡ part (outline_before os n x.parts) (outline_before os n x.others)) c.self.view_is
    (outline_is xs n x low ∙ ap (λ y. part (outline_before (outlines [] xs) n y.parts) (outline_before (outlines [] xs) n y.others)) at) in
    let whole : demanded os c.args.demand ≡ Some (part (outline_before os n x.parts) (outline_before os n x.others)) = ap (demanded os) c.in-Shapes.is ∙ ap Some is in
    let one : demanded os c.demand_of.result ≡ Some (outline_before os n x.parts) = c.demand_of.ensures os ∙ ap Some (c.earlier-first.ensures os) in
    let two : demanded os c.demand_of-in-Shapes.result ≡ Some (outline_before os n x.others) = c.demand_of-in-Shapes.ensures os ∙ ap Some (c.earlier-others.ensures os) in
    (ap first_shape whole ∙ ap one_shape (sym one), ap other_shapes whole ∙ sym two)
