use Rattle.std.proofs.Common.{◌≡◌, ◌≤◌, ◌∙◌, ap, subst, sym}
use Rattle.rhythm_base.specs.Forest.{Tree, forest_of}
use Rattle.rhythm_base.specs.Shapes.{parts_in}
use Rattle.rhythm_base.specs.Trees.{shape_of}
use Rattle.rhythm_base.proofs.RuleTrees.{few-parts, shape-whole}
use Rattle.rhythm_base.proofs.tree.Tree.+shape.Goals as goal

pub cut-requires-clause-high : goal.cut-requires-clause-high
cut-requires-clause-high t c =
    let whole = shape-whole c.deref-kid-items.result.now c.loop-kid.parts.items c.loop-kid.kid-index c.loop-kid-test.false c.loop-kid.invariant.done in
    let kids : forest_of c.deref-kid-items.result.now ≡ c.args.self.now.kids = ap forest_of c.deref-kid-items.ensures.value ∙ ap (λ (t : Tree). t.kids) c.self.view_is in
    subst (λ n. n ≤ 16) (sym (whole.1 ∙ ap (λ f. parts_in (shape_of f)) kids)) (few-parts (parts_in (shape_of c.args.self.now.kids)) c.requires.top)

pub returns : goal.returns
returns t c =
    let whole = shape-whole c.deref-kid-items.result.now c.loop-kid.parts.items c.loop-kid.kid-index c.loop-kid-test.false c.loop-kid.invariant.done in
    let kids : forest_of c.deref-kid-items.result.now ≡ c.args.self.now.kids = ap forest_of c.deref-kid-items.ensures.value ∙ ap (λ (t : Tree). t.kids) c.self.view_is in
    c.cut.ensures ∙ whole.0 ∙ ap shape_of kids
