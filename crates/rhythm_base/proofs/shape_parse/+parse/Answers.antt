use Rattle.std.proofs.Common.{List, ◌+◌, ◌≤◌, ◌≡◌, ◌∷◌, ◌++◌, ℕ, ◌-◌, sym, ap, ◌∙◌, subst, arith}
use Rattle.std.proofs.lemmas.Result.{err_from_is_err_and}
use Rattle.rhythm_base.specs.Shape.{Shape, shape_of_parts}
use Rattle.rhythm_base.specs.ShapeReading.{IsPart, head_text}
use Rattle.rhythm_base.specs.ShapeText.{shape_text, texts_of_parts}
use Rattle.rhythm_base.proofs.PartsInTurn
use Rattle.rhythm_base.proofs.PartsInTurn.{AreLeft}
use Rattle.rhythm_base.proofs.ShapeStops
use Rattle.rhythm_base.proofs.ShapeParts
use Rattle.rhythm_base.proofs.shape_parse.+parse.Goals as goal

pub part-returns-in_err-count-clause-err : goal.part-returns-in_err-count-clause-err
part-returns-in_err-count-clause-err t c =
    let p = err_from_is_err_and c.from_residual.result c.from_residual.ensures.1 in
    ShapeStops.stopped c.from_residual.result _ p.0 p.1 p.2 c.in_err-count.ensures.err (ShapeParts.stops_in_head c.args.levels c.args.text.now)

pub part-returns-then-count-eq0-clause-ok : goal.part-returns-then-count-eq0-clause-ok
part-returns-then-count-eq0-clause-ok t c =
    let rest : List ℕ = c.in_ok-count.rest.now in
    subst (λ x. IsPart c.args.levels x × (c.args.text.now ≡ shape_text x ++ rest)) (sym c.leaf.ensures)
    (ShapeParts.leaf_is c.args.levels, c.in_ok-count.ensures.ok.1 ∙ ap (λ n. head_text n ++ rest) c.if-count-eq0.true ∙ ap (λ l. l ++ rest) (sym ShapeParts.leaf_text_is))

pub part-returns-in_err-rest-clause-err : goal.part-returns-in_err-rest-clause-err
part-returns-in_err-rest-clause-err t c =
    let p = err_from_is_err_and c.from_residual-in_err-rest.result c.from_residual-in_err-rest.ensures.1 in
    let head = c.in_ok-count.ensures.ok in
    ShapeStops.stopped c.from_residual-in_err-rest.result _ p.0 p.1 p.2 c.in_err-rest.ensures.err
    (λ left stop. ShapeParts.stops_in_parts c.args.levels c.in_ok-count.count c.in_ok-count.rest.now c.args.text.now left head.0.can
    (ShapeParts.not_none c.in_ok-count.count c.if-count-eq0.false) head.1 stop)

pub part-returns-in_err-rest-2-clause-err : goal.part-returns-in_err-rest-2-clause-err
part-returns-in_err-rest-2-clause-err t c =
    let p = err_from_is_err_and c.from_residual-in_err-rest-2.result c.from_residual-in_err-rest-2.ensures.1 in
    let head = c.in_ok-count.ensures.ok in
    let parts = c.in_ok-rest.ensures.ok in
    ShapeStops.stopped c.from_residual-in_err-rest-2.result _ p.0 p.1 p.2 c.in_err-rest-2.ensures.err
    (λ left stop. ShapeParts.stops_at_bracket c.args.levels c.in_ok-count.count (shape_of_parts parts.0) c.in_ok-rest.rest.now c.in_ok-count.rest.now c.args.text.now left
    head.0.can (ShapeParts.not_none c.in_ok-count.count c.if-count-eq0.false) head.1 parts.1 parts.3 stop)

pub part-cut-requires-clause-low : goal.part-cut-requires-clause-low
part-cut-requires-clause-low t c =
    let head = c.in_ok-count.ensures.ok in
    let parts = c.in_ok-rest.ensures.ok in
    let size = ShapeParts.size_of_parts c.new-parts.result.items parts.0 c.push_parts.new.parts.items c.new-parts.ensures.items parts.2 parts.1 in
    subst (λ k. 2 ≤ k) (sym size) (ShapeParts.cut_size c.in_ok-count.count head.0.can c.if-count-eq0.false).0

pub part-cut-requires-clause-high : goal.part-cut-requires-clause-high
part-cut-requires-clause-high t c =
    let head = c.in_ok-count.ensures.ok in
    let parts = c.in_ok-rest.ensures.ok in
    let size = ShapeParts.size_of_parts c.new-parts.result.items parts.0 c.push_parts.new.parts.items c.new-parts.ensures.items parts.2 parts.1 in
    subst (λ k. k ≤ 16) (sym size) (ShapeParts.cut_size c.in_ok-count.count head.0.can c.if-count-eq0.false).1

pub part-returns-clause-ok : goal.part-returns-clause-ok
part-returns-clause-ok t c =
    let head = c.in_ok-count.ensures.ok in
    let parts = c.in_ok-rest.ensures.ok in
    let all : c.push_parts.new.parts.items ≡ parts.0 = parts.2 ∙ ap (λ l. l ++ parts.0) c.new-parts.ensures.items in
    let bracket : c.in_ok-count.rest.now ≡ texts_of_parts (shape_of_parts parts.0) ++ 41 ∷ c.in_ok-rest-2.rest.now =
    parts.3 ∙ ap (λ l. texts_of_parts (shape_of_parts parts.0) ++ l) c.in_ok-rest-2.ensures.ok in
    subst (λ x. IsPart c.args.levels x × (c.args.text.now ≡ shape_text x ++ c.in_ok-rest-2.rest.now)) (sym (c.cut.ensures ∙ ap shape_of_parts all))
    (ShapeParts.cut_is c.args.levels c.in_ok-count.count (shape_of_parts parts.0) c.in_ok-rest-2.rest.now c.in_ok-count.rest.now c.args.text.now head.0.can
    (ShapeParts.not_none c.in_ok-count.count c.if-count-eq0.false) head.1 parts.1 bracket)

pub push_parts-others-init : goal.push_parts-others-init
push_parts-others-init t c =
    let parts : List Shape = c.args.parts.now.items in
    subst (λ n. AreLeft c.args.levels c.args.count n c.args.text.now c.args.text.now parts parts) (omega arith)
    (PartsInTurn.all_left c.args.levels c.args.count c.args.text.now parts c.requires.some)

pub push_parts-others-preserved : goal.push_parts-others-preserved
push_parts-others-preserved t c =
    let shape = c.in_ok-shape.ensures.ok in
    let left : ℕ = c.args.count + 1 - c.others.counter in
    let before : List Shape = c.args.parts.now.items in
    let more : 2 ≤ left = omega (arith, c.others-test.true) in
    let fewer : left - 1 ≡ c.args.count + 1 - (c.others.counter + 1) = omega (arith, c.others-test.true) in
    subst (λ n. AreLeft c.args.levels c.args.count n c.args.text.now c.in_ok-left.left.now before c.push.new.self.items) fewer
    (PartsInTurn.others_left c.args.levels c.args.count left c.in_ok-shape.shape c.args.text.now c.others.left.now c.in_ok-shape.rest.now c.in_ok-left.left.now
    before c.others.parts.items c.push.new.self.items c.requires.deep more c.others.invariant shape.0 shape.1 c.in_ok-push.ensures.items c.in_ok-left.ensures.ok)

pub push_parts-returns-in_err-shape-clause-err : goal.push_parts-returns-in_err-shape-clause-err
push_parts-returns-in_err-shape-clause-err t c =
    let p = err_from_is_err_and c.from_residual.result c.from_residual.ensures.1 in
    ShapeStops.stopped c.from_residual.result _ p.0 p.1 p.2 c.in_err-shape.ensures.err
    (λ many stop. PartsInTurn.part_stops c.args.levels c.args.count (c.args.count + 1 - c.others.counter) c.args.text.now c.others.left.now
    c.args.parts.now.items c.others.parts.items many c.requires.deep c.others.invariant stop)

pub push_parts-returns-in_err-left-clause-err : goal.push_parts-returns-in_err-left-clause-err
push_parts-returns-in_err-left-clause-err t c =
    let p = err_from_is_err_and c.from_residual-in_err-left.result c.from_residual-in_err-left.ensures.1 in
    let shape = c.in_ok-shape.ensures.ok in
    let left : ℕ = c.args.count + 1 - c.others.counter in
    let more : 2 ≤ left = omega (arith, c.others-test.true) in
    ShapeStops.stopped c.from_residual-in_err-left.result _ p.0 p.1 p.2 c.in_err-left.ensures.err
    (λ many stop. PartsInTurn.space_stops c.args.levels c.args.count left c.in_ok-shape.shape c.args.text.now c.others.left.now c.in_ok-shape.rest.now
    c.args.parts.now.items c.others.parts.items many c.requires.deep more c.others.invariant shape.0 shape.1 stop)

pub push_parts-returns-in_err-shape-2-clause-err : goal.push_parts-returns-in_err-shape-2-clause-err
push_parts-returns-in_err-shape-2-clause-err t c =
    let p = err_from_is_err_and c.from_residual-in_err-shape-2.result c.from_residual-in_err-shape-2.ensures.1 in
    ShapeStops.stopped c.from_residual-in_err-shape-2.result _ p.0 p.1 p.2 c.in_err-shape-2.ensures.err
    (λ many stop. PartsInTurn.part_stops c.args.levels c.args.count (c.args.count + 1 - c.others.counter) c.args.text.now c.others.left.now
    c.args.parts.now.items c.others.parts.items many c.requires.deep c.others.invariant stop)

pub push_parts-returns-clause-ok : goal.push_parts-returns-clause-ok
push_parts-returns-clause-ok t c =
    let shape = c.in_ok-shape-2.ensures.ok in
    let left : ℕ = c.args.count + 1 - c.others.counter in
    let last : left ≡ 1 = omega (arith, c.others-test.false, c.others.invariant.some) in
    PartsInTurn.all_read c.args.levels c.args.count left c.in_ok-shape-2.shape c.args.text.now c.others.left.now c.in_ok-shape-2.rest.now
    c.args.parts.now.items c.others.parts.items c.push-2.new.self.items c.requires.deep last c.others.invariant shape.0 shape.1 c.in_ok-push-2.ensures.items
