use Rattle.std.proofs.Common.{List, ℕ, subst}
use Rattle.rhythm_base.specs.Shape.{Shape}
use Rattle.rhythm_base.specs.ShapeText.{IsShapeFault, IsShapeText}
use Rattle.edit_script.proofs.ShapeLemmas.{no_bad_byte, shape_is_text}
use Rattle.edit_script.proofs.read.shape.Goals as goal

pub returns-in_default : goal.returns-in_default
returns-in_default c = λ x is. c.in_default.ensures.cases.0 (shape_is_text c.args.text.now x is)

pub returns-in-Err-BadByte : goal.returns-in-Err-BadByte
returns-in-Err-BadByte c =
    let bad = subst (IsShapeFault c.in-Ok.text.now) c.in-Err-BadByte.field-0-is c.in-Err-BadByte.ensures.err in
    subst (λ (t : List ℕ). (x : Shape) → IsShapeText t x → ⊥) c.in-Ok.ensures.cases.0 (no_bad_byte c.in-Ok.text.now c.in-Err-BadByte._at bad)
