use Rattle.std.proofs.Common.{◌≡◌, length, ◌-◌, subst}
use Rattle.rhythm_base.specs.ShapeText.{IsFirstBadByte}
use Rattle.rhythm_base.proofs.ShapeFaults.{more_after}
use Rattle.rhythm_base.proofs.shape.Shape.parse.Goals as goal

pub returns-in-Ok-clause-err : goal.returns-in-Ok-clause-err
returns-in-Ok-clause-err c =
    let bytes : c.as_bytes-text.result.now ≡ c.args.text.now = c.as_bytes-text.ensures.value in
    let read = c.in-Ok.ensures.ok in
    subst (λ t. IsFirstBadByte t (length c.as_bytes-text.result.now - length c.in-Ok.rest.now)) bytes
    (more_after c.as_bytes-text.result.now c.in-Ok.rest.now c.in-Ok._shape read.0 read.1 c.in-Ok.len_at_least)
