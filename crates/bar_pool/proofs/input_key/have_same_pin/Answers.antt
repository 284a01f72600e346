use Rattle.std.proofs.Common.{ap₂, sym, ◌∙◌}
use Rattle.std.specs.Prelude.{option_map}
use Rattle.std.specs.Option.{option_eq}
use Rattle.std.proofs.lemmas.Bool.Decides.{same_from_decides}
use Rattle.bar_pool.specs.Equal.{same_shape}
use Rattle.bar_pool.specs.EqualLaws.{shape_decides}
use Rattle.bar_pool.proofs.input_key.have_same_pin.Goals as goal

pub returns-in-Some-two : goal.returns-in-Some-two
returns-in-Some-two c =
    let one = c.in-Some.shape.now in
    let two = c.in-Some-two.other.now in
    same_from_decides c.same.result (same_shape one two) c.same.ensures (shape_decides one two)
    ∙ sym (ap₂ (λ p q. option_eq same_shape (option_map (λ s. s.now) p) (option_map (λ s. s.now) q)) c.in-Some.is c.in-Some-two.is)
