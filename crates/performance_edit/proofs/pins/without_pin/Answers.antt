use Rattle.std.proofs.Common.{rules, tests, not, ◌∙◌, ap}
use Rattle.std.proofs.lemmas.Fn.{filter_same}
use Rattle.std.specs.Prelude.{filter}
use Rattle.rhythm_base.specs.declared.pin.Pin.{Pin}
use Rattle.rhythm_base.specs.Pins.{is_pin}
use Rattle.performance_edit.proofs.pins.without_pin.Goals as goal

pub returns : goal.returns
returns c =
    let is_other = λ (q : Pin). not (is_pin c.args.channel c.args.bar q) in
    filter_same _ is_other _ (λ x b f k. search (rules, tests)) _ _ c.retain.ensures.filtered ∙ ap (filter is_other) c.in_ok-others.ensures
