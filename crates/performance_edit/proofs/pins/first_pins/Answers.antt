use Rattle.std.proofs.Common.{rules, tests, nat_lt, ◌∙◌, ap}
use Rattle.std.proofs.lemmas.Fn.{filter_same}
use Rattle.std.specs.Prelude.{filter}
use Rattle.rhythm_base.specs.declared.pin.Pin.{Pin}
use Rattle.performance_edit.proofs.pins.first_pins.Goals as goal

pub returns : goal.returns
returns c =
    let is_before = λ (q : Pin). nat_lt q.bar c.args.bars in
    filter_same _ is_before _ (λ x b f k. search (rules, tests)) _ _ c.retain.ensures.filtered ∙ ap (filter is_before) c.in_ok-first.ensures
