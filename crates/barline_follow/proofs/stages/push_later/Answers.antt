use Rattle.std.proofs.Common.{◌≤◌, ◌++◌, ◌∙◌, List, map, ap, sym, min, length, arith}
use Rattle.std.specs.Prelude.{filter, reverse}
use Rattle.std.proofs.lemmas.List.{append-nil}
use Rattle.barline_follow.specs.Stages.{Shift, is_later, shift_line}
use Rattle.barline_follow.proofs.Paired.{shifts_end}
use Rattle.barline_follow.proofs.stages.push_later.Goals as goal

pub barlines-init : goal.barlines-init
barlines-init c =
    let past : min (length c.args.ticks.now) (length c.args.aims.now) ≤ c.min-count.result = omega (arith, c.min-count.ensures) in
    sym (ap (λ (more : List Shift). c.args.script.now.items ++ map shift_line (reverse (filter is_later more)))
    (shifts_end c.args.ticks.now c.args.aims.now c.min-count.result past)
    ∙ append-nil c.args.script.now.items)
