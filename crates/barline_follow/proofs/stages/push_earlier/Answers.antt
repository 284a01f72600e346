use Rattle.std.proofs.Common.{ℕ, ◌≤◌, ◌++◌, ◌∙◌, List, map, ap, sym, subst, min, length}
use Rattle.std.specs.Prelude.{filter}
use Rattle.std.proofs.lemmas.List.{append-nil}
use Rattle.barline_follow.specs.Stages.{Shift, is_earlier, shift_line}
use Rattle.barline_follow.proofs.Paired.{shifts_end}
use Rattle.barline_follow.proofs.stages.push_earlier.Goals as goal

pub returns : goal.returns
returns c =
    let past : min (length c.args.ticks.now) (length c.args.aims.now) ≤ c.barlines.number =
    subst (λ (n : ℕ). n ≤ c.barlines.number) c.min-count.ensures c.barlines-test.false in
    sym (ap (λ (more : List Shift). c.barlines.script.items ++ map shift_line (filter is_earlier more))
    (shifts_end c.args.ticks.now c.args.aims.now c.barlines.number past)
    ∙ append-nil c.barlines.script.items)
    ∙ c.barlines.invariant
