use Rattle.std.proofs.Common.{ℕ, ◌≤◌, ◌∙◌, List, ap, sym, subst, max, min, length}
use Rattle.std.specs.List.{fold}
use Rattle.rhythm_base.specs.Lists.{gap}
use Rattle.barline_follow.proofs.Paired.{paired_end}
use Rattle.barline_follow.proofs.stages.farthest.Goals as goal

pub returns : goal.returns
returns c =
    let past : min (length c.args.ticks.now) (length c.args.goal.now) ≤ c.barlines.number =
    subst (λ (n : ℕ). n ≤ c.barlines.number) c.min-number-end.ensures c.barlines-test.false in
    sym (ap (λ (gaps : List ℕ). fold (λ n m. max n m) c.barlines.far gaps) (paired_end gap c.args.ticks.now c.args.goal.now c.barlines.number past))
    ∙ c.barlines.invariant
