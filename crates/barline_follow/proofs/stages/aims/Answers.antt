use Rattle.std.proofs.Common.{ℕ, ◌≤◌, ◌++◌, ◌∙◌, List, ap, sym, subst, min, length}
use Rattle.std.proofs.lemmas.List.{append-nil}
use Rattle.barline_follow.specs.Stages.{aim}
use Rattle.barline_follow.proofs.Paired.{paired_end}
use Rattle.barline_follow.proofs.stages.aims.Goals as goal

pub returns : goal.returns
returns c =
    let past : min (length c.args.ticks.now) (length c.args.goal.now) ≤ c.barlines.place =
    subst (λ (n : ℕ). n ≤ c.barlines.place) c.min-count.ensures c.barlines-test.false in
    sym (ap (λ (more : List ℕ). c.barlines.aims.items ++ more)
    (paired_end (aim c.args.stages c.args.number) c.args.ticks.now c.args.goal.now c.barlines.place past)
    ∙ append-nil c.barlines.aims.items)
    ∙ c.barlines.invariant
