use Rattle.std.proofs.Common.{refl, sym, ◌∙◌}
use Rattle.barline_follow.proofs.Batches.{learned}
use Rattle.barline_follow.proofs.batch.take_cost.Goals as goal

pub returns-clause-taken : goal.returns-clause-taken
returns-clause-taken c next r v rest lt h are =
    learned next r v c.args.list.now c.learn.new.self rest c.args.costs.now c.split_at.result.0.now c.split_at.result.1.now _ _ lt
    (sym c.is_out.ensures ∙ c.if-is_out.false) h are c.split_at.ensures.front c.split_at.ensures.back refl c.in_ok-learn.ensures
