use Rattle.std.proofs.Common.{arith}
use Rattle.bar_pool.proofs.TableKeeps.{split_allowed}
use Rattle.bar_pool.proofs.Numbered.{both_built}
use Rattle.bar_pool.proofs.workers.+build_in_halves.Goals as goal

pub split_seat-other-requires : goal.split_seat-other-requires
split_seat-other-requires g t c =
    let seat = c.args.seat in
    (c.requires.table, omega arith, split_allowed c.args.shared.now.key seat.id seat.me.0 (omega arith) c.requires.fresh.past)

pub returns-clause-things : goal.returns-clause-things
returns-clause-things g t c =
    let first = c.side_by_side-first.result.0 in
    let second = c.side_by_side-first.result.1 in
    both_built (g.J.Job.built c.args.job.now) c.args.searched.now first.seat.me second.seat.me c.take_over.result.seat.me c.take_over.ensures.view (λ v. v.items)
    c.take_over.result.things first.things second.things c.take_over.ensures.things c.take_over.ensures.both c.side_by_side-first.ensures.first.1.1.0 c.side_by_side-first.ensures.second.1.1.0
