use Rattle.std.proofs.Common.{arith}
use Rattle.bar_pool.proofs.TableKeeps.{join_allowed}
use Rattle.bar_pool.proofs.workers.take_over.Goals as goal

pub join_seat-requires : goal.join_seat-requires
join_seat-requires g c =
    let first = c.args.first.seat in
    let second = c.args.second.seat in
    (c.requires.first_table, c.requires.second_table, c.requires.seats.2, omega arith, join_allowed c.args.shared.now.key first.id first.me.0 second.id second.me.0 c.requires.seats.0)
