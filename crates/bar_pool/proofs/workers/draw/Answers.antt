use Rattle.std.proofs.Common.{arith}
use mathlib.Core.Option.{none}
use Rattle.atomic_table.specs.Table.{step}
use Rattle.bar_pool.proofs.TableKeeps.{draw_allowed}
use Rattle.bar_pool.proofs.workers.draw.Goals as goal

pub fetch_add-requires : goal.fetch_add-requires
fetch_add-requires c =
    (c.requires.table, omega arith, draw_allowed c.args.shared.now.key c.args.shared.now.table_id.slots c.args.seat.now.id c.args.seat.now.me (step 0 0 1 0 none) c.requires.turn)
