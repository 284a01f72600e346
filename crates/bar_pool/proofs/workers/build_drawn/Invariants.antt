use Rattle.std.proofs.Common.{◌≡◌, ◌≤◌, ◌-◌, All, length}
use Rattle.bar_pool.specs.Workers.{HasShare, IsNumbered, numbers}
use Rattle.bar_pool.proofs.Counting.{above}
use Rattle.rhythm_base.specs.Counter.{risen}
use Rattle.bar_pool.proofs.workers.build_drawn.Given as goal

abbrev pub invariant-draws : goal.invariant-draws
invariant-draws g l = record {
  table : l.seat.table_id ≡ l.initial.seat.table_id;
  id : l.seat.id ≡ l.initial.seat.id;
  share : HasShare l.seat.me (length l.searched) 1;
  past : l.seat.me.0.past ≡ 0;
  numbers : numbers l.things.items ≡ l.seat.me.0.drawn;
  things : All (IsNumbered (g.J.Job.built l.job) l.searched) l.things.items;
  within : above l.seat.me.0.drawn ≤ length l.searched;
  builds : l.builds ≡ risen l.initial.builds (length l.seat.me.0.drawn);
}

abbrev pub decreases-draws : goal.decreases-draws
decreases-draws g l = length l.searched - above l.seat.me.0.drawn
