use Rattle.std.proofs.Common.{◌-◌, length}
use Rattle.bar_pool.proofs.rooms.Rooms.for_workers.Given as goal

abbrev pub decreases-rooms : goal.decreases-rooms
decreases-rooms l = l.workers - length l.self.rooms.items
