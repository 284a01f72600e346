use Rattle.std.proofs.Common.{◌≡◌, ◌≤◌, ◌^◌}
use Rattle.chain_bars.specs.Tower.{halved}
use Rattle.chain_bars.proofs.Rooms.{IsReserving}
use Rattle.chain_bars.proofs.levels.reserve_all.Given as goal

abbrev pub invariant-up : goal.invariant-up
invariant-up l = IsReserving l.cells l.fn.levels l.levels l.number × (l.count ≡ halved l.cells l.number) × (l.count ≤ 2 ^ 32)
