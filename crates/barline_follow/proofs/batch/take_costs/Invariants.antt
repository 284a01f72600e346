use Rattle.std.proofs.Common.{◌≡◌, ℕ, ◌+◌, ◌<◌, drop, length, map, take}
use Rattle.std.specs.Prelude.{All}
use Rattle.std.specs.List.{flat_map}
use Rattle.bar_pool.specs.Costs.{AreAllCosts}
use Rattle.barline_follow.specs.declared.next_bar.NextBar.{NextBar}
use Rattle.barline_follow.specs.Gathered.{Round}
use Rattle.barline_follow.specs.Longer.{draft_of}
use Rattle.barline_follow.specs.PassedOver.{IsWeighed, cells_in}
use Rattle.barline_follow.proofs.batch.take_costs.Given as goal

abbrev pub invariant-lists : goal.invariant-lists
invariant-lists l =
    ((next : NextBar) (round : Round) (v : ℕ) → v < length next.voices.now → All (IsWeighed next round v) l.initial.lists
    → AreAllCosts next.grammar.now (flat_map (cells_in next v) l.initial.lists) l.costs
    → All (IsWeighed next round (v + 1)) (take l.list-index l.lists) × All (IsWeighed next round v) (drop l.list-index l.lists)
    × AreAllCosts next.grammar.now (flat_map (cells_in next v) (drop l.list-index l.lists)) l.left)
    × (map draft_of l.lists ≡ map draft_of l.initial.lists)
