-- A plan without its quiet trees.
use Rattle.std.specs.Prelude.{◌≡◌, ℕ, ◌<◌, ◌≤◌, All, Bool, [], slice_get, slice_index_or, length, Some, None}
use Rattle.rhythm_base.specs.Grammar.{Grammar}
use Rattle.grammar_plan.specs.Plans.{HasLeafRule, HasSeat, HaveSeatsOverBars, IsSeat, place_of_leaf}
use Rattle.grammar_plan.specs.declared.plan.Plan.{Plan}

pub record IsFrame (g : Grammar) (plan : Plan) : Type 0 where
  pub seats : All (IsSeat g plan) plan.seats.items
  pub roots : (symbol n : ℕ) → slice_get plan.roots.items symbol ≡ Some (Some n) → HasSeat plan n (g.resolution, symbol)
  pub starts : HaveSeatsOverBars plan.roots.items g.starts
  pub leaves : (symbol n : ℕ) (sounds : Bool) → symbol < length plan.leaves.items → n ≤ 4
      → HasLeafRule g symbol n sounds (slice_index_or (slice_index_or plan.leaves.items symbol []) (place_of_leaf n sounds) None)
