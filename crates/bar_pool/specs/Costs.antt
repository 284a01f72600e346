-- The costs of cells, for the numbers carried in that are asked for.
use Rattle.std.specs.Prelude.{◌≡◌, ℕ, List, Some, slice_get}
use Rattle.bar_pool.specs.declared.order.AskedCell.{AskedCell}
use Rattle.least_cost.specs.Costs.{AreCostsOf}
use Rattle.least_cost.specs.declared.costs.BarCosts.{BarCosts}
use Rattle.rhythm_base.specs.Grammar.{Grammar}
use Rattle.rhythm_base.specs.Lists.{Each}

-- the costs that are asked for of the cell
abbrev pub AreCosts : Grammar → AskedCell → BarCosts → Type 0
AreCosts g cell costs = AreCostsOf g cell.input cell.asked costs.costs

-- the costs of the cell of this number
abbrev pub AreCostsAt : Grammar → List AskedCell → ℕ → BarCosts → Type 0
AreCostsAt g cells number costs = (cell : AskedCell) → slice_get cells number ≡ Some cell → AreCosts g cell costs

-- the costs of each cell, in their order
abbrev pub AreAllCosts : Grammar → List AskedCell → List BarCosts → Type 0
AreAllCosts g cells costs = Each (AreCosts g) cells costs
