-- What can be built by a grammar.
use Rattle.std.specs.Prelude.{◌≡◌, ℕ, ◌-◌, All, List, Option, length}
use Rattle.bar_pool.specs.declared.order.CostOrder.{CostOrder}
use Rattle.bar_pool.specs.declared.order.Order.{Order}
use Rattle.bar_pool.specs.Sources.{AreTablesAt, searched_from}
use Rattle.grammar_plan.specs.Plans.{IsPlan}
use Rattle.grammar_plan.specs.declared.plan.Plan.{Plan}
use Rattle.rhythm_base.specs.BarInput.{BarInput}
use Rattle.rhythm_base.specs.BarTables.{BarTable}
use Rattle.rhythm_base.specs.Grammar.{Grammar}
use Rattle.rhythm_base.specs.Readable.{IsReadable}

-- a grammar from a file, its plan, and cells whose inputs are in its units
pub record IsOrder {Cell : Type 0} (g : Grammar) (plan : Plan) (input : Cell → BarInput) (cells : List Cell) : Type 0 where
  pub readable : IsReadable g
  pub plan_of : IsPlan g plan
  pub units : All (λ cell. (input cell).resolution ≡ g.resolution) cells

-- the inputs of the cells are in the units of the grammar
abbrev pub AreInUnits : CostOrder → Type 0
AreInUnits order = All (λ cell. cell.input.resolution ≡ order.grammar.now.resolution) order.cells.now

-- the tables of those inputs of the order that are searched, in their order
abbrev pub AreFound : Order → List (Option ℕ) → List BarTable → Type 0
AreFound order equals found = AreTablesAt order.grammar.now order.inputs.now (searched_from 0 equals) found

-- how many inputs of the order are not among those that were found
abbrev pub others : Order → List BarTable → ℕ
others order found = length order.inputs.now - length found
