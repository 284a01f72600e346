-- A bar that is searched.
use Rattle.bar_view.specs.Views.{IsViewOf}
use Rattle.grammar_plan.specs.Plans.{IsPlan}
use Rattle.row_laws.specs.Grounds.{IsReady, ground_of}
use Rattle.tree_laws.specs.Forests.{Ground}
use Rattle.least_rows.specs.declared.search.Search.{Search}

-- a bar without a pin, the plan of its grammar, and its view
pub record IsSearch (bar : Search) : Type 0 where
  pub ready : IsReady bar.grammar.now bar.input.now
  pub plan_of : IsPlan bar.grammar.now bar.plan.now
  pub view_of : IsViewOf bar.input.now bar.view.now

-- where the trees of the bar stand
abbrev pub ground_in : Search → Ground
ground_in bar = ground_of bar.grammar.now bar.input.now
