-- A bar that is searched.
use Rattle.bar_view.specs.Views.{IsViewOf}
use Rattle.row_laws.specs.Grounds.{IsReady}
use Rattle.best_trees.specs.Suited.{AreAllSuited}
use Rattle.best_trees.specs.declared.search.SearchedBar.{SearchedBar}

-- the grammar and the bar belong together, the view is that of the bar, and the rules that are known suit
pub record IsTreeSearch (bar : SearchedBar) : Type 0 where
  pub ready : IsReady bar.grammar.now bar.input.now
  pub view_of : IsViewOf bar.input.now bar.view.now
  pub suited_of : AreAllSuited bar.grammar.now.rules bar.suited.now
