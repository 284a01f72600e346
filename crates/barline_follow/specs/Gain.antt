-- What a script gains.
use Rattle.std.specs.Prelude.{ℕ, ◌+◌, ◌*◌, ◌≤◌, List}
use Rattle.rhythm_base.specs.declared.edit.Edit.{Edit}
use Rattle.rhythm_base.specs.Grammar.{Grammar}
use Rattle.rhythm_base.specs.Performance.{Performance}
use Rattle.rhythm_base.specs.Voices.{IsCostOf}
use Rattle.barline_follow.specs.Script.{Leads}

-- the edits are accepted in turn, and the cost after them and the prices are at most seven tenths of the cost before them
pub record Gains (g : Grammar) (p : Performance) (prices : ℕ) (edits : List Edit) : Type 0 where
  pub after : Performance
  pub leads : Leads g p edits after
  pub cost : ℕ
  pub cost_is : IsCostOf g after cost
  pub before : ℕ
  pub before_is : IsCostOf g p before
  pub gain : 10 * (cost + prices) ≤ 7 * before
