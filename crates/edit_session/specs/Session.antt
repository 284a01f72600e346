-- What contracts see of a session. All that a session answers is decided by its grammar and its performance.
use Rattle.std.specs.Prelude.{ℕ}
use Rattle.rhythm_base.specs.Grammar.{Grammar}
use Rattle.rhythm_base.specs.Performance.{Performance}

-- the grammar, the performance as edited so far, by up to how many workers cells are built, and up to how many bars the session grows without
-- taking memory
pub record Session : Type 0 where
  pub grammar : Grammar
  pub performance : Performance
  pub workers : ℕ
  pub room : ℕ
