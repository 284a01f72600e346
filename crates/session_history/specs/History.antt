-- What contracts see of the history of an editing session.
use Rattle.std.specs.Prelude.{ℕ, List, []}
use Rattle.rhythm_base.specs.Grammar.{Grammar}
use Rattle.rhythm_base.specs.Performance.{Performance}

-- a performance of the past, and its size: how many cells the change back to it reaches
pub record Step : Type 0 where
  pub performance : Performance
  pub size : ℕ

-- the grammar; the past, with the latest step last; the performance as edited so far; and what was undone, with the next to redo first
pub record History : Type 0 where
  pub grammar : Grammar
  pub past : List Step
  pub present : Performance
  pub future : List Performance

-- nothing was edited yet
abbrev pub begun_with : Grammar → Performance → History
begun_with g p = record { grammar = g; past = []; present = p; future = [] }
