-- Memory that is taken level by level.
use Rattle.std.proofs.Common.{◌≡◌, ℕ, ◌<◌, ◌≤◌, List, length}
use Rattle.chain_bars.specs.Tower.{Level, halved, level, room_at}

-- the levels below `number` have got their memory, and nothing else has changed
pub record IsReserving (cells : ℕ) (before ls : List Level) (number : ℕ) : Type 0 where
  pub count : length ls ≡ 13
  pub nodes : (k : ℕ) → k < 13 → level ls k ≡ level before k
  pub room : (k : ℕ) → k < 13 → room_at before k ≤ room_at ls k
  pub done : (k : ℕ) → k < number → halved cells k ≤ room_at ls k
