-- What of a reply waits before a sink.
use Rattle.std.specs.Prelude.{ℕ, List}

-- the bytes that the sink was not yet asked to take, and how many bytes of the reply it took, up to the last value of a `usize`
pub record Gathered : Type 0 where
  pub bytes : List ℕ
  pub sent : ℕ
