-- Values as texts write them.
use Rattle.std.specs.Prelude.{◌≤◌}
use Rattle.durations.specs.declared.value.Value.{Value}
use Rattle.durations.specs.Value.{plain_grid}

-- the value can be written: a number of 1 to 61,440, and at most two dots
pub record IsWellValue (v : Value) : Type 0 where
  pub some : 1 ≤ plain_grid v.recip
  pub few : plain_grid v.recip ≤ 61440
  pub dots : v.dots ≤ 2
