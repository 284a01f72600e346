-- Powers of two that fall in steps of 64ths of a bit.
use Rattle.std.specs.Prelude.{ℕ, ◌-◌, ◌*◌, ◌/◌, ◌^◌, nat_lt, if◌then◌else◌}
use Rattle.std.specs.Int.{div_ceil}
use Rattle.weight_learning.specs.Thresholds.{threshold}

-- 2 ^ (31 - k / 64), nearly: a threshold over the bits of k, rounded up, and 0 from 31 bits on
unfoldable pub share : ℕ → ℕ
share k = let bits = div_ceil k 64 in if nat_lt k (64 * 31) then threshold (64 * bits - k) / 2 ^ bits else 0
