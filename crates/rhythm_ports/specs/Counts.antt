-- Counts that stand still at their last value.
use Rattle.std.specs.Prelude.{ℕ, ◌+◌, ◌-◌, ◌^◌, min, Bool, if◌then◌else◌}

-- a count one higher, up to the last value of a `u64`
abbrev pub next_count : ℕ → ℕ
next_count count = count + min 1 (2 ^ 64 - 1 - count)

-- a count after what it counts happened, or did not
abbrev pub count_after : ℕ → Bool → ℕ
count_after count happened = if happened then next_count count else count
