-- The keys of a chord, which is the number whose bits they are.
use Rattle.std.specs.Prelude.{ℕ, ◌-◌, ◌==◌, List, filter}
use Rattle.std.specs.Int.{bit_at}
use Rattle.std.specs.List.{range_with_len}

-- those from a key on, the lowest first
abbrev pub keys_onward : ℕ → ℕ → List ℕ
keys_onward keys k = filter (λ j. bit_at keys j == 1) (range_with_len k (128 - k))

-- all of them
unfoldable pub rising_keys : ℕ → List ℕ
rising_keys keys = filter (λ k. bit_at keys k == 1) (range_with_len 0 128)
