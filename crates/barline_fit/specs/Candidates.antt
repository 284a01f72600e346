-- The ticks that are tried for a barline.
use Rattle.std.specs.Prelude.{ℕ, ◌+◌, ◌-◌, ◌*◌, ◌/◌, List, map}
use Rattle.std.specs.List.{range_with_len}
use Rattle.barline_fit.specs.declared.candidates.Candidates.{Candidates}

-- so many ticks, from low on, each a step after the one before
abbrev pub stepped : ℕ → ℕ → ℕ → List ℕ
stepped low step count = map (λ k. low + k * step) (range_with_len 0 count)

-- low, low + step, and so on up to high: high itself only where a step meets it
abbrev pub candidates : ℕ → ℕ → ℕ → List ℕ
candidates low high step = stepped low step ((high - low) / step + 1)

abbrev pub ticks_of : Candidates → List ℕ
ticks_of c = candidates c.low c.high c.step
