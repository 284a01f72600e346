-- Streams of draws. A stream starts with a number, and each draw gives the next.
use Rattle.std.specs.Prelude.{ℕ, zero, suc, ◌+◌, ◌*◌, ◌%◌}

-- the draw after another one, or after the start
abbrev pub next_draw : ℕ → ℕ
next_draw s = (75 * s + 74) % 65537

-- the draw of number n, counted from 1, of the stream that starts with s. Number 0 is the start
unfoldable pub draw : ℕ → ℕ → ℕ
draw s zero = s
draw s (suc n) = next_draw (draw s n)
