-- Draws one after another.
use Rattle.std.proofs.Common.{◌≡◌, ℕ, ◌+◌, refl}
use Rattle.std.proofs.Math.Numerals.{add-one}
use Rattle.rhythm_gen.specs.Draws.{draw, next_draw}

pub first_draw : (s : ℕ) → draw s 0 ≡ s
unfolding draw
first_draw s = refl

pub later_draw : (s n : ℕ) → draw s (n + 1) ≡ next_draw (draw s n)
unfolding draw
later_draw s n = rw add-one refl
