-- Values that count in the parts of a whole note.
use Rattle.std.proofs.Common.{◌≡◌, ℕ, zero, suc, ◌*◌, ◌^◌, ◌≤◌, List, get_or, arith}
use Rattle.std.specs.Prelude.{All}
use Rattle.std.specs.Int.{◌∣◌}
use Rattle.std.proofs.Math.Nat.{eq-zero_of_zero-dvd}
use Rattle.durations.specs.declared.value.Value.{Value}
use Rattle.durations.specs.Value.{IsWide, plain_grid, value_grid}
use Rattle.durations.proofs.Wide.{wide_some}
use Rattle.derivation.specs.declared.score.ScoreBar.{ScoreBar}
use Rattle.voice_values.specs.Values.{VoiceValue}
use Rattle.notation.specs.Places.{whole_of}
use Rattle.notation.specs.Runs.{IsInBar}
use Rattle.notation.specs.Spelling.{IsNoteValue}

factor_some : (a b : ℕ) → 1 ≤ a * b → 1 ≤ a
factor_some zero b h = omega (arith, h)
factor_some (suc a) b h = omega arith

pub some_divisor : (d n : ℕ) → 1 ≤ n → d ∣ n → 1 ≤ d
some_divisor zero n some h = let e : n ≡ zero = eq-zero_of_zero-dvd h in omega (arith, e, some)
some_divisor (suc d) n some h = omega arith

pub some_plain : (r : ℕ) (v : Value) → 1 ≤ r → value_grid v ∣ whole_of r → 1 ≤ plain_grid v.recip
some_plain r v some h = factor_some (plain_grid v.recip) (2 ^ v.dots) (some_divisor (value_grid v) (whole_of r) (omega (arith, some)) h)

-- a value of a bar is one of a note
pub note_value : (r : ℕ) (bar : ScoreBar) (v : VoiceValue) → 1 ≤ r → IsInBar r bar v → IsNoteValue v.value
note_value r bar v some h = record { dots = h.dots; some = some_plain r v.value some h.grid }

pub note_values : (whole : ℕ) (vs : List Value) → 1 ≤ whole → All (λ v. v.dots ≤ 2) vs → All (IsWide whole) vs → All IsNoteValue vs
note_values whole vs some dots wide =
    λ i d lt. record { dots = dots i d lt; some = wide_some whole (get_or vs i d).recip (get_or vs i d).dots some (wide i d lt) }
