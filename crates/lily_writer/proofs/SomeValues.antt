-- Each value of a length is 1/n of a whole note for some n, or longer.
use Rattle.std.proofs.Common.{ℕ, suc, zero, ◌*◌, ◌^◌, ◌≤◌, List, arith}
use Rattle.std.specs.Prelude.{All}
use Rattle.std.proofs.Math.Nat.{dvd-mul_left, dvd-mul_right, pos_of_dvd_of_pos}
use Rattle.std.proofs.lemmas.List.Elements.{All-weaker}
use Rattle.durations.specs.declared.value.Value.{Value}
use Rattle.durations.specs.Laws.{CountsIn}
use Rattle.durations.specs.Value.{plain_grid}

some_part : (a b : ℕ) → 1 ≤ a * b → 1 ≤ a
some_part zero b some = omega (arith, some)
some_part (suc a) b some = omega arith

some_grid : (whole : ℕ) (v : Value) → 1 ≤ whole → CountsIn whole v → 1 ≤ plain_grid v.recip
some_grid whole v some counts =
    some_part (plain_grid v.recip) (2 ^ v.dots) (pos_of_dvd_of_pos (counts (whole * 2) (dvd-mul_right whole 2) (dvd-mul_left 2 whole))
    (omega (arith, some)))

pub counted_some : (whole : ℕ) (vs : List Value) → 1 ≤ whole → All (CountsIn whole) vs → All (λ v. 1 ≤ plain_grid v.recip) vs
counted_some whole vs some counts = All-weaker (CountsIn whole) (λ v. 1 ≤ plain_grid v.recip) (λ v h. some_grid whole v some h) vs counts
