-- A take of one meter.
use Rattle.std.specs.Prelude.{ℕ, ◌==◌, if◌then◌else◌, [], ◌∷◌}
use Rattle.performance_load.specs.Take.{Take}
use Rattle.performance_prepare.specs.declared.options.Fraction.{Fraction}

-- the power of two that a denominator of 1, 2, 4, .. 64 is
abbrev pub power_of : ℕ → ℕ
power_of den =
    if den == 1 then 0 else (if den == 2 then 1 else (if den == 4 then 2 else (if den == 8 then 3 else (if den == 16 then 4
    else (if den == 32 then 5 else 6)))))

-- all signatures go, and the meter stands at tick 0
abbrev pub with_meter : Fraction → Take → Take
with_meter m t = record t { signatures = record { tick = 0; num = m.num; dd = power_of m.den } ∷ [] }
