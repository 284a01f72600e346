-- A take whose first note begins so long before a barline.
use Rattle.std.specs.Prelude.{ℕ, Bool, ◌-◌, ◌*◌, ◌/◌, ◌%◌, ◌^◌, ◌==◌, ◌||◌, not, nat_lt, if◌then◌else◌, map, Option, Some, None, Result, Ok, Err}
use Rattle.rhythm_base.specs.Bars.{signature_at}
use Rattle.rhythm_base.specs.Lists.{least_of}
use Rattle.performance_load.specs.Take.{Take}
use Rattle.performance_prepare.specs.Shift.{shifted_take, unless_late}
use Rattle.performance_prepare.specs.declared.options.Fraction.{Fraction}
use Rattle.performance_prepare.specs.declared.prepare_fault.PrepareFault.{PrepareFault}
use Rattle.performance_prepare.specs.declared.prepare_fault.PrepareFault.TheVariants.{BadUpbeat}
use Rattle.performance_prepare.specs.declared.shift.Shift.{Shift}

-- beats and the power of two that is the value of a beat are out of range
abbrev pub is_out : ℕ × ℕ → Bool
is_out s = (s.0 == 0) || (nat_lt 64 s.0 || nat_lt 6 s.1)

-- the ticks of a bar of the signature, where it is in range and these are a whole number: else no such bar can be laid
abbrev pub ticks_of_bar : ℕ → ℕ × ℕ → Option ℕ
ticks_of_bar division s =
    if is_out s then None
    else (if (4 * division * s.0) % (2 ^ s.1) == 0 then Some ((4 * division * s.0) / (2 ^ s.1)) else None)

-- a part of a whole note has a whole number of ticks
abbrev pub is_whole : ℕ → Fraction → Bool
is_whole division part = (4 * division * part.num) % part.den == 0

-- the ticks of a part of a whole note
abbrev pub ticks_of : ℕ → Fraction → ℕ
ticks_of division part = (4 * division * part.num) / part.den

-- all that was played comes so much later, or earlier, that the first onset is there. An upbeat of a whole bar is as one of none
abbrev pub upbeat_shift : ℕ → ℕ → Take → Shift
upbeat_shift bar ticks t = record { times = 1; later = (bar - ticks) % bar; earlier = least_of (map (λ n. n.onset) t.notes) }

-- an upbeat that is longer than the bar, or has no whole number of ticks, is none
abbrev pub placed : ℕ → Fraction → Take → Result Take PrepareFault
placed bar u t =
    if not (is_whole t.division u) || nat_lt bar (ticks_of t.division u) then Err (BadUpbeat u.num u.den)
    else unless_late (shifted_take (upbeat_shift bar (ticks_of t.division u) t) t)

-- where the first bar cannot be laid, the take stays as it is, and this is told when its bars are laid
abbrev pub placed_in : Option ℕ → Fraction → Take → Result Take PrepareFault
placed_in None u t = Ok t
placed_in (Some bar) u t = placed bar u t

-- the bar is that of the signature in force at tick 0
abbrev pub with_upbeat : Fraction → Take → Result Take PrepareFault
with_upbeat u t = placed_in (ticks_of_bar t.division (signature_at t.signatures 0)) u t
