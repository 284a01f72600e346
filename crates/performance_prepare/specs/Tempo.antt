-- A take at so many quarters a minute.
use Rattle.rhythm_base.specs.declared.limits.TheConstants.{MOST_DIVISION, SLOWEST_TEMPO}
use Rattle.std.specs.Prelude.{ℕ, ◌≤◌, Bool, zero, suc, ◌+◌, ◌*◌, ◌/◌, ◌%◌, ◌^◌, ◌==◌, ◌||◌, not, nat_lt, if◌then◌else◌, min, max, List, ◌∷◌, filter, fold, map, Result, Ok, Err}
use Rattle.rhythm_base.specs.declared.event.Signature.{Signature}
use Rattle.rhythm_base.specs.declared.event.Tempo.{Tempo}
use Rattle.rhythm_base.specs.Time.{tempo_at}
use Rattle.performance_load.specs.Take.{Take}
use Rattle.performance_prepare.specs.Shift.{shifted_take, unless_late}
use Rattle.performance_prepare.specs.Upbeat.{is_out}
use Rattle.performance_prepare.specs.declared.prepare_fault.PrepareFault.{PrepareFault}
use Rattle.performance_prepare.specs.declared.prepare_fault.PrepareFault.TheVariants.{WrongDivision}
use Rattle.performance_prepare.specs.declared.shift.Shift.{Shift}

-- a number over another, of which twice as much is no more than 64 bits hold
pub record IsRatio (a b : ℕ) : Type 0 where
  pub some : 1 ≤ b
  pub small : b ≤ 1000000000000
  pub low : a ≤ 1000000000000000

-- a over b, to the nearest whole number, halves up
abbrev pub rounded : ℕ → ℕ → ℕ
rounded a b = (2 * a + b) / (2 * b)

-- A quarter of the new tempo is no whole number of ticks, so ticks are made finer by a power of two: the least with which a
-- quarter of the file has more than 4,096. It is sought by doubling, thirteen times at most
unfoldable pub finer : ℕ → ℕ → ℕ → ℕ
finer zero division times = times
finer (suc doublings) division times = if nat_lt 8192 (2 * times * division) then times else finer doublings division (2 * times)

unfoldable pub fineness : ℕ → ℕ
fineness division = finer 13 division 1

-- a bar has a whole number of ticks where a quarter has so many
abbrev pub makes_whole : Signature → ℕ → Bool
makes_whole s quarter = (4 * quarter * s.num) % (2 ^ s.dd) == 0

-- the least number of ticks of a quarter that makes a bar whole; 1 for a signature out of range
abbrev pub quarter_parts : Signature → ℕ
quarter_parts s =
    if is_out (s.num, s.dd) || makes_whole s 1 then 1 else (if makes_whole s 2 then 2 else (if makes_whole s 4 then 4
    else (if makes_whole s 8 then 8 else 16)))

-- the least that makes the bars of all signatures whole, as these numbers are powers of two
abbrev pub bar_parts : List Signature → ℕ
bar_parts signatures = fold (λ n m. max n m) 1 (map quarter_parts signatures)

-- ticks of a quarter of the finer ticks
abbrev pub fine_division : Take → ℕ
fine_division t = t.division * fineness t.division

-- ticks of a quarter where so many of them last a minute in a tempo, of quarters of `old` ticks: a multiple of what makes all
-- bars whole
abbrev pub division_of : ℕ → ℕ → ℕ → ℕ → ℕ
division_of old parts quarters first = parts * rounded (old * 60000000) (parts * quarters * first)

abbrev pub new_division : ℕ → Take → ℕ
new_division quarters t = division_of (fine_division t) (bar_parts t.signatures) quarters (tempo_at t.tempos 0)

-- the tempo in proportion, so that a tick lasts as long as before
abbrev pub scaled : ℕ → ℕ → ℕ → ℕ
scaled new old micros = min SLOWEST_TEMPO (max 1 (rounded (micros * new) old))

abbrev pub scaled_tempo : ℕ → ℕ → Tempo → Tempo
scaled_tempo new old x = record x { micros = scaled new old x.micros }

-- the tempo from the beginning on, and the later ones
abbrev pub scaled_tempos : ℕ → ℕ → ℕ → List Tempo → List Tempo
scaled_tempos new old first tempos =
    record { tick = 0; micros = scaled new old first } ∷ map (scaled_tempo new old) (filter (λ x. not (x.tick == 0)) tempos)

-- the take with this division in place of the old one
abbrev pub retimed : ℕ → ℕ → ℕ → Take → Take
retimed new old first t = record t { division = new; tempos = scaled_tempos new old first t.tempos }

abbrev pub then_retimed : ℕ → ℕ → ℕ → Result Take PrepareFault → Result Take PrepareFault
then_retimed new old first (Err fault) = Err fault
then_retimed new old first (Ok t) = Ok (retimed new old first t)

abbrev pub finer_shift : Take → Shift
finer_shift t = record { times = fineness t.division; later = 0; earlier = 0 }

-- what lasted a second goes on lasting a second, and a quarter is as long as is told
abbrev pub with_tempo : ℕ → Take → Result Take PrepareFault
with_tempo quarters t =
    if (new_division quarters t == 0) || nat_lt MOST_DIVISION (new_division quarters t) then Err (WrongDivision (new_division quarters t))
    else then_retimed (new_division quarters t) (fine_division t) (tempo_at t.tempos 0) (unless_late (shifted_take (finer_shift t) t))
