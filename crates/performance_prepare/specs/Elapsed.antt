-- How long it is from tick to tick.
use Rattle.std.specs.Prelude.{ℕ, ◌-◌, ◌*◌, ◌≤◌, List}
use Rattle.rhythm_base.specs.declared.event.Tempo.{Tempo}
use Rattle.rhythm_base.specs.Time.{time}
use Rattle.rhythm_base.specs.declared.limits.TheConstants.{LATEST_EVENT}

-- so many milliseconds, in microseconds times the division, as elapsed time is counted
abbrev pub milliseconds : ℕ → ℕ → ℕ
milliseconds division count = count * 1000 * division

-- the time from a tick to another, none where that is not later
abbrev pub time_between : List Tempo → ℕ → ℕ → ℕ
time_between tempos from to = time tempos to - time tempos from

-- two ticks that events of a file can have
pub record AreInFile (from to : ℕ) : Type 0 where
  pub early : from ≤ LATEST_EVENT
  pub late : to ≤ LATEST_EVENT
