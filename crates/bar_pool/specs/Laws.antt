use Rattle.std.specs.Prelude.{ℕ, List}
use Rattle.bar_pool.specs.Draws.{AreLawful, Draws, Event, IsRun, first_draws}

-- any events in any order, from the start on, leave draws that meet the law
abbrev pub DrawsKeepTheirLaw : Type 0
DrawsKeepTheirLaw =
    (inputs workers : ℕ) (events : List Event) (draws : Draws)
    → IsRun inputs events (first_draws workers) draws → AreLawful inputs workers draws
