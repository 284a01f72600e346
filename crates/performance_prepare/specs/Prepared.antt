-- A take prepared by options.
use Rattle.std.specs.Prelude.{ℕ, Bool, true, false, max, Option, Some, None, Result, Ok}
use Rattle.performance_load.specs.Take.{Take}
use Rattle.performance_prepare.specs.Drums.{without_drums}
use Rattle.performance_prepare.specs.Hands.{with_hands}
use Rattle.performance_prepare.specs.Keying.{with_key}
use Rattle.performance_prepare.specs.Meter.{with_meter}
use Rattle.performance_prepare.specs.Outcome.{◌>>=◌}
use Rattle.performance_prepare.specs.Split.{with_split}
use Rattle.performance_prepare.specs.Strum.{with_strum}
use Rattle.performance_prepare.specs.Tempo.{with_tempo}
use Rattle.performance_prepare.specs.Upbeat.{with_upbeat}
use Rattle.performance_prepare.specs.declared.options.Options.{Options}
use Rattle.performance_prepare.specs.declared.prepare_fault.PrepareFault.{PrepareFault}

-- ---- what is not told changes nothing

abbrev pub if_told : (Take → Result Take PrepareFault) → Bool → Take → Result Take PrepareFault
if_told map false t = Ok t
if_told map true t = map t

abbrev pub given : {X : Type 0} → (X → Take → Result Take PrepareFault) → Option X → Take → Result Take PrepareFault
given map None t = Ok t
given map (Some x) t = map x t

-- by a map that has no fault
abbrev pub changed : {X : Type 0} → (X → Take → Take) → Option X → Take → Result Take PrepareFault
changed map None t = Ok t
changed map (Some x) t = Ok (map x t)

-- a chord that is rolled has to go to one hand: notes of a group begin within 15 ms from note to note, and within those of a strum
-- where they are more
abbrev pub group_reach : Option ℕ → ℕ
group_reach None = 15
group_reach (Some within) = max within 15

abbrev pub handed_by : Option ℕ → ℕ → Take → Result Take PrepareFault
handed_by strum channel t = with_hands channel (group_reach strum) t

-- ---- all maps, in this order: the upbeat needs the length of a bar, so meter and tempo come before it

abbrev pub prepared : Options → Take → Result Take PrepareFault
prepared o t = do
  pitched ← if_told without_drums o.no_drums t
  split ← given with_split o.split pitched
  handed ← given (handed_by o.strum) o.hands split
  strummed ← changed with_strum o.strum handed
  metered ← changed with_meter o.meter strummed
  timed ← given with_tempo o.tempo metered
  placed ← given with_upbeat o.upbeat timed
  changed with_key o.key placed
