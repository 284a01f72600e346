-- What contracts see of the tables of a voice, and the least path over them.
use Rattle.std.specs.Prelude.{◌≡◌, ℕ, ◌≤◌, List, length, All, slice_get, take, Option, Some, IsSome, unwrap_or}
use Rattle.rhythm_base.specs.BarTables.{BarTable}
use Rattle.rhythm_base.specs.Paths.{IsDeadCell}
use Rattle.rhythm_base.specs.Ranked.{least_key}
use Rattle.chain_bars.specs.Laws.{matrices}
use Rattle.chain_bars.specs.Tower.{cost_of}

-- the table of each bar, and for how many bars there is memory
pub record VoiceTables : Type 0 where
  pub tables : List BarTable
  pub room : ℕ

-- what the least path over the tables costs, where there is a path
abbrev pub path_cost : List BarTable → Option ℕ
path_cost tables = cost_of (least_key (matrices tables) 0 0)

abbrev pub HasPath : VoiceTables → Type 0
HasPath voice = IsSome (path_cost voice.tables)

abbrev pub voice_cost : VoiceTables → ℕ
voice_cost voice = unwrap_or (path_cost voice.tables) 0

-- the first voice over whose tables no path leads, by its place, and its dead bar
pub record IsFirstDead (voices : List VoiceTables) (voice bar : ℕ) : Type 0 where
  pub it : VoiceTables
  pub there : slice_get voices voice ≡ Some it
  pub dead : IsDeadCell (matrices it.tables) bar
  pub first : All HasPath (take voice voices)

-- a table for each of so many bars
pub record HasTables (bars : ℕ) (voice : VoiceTables) : Type 0 where
  pub each : length voice.tables ≡ bars
  pub memory : bars ≤ voice.room

-- the same tables, and no less memory
pub record IsGrown (before after : VoiceTables) : Type 0 where
  pub tables : after.tables ≡ before.tables
  pub memory : before.room ≤ after.room
