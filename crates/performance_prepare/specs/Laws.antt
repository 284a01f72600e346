-- What holds of prepared takes and of their performances.
use Rattle.rhythm_base.specs.declared.limits.TheConstants.{SLOWEST_TEMPO}
use Rattle.std.specs.Prelude.{◌≡◌, ◌≢◌, ◌↔◌, ℕ, ◌+◌, ◌*◌, ◌<◌, ◌≤◌, false, List, length, map, slice_index_or, All, Contains, Ok}
use Rattle.std.specs.List.Sorted.{IsPermutation}
use Rattle.rhythm_base.specs.Lists.{gap}
use Rattle.rhythm_base.specs.Performance.{IsWellFormed, Performance}
use Rattle.rhythm_base.specs.declared.note.Note.{Note}
use Rattle.smf_reader.specs.Played.{Smf}
use Rattle.smf_reader.specs.Ranges.{IsPlayedFile}
use Rattle.performance_load.specs.Loading.{IsLoaded}
use Rattle.performance_load.specs.Take.{Take}
use Rattle.performance_load.specs.Taking.{IsLoadedOf, IsTake, IsTakeFormed}
use Rattle.performance_prepare.specs.Drums.{drum_channel, without_drums}
use Rattle.performance_prepare.specs.Prepared.{prepared}
use Rattle.performance_prepare.specs.Ranges.{AreInRange}
pub use Rattle.performance_prepare.specs.Ranges.{no_options}
use Rattle.performance_prepare.specs.Split.{is_split, with_split}
use Rattle.performance_prepare.specs.Tempo.{rounded, scaled, with_tempo}
use Rattle.performance_prepare.specs.Upbeat.{with_upbeat}
use Rattle.performance_prepare.specs.declared.options.Fraction.{Fraction}
use Rattle.performance_prepare.specs.declared.options.Options.{Options}

-- the performance of a file by options: that which is loaded of the file's take after the maps
pub record IsPrepared (o : Options) (f : Smf) (p : Performance) : Type 0 where
  pub played : Take
  pub take : Take
  pub taken : IsTake f played
  pub mapped : prepared o played ≡ Ok take
  pub loaded : IsLoadedOf take p

-- without options the performance of a file is as ever
abbrev pub NoOptionsChangeNothing : Type 0
NoOptionsChangeNothing = (f : Smf) (p : Performance) → IsPrepared no_options f p ↔ IsLoaded f p

-- options and a file decide the performance
abbrev pub PreparedPerformancesAreOne : Type 0
PreparedPerformancesAreOne = (o : Options) (f : Smf) (p q : Performance) → IsPrepared o f p → IsPrepared o f q → p ≡ q

-- the performance of a file by options is well formed
abbrev pub PreparedPerformancesAreWellFormed : Type 0
PreparedPerformancesAreWellFormed =
    (o : Options) (f : Smf) (p : Performance) → AreInRange o → IsPlayedFile f → IsPrepared o f p → IsWellFormed p

-- no note of the channel of drums is left, and all others are
pub record AreWithoutDrums (notes others : List Note) : Type 0 where
  pub out : All (λ n. n.channel ≢ drum_channel) others
  pub kept : (n : Note) → n.channel ≢ drum_channel → Contains notes n → Contains others n
  pub same : (n : Note) → Contains others n → Contains notes n

abbrev pub DrumsAreOut : Type 0
DrumsAreOut = (t u : Take) → without_drums t ≡ Ok u → AreWithoutDrums t.notes u.notes

-- a note but for its channel
abbrev pub unvoiced : Note → Note
unvoiced n = record n { channel = 0 }

-- but for their channels the notes are the same in another order, and those of a channel that is not split stay
pub record AreSplit (key : ℕ) (notes others : List Note) : Type 0 where
  pub same : IsPermutation (map unvoiced notes) (map unvoiced others)
  pub stay : (n : Note) → is_split key notes n.channel ≡ false → Contains notes n → Contains others n

abbrev pub SplitsKeepNotes : Type 0
SplitsKeepNotes = (key : ℕ) (t u : Take) → with_split key t ≡ Ok u → AreSplit key t.notes u.notes

-- a note so many times as late, so much later and so much earlier
pub record IsMoved (times later earlier : ℕ) (n m : Note) : Type 0 where
  pub channel : m.channel ≡ n.channel
  pub key : m.key ≡ n.key
  pub onset : m.onset + earlier ≡ n.onset * times + later
  pub end : m.end + earlier ≡ n.end * times + later

-- all notes, each like the others
pub record AreMoved (times later earlier : ℕ) (notes others : List Note) : Type 0 where
  pub many : length others ≡ length notes
  pub each : (k : ℕ) (d : Note) → k < length notes → IsMoved times later earlier (slice_index_or notes k d) (slice_index_or others k d)

-- an upbeat moves all notes by the same, so that all lengths and the times between onsets stay
abbrev pub UpbeatsKeepDistances : Type 0
UpbeatsKeepDistances =
    (f : Fraction) (t u : Take) → IsTakeFormed t → with_upbeat f t ≡ Ok u → (later earlier : ℕ) × AreMoved 1 later earlier t.notes u.notes

-- a tempo makes ticks finer and moves no note
abbrev pub TemposKeepPlaces : Type 0
TemposKeepPlaces =
    (quarters : ℕ) (t u : Take) → IsTakeFormed t → with_tempo quarters t ≡ Ok u
    → (times : ℕ) × (1 ≤ times) × AreMoved times 0 0 t.notes u.notes

-- in its tempo in proportion a tick lasts as long as before, but for half a microsecond a quarter
abbrev pub TemposKeepTime : Type 0
TemposKeepTime =
    (new old micros : ℕ) → 1 ≤ old → 1 ≤ rounded (micros * new) old → rounded (micros * new) old ≤ SLOWEST_TEMPO
    → 2 * gap (scaled new old micros * old) (micros * new) ≤ old
