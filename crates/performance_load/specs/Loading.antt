-- The performance that a MIDI file says, or why there is none.
use Rattle.std.specs.Prelude.{◌≡◌, ◌≢◌, ℕ, ◌↔◌, List, [], map, Any, Contains, Result, Ok, Err, ⊤}
use Rattle.std.specs.List.Sorted.{IsStrictlyIncreasing}
use Rattle.note_list.specs.Pairing.{ArePaired, IsNoteFault}
use Rattle.note_list.specs.declared.fault.NoteFault.{NoteFault}
use Rattle.note_list.specs.declared.fault.NoteFault.TheVariants as note
use Rattle.rhythm_base.specs.declared.bar_fault.BarFault.{BarFault}
use Rattle.rhythm_base.specs.declared.bar_fault.BarFault.TheVariants as laying
use Rattle.rhythm_base.specs.declared.event.Event.{Event}
use Rattle.rhythm_base.specs.declared.note.Note.{Note}
use Rattle.rhythm_base.specs.Bars.{IsLaying}
use Rattle.rhythm_base.specs.Events.{IsMerged}
use Rattle.rhythm_base.specs.Performance.{IsWellFormed, Performance}
use Rattle.rhythm_base.specs.Time.{keys_of, signatures_of, tempos_of}
use Rattle.rhythm_base.specs.Lists.{greatest}
use Rattle.smf_reader.specs.Played.{Smf}
use Rattle.smf_reader.specs.Ranges.{IsPlayedFile}
use Rattle.performance_load.specs.declared.load_fault.LoadFault.{LoadFault}
use Rattle.performance_load.specs.declared.load_fault.LoadFault.TheVariants.{Notes, Bars, Memory}

abbrev pub greatest_onset : List Note → ℕ
greatest_onset notes = greatest (map (λ n. n.onset) notes)

abbrev pub greatest_end : List Note → ℕ
greatest_end notes = greatest (map (λ n. n.end) notes)

-- the tick of the file's last event of any kind
abbrev pub last_tick : Smf → ℕ
last_tick f = greatest (map (λ t. t.last) f.tracks)

-- there is a voice for each channel that has a note, by rising channel
pub record AreVoicesOf (notes : List Note) (channels : List ℕ) : Type 0 where
  pub rise : IsStrictlyIncreasing channels
  pub exactly : (c : ℕ) → Contains channels c ↔ Any (λ n. n.channel ≡ c) notes

-- the events of all tracks, by tick
abbrev pub AreMergedOf : Smf → List Event → Type 0
AreMergedOf f events = IsMerged (map (λ t. t.events) f.tracks) events

-- the performance of a file: its tempos, keys and notes, the fewest bars that hold the notes, a voice for each channel with a
-- note, and no pins
pub record IsLoaded (f : Smf) (p : Performance) : Type 0 where
  pub events : List Event
  pub merged : AreMergedOf f events
  pub division : p.division ≡ f.division
  pub tempos : p.tempos ≡ tempos_of events
  pub key_marks : p.key_marks ≡ keys_of events
  pub notes : ArePaired (last_tick f) events p.notes
  pub bars : IsLaying f.division (signatures_of events) (greatest_onset p.notes) (greatest_end p.notes) (Ok (p.bars, p.last))
  pub voices : AreVoicesOf p.notes p.channels
  pub pins : p.pins ≡ []

-- what loading a file comes to: its performance; else what is wrong with its notes; else, where these are right, the first bar
-- that cannot be laid. Want of memory says nothing
abbrev pub Loads : Smf → Result Performance LoadFault → Type 0
Loads f (Ok p) = IsLoaded f p
Loads f (Err (Notes fault)) = (events : List Event) × AreMergedOf f events × IsNoteFault (last_tick f) events fault × (fault ≢ note.Memory)
Loads f (Err (Bars fault)) =
    (events : List Event) × (notes : List Note) × AreMergedOf f events × ArePaired (last_tick f) events notes
    × IsLaying f.division (signatures_of events) (greatest_onset notes) (greatest_end notes) (Err fault)
Loads f (Err Memory) = ⊤

-- a file loads to one performance, or has one fault, but for want of memory
abbrev pub LoadingsAreOne : Type 0
LoadingsAreOne = (f : Smf) (r s : Result Performance LoadFault) → Loads f r → Loads f s → r ≢ Err Memory → s ≢ Err Memory → r ≡ s

-- the performance of a file that is in the ranges of what a file can say is well formed
abbrev pub LoadedPerformancesAreWellFormed : Type 0
LoadedPerformancesAreWellFormed = (f : Smf) (p : Performance) → IsPlayedFile f → IsLoaded f p → IsWellFormed p

-- a fault of the layer below as one of loading
abbrev pub note_fault_gives : NoteFault → LoadFault
note_fault_gives note.Memory = Memory
note_fault_gives note.NoNotes = Notes note.NoNotes
note_fault_gives (note.TooManyNotes count) = Notes (note.TooManyNotes count)

abbrev pub bar_fault_gives : BarFault → LoadFault
bar_fault_gives laying.Memory = Memory
bar_fault_gives (laying.TooManyBars start) = Bars (laying.TooManyBars start)
bar_fault_gives (laying.BadSignature num dd) = Bars (laying.BadSignature num dd)
bar_fault_gives (laying.UnevenBar number num den) = Bars (laying.UnevenBar number num den)
