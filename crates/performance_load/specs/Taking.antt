-- The take that a MIDI file says, and the performance of a take.
use Rattle.rhythm_base.specs.declared.limits.TheConstants.{LATEST_EVENT, MOST_DIVISION, MOST_NOTES}
use Rattle.std.specs.Prelude.{◌≡◌, ℕ, ◌≤◌, List, [], length, map, All, Result, Ok, Err, ⊤}
use Rattle.std.specs.List.Sorted.{IsNonDecreasing}
use Rattle.note_list.specs.Pairing.{ArePaired, IsNoteFault, IsPlayed}
use Rattle.note_list.specs.declared.fault.NoteFault.{NoteFault}
use Rattle.note_list.specs.declared.fault.NoteFault.TheVariants as note
use Rattle.rhythm_base.specs.declared.event.Event.{Event}
use Rattle.rhythm_base.specs.Bars.{IsLaying}
use Rattle.rhythm_base.specs.Lists.{AreInOrder}
use Rattle.rhythm_base.specs.Performance.{IsKeyMark, IsTempo, Performance, place_of_note}
use Rattle.rhythm_base.specs.Time.{keys_of, signatures_of, tempos_of}
use Rattle.smf_reader.specs.Played.{Smf}
use Rattle.performance_load.specs.Loading.{AreMergedOf, AreVoicesOf, greatest_end, greatest_onset, last_tick}
use Rattle.performance_load.specs.Take.{Take}
use Rattle.performance_load.specs.declared.load_fault.LoadFault.{LoadFault}
use Rattle.performance_load.specs.declared.load_fault.LoadFault.TheVariants.{Notes, Bars, Memory}

-- the take of a file: the notes, tempos, keys and signatures of its events
pub record IsTake (f : Smf) (t : Take) : Type 0 where
  pub events : List Event
  pub merged : AreMergedOf f events
  pub division : t.division ≡ f.division
  pub notes : ArePaired (last_tick f) events t.notes
  pub tempos : t.tempos ≡ tempos_of events
  pub key_marks : t.key_marks ≡ keys_of events
  pub signatures : t.signatures ≡ signatures_of events

-- what taking a file comes to: its take, or what is wrong with its notes. Want of memory says nothing
abbrev pub Takes : Smf → Result Take NoteFault → Type 0
Takes f (Ok t) = IsTake f t
Takes f (Err note.Memory) = ⊤
Takes f (Err fault) = (events : List Event) × AreMergedOf f events × IsNoteFault (last_tick f) events fault

-- the performance of a take: the fewest bars that hold its notes, a voice for each channel with a note, and no pins
pub record IsLoadedOf (t : Take) (p : Performance) : Type 0 where
  pub division : p.division ≡ t.division
  pub tempos : p.tempos ≡ t.tempos
  pub key_marks : p.key_marks ≡ t.key_marks
  pub notes : p.notes ≡ t.notes
  pub bars : IsLaying t.division t.signatures (greatest_onset t.notes) (greatest_end t.notes) (Ok (p.bars, p.last))
  pub voices : AreVoicesOf t.notes p.channels
  pub pins : p.pins ≡ []

-- what loading a take comes to: its performance, or the first bar that cannot be laid. Want of memory says nothing
abbrev pub LoadsTake : Take → Result Performance LoadFault → Type 0
LoadsTake t (Ok p) = IsLoadedOf t p
LoadsTake t (Err (Notes fault)) = ⊥
LoadsTake t (Err (Bars fault)) = IsLaying t.division t.signatures (greatest_onset t.notes) (greatest_end t.notes) (Err fault)
LoadsTake t (Err Memory) = ⊤

-- what every take keeps, so that it can be loaded: notes in their order that end at 1,000,000,000 at most, tempos and keys in
-- range, and all changes by tick
pub record IsTakeFormed (t : Take) : Type 0 where
  pub division_low : 1 ≤ t.division
  pub division_high : t.division ≤ MOST_DIVISION
  pub some_note : 1 ≤ length t.notes
  pub few_notes : length t.notes ≤ MOST_NOTES
  pub notes : All (IsPlayed LATEST_EVENT) t.notes
  pub notes_in_order : AreInOrder place_of_note t.notes
  pub tempos : All IsTempo t.tempos
  pub tempos_in_order : IsNonDecreasing (map (λ x. x.tick) t.tempos)
  pub key_marks : All IsKeyMark t.key_marks
  pub key_marks_in_order : IsNonDecreasing (map (λ x. x.tick) t.key_marks)
  pub signatures_in_order : IsNonDecreasing (map (λ x. x.tick) t.signatures)

-- no change of tempo, key or signature is later than a tick
pub record AreMarksUpTo (latest : ℕ) (t : Take) : Type 0 where
  pub tempos : All (λ x. x.tick ≤ latest) t.tempos
  pub key_marks : All (λ x. x.tick ≤ latest) t.key_marks
  pub signatures : All (λ x. x.tick ≤ latest) t.signatures
