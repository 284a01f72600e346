-- What is read of the MIDI file of a score.
use Rattle.std.specs.Prelude.{◌≡◌, ℕ, ◌*◌, Bool, true, false, List, [], ◌∷◌, ◌++◌, filter, Ok}
use Rattle.std.proofs.Common.{suc}
use Rattle.rhythm_base.specs.declared.event.Event.{Event}
use Rattle.rhythm_base.specs.declared.event.What.{What}
use Rattle.rhythm_base.specs.declared.event.What.TheVariants.{On, Off}
use Rattle.rhythm_base.specs.declared.note.Note.{Note}
use Rattle.rhythm_base.specs.Notes.{AreNotes}
use Rattle.derivation.specs.declared.score.ScoreBar.{ScoreBar}
use Rattle.voice_events.specs.declared.event.KernEvent.{KernEvent}
use Rattle.rhythm_base.specs.Bars.{IsLaying}
use Rattle.rhythm_base.specs.Performance.{Performance}
use Rattle.rhythm_base.specs.Time.{keys_of, signatures_of, tempos_of}
use Rattle.performance_load.specs.Loading.{AreMergedOf, AreVoicesOf, IsLoaded, greatest_end, greatest_onset, last_tick}
use Rattle.smf_reader.specs.Outcomes.{SaysFile}
use Rattle.smf_reader.specs.Played.{Smf}
use Rattle.smf_writer.specs.Changes.{conductor}
use Rattle.smf_writer.specs.EventNotes.{AreKept}
use Rattle.smf_writer.specs.RenderedFile.{spine_notes}
use Rattle.voice_events.specs.Parts.{score_parts}

-- the kept notes of the spines from this number on, a channel each, spine after spine
abbrev pub AreSpineNotesFrom : ℕ → List KernEvent → ℕ → List ℕ → List Note → Type 0
AreSpineNotesFrom resolution events spine [] notes = notes ≡ []
AreSpineNotesFrom resolution events spine (channel ∷ channels) notes =
    (own : List Note) × (others : List Note) × AreKept (spine_notes resolution channel spine events) own
    × AreSpineNotesFrom resolution events (suc spine) channels others × (notes ≡ own ++ others)

-- it changes the tempo, the signature or the key
abbrev pub is_change : What → Bool
is_change (On channel key) = false
is_change (Off channel key) = false
is_change _ = true

-- a performance of exactly these notes, with the tempos and keys of the bars, and bars laid by their signatures that hold the notes
pub record IsRenderedPerformance (resolution : ℕ) (sbars : List ScoreBar) (kept : List Note) (p : Performance) : Type 0 where
  pub division : p.division ≡ 16 * resolution
  pub notes : p.notes ≡ kept
  pub tempos : p.tempos ≡ tempos_of (conductor resolution sbars)
  pub key_marks : p.key_marks ≡ keys_of (conductor resolution sbars)
  pub bars : IsLaying (16 * resolution) (signatures_of (conductor resolution sbars)) (greatest_onset kept) (greatest_end kept)
      (Ok (p.bars, p.last))
  pub voices : AreVoicesOf kept p.channels
  pub pins : p.pins ≡ []

-- The bytes say a file. It has 16 * R ticks to the quarter note, and its last tick is the last barline's. Its events are one
-- list, whose notes are the kept notes, and whose changes are those of the bars. Whatever performance the file loads to is that.
pub record RendersBack (resolution : ℕ) (bars : List ScoreBar) (channels : List ℕ) (events : List KernEvent) (bytes : List ℕ) : Type 0 where
  pub file : Smf
  pub says : SaysFile bytes file
  pub division : file.division ≡ 16 * resolution
  pub last : last_tick file ≡ score_parts resolution bars
  pub notes : List Note
  pub are_notes : AreSpineNotesFrom resolution events 1 channels notes
  pub merged : List Event
  pub is_merged : AreMergedOf file merged
  pub played : (merged : List Event) → AreMergedOf file merged → AreNotes (last_tick file) merged notes
  pub changed : (merged : List Event) → AreMergedOf file merged → filter (λ e. is_change e.what) merged ≡ conductor resolution bars
  pub loaded : (p : Performance) → IsLoaded file p → IsRenderedPerformance resolution bars notes p
