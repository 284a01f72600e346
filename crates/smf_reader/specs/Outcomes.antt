-- Each file says one thing or has one fault, and never both; a track is read to its end, and a file to its last track.
use Rattle.std.specs.Prelude.{◌≡◌, ◌⊎◌, ◌<◌, ◌≤◌, ℕ, suc, if◌then◌else◌, List, [], ◌∷◌, length, take, Option, Ok, Err}
use Rattle.smf_reader.specs.declared.fault.SmfFault.{SmfFault}
use Rattle.smf_reader.specs.declared.fault.SmfFault.TheVariants.{Memory}
use Rattle.smf_reader.specs.Played.{Smf}
use Rattle.smf_reader.specs.SmfFile.{smf}
use Rattle.smf_reader.specs.Outcome.{◌>>=◌}
use Rattle.smf_reader.specs.Event.{event}
use Rattle.smf_reader.specs.Chunk.{chunk, tracks}
use Rattle.smf_reader.specs.Track.{silence, followed, events, track}

-- the file says this
abbrev pub SaysFile : List ℕ → Smf → Type 0
SaysFile bytes played = smf bytes ≡ Ok played

-- this fault stands in the file: the parts before its place are whole, and its condition is the first to hold there
abbrev pub FaultStands : List ℕ → SmfFault → Type 0
FaultStands bytes fault = smf bytes ≡ Err fault

pub record HasOneOutcome (bytes : List ℕ) : Type 0 where
  pub some_outcome : ((played : Smf) × SaysFile bytes played) ⊎ ((fault : SmfFault) × FaultStands bytes fault)
  pub one_reading : (p q : Smf) → SaysFile bytes p → SaysFile bytes q → p ≡ q
  pub one_fault : (e f : SmfFault) → FaultStands bytes e → FaultStands bytes f → e ≡ f
  pub never_both : (played : Smf) (fault : SmfFault) → SaysFile bytes played → FaultStands bytes fault → ⊥
  pub never_memory : FaultStands bytes Memory → ⊥

-- the events from a place on are read by their parts alone, up to an end of track or the chunk's end: the bound on their
-- number, the number of the bytes, cuts nothing off
pub record IsReadToItsEnd (bytes : List ℕ) : Type 0 where
  pub over : (tick : ℕ) (running : Option ℕ) (p : ℕ) → length bytes ≤ p → events (length bytes) bytes tick running p ≡ Ok (silence tick)
  pub on : (tick : ℕ) (running : Option ℕ) (p : ℕ) → p < length bytes
      → events (length bytes) bytes tick running p ≡ (event bytes tick running p >>= λ step. followed step.meaning step.tick (events (length bytes) bytes step.tick step.running step.next))

-- so many tracks from a place on are read by their chunks alone: the bound on the number of the chunks, the number of the bytes,
-- cuts nothing off
pub record IsReadToItsLastTrack (bytes : List ℕ) : Type 0 where
  pub over : (p : ℕ) → tracks (length bytes) 0 bytes p ≡ Ok []
  pub on : (count p : ℕ) → tracks (length bytes) (suc count) bytes p
      ≡ (chunk bytes p >>= λ c. if c.is_track then (track (take c.end bytes) c.begin >>= λ first. tracks (length bytes) count bytes c.end >>= λ others. Ok (first ∷ others))
      else tracks (length bytes) (suc count) bytes c.end)
