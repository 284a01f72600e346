-- The laws, each as one statement over the definitions.
use Rattle.std.specs.Prelude.{◌≡◌, ℕ, ◌*◌, ◌≤◌, length, Result, Ok, Err}
use Rattle.rhythm_base.specs.Performance.{IsWellFormed, Performance}
use Rattle.rhythm_gen.specs.MidiFile.{generated}
use Rattle.smf_reader.specs.Outcomes.{SaysFile}
use Rattle.smf_reader.specs.Played.{Smf}
use Rattle.performance_load.specs.Loading.{Loads}
use Rattle.performance_load.specs.declared.load_fault.LoadFault.{LoadFault}
use Rattle.performance_load.specs.declared.load_fault.LoadFault.TheVariants.{Memory}
use Rattle.piece_laws.specs.Events.{meant_file, meant_bars, meant_notes}

-- the file of a piece says the piece
abbrev pub PiecesAreRead : Type 0
PiecesAreRead = (number bars : ℕ) → bars ≤ 2000 → SaysFile (generated number bars) (meant_file number bars)

-- the file of a piece of 1 to 2000 bars, as it is read, loads to this
pub record IsLoadingOf (number bars : ℕ) (outcome : Result Performance LoadFault) : Type 0 where
  pub some_bar : 1 ≤ bars
  pub few_bars : bars ≤ 2000
  pub file : Smf
  pub says : SaysFile (generated number bars) file
  pub loads : Loads file outcome

-- it has no fault: where there is no performance, memory ran out
abbrev pub PiecesAreLoaded : Type 0
PiecesAreLoaded = (number bars : ℕ) (fault : LoadFault) → IsLoadingOf number bars (Err fault) → fault ≡ Memory

-- the performance has the bars that the piece was made of, and its last barline is where the last of them ends
pub record PiecesHaveTheirBars : Type 0 where
  pub count : (number bars : ℕ) (p : Performance) → IsLoadingOf number bars (Ok p) → length p.bars ≡ bars
  pub each : (number bars : ℕ) (p : Performance) → IsLoadingOf number bars (Ok p) → p.bars ≡ meant_bars bars
  pub last : (number bars : ℕ) (p : Performance) → IsLoadingOf number bars (Ok p) → p.last ≡ 1920 * bars

-- it has the notes that the piece was made of, and no other, at least twice as many as bars
pub record PiecesKeepTheirNotes : Type 0 where
  pub notes : (number bars : ℕ) (p : Performance) → IsLoadingOf number bars (Ok p) → p.notes ≡ meant_notes number bars
  pub many : (number bars : ℕ) (p : Performance) → IsLoadingOf number bars (Ok p) → 2 * bars ≤ length p.notes

-- it is well formed
abbrev pub PiecesAreWellFormed : Type 0
PiecesAreWellFormed = (number bars : ℕ) (p : Performance) → IsLoadingOf number bars (Ok p) → IsWellFormed p
