-- The laws, each as one statement over the definitions.
use Rattle.std.specs.Prelude.{◌≡◌, ℕ, ◌+◌, ◌≤◌, List, ◌++◌, drop, length, Ok}
use Rattle.smf_bytes.specs.Quantity.{quantity_bytes}
use Rattle.smf_bytes.specs.declared.quantity.TheConstants.{GREATEST_QUANTITY}
use Rattle.smf_reader.specs.Outcomes.{SaysFile}
use Rattle.smf_reader.specs.Played.{Smf, Track}
use Rattle.smf_reader.specs.Quantity.{quantity}
use Rattle.smf_reader.specs.Track.{track}
use Rattle.smf_laws.specs.Written.{IsWritableTrack, IsWritableFile, written_file, written_track}

-- a quantity that stands at a place is read as its number, up to its end
abbrev pub QuantitiesReadBack : Type 0
QuantitiesReadBack =
    (bytes : List ℕ) (p n : ℕ) (rest : List ℕ) → n ≤ GREATEST_QUANTITY → drop p bytes ≡ quantity_bytes n ++ rest
    → quantity bytes p ≡ Ok (n, p + length (quantity_bytes n))

-- a track's content that stands from a place to the end is read as the track
abbrev pub TracksReadBack : Type 0
TracksReadBack = (t : Track) (bytes : List ℕ) (p : ℕ) → IsWritableTrack t → drop p bytes ≡ written_track t → track bytes p ≡ Ok t

-- the bytes of a file say the file
abbrev pub FilesReadBack : Type 0
FilesReadBack = (f : Smf) → IsWritableFile f → SaysFile (written_file f) f
