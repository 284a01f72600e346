-- Files that can be written, and their bytes.
use Rattle.std.specs.Prelude.{ℕ, ◌<◌, ◌≤◌, List, [], ◌∷◌, All, length, map}
use Rattle.rhythm_base.specs.declared.event.Event.{Event}
use Rattle.rhythm_base.specs.declared.limits.TheConstants.{MOST_DIVISION}
use Rattle.smf_bytes.specs.Chunk.{file_bytes}
use Rattle.smf_bytes.specs.Track.{content_bytes}
use Rattle.smf_bytes.specs.declared.quantity.TheConstants.{GREATEST_QUANTITY}
use Rattle.smf_reader.specs.Played.{Smf, Track}
use Rattle.smf_reader.specs.Ranges.{IsSaid}

-- events from tick t on, whose ticks do not fall, up to the last tick
abbrev pub AreLater : ℕ → List Event → ℕ → Type 0
AreLater t [] last = t ≤ last
AreLater t (e ∷ events) last = (t ≤ e.tick) × IsSaid e.what × AreLater e.tick events last

-- the bytes of a track's content
abbrev pub written_track : Track → List ℕ
written_track t = content_bytes t.events t.last

-- a track can be written: its events are in order, its last tick is a quantity, and the length of its content a number of four bytes
pub record IsWritableTrack (t : Track) : Type 0 where
  pub later : AreLater 0 t.events t.last
  pub early : t.last ≤ GREATEST_QUANTITY
  pub short : length (written_track t) < 4294967296

-- the bytes of a file
abbrev pub written_file : Smf → List ℕ
written_file f = file_bytes f.division (map written_track f.tracks)

pub record IsWritableFile (f : Smf) : Type 0 where
  pub some_tick : 1 ≤ f.division
  pub few_ticks : f.division ≤ MOST_DIVISION
  pub few_tracks : length f.tracks < 65536
  pub tracks : All IsWritableTrack f.tracks
