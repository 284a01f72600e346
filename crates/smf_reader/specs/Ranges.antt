-- The ranges of what a file can say.
use Rattle.rhythm_base.specs.declared.limits.TheConstants.{LATEST_EVENT, MOST_DIVISION, SLOWEST_TEMPO}
use Rattle.std.specs.Prelude.{pos, negsuc, ◌≤ℤ◌, ◌<◌, ◌≤◌, ⊤, map, All}
use Rattle.std.specs.List.Sorted.{IsNonDecreasing}
use Rattle.rhythm_base.specs.declared.event.What.{What}
use Rattle.rhythm_base.specs.declared.event.What.TheVariants.{On, Off, Tempo, Signature, KeySig}
use Rattle.smf_reader.specs.Played.{Smf, Track}

-- channels are 0 to 15, keys 0 to 127, tempos 1 to 16,777,215 microseconds, keys seven flats to seven sharps; the numbers of a
-- signature are any bytes
abbrev pub IsSaid : What → Type 0
IsSaid (On channel key) = (channel < 16) × (key < 128)
IsSaid (Off channel key) = (channel < 16) × (key < 128)
IsSaid (Tempo micros) = (1 ≤ micros) × (micros ≤ SLOWEST_TEMPO)
IsSaid (Signature num dd) = ⊤
IsSaid (KeySig sf) = (negsuc 6 ≤ℤ sf) × (sf ≤ℤ pos 7)

-- ticks do not fall, and none is above the track's last, which is at most 1,000,000,000
pub record IsPlayedTrack (t : Track) : Type 0 where
  pub in_order : IsNonDecreasing (map (λ e. e.tick) t.events)
  pub within : All (λ e. e.tick ≤ t.last) t.events
  pub said : All (λ e. IsSaid e.what) t.events
  pub few_ticks : t.last ≤ LATEST_EVENT

pub record IsPlayedFile (f : Smf) : Type 0 where
  pub some_tick : 1 ≤ f.division
  pub few_ticks : f.division ≤ MOST_DIVISION
  pub tracks : All IsPlayedTrack f.tracks
