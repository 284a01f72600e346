-- The file of a piece is in the ranges of what a file can say, so its performance is well formed.
use Rattle.std.proofs.Common.{ℕ, zero, suc, ◌≤◌, List, [], ◌∷◌, map, subst, arith}
use Rattle.std.specs.Prelude.{All}
use Rattle.performance_load.proofs.EventLemmas.{Up, up_to}
use Rattle.performance_load.proofs.Formed.{loaded_formed}
use Rattle.performance_load.specs.Loading.{IsLoaded}
use Rattle.piece_laws.specs.Events.{meant_file}
use Rattle.piece_laws.specs.Laws.{PiecesAreWellFormed}
use Rattle.piece_laws.proofs.Files.{piece_writable}
use Rattle.piece_laws.proofs.PieceBars.{says_piece}
use Rattle.rhythm_base.specs.declared.event.Event.{Event}
use Rattle.smf_laws.specs.Written.{AreLater, IsWritableTrack, IsWritableFile}
use Rattle.smf_laws.proofs.Tracks.{later_within}
use Rattle.smf_reader.specs.Played.{Smf, Track}
use Rattle.smf_reader.specs.Ranges.{IsPlayedFile, IsPlayedTrack, IsSaid}

later_up : (t last : ℕ) (events : List Event) → AreLater t events last → Up t (map (λ e. e.tick) events)
later_up t last [] later = tt
later_up t last (e ∷ events) later = (later.0, later_up e.tick last events later.2)

later_said : (t last : ℕ) (events : List Event) → AreLater t events last → All (λ e. (e.tick ≤ last) × IsSaid e.what) events
later_said t last [] later k d lt = absurd (omega (arith, lt))
later_said t last (e ∷ events) later zero d lt = (later_within e.tick last events later.2, later.1)
later_said t last (e ∷ events) later (suc k) d lt = later_said e.tick last events later.2 k d (omega (arith, lt))

-- what can be written is in these ranges
track_played : (t : Track) → IsWritableTrack t → IsPlayedTrack t
track_played t h = record {
  in_order = up_to 0 (map (λ e. e.tick) t.events) (later_up 0 t.last t.events h.later);
  within = λ k d lt. (later_said 0 t.last t.events h.later k d lt).0;
  said = λ k d lt. (later_said 0 t.last t.events h.later k d lt).1;
  few_ticks = omega (arith, h.early);
}

pub file_played : (f : Smf) → IsWritableFile f → IsPlayedFile f
file_played f h = record { some_tick = h.some_tick; few_ticks = h.few_ticks; tracks = λ k d lt. track_played _ (h.tracks k d lt) }

pub pieces_formed : PiecesAreWellFormed
pieces_formed number bars p h =
    let played = file_played (meant_file number bars) (piece_writable number bars h.few_bars) in
    loaded_formed (meant_file number bars) p played (subst (λ f. IsLoaded f p) (says_piece number bars h.file h.few_bars h.says) h.loads)
