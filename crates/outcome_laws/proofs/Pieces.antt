-- The piece of a number is made.
use Rattle.std.proofs.Common.{◌≢◌, ℕ, ap, refl, arith, Result, Ok, Err}
use Rattle.drill_run.specs.declared.piece.TheConstants.{DRILL_BARS}
use Rattle.performance_load.specs.Loading.{Loads}
use Rattle.performance_load.specs.declared.load_fault.LoadFault.{LoadFault}
use Rattle.performance_load.specs.declared.load_fault.LoadFault.TheVariants.{Memory}
use Rattle.piece_laws.specs.Events.{meant_file}
use Rattle.piece_laws.specs.Laws.{IsLoadingOf}
use Rattle.piece_laws.proofs.Files.{piece_writable, pieces_read}
use Rattle.piece_laws.proofs.FormedPieces.{file_played}
use Rattle.piece_laws.proofs.PieceBars.{pieces_loaded}
use Rattle.rhythm_app.specs.Outcome.{IsPieceMade}
use Rattle.rhythm_app.specs.declared.stop.Stop.{Stop}
use Rattle.rhythm_base.specs.Performance.{Performance}
use Rattle.outcome_laws.proofs.Loadings.{some_loading}

module _ (number : ℕ) where
  loading_of : (r : Result Performance LoadFault) → Loads (meant_file number DRILL_BARS) r → IsLoadingOf number DRILL_BARS r
  loading_of r loads = record {
    some_bar = omega arith;
    few_bars = omega arith;
    file = meant_file number DRILL_BARS;
    says = pieces_read number DRILL_BARS (omega arith);
    loads = loads;
  }

  by_loading : (r : Result Performance LoadFault) → Loads (meant_file number DRILL_BARS) r → r ≢ Err Memory → (made : Result Performance Stop) × IsPieceMade number made
  by_loading (Ok p) loads other = (Ok p, (p, loading_of (Ok p) loads, refl))
  by_loading (Err fault) loads other = absurd (other (ap (λ f. Err f) (pieces_loaded number DRILL_BARS fault (loading_of (Err fault) loads))))

  pub some_piece : (r : Result Performance Stop) × IsPieceMade number r
  some_piece =
      let played = file_played (meant_file number DRILL_BARS) (piece_writable number DRILL_BARS (omega arith)) in
      let loading = some_loading (meant_file number DRILL_BARS) played in
      by_loading loading.1.0 loading.1.1 loading.1.2
