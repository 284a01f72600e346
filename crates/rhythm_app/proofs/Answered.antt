-- The session that answers a script.
use Rattle.std.proofs.Common.{arith, inl, refl, Some, Ok, Err}
use Rattle.edit_session.specs.Session.{Session}
use Rattle.rhythm_app.proofs.Opened.{opened_all, opened_before, some_in, then_had, unopened_before}
use Rattle.rhythm_app.proofs.Sessions.{no_failure}
use Rattle.rhythm_app.proofs.Unopened.{unopened_inputs}
use Rattle.rhythm_app.specs.Asked.{answer}
use Rattle.rhythm_app.specs.Commands.{HasOutcomeOf}
use Rattle.rhythm_app.specs.Inputs.{Inputs}
use Rattle.rhythm_app.specs.Lent.{Lent}
use Rattle.rhythm_app.specs.Outcome.{IsAnswering, serve}
use Rattle.rhythm_app.specs.Stages.{CountsUp, HasOpened, HasSession}
use Rattle.rhythm_app.specs.declared.request.Talk.{Talk}
use Rattle.rhythm_app.specs.declared.stop.Stop.{Stop}

-- no counter was raised
pub same_counts : {S O E : Type 0} (l : Lent S O E) → CountsUp l l
same_counts l = (refl, (omega arith, omega arith))

module _ {S O E : Type 0} (i : Inputs) (talk : Talk) (old mid : Lent S O E) where
  pub session_had : (s : Session) → HasOpened i old mid (Ok s) → HasSession talk i old mid (Ok s)
  session_had s had =
      let then = then_had (answer talk i) i (IsAnswering talk) refl (λ files r h. h) (some_in i) old mid mid s had (same_counts mid) (Ok (serve talk s.grammar s.performance))
      (inl (had.can, refl, refl, refl)) in
      record {
        ready = λ files are. no_failure (HasOutcomeOf (Some (answer talk i)) files) (serve talk s.grammar s.performance) (then files are);
        all = opened_all i old mid s had;
        before = opened_before (answer talk i) i (IsAnswering talk) refl (λ files r h. h) (some_in i) old mid mid s had (same_counts mid) (Ok s) tt tt tt;
      }

  pub session_not_had : (s : Stop) → HasOpened i old mid (Err s) → HasSession talk i old mid (Err s)
  session_not_had s had = record {
    ready = tt;
    all = tt;
    before = unopened_before (answer talk i) i (IsAnswering talk) refl (λ files r h. h) (some_in i) old mid s had (unopened_inputs i old.files old.built mid.built s had.built);
  }
