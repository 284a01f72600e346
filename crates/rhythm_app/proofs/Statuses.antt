-- The status of a run, by what its words and files come to.
use Rattle.std.proofs.Common.{◌≡◌, ℕ, List, inl, inr, refl, subst, sym, Result, Ok, Err}
use Rattle.std.specs.Prelude.{Option, Some, None}
use Rattle.rhythm_app.specs.Asked.{Asked, asked_by}
use Rattle.rhythm_app.specs.Commands.{HasOutcome, HasOutcomeOf}
use Rattle.rhythm_app.specs.Ends.{HasRisen, HasStatus, IsAnswered, IsCauseOf, IsComplete, IsCompleteFor, IsFailureOf, IsStopped, MayEnd, Reached}
use Rattle.rhythm_app.specs.Lent.{Lent}
use Rattle.rhythm_app.specs.Outcome.{Ready, say, serve}
use Rattle.rhythm_app.specs.declared.request.Talk.{Talk}
use Rattle.rhythm_app.specs.declared.stop.Kind.TheVariants as kind
use Rattle.rhythm_base.specs.Grammar.{Grammar}
use Rattle.rhythm_base.specs.Performance.{Performance}
use Rattle.rhythm_app.specs.Stops.{midi_status_of, status_of}
use Rattle.rhythm_app.specs.declared.stop.MidiStop.{MidiStop}
use Rattle.rhythm_app.specs.declared.stop.Stop.{Stop}
use Rattle.rhythm_app.specs.declared.stop.Stop.TheVariants as stop
use Rattle.rhythm_app.proofs.OneOutcome.{one_outcome}
use Rattle.rhythm_ports.specs.Causes.{Rose}
use Rattle.rhythm_ports.specs.Files.{File}

may_end_5 : (r : Result Ready Stop) → MayEnd r 5
may_end_5 (Ok (say text)) = inr (inl refl)
may_end_5 (Ok (serve t g p)) = inr (inr (inl refl))
may_end_5 (Err s) = inr (inl refl)

may_end_7 : (r : Result Ready Stop) → MayEnd r 7
may_end_7 (Ok (say text)) = inr (inr (inr refl))
may_end_7 (Ok (serve t g p)) = inr (inr (inr (inr refl)))
may_end_7 (Err s) = inr (inr refl)

may_end_0 : (ready : Ready) → MayEnd (Ok ready) 0
may_end_0 (say text) = inl refl
may_end_0 (serve t g p) = inl refl

may_end_6 : (ready : Ready) → MayEnd (Ok ready) 6
may_end_6 (say text) = inr (inr (inl refl))
may_end_6 (serve t g p) = inr (inr (inr (inl refl)))

same_ready : (a b : Ready) → ◌≡◌ {A = Result Ready Stop} (Ok a) (Ok b) → a ≡ b
same_ready a b h = cc

not_both : (ready : Ready) (s : Stop) → ◌≡◌ {A = Result Ready Stop} (Ok ready) (Err s) → ⊥
not_both ready s h = cc

may_end_4 : (t : Talk) (g : Grammar) (p : Performance) → MayEnd (Ok (serve t g p)) 4
may_end_4 t g p = inr (inl refl)

-- the reading of a script is come to only by a command that answers one
served : (asked : Option Asked) (files : List File) → Reached asked files kind.Script → (t : Talk) × (g : Grammar) × (p : Performance) × HasOutcomeOf asked files (Ok (serve t g p))
served None files reached = absurd reached
served (Some asked) files reached = reached

module _ (words : List (List ℕ)) (files : List File) where
  pub ready_status : (ready : Ready) → HasOutcome words files (Ok ready) → HasStatus words files 0
  ready_status ready h r k = subst (λ (r : Result Ready Stop). MayEnd r 0) (one_outcome words files (Ok ready) r h k) (may_end_0 ready)

  pub answered_status : {S O E : Type 0} (old new : Lent S O E) → IsAnswered (asked_by words) files old new → HasStatus words files 0
  answered_status old new (inl (text, outcome, took, builds)) = ready_status (say text) outcome
  answered_status old new (inr (t, g, p, last, outcome, done, builds)) = ready_status (serve t g p) outcome

  script_status : Reached (asked_by words) files kind.Script → HasStatus words files 4
  script_status reached r k =
      let it = served (asked_by words) files reached in
      subst (λ (r : Result Ready Stop). MayEnd r 4) (one_outcome words files (Ok (serve it.0 it.1 it.2)) r it.3 k) (may_end_4 it.0 it.1 it.2)

  failure_status : (s : Stop) → IsFailureOf (asked_by words) files s → HasStatus words files (status_of s)
  failure_status stop.Usage failed r outcome = absurd failed
  failure_status (stop.FileTooLong kind.Midi n) failed r outcome = absurd failed
  failure_status (stop.FileTooLong kind.Grammar n) failed r outcome = absurd failed
  failure_status (stop.FileTooLong kind.Kern n) failed r outcome = absurd failed
  failure_status (stop.FileTooLong kind.ScriptFile n) failed r outcome = absurd failed
  failure_status (stop.FileTooLong kind.Script n) failed r outcome = script_status failed r outcome
  failure_status (stop.LineTooLong n) failed r outcome = script_status failed r outcome
  failure_status (stop.Smf e) failed r outcome = absurd failed
  failure_status (stop.Grammar e) failed r outcome = absurd failed
  failure_status (stop.Kern e) failed r outcome = absurd failed
  failure_status stop.NoNotes failed r outcome = absurd failed
  failure_status (stop.TooManyNotes n) failed r outcome = absurd failed
  failure_status (stop.BadSignature m n) failed r outcome = absurd failed
  failure_status (stop.UnevenBar l m n) failed r outcome = absurd failed
  failure_status (stop.TooManyBars n) failed r outcome = absurd failed
  failure_status (stop.TooManyCells n) failed r outcome = absurd failed
  failure_status (stop.NoStart l m n) failed r outcome = absurd failed
  failure_status (stop.Unprepared e) failed r outcome = absurd failed
  failure_status (stop.NoDerivation m n) failed r outcome = absurd failed
  failure_status (stop.ScoreTooLong n) failed r outcome = absurd failed
  failure_status (stop.RenderTooLong n) failed r outcome = absurd failed
  failure_status (stop.InFile m s) failed r outcome = subst (λ (m : MidiStop). MayEnd r (midi_status_of m)) (sym failed.0) (may_end_5 r)
  failure_status (stop.TooManyFiles n) failed r outcome = absurd failed
  failure_status (stop.TooManyCandidates n) failed r outcome = absurd failed
  failure_status (stop.NoBarline n) failed r outcome = absurd failed
  failure_status stop.NoCandidate failed r outcome = absurd failed
  failure_status (stop.ScriptLine row why) failed r outcome = absurd failed
  failure_status (stop.Read k) failed r outcome = may_end_5 r
  failure_status stop.Write failed r outcome = subst (λ (r : Result Ready Stop). MayEnd r 6) (one_outcome words files (Ok failed.0) r failed.1 outcome) (may_end_6 failed.0)
  failure_status stop.Memory failed r outcome = may_end_7 r

  pub stop_status : (s : Stop) → IsCauseOf (asked_by words) files s → HasStatus words files (status_of s)
  stop_status s (inl h) r k = subst (λ (r : Result Ready Stop). MayEnd r (status_of s)) (one_outcome words files (Err s) r h k) (inl refl)
  stop_status s (inr failed) r k = failure_status s failed r k

  module _ {S O E : Type 0} (old new : Lent S O E) where
    complete_0 : (ready : Ready) → IsCompleteFor ready old new 0
    complete_0 (say text) = λ read written. inl refl
    complete_0 (serve t g p) = λ read heard written. inl refl

    pub ready_complete : IsComplete words files old new 0
    ready_complete ready k = complete_0 ready

    complete_7 : (ready : Ready) → IsCompleteFor ready old new 7
    complete_7 (say text) = λ read written. inr refl
    complete_7 (serve t g p) = λ read heard written. inr (inr refl)

    -- a failed read of a file
    complete_read : (ready : Ready) → Rose old.shelf_faults new.shelf_faults → IsCompleteFor ready old new 5
    complete_read (say text) risen = λ read written. absurd (read risen)
    complete_read (serve t g p) risen = λ read heard written. absurd (read risen)

    complete_write : (ready : Ready) → Rose old.out_faults new.out_faults → IsCompleteFor ready old new 6
    complete_write (say text) risen = λ read written. absurd (written risen)
    complete_write (serve t g p) risen = λ read heard written. absurd (written risen)

    -- what a script comes to
    complete_script : (ready : Ready) (status : ℕ) → Reached (asked_by words) files kind.Script → HasOutcome words files (Ok ready)
        → ((t : Talk) (g : Grammar) (p : Performance) → IsCompleteFor (serve t g p) old new status) → IsCompleteFor ready old new status
    complete_script ready status reached k all =
        let it = served (asked_by words) files reached in
        let same : serve it.0 it.1 it.2 ≡ ready = same_ready (serve it.0 it.1 it.2) ready (one_outcome words files (Ok (serve it.0 it.1 it.2)) (Ok ready) it.3 k) in
        subst (λ (x : Ready). IsCompleteFor x old new status) same (all it.0 it.1 it.2)

    failure_complete : (s : Stop) → IsFailureOf (asked_by words) files s → HasRisen old new s → IsComplete words files old new (status_of s)
    failure_complete stop.Usage failed risen ready k = absurd failed
    failure_complete (stop.FileTooLong kind.Midi n) failed risen ready k = absurd failed
    failure_complete (stop.FileTooLong kind.Grammar n) failed risen ready k = absurd failed
    failure_complete (stop.FileTooLong kind.Kern n) failed risen ready k = absurd failed
    failure_complete (stop.FileTooLong kind.ScriptFile n) failed risen ready k = absurd failed
    failure_complete (stop.FileTooLong kind.Script n) failed risen ready k = complete_script ready 4 failed k (λ t g p read heard written. inr (inl refl))
    failure_complete (stop.LineTooLong n) failed risen ready k = complete_script ready 4 failed k (λ t g p read heard written. inr (inl refl))
    failure_complete (stop.Smf e) failed risen ready k = absurd failed
    failure_complete (stop.Grammar e) failed risen ready k = absurd failed
    failure_complete (stop.Kern e) failed risen ready k = absurd failed
    failure_complete stop.NoNotes failed risen ready k = absurd failed
    failure_complete (stop.TooManyNotes n) failed risen ready k = absurd failed
    failure_complete (stop.BadSignature m n) failed risen ready k = absurd failed
    failure_complete (stop.UnevenBar l m n) failed risen ready k = absurd failed
    failure_complete (stop.TooManyBars n) failed risen ready k = absurd failed
    failure_complete (stop.TooManyCells n) failed risen ready k = absurd failed
    failure_complete (stop.NoStart l m n) failed risen ready k = absurd failed
    failure_complete (stop.Unprepared e) failed risen ready k = absurd failed
    failure_complete (stop.NoDerivation m n) failed risen ready k = absurd failed
    failure_complete (stop.ScoreTooLong n) failed risen ready k = absurd failed
    failure_complete (stop.RenderTooLong n) failed risen ready k = absurd failed
    failure_complete (stop.InFile m s) failed risen ready k = subst (λ (m : MidiStop). IsCompleteFor ready old new (midi_status_of m)) (sym failed.0) (complete_read ready (risen failed.0))
    failure_complete (stop.TooManyFiles n) failed risen ready k = absurd failed
    failure_complete (stop.TooManyCandidates n) failed risen ready k = absurd failed
    failure_complete (stop.NoBarline n) failed risen ready k = absurd failed
    failure_complete stop.NoCandidate failed risen ready k = absurd failed
    failure_complete (stop.ScriptLine row why) failed risen ready k = absurd failed
    failure_complete (stop.Read kind.Midi) failed risen ready k = complete_read ready risen
    failure_complete (stop.Read kind.Grammar) failed risen ready k = complete_read ready risen
    failure_complete (stop.Read kind.Kern) failed risen ready k = complete_read ready risen
    failure_complete (stop.Read kind.ScriptFile) failed risen ready k = complete_read ready risen
    failure_complete (stop.Read kind.Script) failed risen ready k = complete_script ready 5 failed k (λ t g p read heard written. absurd (heard risen))
    failure_complete stop.Write failed risen ready k = complete_write ready risen
    failure_complete stop.Memory failed risen ready k = complete_7 ready

    pub stop_complete : (s : Stop) → IsCauseOf (asked_by words) files s → HasRisen old new s → IsComplete words files old new (status_of s)
    stop_complete s (inl h) risen ready k = absurd (not_both ready s (one_outcome words files (Ok ready) (Err s) k h))
    stop_complete s (inr failed) risen ready k = failure_complete s failed risen ready k

-- the status of a stop completes the run
pub stop_completes : {S O E : Type 0} (words : List (List ℕ)) (old new : Lent S O E) (s : Stop) (status : ℕ) → status ≡ status_of s → IsStopped (asked_by words) old new s
    → (files : List File) → old.files ≡ Some files → IsComplete words files old new status
stop_completes words old new s status same h files are =
    subst (λ (n : ℕ). IsComplete words files old new n) (sym same) (stop_complete words files old new s (h.cause files are) h.risen)
