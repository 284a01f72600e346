-- After err was told of a stop, what held of the rest still holds.
use Rattle.std.proofs.Common.{◌≡◌, ◌∙◌, ℕ, List, ap, inl, inr, subst, sym, Option}
use Rattle.rhythm_app.specs.Asked.{Asked}
use Rattle.rhythm_app.specs.Ends.{HasRisen, HasStopped, HasTaken, IsBrokenOff, IsOutputCut, IsErrUntouched, IsStopped, IsStopTold, Tells}
use Rattle.rhythm_app.specs.Lent.{Lent}
use Rattle.rhythm_app.specs.declared.request.Talk.{Talk}
use Rattle.rhythm_app.specs.declared.stop.Kind.TheVariants as kind
use Rattle.rhythm_app.specs.declared.stop.Stop.{Stop}
use Rattle.rhythm_app.specs.declared.stop.Stop.TheVariants as stop
use Rattle.rhythm_base.specs.Grammar.{Grammar}
use Rattle.rhythm_base.specs.Performance.{Performance}
use Rattle.rhythm_ports.specs.Files.{File}
use Rattle.script_run.specs.Editing.{Editing}
use Rattle.script_run.specs.declared.script_stop.ScriptStop.{ScriptStop}

module _ {S O E : Type 0} (asked : Option Asked) (old mid : Lent S O E) (err : E) (told : Option (List ℕ)) (faults : ℕ) where
  abbrev after : Lent S O E
  after = record mid { err = err; told = told; err_faults = faults }

  risen_after : (s : Stop) → HasRisen old mid s → HasRisen old after s
  risen_after stop.Usage h = h
  risen_after (stop.FileTooLong kind.Midi n) h = h
  risen_after (stop.FileTooLong kind.Grammar n) h = h
  risen_after (stop.FileTooLong kind.Kern n) h = h
  risen_after (stop.FileTooLong kind.ScriptFile n) h = h
  risen_after (stop.FileTooLong kind.Script n) h = h
  risen_after (stop.LineTooLong n) h = h
  risen_after (stop.Smf e) h = h
  risen_after (stop.Grammar e) h = h
  risen_after (stop.Kern e) h = h
  risen_after stop.NoNotes h = h
  risen_after (stop.TooManyNotes n) h = h
  risen_after (stop.BadSignature m n) h = h
  risen_after (stop.UnevenBar l m n) h = h
  risen_after (stop.TooManyBars n) h = h
  risen_after (stop.TooManyCells n) h = h
  risen_after (stop.NoStart l m n) h = h
  risen_after (stop.Unprepared e) h = h
  risen_after (stop.NoDerivation m n) h = h
  risen_after (stop.ScoreTooLong n) h = h
  risen_after (stop.RenderTooLong n) h = h
  risen_after (stop.InFile m s) h = h
  risen_after (stop.TooManyFiles n) h = h
  risen_after (stop.TooManyCandidates n) h = h
  risen_after (stop.NoBarline n) h = h
  risen_after stop.NoCandidate h = h
  risen_after (stop.ScriptLine row why) h = h
  risen_after (stop.Read kind.Midi) h = h
  risen_after (stop.Read kind.Grammar) h = h
  risen_after (stop.Read kind.Kern) h = h
  risen_after (stop.Read kind.ScriptFile) h = h
  risen_after (stop.Read kind.Script) h = h
  risen_after stop.Write h = h
  risen_after stop.Memory h = h

  broken_after : (e : ScriptStop) (t : Talk) (g : Grammar) (p : Performance) (last : Editing) → IsBrokenOff e old mid t g p last → IsBrokenOff e old after t g p last
  broken_after e t g p last h = h

  stopped_after : (files : List File) (s : Stop) → HasStopped asked files s old mid → HasStopped asked files s old after
  stopped_after files s (e, is, (t, g, p, last, outcome, broken, built)) = (e, is, (t, g, p, last, outcome, broken_after e t g p last broken, built))

  cut_after : (files : List File) → IsOutputCut asked files old mid → IsOutputCut asked files old after
  cut_after files (inl said) = inl said
  cut_after files (inr h) = inr (stopped_after files stop.Write h)

  taken_after : (s : Stop) → HasTaken asked old mid s → HasTaken asked old after s
  taken_after stop.Usage h = h
  taken_after (stop.FileTooLong kind.Midi n) h = h
  taken_after (stop.FileTooLong kind.Grammar n) h = h
  taken_after (stop.FileTooLong kind.Kern n) h = h
  taken_after (stop.FileTooLong kind.ScriptFile n) h = h
  taken_after (stop.FileTooLong kind.Script n) h = λ files are. stopped_after files (stop.FileTooLong kind.Script n) (h files are)
  taken_after (stop.LineTooLong n) h = λ files are. stopped_after files (stop.LineTooLong n) (h files are)
  taken_after (stop.Smf e) h = h
  taken_after (stop.Grammar e) h = h
  taken_after (stop.Kern e) h = h
  taken_after stop.NoNotes h = h
  taken_after (stop.TooManyNotes n) h = h
  taken_after (stop.BadSignature m n) h = h
  taken_after (stop.UnevenBar l m n) h = h
  taken_after (stop.TooManyBars n) h = h
  taken_after (stop.TooManyCells n) h = h
  taken_after (stop.NoStart l m n) h = h
  taken_after (stop.Unprepared e) h = h
  taken_after (stop.NoDerivation m n) h = h
  taken_after (stop.ScoreTooLong n) h = h
  taken_after (stop.RenderTooLong n) h = h
  taken_after (stop.InFile m s) h = h
  taken_after (stop.TooManyFiles n) h = h
  taken_after (stop.TooManyCandidates n) h = h
  taken_after (stop.NoBarline n) h = h
  taken_after stop.NoCandidate h = h
  taken_after (stop.ScriptLine row why) h = h
  taken_after (stop.Read kind.Midi) h = h
  taken_after (stop.Read kind.Grammar) h = h
  taken_after (stop.Read kind.Kern) h = h
  taken_after (stop.Read kind.ScriptFile) h = h
  taken_after (stop.Read kind.Script) h = λ files are. stopped_after files (stop.Read kind.Script) (h files are)
  taken_after stop.Write h = λ files are. cut_after files (h files are)
  taken_after stop.Memory h = h

  stop_after : (s : Stop) → IsStopped asked old mid s → IsStopped asked old after s
  stop_after s h = record { cause = h.cause; risen = risen_after s h.risen; took = taken_after s h.took; nothing = h.nothing; built = h.built }

module _ {S O E : Type 0} (asked : Option Asked) (old seen mid new : Lent S O E) (same : seen ≡ mid) (tells : new ≡ record seen { err = new.err; told = new.told; err_faults = new.err_faults }) where
  is_after : new ≡ record mid { err = new.err; told = new.told; err_faults = new.err_faults }
  is_after = tells ∙ ap (λ (l : Lent S O E). record l { err = new.err; told = new.told; err_faults = new.err_faults }) same

  pub stop_told : (s : Stop) → IsStopped asked old mid s → IsStopped asked old new s
  stop_told s h = subst (λ (l : Lent S O E). IsStopped asked old l s) (sym is_after) (stop_after asked old mid new.err new.told new.err_faults s h)

-- err had taken nothing before
pub told_of : {S O E : Type 0} (old mid seen new : Lent S O E) (s : Stop) → seen ≡ mid → IsErrUntouched old mid → Tells seen.told new.told seen.err_faults new.err_faults s → IsStopTold old new s
told_of {S} {O} {E} old mid seen new s same silent h =
    subst (λ (n : ℕ). Tells old.told new.told n new.err_faults s) (ap (λ (l : Lent S O E). l.err_faults) same ∙ silent.2)
    (subst (λ (t : Option (List ℕ)). Tells t new.told seen.err_faults new.err_faults s) (ap (λ (l : Lent S O E). l.told) same ∙ silent.1) h)
