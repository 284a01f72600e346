-- What follows of a stop.
use Rattle.std.proofs.Common.{◌≡◌, ◌≢◌, ◌⊎◌, ◌+◌, ℕ, arith, List, inl, inr, refl, ap, subst, Option, Some, Ok}
use Rattle.std.specs.Option.{ForSome}
use Rattle.rhythm_app.specs.Asked.{Asked}
use Rattle.rhythm_app.specs.Builds.{ArePartlyBuilt, HasBuilt, MatchBuilds, MatchInputs, OfLoaded}
use Rattle.rhythm_app.specs.Commands.{HasOutcomeOf, cells_in}
use Rattle.rhythm_app.specs.Ends.{HasRisen, HasStopped, HasTaken, IsBrokenOff, IsCauseOf, IsUntouched}
use Rattle.rhythm_app.specs.Inputs.{Inputs}
use Rattle.rhythm_app.specs.Lent.{Lent}
use Rattle.rhythm_app.specs.Outcome.{serve}
use Rattle.rhythm_app.specs.declared.request.Talk.{Talk}
use Rattle.rhythm_app.specs.Stages.{EndsReading, IsEarly}
use Rattle.rhythm_app.specs.Stops.{script_stop}
use Rattle.rhythm_app.specs.declared.stop.Kind.TheVariants as kind
use Rattle.rhythm_app.specs.declared.stop.Stop.{Stop}
use Rattle.rhythm_app.specs.declared.stop.Stop.TheVariants as stop
use Rattle.rhythm_base.specs.Counter.{risen}
use Rattle.rhythm_base.specs.Grammar.{Grammar}
use Rattle.rhythm_base.specs.Performance.{Performance}
use Rattle.rhythm_base.specs.declared.edit_fault.EditFault.{EditFault}
use Rattle.rhythm_ports.specs.Causes.{Rose}
use Rattle.rhythm_ports.specs.Files.{File}
use Rattle.script_run.specs.Editing.{Editing}
use Rattle.script_run.specs.declared.script_stop.ScriptStop.{ScriptStop}
use Rattle.script_run.specs.declared.script_stop.ScriptStop.TheVariants as script

-- ---- before anything is written

-- nothing is built yet
pub early_built : (A B : Type 0) (old : ℕ) (s : Stop) → IsEarly s → MatchBuilds A ((old ≡ old) ⊎ B) (old ≡ old) s
early_built A B old stop.Usage early = absurd early
early_built A B old (stop.FileTooLong kind.Midi n) early = refl
early_built A B old (stop.FileTooLong kind.Grammar n) early = refl
early_built A B old (stop.FileTooLong kind.Kern n) early = refl
early_built A B old (stop.FileTooLong kind.ScriptFile n) early = refl
early_built A B old (stop.FileTooLong kind.Script n) early = tt
early_built A B old (stop.LineTooLong n) early = tt
early_built A B old (stop.Smf e) early = refl
early_built A B old (stop.Grammar e) early = refl
early_built A B old (stop.Kern e) early = refl
early_built A B old stop.NoNotes early = refl
early_built A B old (stop.TooManyNotes n) early = refl
early_built A B old (stop.BadSignature m n) early = refl
early_built A B old (stop.UnevenBar l m n) early = refl
early_built A B old (stop.TooManyBars n) early = refl
early_built A B old (stop.TooManyCells n) early = refl
early_built A B old (stop.NoStart l m n) early = refl
early_built A B old (stop.Unprepared e) early = refl
early_built A B old (stop.NoDerivation m n) early = absurd early
early_built A B old (stop.ScoreTooLong n) early = absurd early
early_built A B old (stop.RenderTooLong n) early = absurd early
early_built A B old (stop.InFile m s) early = absurd early
early_built A B old (stop.TooManyFiles n) early = absurd early
early_built A B old (stop.TooManyCandidates n) early = absurd early
early_built A B old (stop.NoBarline n) early = absurd early
early_built A B old stop.NoCandidate early = absurd early
early_built A B old (stop.ScriptLine row why) early = absurd early
early_built A B old (stop.Read kind.Midi) early = refl
early_built A B old (stop.Read kind.Grammar) early = refl
early_built A B old (stop.Read kind.Kern) early = refl
early_built A B old (stop.Read kind.ScriptFile) early = refl
early_built A B old (stop.Read kind.Script) early = tt
early_built A B old stop.Write early = tt
early_built A B old stop.Memory early = inl refl

-- the same of the cells of inputs
pub early_inputs : (L : Type 0) (R : ℕ → Option EditFault → Type 0) (A B : Type 0) (old new : ℕ) → new ≡ old → (s : Stop) → IsEarly s → MatchInputs L R A ((new ≡ old) ⊎ B) (new ≡ old) s
early_inputs L R A B old new same stop.Usage early = absurd early
early_inputs L R A B old new same (stop.FileTooLong kind.Midi n) early = same
early_inputs L R A B old new same (stop.FileTooLong kind.Grammar n) early = same
early_inputs L R A B old new same (stop.FileTooLong kind.Kern n) early = same
early_inputs L R A B old new same (stop.FileTooLong kind.ScriptFile n) early = same
early_inputs L R A B old new same (stop.FileTooLong kind.Script n) early = tt
early_inputs L R A B old new same (stop.LineTooLong n) early = tt
early_inputs L R A B old new same (stop.Smf e) early = same
early_inputs L R A B old new same (stop.Grammar e) early = same
early_inputs L R A B old new same (stop.Kern e) early = same
early_inputs L R A B old new same stop.NoNotes early = same
early_inputs L R A B old new same (stop.TooManyNotes n) early = same
early_inputs L R A B old new same (stop.BadSignature m n) early = same
early_inputs L R A B old new same (stop.UnevenBar l m n) early = same
early_inputs L R A B old new same (stop.TooManyBars n) early = same
early_inputs L R A B old new same (stop.TooManyCells n) early = same
early_inputs L R A B old new same (stop.NoStart l m n) early = same
early_inputs L R A B old new same (stop.Unprepared e) early = same
early_inputs L R A B old new same (stop.NoDerivation m n) early = absurd early
early_inputs L R A B old new same (stop.ScoreTooLong n) early = absurd early
early_inputs L R A B old new same (stop.RenderTooLong n) early = absurd early
early_inputs L R A B old new same (stop.InFile m s) early = absurd early
early_inputs L R A B old new same (stop.TooManyFiles n) early = absurd early
early_inputs L R A B old new same (stop.TooManyCandidates n) early = absurd early
early_inputs L R A B old new same (stop.NoBarline n) early = absurd early
early_inputs L R A B old new same stop.NoCandidate early = absurd early
early_inputs L R A B old new same (stop.ScriptLine row why) early = absurd early
early_inputs L R A B old new same (stop.Read kind.Midi) early = same
early_inputs L R A B old new same (stop.Read kind.Grammar) early = same
early_inputs L R A B old new same (stop.Read kind.Kern) early = same
early_inputs L R A B old new same (stop.Read kind.ScriptFile) early = same
early_inputs L R A B old new same (stop.Read kind.Script) early = tt
early_inputs L R A B old new same stop.Write early = tt
early_inputs L R A B old new same stop.Memory early = inl same

module _ {S O E : Type 0} (old new : Lent S O E) where
  pub reading_risen : (s : Stop) → EndsReading old.shelf_faults new.shelf_faults s → HasRisen old new s
  reading_risen stop.Usage end = absurd end
  reading_risen (stop.FileTooLong k n) end = tt
  reading_risen (stop.LineTooLong n) end = absurd end
  reading_risen (stop.Smf e) end = tt
  reading_risen (stop.Grammar e) end = tt
  reading_risen (stop.Kern e) end = tt
  reading_risen stop.NoNotes end = tt
  reading_risen (stop.TooManyNotes n) end = tt
  reading_risen (stop.BadSignature m n) end = tt
  reading_risen (stop.UnevenBar l m n) end = tt
  reading_risen (stop.TooManyBars n) end = tt
  reading_risen (stop.TooManyCells n) end = tt
  reading_risen (stop.NoStart l m n) end = tt
  reading_risen (stop.Unprepared e) end = tt
  reading_risen (stop.NoDerivation m n) end = tt
  reading_risen (stop.ScoreTooLong n) end = tt
  reading_risen (stop.RenderTooLong n) end = tt
  reading_risen (stop.InFile m s) end = end
  reading_risen (stop.TooManyFiles n) end = tt
  reading_risen (stop.TooManyCandidates n) end = tt
  reading_risen (stop.NoBarline n) end = tt
  reading_risen stop.NoCandidate end = tt
  reading_risen (stop.ScriptLine row why) end = tt
  reading_risen (stop.Read kind.Midi) end = end
  reading_risen (stop.Read kind.Grammar) end = end
  reading_risen (stop.Read kind.Kern) end = end
  reading_risen (stop.Read kind.ScriptFile) end = end
  reading_risen (stop.Read kind.Script) end = absurd end
  reading_risen stop.Write end = absurd end
  reading_risen stop.Memory end = tt

  -- out took nothing by then
  pub reading_taken : (asked : Option Asked) (before now : ℕ) (s : Stop) → EndsReading before now s → IsUntouched old new → HasTaken asked old new s
  reading_taken asked before now stop.Usage end none = absurd end
  reading_taken asked before now (stop.FileTooLong kind.Midi n) end none = none
  reading_taken asked before now (stop.FileTooLong kind.Grammar n) end none = none
  reading_taken asked before now (stop.FileTooLong kind.Kern n) end none = none
  reading_taken asked before now (stop.FileTooLong kind.ScriptFile n) end none = none
  reading_taken asked before now (stop.FileTooLong kind.Script n) end none = absurd end
  reading_taken asked before now (stop.LineTooLong n) end none = absurd end
  reading_taken asked before now (stop.Smf e) end none = none
  reading_taken asked before now (stop.Grammar e) end none = none
  reading_taken asked before now (stop.Kern e) end none = none
  reading_taken asked before now stop.NoNotes end none = none
  reading_taken asked before now (stop.TooManyNotes n) end none = none
  reading_taken asked before now (stop.BadSignature m n) end none = none
  reading_taken asked before now (stop.UnevenBar l m n) end none = none
  reading_taken asked before now (stop.TooManyBars n) end none = none
  reading_taken asked before now (stop.TooManyCells n) end none = none
  reading_taken asked before now (stop.NoStart l m n) end none = none
  reading_taken asked before now (stop.Unprepared e) end none = none
  reading_taken asked before now (stop.NoDerivation m n) end none = none
  reading_taken asked before now (stop.ScoreTooLong n) end none = none
  reading_taken asked before now (stop.RenderTooLong n) end none = none
  reading_taken asked before now (stop.InFile m s) end none = none
  reading_taken asked before now (stop.TooManyFiles n) end none = none
  reading_taken asked before now (stop.TooManyCandidates n) end none = none
  reading_taken asked before now (stop.NoBarline n) end none = none
  reading_taken asked before now stop.NoCandidate end none = none
  reading_taken asked before now (stop.ScriptLine row why) end none = none
  reading_taken asked before now (stop.Read kind.Midi) end none = none
  reading_taken asked before now (stop.Read kind.Grammar) end none = none
  reading_taken asked before now (stop.Read kind.Kern) end none = none
  reading_taken asked before now (stop.Read kind.ScriptFile) end none = none
  reading_taken asked before now (stop.Read kind.Script) end none = absurd end
  reading_taken asked before now stop.Write end none = absurd end
  reading_taken asked before now stop.Memory end none = none

pub reading_known : (before now : ℕ) (s : Stop) → EndsReading before now s → s ≢ stop.Usage
reading_known before now stop.Usage end e = absurd end
reading_known before now (stop.FileTooLong k n) end e = absurd (cc)
reading_known before now (stop.LineTooLong n) end e = absurd (cc)
reading_known before now (stop.Smf x) end e = absurd (cc)
reading_known before now (stop.Grammar x) end e = absurd (cc)
reading_known before now (stop.Kern x) end e = absurd (cc)
reading_known before now stop.NoNotes end e = absurd (cc)
reading_known before now (stop.TooManyNotes n) end e = absurd (cc)
reading_known before now (stop.BadSignature m n) end e = absurd (cc)
reading_known before now (stop.UnevenBar l m n) end e = absurd (cc)
reading_known before now (stop.TooManyBars n) end e = absurd (cc)
reading_known before now (stop.TooManyCells n) end e = absurd (cc)
reading_known before now (stop.NoStart l m n) end e = absurd (cc)
reading_known before now (stop.Unprepared x) end e = absurd (cc)
reading_known before now (stop.NoDerivation m n) end e = absurd (cc)
reading_known before now (stop.ScoreTooLong n) end e = absurd (cc)
reading_known before now (stop.RenderTooLong n) end e = absurd (cc)
reading_known before now (stop.InFile m s) end e = absurd (cc)
reading_known before now (stop.TooManyFiles n) end e = absurd (cc)
reading_known before now (stop.TooManyCandidates n) end e = absurd (cc)
reading_known before now (stop.NoBarline n) end e = absurd (cc)
reading_known before now stop.NoCandidate end e = absurd (cc)
reading_known before now (stop.ScriptLine row why) end e = absurd (cc)
reading_known before now (stop.Read k) end e = absurd (cc)
reading_known before now stop.Write end e = absurd (cc)
reading_known before now stop.Memory end e = absurd (cc)

-- ---- the stops of a script

pub script_known : (s : ScriptStop) → script_stop s ≢ stop.Usage
script_known script.Read e = absurd (cc)
script_known (script.TooLong n) e = absurd (cc)
script_known (script.LineTooLong n) e = absurd (cc)
script_known script.Write e = absurd (cc)
script_known script.Memory e = absurd (cc)

pub script_cause : (asked : Asked) (files : List File) (t : Talk) (g : Grammar) (p : Performance) (s : ScriptStop) → HasOutcomeOf (Some asked) files (Ok (serve t g p))
    → IsCauseOf (Some asked) files (script_stop s)
script_cause asked files t g p script.Read h = inr (t, g, p, h)
script_cause asked files t g p (script.TooLong n) h = inr (t, g, p, h)
script_cause asked files t g p (script.LineTooLong n) h = inr (t, g, p, h)
script_cause asked files t g p script.Write h = inr (serve t g p, h)
script_cause asked files t g p script.Memory h = inr tt

module _ {S O E : Type 0} (old new : Lent S O E) where
  pub script_risen : (s : ScriptStop) → (s ≡ script.Read → Rose old.script_faults new.script_faults) → (s ≡ script.Write → Rose old.out_faults new.out_faults)
      → HasRisen old new (script_stop s)
  script_risen script.Read read write = read refl
  script_risen (script.TooLong n) read write = tt
  script_risen (script.LineTooLong n) read write = tt
  script_risen script.Write read write = write refl
  script_risen script.Memory read write = tt

  pub script_taken : (asked : Option Asked) (s : ScriptStop) → ForSome old.files (λ files. HasStopped asked files (script_stop s) old new) → (s ≡ script.Memory → IsUntouched old new)
      → HasTaken asked old new (script_stop s)
  script_taken asked script.Read part none = part
  script_taken asked (script.TooLong n) part none = part
  script_taken asked (script.LineTooLong n) part none = part
  script_taken asked script.Write part none = λ files are. inr (part files are)
  script_taken asked script.Memory part none = none refl

-- the script is not begun, so the cells of the performance alone are built
no_edits : {S O E : Type 0} (old new : Lent S O E) (t : Talk) (g : Grammar) (p : Performance) (last : Editing) → IsBrokenOff script.Memory old new t g p last → last.built ≡ 0
no_edits old new t g p last broken = ap (λ (e : Editing). e.built) broken.0

pub script_built : {S O E : Type 0} (from : ℕ) (old new : Lent S O E) (fs : Option (List File)) (i : Inputs) (t : Talk) (g : Grammar) (p : Performance) (s : ScriptStop) (last : Editing)
    → new.built ≡ risen old.built last.built → IsBrokenOff s old new t g p last → OfLoaded i fs (ArePartlyBuilt from old.built)
    → HasBuilt (cells_in i) fs from new.built (script_stop s)
script_built from old new fs i t g p script.Read last more broken some = tt
script_built from old new fs i t g p (script.TooLong n) last more broken some = tt
script_built from old new fs i t g p (script.LineTooLong n) last more broken some = tt
script_built from old new fs i t g p script.Write last more broken some = tt
script_built from old new fs i t g p script.Memory last more broken some =
    let none = no_edits old new t g p last broken in
    let same : old.built ≡ new.built = omega (arith, more, none) in inr (subst (λ n. OfLoaded i fs (ArePartlyBuilt from n)) same some)
