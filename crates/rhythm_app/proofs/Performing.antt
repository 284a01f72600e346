-- What the stages of a command come to together.
use Rattle.std.proofs.Common.{◌≡◌, ◌≢◌, ◌≤◌, ◌∷◌, [], ℕ, List, Vec, arith, inl, inr, refl, sym, ap, ◌∙◌, subst, IfErr, OnOk, Option, Some, Result, Ok, Err}
use Rattle.std.specs.Option.{ForSome}
use Rattle.std.specs.Io.KnownBytes.{Appends}
use Rattle.rhythm_app.specs.Asked.{Asked}
use Rattle.rhythm_app.specs.Builds.{HasBuilt, HasBuiltAll}
use Rattle.rhythm_app.specs.Commands.{Cells, HasNames, HasOutcomeOf, Named, cells_drilled, cells_fitted, cells_followed, cells_in, cells_learned, cells_of_asked, command, named, no_cells}
use Rattle.rhythm_app.specs.Ends.{AppendsPart, ComesTo, IsCauseOf, IsFailureOf, IsReadFailure, IsPerformed, IsTextSaid, IsErrUntouched, IsUntouched, KeepsRest}
use Rattle.rhythm_app.specs.Lent.{Lent}
use Rattle.rhythm_app.specs.Outcome.{say}
use Rattle.rhythm_app.specs.Stages.{EndsBy, EndsReading, Follows, HasText, IsStoppedBefore, IsFailure, IsOfContent, IsTextWritten, ReadsAlone}
use Rattle.rhythm_app.specs.declared.stop.Kind.{Kind}
use Rattle.rhythm_app.specs.declared.stop.Kind.TheVariants as kind
use Rattle.rhythm_app.specs.declared.stop.Stop.{Stop}
use Rattle.rhythm_app.specs.declared.stop.Stop.TheVariants as stop
use Rattle.rhythm_app.proofs.Stops.{reading_known, reading_risen, reading_taken}
use Rattle.rhythm_ports.specs.Causes.{Rose}
use Rattle.rhythm_ports.specs.Files.{File}

-- ---- the files of a command

pub midi_is_no_script : kind.Midi ≢ kind.Script
midi_is_no_script e = cc

pub grammar_is_no_script : kind.Grammar ≢ kind.Script
grammar_is_no_script e = cc

pub script_file_is_no_script : kind.ScriptFile ≢ kind.Script
script_file_is_no_script e = cc

pub kern_is_no_script : kind.Kern ≢ kind.Script
kern_is_no_script e = cc

-- a read that fails is that of a file that is come to
module _ (k : Kind) (reads : List Named) (files : List File) (before now : ℕ) (other : k ≢ kind.Script) (comes : ComesTo files k reads) where
  read_at : (j : Kind) → j ≡ k → IsReadFailure reads files (stop.Read j)
  read_at kind.Midi same = subst (λ (x : Kind). ComesTo files x reads) (sym same) comes
  read_at kind.Grammar same = subst (λ (x : Kind). ComesTo files x reads) (sym same) comes
  read_at kind.Kern same = subst (λ (x : Kind). ComesTo files x reads) (sym same) comes
  read_at kind.ScriptFile same = subst (λ (x : Kind). ComesTo files x reads) (sym same) comes
  read_at kind.Script same = absurd (other (sym same))

  pub read_fails : (s : Stop) → IsFailure s → EndsBy k before now s → IsReadFailure reads files s
  read_fails stop.Usage failed end = absurd failed
  read_fails (stop.FileTooLong j n) failed end = absurd failed
  read_fails (stop.LineTooLong n) failed end = absurd failed
  read_fails (stop.Smf e) failed end = absurd failed
  read_fails (stop.Grammar e) failed end = absurd failed
  read_fails (stop.Kern e) failed end = absurd failed
  read_fails stop.NoNotes failed end = absurd failed
  read_fails (stop.TooManyNotes n) failed end = absurd failed
  read_fails (stop.BadSignature m n) failed end = absurd failed
  read_fails (stop.UnevenBar l m n) failed end = absurd failed
  read_fails (stop.TooManyBars n) failed end = absurd failed
  read_fails (stop.TooManyCells n) failed end = absurd failed
  read_fails (stop.NoStart l m n) failed end = absurd failed
  read_fails (stop.Unprepared e) failed end = absurd failed
  read_fails (stop.NoDerivation m n) failed end = absurd failed
  read_fails (stop.ScoreTooLong n) failed end = absurd failed
  read_fails (stop.RenderTooLong n) failed end = absurd failed
  read_fails (stop.InFile m s) failed end = absurd end
  read_fails (stop.TooManyFiles n) failed end = absurd failed
  read_fails (stop.TooManyCandidates n) failed end = absurd failed
  read_fails (stop.NoBarline n) failed end = absurd failed
  read_fails stop.NoCandidate failed end = absurd failed
  read_fails (stop.ScriptLine row why) failed end = absurd failed
  read_fails (stop.Read j) failed end = read_at j end.0
  read_fails stop.Write failed end = absurd end
  read_fails stop.Memory failed end = tt

-- it is a failure of the command that reads them
pub failure_of : (asked : Asked) (files : List File) (s : Stop) → IsReadFailure (command asked).reads files s → IsFailureOf (Some asked) files s
failure_of asked files stop.Usage failed = absurd failed
failure_of asked files (stop.FileTooLong k n) failed = absurd failed
failure_of asked files (stop.LineTooLong n) failed = absurd failed
failure_of asked files (stop.Smf e) failed = absurd failed
failure_of asked files (stop.Grammar e) failed = absurd failed
failure_of asked files (stop.Kern e) failed = absurd failed
failure_of asked files stop.NoNotes failed = absurd failed
failure_of asked files (stop.TooManyNotes n) failed = absurd failed
failure_of asked files (stop.BadSignature m n) failed = absurd failed
failure_of asked files (stop.UnevenBar l m n) failed = absurd failed
failure_of asked files (stop.TooManyBars n) failed = absurd failed
failure_of asked files (stop.TooManyCells n) failed = absurd failed
failure_of asked files (stop.NoStart l m n) failed = absurd failed
failure_of asked files (stop.Unprepared e) failed = absurd failed
failure_of asked files (stop.NoDerivation m n) failed = absurd failed
failure_of asked files (stop.ScoreTooLong n) failed = absurd failed
failure_of asked files (stop.RenderTooLong n) failed = absurd failed
failure_of asked files (stop.InFile m s) failed = absurd failed
failure_of asked files (stop.TooManyFiles n) failed = absurd failed
failure_of asked files (stop.TooManyCandidates n) failed = absurd failed
failure_of asked files (stop.NoBarline n) failed = absurd failed
failure_of asked files stop.NoCandidate failed = absurd failed
failure_of asked files (stop.ScriptLine row why) failed = absurd failed
failure_of asked files (stop.Read kind.Midi) failed = failed
failure_of asked files (stop.Read kind.Grammar) failed = failed
failure_of asked files (stop.Read kind.Kern) failed = failed
failure_of asked files (stop.Read kind.ScriptFile) failed = failed
failure_of asked files (stop.Read kind.Script) failed = absurd failed
failure_of asked files stop.Write failed = absurd failed
failure_of asked files stop.Memory failed = tt

-- the one file of a command is not had
module _ (asked : Asked) (k : Kind) (name : List ℕ) (files : List File) {T : Type 0} (first : Result T Stop → Type 0)
    (reads : (command asked).reads ≡ named k name ∷ []) (outcome : (s : Stop) → first (Err s) → HasOutcomeOf (Some asked) files (Err s)) (before now : ℕ) where
  pub read_cause : (s : Stop) → Follows first (Err s) → EndsBy k before now s → k ≢ kind.Script → IsCauseOf (Some asked) files s
  read_cause s (inl h) end other = inl (outcome s h)
  read_cause s (inr failed) end other =
      let fails = read_fails k (named k name ∷ []) files before now other (inl (refl, refl)) s failed end in
      inr (failure_of asked files s (subst (λ (n : List Named). IsReadFailure n files s) (sym reads) fails))

-- a stage that reads a file ends before anything is written
pub read_end : (k : Kind) (before now : ℕ) (s : Stop) → EndsBy k before now s → k ≢ kind.Script → EndsReading before now s
read_end k before now stop.Usage end other = absurd end
read_end k before now (stop.FileTooLong kind.Midi n) end other = tt
read_end k before now (stop.FileTooLong kind.Grammar n) end other = tt
read_end k before now (stop.FileTooLong kind.Kern n) end other = tt
read_end k before now (stop.FileTooLong kind.ScriptFile n) end other = tt
read_end k before now (stop.FileTooLong kind.Script n) end other = absurd (other (sym end))
read_end k before now (stop.LineTooLong n) end other = absurd end
read_end k before now (stop.Smf e) end other = tt
read_end k before now (stop.Grammar e) end other = tt
read_end k before now (stop.Kern e) end other = tt
read_end k before now stop.NoNotes end other = tt
read_end k before now (stop.TooManyNotes n) end other = tt
read_end k before now (stop.BadSignature m n) end other = tt
read_end k before now (stop.UnevenBar l m n) end other = tt
read_end k before now (stop.TooManyBars n) end other = tt
read_end k before now (stop.TooManyCells n) end other = tt
read_end k before now (stop.NoStart l m n) end other = tt
read_end k before now (stop.Unprepared e) end other = tt
read_end k before now (stop.NoDerivation m n) end other = tt
read_end k before now (stop.ScoreTooLong n) end other = tt
read_end k before now (stop.RenderTooLong n) end other = tt
read_end k before now (stop.InFile m s) end other = absurd end
read_end k before now (stop.TooManyFiles n) end other = absurd end
read_end k before now (stop.TooManyCandidates n) end other = tt
read_end k before now (stop.NoBarline n) end other = tt
read_end k before now stop.NoCandidate end other = tt
read_end k before now (stop.ScriptLine row why) end other = tt
read_end k before now (stop.Read kind.Midi) end other = end.1
read_end k before now (stop.Read kind.Grammar) end other = end.1
read_end k before now (stop.Read kind.Kern) end other = end.1
read_end k before now (stop.Read kind.ScriptFile) end other = end.1
read_end k before now (stop.Read kind.Script) end other = absurd (other (sym end.0))
read_end k before now stop.Write end other = absurd end
read_end k before now stop.Memory end other = tt

-- ---- writing

-- out alone took the text, or a first part of it
wrote_seen : {S O E T : Type 0} (text : List ℕ) (old new : Lent S O E) (r : Result T Stop) → new ≡ record old { out = new.out; taken = new.taken; out_faults = new.out_faults }
    → OnOk r (Appends old.taken new.taken text) → IfErr r (λ end. (end ≡ stop.Write) × Rose old.out_faults new.out_faults × AppendsPart old.taken new.taken text) → IsTextWritten text old new r
wrote_seen text old new (Ok x) rest all part = record { all = all; part = tt; rest = rest }
wrote_seen text old new (Err s) rest all part = record { all = tt; part = part; rest = rest }

pub wrote : {S O E T : Type 0} (text : List ℕ) (seen old new : Lent S O E) (r : Result T Stop) → seen ≡ old → new ≡ record seen { out = new.out; taken = new.taken; out_faults = new.out_faults }
    → OnOk r (Appends seen.taken new.taken text) → IfErr r (λ end. (end ≡ stop.Write) × Rose seen.out_faults new.out_faults × AppendsPart seen.taken new.taken text) → IsTextWritten text old new r
wrote {S} {O} {E} text seen old new r same rest all part = subst (λ (l : Lent S O E). IsTextWritten text l new r) same (wrote_seen text seen new r rest all part)

-- ---- a text

pub same_stop : {T : Type 0} (s t : Stop) → ◌≡◌ {A = Result T Stop} (Err s) (Err t) → s ≡ t
same_stop s t e = cc

pub not_stopped : {T : Type 0} (x : T) (s : Stop) → ◌≡◌ {A = Result T Stop} (Ok x) (Err s) → ⊥
not_stopped x s e = cc

other_stop : {T : Type 0} → ◌≡◌ {A = Result T Stop} (Err stop.Write) (Err stop.Usage) → ⊥
other_stop e = cc

-- after a failed write more is known by what was written
write_built : (cells : Cells) (fs : Option (List File)) (old new : ℕ) → (cells ≡ no_cells → new ≡ old) → HasBuilt cells fs old new stop.Write
write_built no_cells fs old new none = none refl
write_built (cells_in i) fs old new none = tt
write_built (cells_fitted i c) fs old new none = tt
write_built (cells_followed i) fs old new none = tt
write_built (cells_learned midis) fs old new none = tt
write_built (cells_drilled number grammar) fs old new none = tt

module _ {S O E : Type 0} where
  -- what the reading of files and the counting leave as it was
  pub kept_rest : (asked : Option Asked) (old new : Lent S O E) {T : Type 0} (r : Result T Stop) → IsStoppedBefore asked old new r → KeepsRest asked old new
  kept_rest asked old new r h = record {
    files = ap (λ (l : Lent S O E). l.files) h.alone;
    strays = h.strays;
    script = λ _. ap (λ (l : Lent S O E). l.script) h.alone;
    built = h.rises.0;
    multiplied = h.rises.1;
  }

  pub untouched : (old new : Lent S O E) → ReadsAlone old new → IsUntouched old new
  untouched old new alone = (ap (λ (l : Lent S O E). l.out) alone, ap (λ (l : Lent S O E). l.script) alone)

  pub silent_alone : (old new : Lent S O E) → ReadsAlone old new → IsErrUntouched old new
  silent_alone old new alone = (ap (λ (l : Lent S O E). l.err) alone, ap (λ (l : Lent S O E). l.told) alone, ap (λ (l : Lent S O E). l.err_faults) alone)

  -- nothing is written where the run stops before
  pub stopped_before : {T U : Type 0} (asked : Option Asked) (old new : Lent S O E) (s : Stop) → IsStoppedBefore asked old new {T = T} (Err s) → IsPerformed asked old new {T = U} (Err s)
  stopped_before {T} {U} asked old new s h = record {
    known = λ e. absurd (reading_known old.shelf_faults new.shelf_faults s h.end (same_stop {T = U} s stop.Usage e));
    done = tt;
    stopped = record {
      cause = h.cause;
      risen = reading_risen old new s h.end;
      took = reading_taken old new asked old.shelf_faults new.shelf_faults s h.end (untouched old new h.alone);
      nothing = λ _ _. (untouched old new h.alone).0;
      built = h.built;
    };
    rest = kept_rest asked old new {T = T} (Err s) h;
    err = silent_alone old new h.alone;
  }

  module _ {A : Type 0} (asked : Option Asked) (old mid new : Lent S O E) (v : Vec ℕ A) (had : HasText asked old mid (Ok v)) where
    taken_same : mid.taken ≡ old.taken
    taken_same = ap (λ (l : Lent S O E). l.taken) had.before.alone

    written_silent : new ≡ record mid { out = new.out; taken = new.taken; out_faults = new.out_faults } → IsErrUntouched old new
    written_silent is =
        let none = silent_alone old mid had.before.alone in
        (ap (λ (l : Lent S O E). l.err) is ∙ none.0, ap (λ (l : Lent S O E). l.told) is ∙ none.1, ap (λ (l : Lent S O E). l.err_faults) is ∙ none.2)

    written_rest : new ≡ record mid { out = new.out; taken = new.taken; out_faults = new.out_faults } → KeepsRest asked old new
    written_rest is =
        let kept = kept_rest asked old mid (Ok v) had.before in
        record {
          files = ap (λ (l : Lent S O E). l.files) is ∙ kept.files;
          strays = λ files are names. ap (λ (l : Lent S O E). l.strays) is ∙ kept.strays files are names;
          script = λ none. ap (λ (l : Lent S O E). l.script) is ∙ kept.script none;
          built = subst (λ n. old.built ≤ n) (sym (ap (λ (l : Lent S O E). l.built) is)) kept.built;
          multiplied = subst (λ n. old.multiplied ≤ n) (sym (ap (λ (l : Lent S O E). l.multiplied) is)) kept.multiplied;
        }

    said : (W : List ℕ → Type 0) → new ≡ record mid { out = new.out; taken = new.taken; out_faults = new.out_faults } → W v.items → (files : List File) → old.files ≡ Some files
        → IsTextSaid asked files W old new
    said W is took files are =
        (v.items, had.text files are, took, subst (λ n. HasBuiltAll (cells_of_asked asked) files old.built n) (sym (ap (λ (l : Lent S O E). l.built) is)) (had.all files are))

    -- a text that was had is written
    pub written : {T : Type 0} (r : Result T Stop) → IsTextWritten v.items mid new r → IsPerformed asked old new r
    written (Ok x) w = record {
      known = λ e. absurd (not_stopped x stop.Usage e);
      done = λ files are. inl (said (Appends old.taken new.taken) w.rest (subst (λ (t : Option (List ℕ)). Appends t new.taken v.items) taken_same w.all) files are);
      stopped = tt;
      rest = written_rest w.rest;
      err = written_silent w.rest;
    }
    written {T} (Err s) w = subst (λ (x : Stop). IsPerformed asked old new {T = T} (Err x)) (sym w.part.0) (record {
      known = λ e. absurd (other_stop {T = T} e);
      done = tt;
      stopped = record {
        cause = λ files are. inr (say v.items, had.text files are);
        risen = subst (λ n. Rose n new.out_faults) (ap (λ (l : Lent S O E). l.out_faults) had.before.alone) w.part.1;
        took = λ files are. inl (said (AppendsPart old.taken new.taken) w.rest (subst (λ (t : Option (List ℕ)). AppendsPart t new.taken v.items) taken_same w.part.2) files are);
        nothing = λ _ other. absurd (other refl);
        built = all_said;
      };
      rest = written_rest w.rest;
      err = written_silent w.rest;
    })
      where
        all_said : HasBuilt (cells_of_asked asked) old.files old.built new.built stop.Write
        all_said = write_built (cells_of_asked asked) old.files old.built new.built (λ e. ap (λ (l : Lent S O E). l.built) w.rest ∙ had.before.no_cells e)

-- ---- before anything is written

-- a stop by what the files hold, or by want of memory
content_end : (before now : ℕ) (s : Stop) → IsOfContent s → EndsReading before now s
content_end before now stop.Usage content = absurd content
content_end before now (stop.FileTooLong k n) content = absurd content
content_end before now (stop.LineTooLong n) content = absurd content
content_end before now (stop.Smf e) content = tt
content_end before now (stop.Grammar e) content = tt
content_end before now (stop.Kern e) content = tt
content_end before now stop.NoNotes content = tt
content_end before now (stop.TooManyNotes n) content = tt
content_end before now (stop.BadSignature m n) content = tt
content_end before now (stop.UnevenBar l m n) content = tt
content_end before now (stop.TooManyBars n) content = tt
content_end before now (stop.TooManyCells n) content = tt
content_end before now (stop.NoStart l m n) content = tt
content_end before now (stop.Unprepared e) content = tt
content_end before now (stop.NoDerivation m n) content = tt
content_end before now (stop.ScoreTooLong n) content = tt
content_end before now (stop.RenderTooLong n) content = tt
content_end before now (stop.InFile m s) content = absurd content
content_end before now (stop.TooManyFiles n) content = absurd content
content_end before now (stop.TooManyCandidates n) content = tt
content_end before now (stop.NoBarline n) content = tt
content_end before now stop.NoCandidate content = tt
content_end before now (stop.ScriptLine row why) content = tt
content_end before now (stop.Read k) content = absurd content
content_end before now stop.Write content = absurd content
content_end before now stop.Memory content = tt

pub content_ends : {T : Type 0} (before now : ℕ) (r : Result T Stop) → IfErr r IsOfContent → IfErr r (EndsReading before now)
content_ends before now (Ok x) content = tt
content_ends before now (Err s) content = content_end before now s content

module _ {S O E : Type 0} where
  -- the shelf was read, and then the counters were raised
  pub counted_alone : (old mid new : Lent S O E) → mid ≡ record old { strays = mid.strays; shelf_faults = mid.shelf_faults } → new ≡ record mid { built = new.built; multiplied = new.multiplied }
      → ReadsAlone old new
  counted_alone old mid new reads counts =
      let strays = sym (ap (λ (l : Lent S O E). l.strays) counts) in
      let faults = sym (ap (λ (l : Lent S O E). l.shelf_faults) counts) in
      counts ∙ ap (λ (l : Lent S O E). record l { built = new.built; multiplied = new.multiplied }) reads
      ∙ (λ i. record old { strays = strays i; shelf_faults = faults i; built = new.built; multiplied = new.multiplied })

  -- the shelf alone was read
  pub shelf_alone : {T : Type 0} (asked : Option Asked) (old new : Lent S O E) (r : Result T Stop) → new ≡ record old { files = new.files; strays = new.strays; shelf_faults = new.shelf_faults } → new.files ≡ old.files
      → IfErr r (λ stop. ForSome old.files (λ files. IsCauseOf asked files stop)) → IfErr r (EndsReading old.shelf_faults new.shelf_faults) → IfErr r (HasBuilt (cells_of_asked asked) old.files old.built old.built)
      → ForSome old.files (λ files. HasNames files asked → new.strays ≡ old.strays) → IsStoppedBefore asked old new r
  shelf_alone asked old new r reads files cause end built strays = record {
    cause = cause;
    end = end;
    built = unbuilt r built;
    strays = strays;
    rises = (omega (arith, same), omega (arith, ap (λ (l : Lent S O E). l.multiplied) reads));
    no_cells = λ _. same;
    alone = counted_alone old new new (reads ∙ (λ i. record old { files = files i; strays = new.strays; shelf_faults = new.shelf_faults })) refl;
  }
    where
      same : new.built ≡ old.built
      same = ap (λ (l : Lent S O E). l.built) reads

      unbuilt : {U : Type 0} (x : Result U Stop) → IfErr x (HasBuilt (cells_of_asked asked) old.files old.built old.built) → IfErr x (HasBuilt (cells_of_asked asked) old.files old.built new.built)
      unbuilt (Ok u) h = tt
      unbuilt (Err s) h = subst (λ n. HasBuilt (cells_of_asked asked) old.files old.built n s) (sym same) h

  -- no text is had
  pub not_had : {A : Type 0} (asked : Option Asked) (seen old new : Lent S O E) (s : Stop) (r : Result (Vec ℕ A) Stop) → r ≡ Err s → seen ≡ old → new ≡ record seen { files = new.files; strays = new.strays; shelf_faults = new.shelf_faults } → new.files ≡ seen.files
      → ForSome seen.files (λ files. IsCauseOf asked files s) → EndsReading seen.shelf_faults new.shelf_faults s → HasBuilt (cells_of_asked asked) seen.files seen.built seen.built s
      → ForSome seen.files (λ files. HasNames files asked → new.strays ≡ seen.strays) → HasText asked old new r
  not_had {A} asked seen old new s r is same reads files cause end built strays =
      subst (λ (x : Result (Vec ℕ A) Stop). HasText asked old new x) (sym is) (subst (λ (l : Lent S O E). HasText {A = A} asked l new (Err s)) same (record {
        text = tt;
        all = tt;
        before = shelf_alone asked seen new (Err s) reads files cause end built strays;
      }))
