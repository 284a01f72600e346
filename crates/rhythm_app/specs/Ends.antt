-- How a run may end, by what stood before it, `old`, and after it, `new`.
use Rattle.std.specs.Prelude.{◌≡◌, ◌≢◌, ℕ, ◌+◌, ◌⊎◌, ◌<◌, ◌≤◌, false, List, [], ◌∷◌, ◌++◌, length, take, IfErr, OnErr, OnOk, Result, Ok, Err, Option, Some, None, IsOk, ⊤}
use Rattle.std.specs.Io.KnownBytes.{Appends}
use Rattle.std.specs.Option.{ForSome}
use Rattle.rhythm_app.specs.Asked.{Asked, learn}
use Rattle.rhythm_app.specs.Builds.{HasBuilt, HasBuiltAll}
use Rattle.rhythm_app.specs.Commands.{HasNames, HasOutcome, HasOutcomeOf, Named, ReadsNoScript, cells_of_asked, command}
use Rattle.rhythm_app.specs.Inputs.{file_content}
use Rattle.rhythm_app.specs.Learning.{PassBefore}
use Rattle.rhythm_app.specs.Lent.{Lent}
use Rattle.rhythm_app.specs.Outcome.{Ready, say, serve, IsUnderstood, grammar_tests, kern_tests, midi_tests, sized}
use Rattle.rhythm_app.specs.Stops.{status_of, stop_line, script_stop}
use Rattle.rhythm_app.specs.declared.request.Talk.{Talk}
use Rattle.rhythm_app.specs.declared.request.Talk.TheVariants as talk
use Rattle.rhythm_app.specs.declared.stop.Kind.{Kind}
use Rattle.rhythm_app.specs.declared.stop.Kind.TheVariants as kind
use Rattle.rhythm_app.specs.declared.stop.MidiStop.TheVariants as midi
use Rattle.rhythm_app.specs.declared.stop.Stop.{Stop}
use Rattle.rhythm_app.specs.declared.stop.Stop.TheVariants.{Usage, FileTooLong, LineTooLong, InFile, Read, Write, Memory}
use Rattle.rhythm_base.specs.Counter.{risen}
use Rattle.rhythm_base.specs.Grammar.{Grammar}
use Rattle.rhythm_base.specs.Performance.{Performance}
use Rattle.rhythm_ports.specs.Causes.{HasCause, Rose}
use Rattle.rhythm_ports.specs.Files.{File}
use Rattle.edit_session.specs.Session.{Session}
use Rattle.script_run.specs.Desk.{Desk, editor, studio}
use Rattle.script_run.specs.Editing.{Editing}
use Rattle.script_run.specs.Ends as script
use Rattle.session_history.specs.History.{begun_with}
use Rattle.script_run.specs.declared.script_stop.ScriptStop.{ScriptStop}

-- ---- statuses

-- the statuses that an outcome allows: 0 and 6 of a command that is ready, and 4 where it answers a script; that of a stop; and 5 and
-- 7 always
abbrev pub MayEnd : Result Ready Stop → ℕ → Type 0
MayEnd (Ok (say text)) status = (status ≡ 0) ⊎ (status ≡ 5) ⊎ (status ≡ 6) ⊎ (status ≡ 7)
MayEnd (Ok (serve t g p)) status = (status ≡ 0) ⊎ (status ≡ 4) ⊎ (status ≡ 5) ⊎ (status ≡ 6) ⊎ (status ≡ 7)
MayEnd (Err stop) status = (status ≡ status_of stop) ⊎ (status ≡ 5) ⊎ (status ≡ 7)

-- the status is one that the outcome allows
abbrev pub HasStatus : List (List ℕ) → List File → ℕ → Type 0
HasStatus words files status = (r : Result Ready Stop) → HasOutcome words files r → MayEnd r status

-- ---- what out took

-- a first part of a text was taken, and not all of it
abbrev pub AppendsPart : Option (List ℕ) → Option (List ℕ) → List ℕ → Type 0
AppendsPart old new text = (n : ℕ) × (n < length text) × Appends old new (take n text)

-- a sink took a text, or a first part of it where a call failed. What a sink has taken, and the count of its faults, are given
pub record Writes {S T E : Type 0} (taken : S → Option (List ℕ)) (faults : S → ℕ) (old new : S) (text : List ℕ) (result : Result T E) : Type 0 where
  pub all : OnOk result (Appends (taken old) (taken new) text)
  pub part : OnErr result (AppendsPart (taken old) (taken new) text)
  pub cause : HasCause (faults old) (faults new) result

-- a text is the outcome; out took what W says of it, and all cells were built, where there are any
abbrev pub IsTextSaid : {S O E : Type 0} → Option Asked → List File → (List ℕ → Type 0) → Lent S O E → Lent S O E → Type 0
IsTextSaid asked files W old new = (text : List ℕ) × HasOutcomeOf asked files (Ok (say text)) × W text × HasBuiltAll (cells_of_asked asked) files old.built new.built

-- a script is answered as W says, from the performance on that the inputs say. All its cells were built, and then those for the edits
abbrev pub IsServed : {S O E : Type 0} → Option Asked → List File → (Talk → Grammar → Performance → Editing → Type 0) → Lent S O E → Lent S O E → Type 0
IsServed asked files W old new =
    (t : Talk) × (g : Grammar) × (p : Performance) × (last : Editing) × HasOutcomeOf asked files (Ok (serve t g p)) × W t g p last
    × ((mid : ℕ) × HasBuiltAll (cells_of_asked asked) files old.built mid × (new.built ≡ risen mid last.built))

-- what answers a script, before its first line
abbrev pub desk_of : Talk → Grammar → Performance → Desk
desk_of talk.Editing g p = editor g p
desk_of talk.Studio g p = studio (begun_with g p)

-- a script was answered to its end, or to `quit`
abbrev pub IsTalkDone : {S O E : Type 0} → Lent S O E → Lent S O E → Talk → Grammar → Performance → Editing → Type 0
IsTalkDone old new t g p last = script.IsDone (desk_of t g p) old.rest new.rest old.taken new.taken last

-- the answering of a script stopped
abbrev pub IsBrokenOff : {S O E : Type 0} → ScriptStop → Lent S O E → Lent S O E → Talk → Grammar → Performance → Editing → Type 0
IsBrokenOff s old new t g p last = script.IsScriptStopped s (desk_of t g p) old.rest new.rest old.taken new.taken last

-- a script is answered over a session as W says, and the cells for its edits were built
abbrev pub HasTalked : {S O E : Type 0} → (Editing → Type 0) → Lent S O E → Lent S O E → Type 0
HasTalked W old new = (last : Editing) × W last × (new.built ≡ risen old.built last.built)

-- a script is answered over a session, to its end or to `quit`
abbrev pub HasTalkedOn : {S O E : Type 0} → Talk → Session → Lent S O E → Lent S O E → Type 0
HasTalkedOn talk s old new = HasTalked (IsTalkDone old new talk s.grammar s.performance) old new

-- the answering of a script over a session stopped
abbrev pub HasBrokenOff : {S O E : Type 0} → Talk → Session → Lent S O E → Lent S O E → ScriptStop → Type 0
HasBrokenOff talk s old new end = HasTalked (IsBrokenOff end old new talk s.grammar s.performance) old new

-- all is written: the text, or the replies to the script
abbrev pub IsAnswered : {S O E : Type 0} → Option Asked → List File → Lent S O E → Lent S O E → Type 0
IsAnswered asked files old new = IsTextSaid asked files (Appends old.taken new.taken) old new ⊎ IsServed asked files (IsTalkDone old new) old new

-- the same by the files of the shelf
abbrev pub IsAllAnswered : {S O E : Type 0} → Option Asked → Lent S O E → Lent S O E → Type 0
IsAllAnswered asked old new = ForSome old.files (λ files. IsAnswered asked files old new)

-- the answering of a script stopped, and so the run
abbrev pub HasStopped : {S O E : Type 0} → Option Asked → List File → Stop → Lent S O E → Lent S O E → Type 0
HasStopped asked files stop old new = (s : ScriptStop) × (stop ≡ script_stop s) × IsServed asked files (IsBrokenOff s old new) old new

-- a write failed: out took a first part of the text, or of the replies to the script
abbrev pub IsOutputCut : {S O E : Type 0} → Option Asked → List File → Lent S O E → Lent S O E → Type 0
IsOutputCut asked files old new = IsTextSaid asked files (AppendsPart old.taken new.taken) old new ⊎ HasStopped asked files Write old new

-- out took nothing, and no byte of the script was read
abbrev pub IsUntouched : {S O E : Type 0} → Lent S O E → Lent S O E → Type 0
IsUntouched old new = (new.out ≡ old.out) × (new.script ≡ old.script)

-- what out took, by the stop: after a failed write a first part; where the script could not be read or is over a limit, the replies to
-- the lines before; and else nothing
abbrev pub HasTaken : {S O E : Type 0} → Option Asked → Lent S O E → Lent S O E → Stop → Type 0
HasTaken asked old new Write = ForSome old.files (λ files. IsOutputCut asked files old new)
HasTaken asked old new (Read kind.Script) = ForSome old.files (λ files. HasStopped asked files (Read kind.Script) old new)
HasTaken asked old new (FileTooLong kind.Script read) = ForSome old.files (λ files. HasStopped asked files (FileTooLong kind.Script read) old new)
HasTaken asked old new (LineTooLong read) = ForSome old.files (λ files. HasStopped asked files (LineTooLong read) old new)
HasTaken asked old new _ = IsUntouched old new

-- ---- causes

-- the tests of a file pass
abbrev pub Passes : Kind → List ℕ → Type 0
Passes kind.Midi bytes = IsOk (midi_tests bytes)
Passes kind.Grammar bytes = IsOk (grammar_tests bytes)
Passes kind.Kern bytes = IsOk (kern_tests bytes)
Passes kind.ScriptFile bytes = IsOk (sized kind.ScriptFile bytes)
Passes kind.Script bytes = ⊤

-- one of the files that are read is this input, and no number is told of it, and all files before it pass their tests
abbrev pub ComesTo : List File → Kind → List Named → Type 0
ComesTo files kind [] = ⊥
ComesTo files kind (it ∷ more) = ((it.kind ≡ kind) × (it.by_number ≡ false)) ⊎ (Passes it.kind (file_content files it.name) × ComesTo files kind more)

-- want of memory, or a failed read of one of the files, where all before it pass their tests
abbrev pub IsReadFailure : List Named → List File → Stop → Type 0
IsReadFailure reads files (Read kind.Script) = ⊥
IsReadFailure reads files (Read kind) = ComesTo files kind reads
IsReadFailure reads files Memory = ⊤
IsReadFailure reads files _ = ⊥

-- the tests that come before the reading of a file, or of the script, pass
abbrev pub Reached : Option Asked → List File → Kind → Type 0
Reached None files kind = ⊥
Reached (Some asked) files kind.Script = (t : Talk) × (g : Grammar) × (p : Performance) × HasOutcomeOf (Some asked) files (Ok (serve t g p))
Reached (Some asked) files kind = ComesTo files kind (command asked).reads

-- one of several MIDI files, by its number, from 1, is come to: the grammar is understood, and the files before it pass their tests
abbrev pub IsFileReached : Option Asked → List File → ℕ → Type 0
IsFileReached (Some (learn bit grammar midis)) files number =
    (g : Grammar) × (n : ℕ) × IsUnderstood (file_content files grammar) (Ok g) × (number ≡ n + 1) × PassBefore g files midis n
IsFileReached _ files number = ⊥

-- what the command and the files are where a call fails, the script is over a limit, or memory is wanted: the tests before a failed
-- read pass, and all of them before the script is read or anything is written. Memory may be wanted before the words are read
abbrev pub IsFailureOf : Option Asked → List File → Stop → Type 0
IsFailureOf asked files (Read kind) = Reached asked files kind
IsFailureOf asked files (InFile number s) = (s ≡ midi.Read) × IsFileReached asked files number
IsFailureOf asked files (FileTooLong kind.Script read) = Reached asked files kind.Script
IsFailureOf asked files (LineTooLong read) = Reached asked files kind.Script
IsFailureOf asked files Write = (ready : Ready) × HasOutcomeOf asked files (Ok ready)
IsFailureOf asked files Memory = ⊤
IsFailureOf asked files _ = ⊥

-- a run ends by the stop that its command and the files come to, or by a failure
abbrev pub IsCauseOf : Option Asked → List File → Stop → Type 0
IsCauseOf asked files stop = HasOutcomeOf asked files (Err stop) ⊎ IsFailureOf asked files stop

-- a stop by a failed call comes only where the count of that object rose: the shelf's, the script's, or out's
abbrev pub HasRisen : {S O E : Type 0} → Lent S O E → Lent S O E → Stop → Type 0
HasRisen old new (Read kind.Script) = Rose old.script_faults new.script_faults
HasRisen old new (Read _) = Rose old.shelf_faults new.shelf_faults
HasRisen old new (InFile _ s) = s ≡ midi.Read → Rose old.shelf_faults new.shelf_faults
HasRisen old new Write = Rose old.out_faults new.out_faults
HasRisen old new _ = ⊤

-- ---- ends

-- a run stopped: for a cause, which is named only where it came; what out took by then, where no script is read nothing but after a failed
-- write; and how many cells had been built
pub record IsStopped {S O E : Type 0} (asked : Option Asked) (old new : Lent S O E) (stop : Stop) : Type 0 where
  pub cause : ForSome old.files (λ files. IsCauseOf asked files stop)
  pub risen : HasRisen old new stop
  pub took : HasTaken asked old new stop
  pub nothing : ReadsNoScript asked → stop ≢ Write → new.out ≡ old.out
  pub built : HasBuilt (cells_of_asked asked) old.files old.built new.built stop

-- whatever the end: no name is opened but the command's, the script is read only by a command that answers it, and no counter falls
pub record KeepsRest {S O E : Type 0} (asked : Option Asked) (old new : Lent S O E) : Type 0 where
  pub files : new.files ≡ old.files
  pub strays : ForSome old.files (λ files. HasNames files asked → new.strays ≡ old.strays)
  pub script : ReadsNoScript asked → new.script ≡ old.script
  pub built : old.built ≤ new.built
  pub multiplied : old.multiplied ≤ new.multiplied

-- err took nothing
abbrev pub IsErrUntouched : {S O E : Type 0} → Lent S O E → Lent S O E → Type 0
IsErrUntouched old new = (new.err ≡ old.err) × (new.told ≡ old.told) × (new.err_faults ≡ old.err_faults)

-- no name was opened, and no call of the shelf failed
abbrev pub IsShelfUntouched : {S O E : Type 0} → Lent S O E → Lent S O E → Type 0
IsShelfUntouched old new = (new.files ≡ old.files) × (new.strays ≡ old.strays) × (new.shelf_faults ≡ old.shelf_faults)

-- what a run does before err is told: all is written, or it stopped
pub record IsPerformed {S O E : Type 0} (asked : Option Asked) (old new : Lent S O E) {T : Type 0} (result : Result T Stop) : Type 0 where
  pub known : result ≡ Err Usage → asked ≡ None
  pub done : OnOk result (IsAllAnswered asked old new)
  pub stopped : IfErr result (IsStopped asked old new)
  pub rest : KeepsRest asked old new
  pub err : IsErrUntouched old new

-- what holds of a sink, by what it has taken and by the count of its faults, before and after
abbrev pub OfSink : {S : Type 0} {R : Type 1} → (Option (List ℕ) → Option (List ℕ) → ℕ → ℕ → R) → (S → Option (List ℕ)) → (S → ℕ) → (old new : S) → R
OfSink P taken faults old new = P (taken old) (taken new) (faults old) (faults new)

-- a line was taken whole, or a first part of it where a call failed
abbrev pub Reports : Option (List ℕ) → Option (List ℕ) → ℕ → ℕ → List ℕ → Type 0
Reports old new before now line = Appends old new line ⊎ (Rose before now × AppendsPart old new line)

-- the same of a line and more lines after it, whatever they say
abbrev pub ReportsMore : Option (List ℕ) → Option (List ℕ) → ℕ → ℕ → List ℕ → Type 0
ReportsMore old new before now line = (more : List ℕ) × Reports old new before now (line ++ more)

-- the line of a stop was taken, or a first part of it. Where the words are no command, more lines say why
abbrev pub Tells : Option (List ℕ) → Option (List ℕ) → ℕ → ℕ → Stop → Type 0
Tells old new before now Usage = ReportsMore old new before now (stop_line Usage)
Tells old new before now stop = Reports old new before now (stop_line stop)

-- err took it
abbrev pub IsStopTold : {S O E : Type 0} → Lent S O E → Lent S O E → Stop → Type 0
IsStopTold old new stop = Tells old.told new.told old.err_faults new.err_faults stop

-- it stopped, by a stop of this status, and err was told
abbrev pub IsStoppedBy : {S O E : Type 0} → Option Asked → ℕ → Lent S O E → Lent S O E → Type 0
IsStoppedBy asked status old new = (stop : Stop) × (status_of stop ≡ status) × IsStopped asked old new stop × IsStopTold old new stop

-- a write failed: a first part of the text was taken
abbrev pub IsWriteCut : Option (List ℕ) → Option (List ℕ) → ℕ → ℕ → List ℕ → Stop → Type 0
IsWriteCut old new before now text stop = (stop ≡ Write) × Rose before now × AppendsPart old new text

-- ---- completeness

-- a count neither rose nor stands at its last value
abbrev pub Stood : ℕ → ℕ → Type 0
Stood before now = Rose before now → ⊥

-- where no call failed, a text is written, or memory was wanted; a script is answered, or is over a limit, or memory was wanted
abbrev pub IsCompleteFor : {S O E : Type 0} → Ready → Lent S O E → Lent S O E → ℕ → Type 0
IsCompleteFor (say text) old new status = Stood old.shelf_faults new.shelf_faults → Stood old.out_faults new.out_faults → (status ≡ 0) ⊎ (status ≡ 7)
IsCompleteFor (serve t g p) old new status =
    Stood old.shelf_faults new.shelf_faults → Stood old.script_faults new.script_faults → Stood old.out_faults new.out_faults
    → (status ≡ 0) ⊎ (status ≡ 4) ⊎ (status ≡ 7)

abbrev pub IsComplete : {S O E : Type 0} → List (List ℕ) → List File → Lent S O E → Lent S O E → ℕ → Type 0
IsComplete words files old new status = (ready : Ready) → HasOutcome words files (Ok ready) → IsCompleteFor ready old new status
