-- How one stage of a command may end.
use Rattle.std.specs.Prelude.{◌≡◌, ◌≢◌, ℕ, ◌≤◌, ◌⊎◌, List, length, IfErr, IfOk, Option, Some, None, Result, Ok, Err, Vec, ⊤}
use Rattle.std.specs.Io.KnownBytes.{Appends}
use Rattle.std.specs.Option.{ForSome}
use Rattle.barline_fit.specs.Tries.{HasReached}
use Rattle.barline_fit.specs.declared.candidates.Candidate.{Candidate}
use Rattle.edit_laws.specs.EditOutcomes.{IsOutcome, made}
use Rattle.edit_script.specs.ScriptLines.{script_lines}
use Rattle.edit_session.specs.Opening.{CanOpen}
use Rattle.edit_session.specs.Prepared.{RisesBy}
use Rattle.edit_session.specs.Session.{Session}
use Rattle.rhythm_ports.specs.Causes.{Rose}
use Rattle.rhythm_base.specs.Counter.{risen}
use Rattle.rhythm_base.specs.Grammar.{Grammar}
use Rattle.rhythm_base.specs.Performance.{Performance}
use Rattle.rhythm_base.specs.Readable.{IsReadable}
use Rattle.rhythm_base.specs.declared.limits.TheConstants.{LONGEST_SCRIPT, MOST_NOTES}
use Rattle.rhythm_base.specs.declared.edit.Edit.{Edit}
use Rattle.rhythm_base.specs.declared.edit_fault.EditFault.{EditFault}
use Rattle.rhythm_base.specs.declared.edit_fault.EditFault.TheVariants as editing
use Rattle.rhythm_ports.specs.Files.{File, file_of}
use Rattle.rhythm_app.specs.Asked.{Asked, answer}
use Rattle.rhythm_app.specs.Builds.{AreBuiltToLine, AreLoadedBuilt, ArePartlyBuilt, HasBuilt, HasBuiltAll, OfInputs, OfLoaded}
use Rattle.rhythm_app.specs.Commands.{HasNames, HasOutcomeOf, HaveNames, cells_of_asked, input_files, no_cells}
use Rattle.rhythm_app.specs.Ends.{AppendsPart, IsCauseOf, IsPerformed, IsReadFailure}
use Rattle.rhythm_app.specs.Inputs.{Inputs, file_content}
use Rattle.rhythm_app.specs.Lent.{Lent}
use Rattle.kern_writer.specs.PerformanceText.{IsKernTextOf}
use Rattle.rhythm_app.specs.Outcome.{AreInTurn, AreInputs, AreLoaded, IsOpening, IsScriptRead, IsScripted, IsTooLongToWrite, IsUnderstood, IsWriting, Loaded, Ready, loaded, refused_stop, say, serve}
use Rattle.rhythm_app.specs.Scripted.{AreLinesMade, IsLineBrokenOff, IsLineMade, IsLineRefused, MayHaveBuilt, Opened, Refused}
use Rattle.rhythm_app.specs.declared.request.Form.{Form}
use Rattle.rhythm_app.specs.declared.request.Request.{Request}
use Rattle.rhythm_app.specs.declared.request.Request.TheVariants as requests
use Rattle.rhythm_app.specs.declared.request.Talk.{Talk}
use Rattle.rhythm_app.specs.declared.stop.Kind.{Kind}
use Rattle.rhythm_app.specs.declared.stop.Kind.TheVariants as kind
use Rattle.rhythm_app.specs.declared.stop.MidiStop.TheVariants as midi
use Rattle.rhythm_app.specs.declared.stop.Stop.{Stop}
use Rattle.rhythm_app.specs.declared.stop.Stop.TheVariants.{FileTooLong, LineTooLong, Usage, NoDerivation, ScoreTooLong, RenderTooLong, InFile, TooManyFiles, TooManyCandidates, NoBarline, NoCandidate, ScriptLine, Read, Write, Memory}

-- a failed call, or want of memory
abbrev pub IsFailure : Stop → Type 0
IsFailure (Read _) = ⊤
IsFailure (InFile _ s) = s ≡ midi.Read
IsFailure Write = ⊤
IsFailure Memory = ⊤
IsFailure _ = ⊥

abbrev pub EndsByFailure : {T : Type 0} → Result T Stop → Type 0
EndsByFailure (Ok x) = ⊥
EndsByFailure (Err stop) = IsFailure stop

-- a stage gives what its tests come to, but for a failure
abbrev pub Follows : {T : Type 0} → (Result T Stop → Type 0) → Result T Stop → Type 0
Follows outcome r = outcome r ⊎ EndsByFailure r

-- the file of this name gives what its bytes come to, but for a failure
abbrev pub FollowsFile : {T : Type 0} → Option (List File) → List ℕ → (List ℕ → Result T Stop → Type 0) → Result T Stop → Type 0
FollowsFile files name outcome r = ForSome files (λ files. Follows (outcome (file_content files name)) r)

-- the script file gives what its bytes come to, but for a failure
abbrev pub FollowsScript : Option (List File) → Option (List ℕ) → Result (List ℕ) Stop → Type 0
FollowsScript files name r = ForSome files (λ files. Follows (IsScriptRead name files) r)

-- a stage before a session is opened ends neither by the words nor by what comes later: the derivations, the fit of a barline, the size of
-- the score and the writing, or the script
abbrev pub IsEarly : Stop → Type 0
IsEarly Usage = ⊥
IsEarly (LineTooLong _) = ⊥
IsEarly (NoDerivation _ _) = ⊥
IsEarly (ScoreTooLong _) = ⊥
IsEarly (RenderTooLong _) = ⊥
IsEarly (InFile _ _) = ⊥
IsEarly (TooManyFiles _) = ⊥
IsEarly (TooManyCandidates _) = ⊥
IsEarly (NoBarline _) = ⊥
IsEarly NoCandidate = ⊥
IsEarly (ScriptLine _ _) = ⊥
IsEarly Write = ⊥
IsEarly _ = ⊤

-- a stop by what the files hold, or by want of memory: no call failed, no file is too long, and the words are a command
abbrev pub IsOfContent : Stop → Type 0
IsOfContent (Read _) = ⊥
IsOfContent (FileTooLong _ _) = ⊥
IsOfContent (LineTooLong _) = ⊥
IsOfContent Write = ⊥
IsOfContent Usage = ⊥
IsOfContent (InFile _ _) = ⊥
IsOfContent (TooManyFiles _) = ⊥
IsOfContent (TooManyCandidates _) = ⊥
IsOfContent _ = ⊤

-- a stop by the size of what would be written, or by want of memory
abbrev pub IsOfWriting : Stop → Type 0
IsOfWriting (ScoreTooLong _) = ⊤
IsOfWriting (RenderTooLong _) = ⊤
IsOfWriting Memory = ⊤
IsOfWriting _ = ⊥

-- a stage that reads ends by a read or a limit only of its own kind, and by a read only where the shelf's count rose
abbrev pub EndsBy : Kind → ℕ → ℕ → Stop → Type 0
EndsBy kind before now (Read k) = (k ≡ kind) × Rose before now
EndsBy kind before now (FileTooLong k _) = k ≡ kind
EndsBy kind before now stop = IsEarly stop

-- a file of this kind is not had: it is not read, it is too long, or memory is wanting
abbrev pub IsUnread : Kind → Stop → Type 0
IsUnread kind (Read k) = k ≡ kind
IsUnread kind (FileTooLong k _) = k ≡ kind
IsUnread kind Memory = ⊤
IsUnread kind _ = ⊥

-- a list of bytes as contracts see it
abbrev pub items_of : {A E : Type 0} → Result (Vec ℕ A) E → Result (List ℕ) E
items_of (Ok v) = Ok v.items
items_of (Err e) = Err e

-- a text that is ready to be written
abbrev pub said_of : {A E : Type 0} → Result (Vec ℕ A) E → Result Ready E
said_of (Ok v) = Ok (say v.items)
said_of (Err e) = Err e

-- what comes before anything is written ends by no failed write, by no refused words, and not by the script
abbrev pub EndsReading : ℕ → ℕ → Stop → Type 0
EndsReading before now (Read kind.Script) = ⊥
EndsReading before now (FileTooLong kind.Script _) = ⊥
EndsReading before now (LineTooLong _) = ⊥
EndsReading before now (Read _) = Rose before now
EndsReading before now (InFile _ s) = s ≡ midi.Read → Rose before now
EndsReading before now Write = ⊥
EndsReading before now Usage = ⊥
EndsReading before now _ = ⊤

-- no grammar, no performance and no script is had of the inputs: that is what their files come to, or a read failed, or memory is wanting
abbrev pub IsLoadStop : Inputs → List File → Stop → Type 0
IsLoadStop i files stop = AreLoaded i files (Err stop) ⊎ IsReadFailure (input_files i) files stop

-- the same by the files of a shelf
abbrev pub IsStopOfInputs : Option (List File) → Inputs → Stop → Type 0
IsStopOfInputs files i stop = ForSome files (λ files. IsLoadStop i files stop)

-- a grammar, a performance and the bytes of a script as contracts see them
abbrev pub loaded_of : {A E : Type 0} → Result (Grammar × Performance × Vec ℕ A) E → Result Loaded E
loaded_of (Ok had) = Ok (loaded had.0 had.1 had.2.items)
loaded_of (Err e) = Err e

-- inputs give what their files come to, but for a failure
abbrev pub FollowsInputs : {A : Type 0} → Option (List File) → Inputs → Result (Grammar × Performance × Vec ℕ A) Stop → Type 0
FollowsInputs files i r = ForSome files (λ files. Follows (AreLoaded i files) (loaded_of r))

-- ---- a session that is written

-- the **kern text of the score of a session is within its limit
abbrev pub HasShortText : Session → Type 0
HasShortText s = (text : List ℕ) × IsKernTextOf s.grammar s.performance text

-- the score of a session has no such text, or memory is wanting
abbrev pub HasNoText : Session → Stop → Type 0
HasNoText s stop = IsTooLongToWrite s.grammar s.performance stop ⊎ (stop ≡ Memory)

-- a session is written in this form, but for a failure
abbrev pub FollowsForm : {A : Type 0} → Form → Session → Result (Vec ℕ A) Stop → Type 0
FollowsForm form s r = Follows (IsWriting form s.grammar s.performance) (said_of r)

-- the cells were built that a barline reaches at a tick, but where memory is wanting
abbrev pub ReachesBarline : {S O E T : Type 0} → Session → Candidate → (old new : Lent S O E) → Result T Stop → Type 0
ReachesBarline s c old new result = result ≢ Err Memory → HasReached s c old.built new.built

-- ---- stages of a command

-- the counters alone were raised
abbrev pub CountsAlone : {S O E : Type 0} → Lent S O E → Lent S O E → Type 0
CountsAlone old new = new ≡ record old { built = new.built; multiplied = new.multiplied }

-- neither counter fell
abbrev pub CountersRise : {S O E : Type 0} → Lent S O E → Lent S O E → Type 0
CountersRise old new = (old.built ≤ new.built) × (old.multiplied ≤ new.multiplied)

-- the counters alone were raised, and neither fell
abbrev pub CountsUp : {S O E : Type 0} → Lent S O E → Lent S O E → Type 0
CountsUp old new = CountsAlone old new × CountersRise old new

-- nothing but the shelf was read, and the counters were raised
abbrev pub ReadsAlone : {S O E : Type 0} → Lent S O E → Lent S O E → Type 0
ReadsAlone old new = new ≡ record old { strays = new.strays; shelf_faults = new.shelf_faults; built = new.built; multiplied = new.multiplied }

-- before anything is written: where no text and no session is had the run stops
pub record IsStoppedBefore {S O E : Type 0} (asked : Option Asked) (old new : Lent S O E) {T : Type 0} (result : Result T Stop) : Type 0 where
  pub cause : IfErr result (λ stop. ForSome old.files (λ files. IsCauseOf asked files stop))
  pub end : IfErr result (EndsReading old.shelf_faults new.shelf_faults)
  pub built : IfErr result (HasBuilt (cells_of_asked asked) old.files old.built new.built)
  pub strays : ForSome old.files (λ files. HasNames files asked → new.strays ≡ old.strays)
  pub rises : (old.built ≤ new.built) × (old.multiplied ≤ new.multiplied)
  pub no_cells : cells_of_asked asked ≡ no_cells → new.built ≡ old.built
  pub alone : ReadsAlone old new

-- the shelf alone was read
abbrev pub ReadsShelf : {S O E : Type 0} → Lent S O E → Lent S O E → Type 0
ReadsShelf old new = new ≡ record old { strays = new.strays; shelf_faults = new.shelf_faults }

-- what the files of the inputs say is had: a grammar, a performance and the bytes of a script
pub record HasLoaded {S O E A : Type 0} (i : Inputs) (old new : Lent S O E) (result : Result (Grammar × Performance × Vec ℕ A) Stop) : Type 0 where
  pub tests : ForSome old.files (λ files. Follows (AreLoaded i files) (loaded_of result))
  pub cause : IfErr result (λ stop. ForSome old.files (λ files. IsLoadStop i files stop))
  pub readable : IfOk result (λ had. IsReadable had.0)
  pub few_notes : IfOk result (λ had. length had.1.notes ≤ MOST_NOTES)
  pub short : IfOk result (λ had. length had.2.items ≤ LONGEST_SCRIPT)
  pub end : IfErr result (EndsReading old.shelf_faults new.shelf_faults)
  pub early : IfErr result IsEarly
  pub strays : ForSome old.files (λ files. HaveNames files (input_files i) → new.strays ≡ old.strays)
  pub reads : ReadsShelf old new

-- what asks for too many candidates or files ends by their count
abbrev pub TellsTooMany : {T : Type 0} → Request → Result T Stop → Type 0
TellsTooMany (requests.TooManyCandidates count) result = result ≡ Err (TooManyCandidates count)
TellsTooMany (requests.TooManyFiles count) result = result ≡ Err (TooManyFiles count)
TellsTooMany _ result = ⊤

-- ---- a session on inputs

-- a session on a performance for which so many cells were built
abbrev pub standing : Session → ℕ → Opened
standing s n = record { grammar = s.grammar; performance = s.performance; built = n }

-- the edits of lines were made on a performance, and so many cells were built: the performance after them; the first line that is refused;
-- or want of memory
abbrev pub HasEdited : {T : Type 0} → Opened → List (List ℕ) → ℕ → ℕ → Performance → Result T Stop → Type 0
HasEdited o lines old new q (Ok x) = (last : Opened) × AreLinesMade 1 o lines (Ok last) × (q ≡ last.performance) × (new ≡ risen old last.built)
HasEdited o lines old new q (Err s) =
    ((x : Refused) × AreLinesMade 1 o lines (Err x) × (s ≡ refused_stop x) × (new ≡ risen old x.built))
    ⊎ ((s ≡ Memory) × RisesBy old new (MayHaveBuilt o lines))

-- an edit of a session is made, and so many cells were built as it says
abbrev pub MakesEdit : {S O E : Type 0} → Edit → (old new : Session) → (before after : Lent S O E) → Type 0
MakesEdit edit old new before after =
    RisesBy before.built after.built (λ n. (cost : ℕ) × IsOutcome old.grammar old.performance edit (made n cost) new.performance)

-- the edit of a line is made, and so many cells were built
abbrev pub MakesLine : {S O E : Type 0} → List ℕ → (old new : Session) → (before after : Lent S O E) → Type 0
MakesLine line old new before after = RisesBy before.built after.built (IsLineMade old.grammar old.performance line new.performance)

-- a line is refused over a session, and the cells were built that its edit would have reached
abbrev pub RefusesLine : {S O E : Type 0} → List ℕ → Session → (before after : Lent S O E) → Option EditFault → Type 0
RefusesLine line s before after fault =
    fault ≢ Some editing.Memory → RisesBy before.built after.built (IsLineRefused s.grammar s.performance line fault)

-- memory is wanting for a line over a session, and no more cells were built than its edit would have reached
abbrev pub BreaksLineOff : {S O E : Type 0} → List ℕ → Session → (before after : Lent S O E) → Option EditFault → Type 0
BreaksLineOff line s before after fault =
    fault ≡ Some editing.Memory → RisesBy before.built after.built (IsLineBrokenOff s.grammar s.performance line)

-- the edits of a script were made over a session for which some cells had been built before, up to the first line that is refused
abbrev pub MakesEdits : {S O E T : Type 0} → List ℕ → (old new : Session) → (before after : Lent S O E) → Result T Stop → Type 0
MakesEdits script old new before after result =
    (from n : ℕ) → before.built ≡ risen from n → HasEdited (standing old n) (script_lines script) from after.built new.performance result

-- how many cells were built where no session is had: none; those of the performance, where a derivation is wanting; those up to the line that
-- is refused; or some, where memory is wanting. L is what holds of what the files say
abbrev pub IsBuiltUnopened : ((Loaded → Type 0) → Type 0) → ℕ → ℕ → Stop → Type 0
IsBuiltUnopened L old new s =
    (IsEarly s × (new ≡ old))
    ⊎ ((channel bar : ℕ) × (s ≡ NoDerivation channel bar) × L (AreLoadedBuilt old new))
    ⊎ ((line : ℕ) × (fault : Option EditFault) × (s ≡ ScriptLine line fault) × L (AreBuiltToLine line fault old new))
    ⊎ ((s ≡ Memory) × L (ArePartlyBuilt old new))

-- what a session on a performance comes to, after the edits of a script
abbrev pub IsOpeningScripted : Loaded → Result Opened Stop → Type 0
IsOpeningScripted x = AreInTurn (IsOpening x.grammar x.performance) (IsScripted x.script)

-- a session stands on a performance, as edited so far
abbrev pub StandsOn : Session → Opened → Type 0
StandsOn s o = (s.grammar ≡ o.grammar) × (s.performance ≡ o.performance)

-- a session is opened on what was loaded, and the edits of its script are made
pub record HasScripted {S O E : Type 0} (x : Loaded) (old new : Lent S O E) (result : Result Session Stop) : Type 0 where
  pub had : IfOk result (λ s. (o : Opened) × IsOpeningScripted x (Ok o) × StandsOn s o × (new.built ≡ risen old.built o.built))
  pub can : IfOk result (λ s. CanOpen s.grammar s.performance)
  pub cause : IfErr result (λ s. IsOpeningScripted x (Err s) ⊎ (s ≡ Memory))
  pub content : IfErr result IsOfContent
  pub built : IfErr result (IsBuiltUnopened (λ P. P x) old.built new.built)
  pub counts : CountsUp old new

-- a session is opened on inputs, and the edits of their script file are made
pub record HasOpened {S O E : Type 0} (i : Inputs) (old new : Lent S O E) (result : Result Session Stop) : Type 0 where
  pub had : IfOk result (λ s. OfInputs i old.files (λ o. StandsOn s o × (new.built ≡ risen old.built o.built)))
  pub can : IfOk result (λ s. CanOpen s.grammar s.performance)
  pub cause : IfErr result (λ stop. ForSome old.files (λ files. AreInputs i files (Err stop) ⊎ IsReadFailure (input_files i) files stop))
  pub end : IfErr result (EndsReading old.shelf_faults new.shelf_faults)
  pub built : IfErr result (IsBuiltUnopened (OfLoaded i old.files) old.built new.built)
  pub strays : ForSome old.files (λ files. HaveNames files (input_files i) → new.strays ≡ old.strays)
  pub rises : (old.built ≤ new.built) × (old.multiplied ≤ new.multiplied)
  pub alone : ReadsAlone old new

-- what the grammar file of this name says is had
pub record HasRules {S O E : Type 0} (grammar : List ℕ) (old new : Lent S O E) (result : Result Grammar Stop) : Type 0 where
  pub tests : ForSome old.files (λ files. Follows (IsUnderstood (file_content files grammar)) result)
  pub readable : IfOk result IsReadable
  pub end : IfErr result (EndsBy kind.Grammar old.shelf_faults new.shelf_faults)
  pub later : old.shelf_faults ≤ new.shelf_faults
  pub strays : ForSome old.files (λ files. file_of files grammar ≢ None → new.strays ≡ old.strays)
  pub reads : ReadsShelf old new

-- the text that is the outcome is had, and all cells are built
pub record HasText {S O E A : Type 0} (asked : Option Asked) (old new : Lent S O E) (result : Result (Vec ℕ A) Stop) : Type 0 where
  pub text : IfOk result (λ v. ForSome old.files (λ files. HasOutcomeOf asked files (Ok (say v.items))))
  pub all : IfOk result (λ _. ForSome old.files (λ files. HasBuiltAll (cells_of_asked asked) files old.built new.built))
  pub before : IsStoppedBefore asked old new result

-- what is asked for is done, whatever it is, where its text was had before
abbrev pub IsFinished : {S O E A T : Type 0} → Result (Vec ℕ A) Stop → (old new : Lent S O E) → Result T Stop → Type 0
IsFinished {S} {O} {E} text old new result =
    (asked : Option Asked) (before : Lent S O E) → HasText asked before old text → IsPerformed asked before new result

-- the session that answers a script is had, and all its cells are built
pub record HasSession {S O E : Type 0} (talk : Talk) (i : Inputs) (old new : Lent S O E) (result : Result Session Stop) : Type 0 where
  pub ready : IfOk result (λ s. ForSome old.files (λ files. HasOutcomeOf (Some (answer talk i)) files (Ok (serve talk s.grammar s.performance))))
  pub all : IfOk result (λ _. ForSome old.files (λ files. HasBuiltAll (cells_of_asked (Some (answer talk i))) files old.built new.built))
  pub before : IsStoppedBefore (Some (answer talk i)) old new result

-- a text was written, or a first part of it where a call failed; nothing but out was touched
pub record IsTextWritten {S O E T : Type 0} (text : List ℕ) (old new : Lent S O E) (result : Result T Stop) : Type 0 where
  pub all : IfOk result (λ _. Appends old.taken new.taken text)
  pub part : IfErr result (λ stop. (stop ≡ Write) × Rose old.out_faults new.out_faults × AppendsPart old.taken new.taken text)
  pub rest : new ≡ record old { out = new.out; taken = new.taken; out_faults = new.out_faults }
