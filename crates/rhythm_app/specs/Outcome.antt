-- What the bytes of a command's files come to: what the command is ready to write, or the first test that fails, as a stop. The tests come in this order: the words; the MIDI file's size and its faults; the grammar file's size and its
-- faults; the size of the script file, where there is one; the notes; the take as it is prepared, an option after the other; the bars; the cells, the root symbols and the derivations; the lines of the script file, one after another; the fit of a barline, where one is asked for; the size
-- of a score, and of its MIDI file. Too many candidates for a barline are told before any file is read. Where the command has a MIDI file
-- alone, there is no grammar file between its faults and the notes; where it has a **kern file, after the words come its size and its faults. `drill` has a grammar file, the cells, the root symbols and the derivations
-- of its piece, and the size of its last score; `generate`, the help and the version read no file. A failed read, a failed write and
-- want of memory are no outcomes: they may end any run.
use Rattle.std.specs.Prelude.{◌≡◌, ◌≢◌, ℕ, ◌+◌, ◌≤◌, ◌⊎◌, nat_le, List, [], ◌∷◌, ◌++◌, codes, length, IfOk, map, decimal, if◌then◌else◌, Option, Some, None, Result, Ok, Err, Vec}
use Rattle.barline_fit.specs.Candidates.{ticks_of}
use Rattle.barline_fit.specs.Fitted.{IsFitFault, IsFitted}
use Rattle.rhythm_app.specs.FittedScore.{IsFittedScore, IsScoreAt}
use Rattle.barline_fit.specs.declared.candidates.Candidate.{Candidate}
use Rattle.barline_fit.specs.declared.candidates.Candidates.{Candidates}
use Rattle.barline_fit.specs.declared.fit_fault.FitFault.{FitFault}
use Rattle.barline_fit.specs.declared.fit_fault.FitFault.TheVariants as fitting
use Rattle.barline_fit.specs.declared.fitted.Fitted.{Fitted}
use Rattle.barline_follow.specs.Answer.{IsAnswer}
use Rattle.derivation.specs.PerformanceScore.{IsScoreOf, score_bar}
use Rattle.derivation.specs.Score.{Score}
use Rattle.drill_run.specs.Ends.{IsDrillOf}
use Rattle.drill_run.specs.declared.piece.TheConstants.{DRILL_BARS}
use Rattle.edit_script.specs.ScriptLines.{script_lines}
use Rattle.edit_session.specs.Opening.{CanOpen, IsOpenFault}
use Rattle.edit_session.specs.Session.{Session}
use Rattle.edit_session.specs.declared.open_fault.OpenFault.{OpenFault}
use Rattle.edit_session.specs.declared.open_fault.OpenFault.TheVariants as opening
use Rattle.grammar_file.specs.Grammar.{grammar_of}
use Rattle.kern_reader.specs.EventText.{events_text}
use Rattle.kern_reader.specs.Events.{AreEvents}
use Rattle.kern_reader.specs.Outcome.{score_of}
use Rattle.kern_reader.specs.Score.{KernColumns}
use Rattle.voice_events.specs.declared.event.KernEvent.{KernEvent}
use Rattle.kern_writer.specs.PerformanceText.{HasTooLongText, IsKernTextOf}
use Rattle.kern_writer.specs.declared.fault.ScoreFault.{ScoreFault}
use Rattle.kern_writer.specs.declared.fault.ScoreFault.TheVariants as scoring
use Rattle.lily_writer.specs.Text.{IsLilyText}
use Rattle.musicxml_writer.specs.Text.{IsMusicXml}
use Rattle.note_list.specs.declared.fault.NoteFault.{NoteFault}
use Rattle.note_list.specs.declared.fault.NoteFault.TheVariants as note
use Rattle.notes_writer.specs.NotesText.{IsNotesText}
use Rattle.page_writer.specs.Page.{IsPage}
use Rattle.performance_load.specs.Loading.{Loads}
use Rattle.performance_load.specs.Take.{Take}
use Rattle.performance_load.specs.Taking.{LoadsTake, Takes}
use Rattle.performance_load.specs.declared.load_fault.LoadFault.{LoadFault}
use Rattle.performance_load.specs.declared.load_fault.LoadFault.TheVariants as loading
use Rattle.performance_prepare.specs.Prepared.{prepared}
use Rattle.performance_prepare.specs.declared.options.Options.{Options}
use Rattle.piece_laws.specs.Laws.{IsLoadingOf}
use Rattle.rhythm_app.specs.Inputs.{Inputs, file_content}
use Rattle.rhythm_app.specs.declared.request.Form.{Form}
use Rattle.rhythm_app.specs.declared.request.Form.TheVariants as form
use Rattle.rhythm_app.specs.declared.request.Talk.{Talk}
use Rattle.rhythm_app.specs.declared.stop.Kind.{Kind}
use Rattle.rhythm_app.specs.declared.stop.Kind.TheVariants as kind
use Rattle.rhythm_app.specs.declared.stop.Stop.{Stop}
use Rattle.rhythm_app.specs.declared.stop.Stop.TheVariants as stop
use Rattle.rhythm_app.specs.Scripted.{AreLinesMade, Opened, Refused, opened_on}
use Rattle.rhythm_app.specs.Stops.{joined_words}
use Rattle.rhythm_base.specs.Grammar.{Grammar}
use Rattle.rhythm_base.specs.Performance.{IsWellFormed, Performance}
use Rattle.rhythm_base.specs.declared.bar_fault.BarFault.TheVariants as laying
use Rattle.rhythm_base.specs.declared.edit.Edit.{Edit}
use Rattle.rhythm_base.specs.declared.edit_fault.EditFault.{EditFault}
use Rattle.rhythm_base.specs.declared.edit_fault.EditFault.TheVariants as editing
use Rattle.rhythm_base.specs.declared.limits.TheConstants.{LONGEST_GRAMMAR, LONGEST_MIDI, LONGEST_SCORE, LONGEST_SCRIPT}
use Rattle.rhythm_ports.specs.Files.{File}
use Rattle.script_writer.specs.EditText.{script_text}
use Rattle.smf_reader.specs.Played.{Smf}
use Rattle.smf_reader.specs.SmfFile.{smf}
use Rattle.smf_writer.specs.RenderedFile.{HasRenderFault, IsRendered}
use Rattle.smf_writer.specs.declared.fault.RenderFault.{RenderFault}
use Rattle.smf_writer.specs.declared.fault.RenderFault.TheVariants as rendering

-- ---- tests in turn

-- one test and, with what it came to, the next: both pass, or the first that fails is the outcome
abbrev pub AreInTurn : {T U : Type 0} → (Result T Stop → Type 0) → (T → Result U Stop → Type 0) → Result U Stop → Type 0
AreInTurn {T} first next (Ok y) = (x : T) × first (Ok x) × next x (Ok y)
AreInTurn {T} first next (Err s) = first (Err s) ⊎ ((x : T) × first (Ok x) × next x (Err s))

-- ---- the files

-- the most bytes that a file may have
abbrev pub limit_of : Kind → ℕ
limit_of kind.Midi = LONGEST_MIDI
limit_of kind.Grammar = LONGEST_GRAMMAR
limit_of kind.Kern = LONGEST_SCORE
limit_of kind.ScriptFile = LONGEST_SCRIPT
limit_of kind.Script = LONGEST_SCRIPT

-- the bytes of a file that is not too long. Of a longer one, one byte more than the limit is read
abbrev pub sized : Kind → List ℕ → Result (List ℕ) Stop
sized kind bytes = if nat_le (length bytes) (limit_of kind) then Ok bytes else Err (stop.FileTooLong kind (limit_of kind + 1))

-- what the size of a file comes to
abbrev pub IsSized : Kind → List ℕ → Result (List ℕ) Stop → Type 0
IsSized kind bytes r = sized kind bytes ≡ r

-- the next test, where a test passed
abbrev pub passed : {T U : Type 0} → Result T Stop → (T → Result U Stop) → Result U Stop
passed (Ok x) next = next x
passed (Err s) next = Err s

-- what a layer came to, with its fault as a stop
abbrev pub stopped : {T E : Type 0} → (E → Stop) → Result T E → Result T Stop
stopped as_stop (Ok x) = Ok x
stopped as_stop (Err fault) = Err (as_stop fault)

unfoldable pub midi_tests : List ℕ → Result Smf Stop
midi_tests bytes = passed (sized kind.Midi bytes) (λ b. stopped stop.Smf (smf b))

unfoldable pub grammar_tests : List ℕ → Result Grammar Stop
grammar_tests bytes = passed (sized kind.Grammar bytes) (λ b. stopped stop.Grammar (grammar_of b))

unfoldable pub kern_tests : List ℕ → Result KernColumns Stop
kern_tests bytes = passed (sized kind.Kern bytes) (λ b. stopped stop.Kern (score_of b))

-- what the MIDI file comes to
abbrev pub IsRead : List ℕ → Result Smf Stop → Type 0
IsRead bytes r = midi_tests bytes ≡ r

-- what the grammar file comes to
abbrev pub IsUnderstood : List ℕ → Result Grammar Stop → Type 0
IsUnderstood bytes r = grammar_tests bytes ≡ r

-- what the **kern file comes to
abbrev pub IsScoreRead : List ℕ → Result KernColumns Stop → Type 0
IsScoreRead bytes r = kern_tests bytes ≡ r

-- what the script file comes to: its bytes, and none where there is no such file
abbrev pub IsScriptRead : Option (List ℕ) → List File → Result (List ℕ) Stop → Type 0
IsScriptRead None files r = r ≡ Ok []
IsScriptRead (Some name) files r = sized kind.ScriptFile (file_content files name) ≡ r

-- ---- the performance

-- a fault of loading as a stop
abbrev pub load_stop : LoadFault → Stop
load_stop (loading.Notes note.NoNotes) = stop.NoNotes
load_stop (loading.Notes (note.TooManyNotes count)) = stop.TooManyNotes count
load_stop (loading.Notes note.Memory) = stop.Memory
load_stop (loading.Bars (laying.TooManyBars start)) = stop.TooManyBars start
load_stop (loading.Bars (laying.BadSignature num dd)) = stop.BadSignature num dd
load_stop (loading.Bars (laying.UnevenBar bar num den)) = stop.UnevenBar bar num den
load_stop (loading.Bars laying.Memory) = stop.Memory
load_stop loading.Memory = stop.Memory

-- what loading the file comes to. A performance is always well formed
abbrev pub IsLoading : Smf → Result Performance Stop → Type 0
IsLoading f r =
    (loaded : Result Performance LoadFault) × Loads f loaded × (loaded ≢ Err loading.Memory) × IfOk loaded IsWellFormed × (r ≡ stopped load_stop loaded)

-- a fault of the notes of a file as a stop
abbrev pub note_stop : NoteFault → Stop
note_stop note.NoNotes = stop.NoNotes
note_stop (note.TooManyNotes count) = stop.TooManyNotes count
note_stop note.Memory = stop.Memory

-- what the take of the file comes to
abbrev pub IsTaking : Smf → Result Take Stop → Type 0
IsTaking f r = (taken : Result Take NoteFault) × Takes f taken × (taken ≢ Err note.Memory) × (r ≡ stopped note_stop taken)

-- what a take comes to as it is prepared
abbrev pub IsPreparing : Options → Take → Result Take Stop → Type 0
IsPreparing o t r = stopped stop.Unprepared (prepared o t) ≡ r

-- what loading a take comes to
abbrev pub IsTakeLoading : Take → Result Performance Stop → Type 0
IsTakeLoading t r =
    (loaded : Result Performance LoadFault) × LoadsTake t loaded × (loaded ≢ Err loading.Memory) × IfOk loaded IsWellFormed
    × (r ≡ stopped load_stop loaded)

-- what the file comes to, prepared by options: the take, as it is prepared, and its performance
abbrev pub IsPlaying : Options → Smf → Result Performance Stop → Type 0
IsPlaying o f = AreInTurn (IsTaking f) (λ t. AreInTurn (IsPreparing o t) IsTakeLoading)

-- ---- the score

-- a fault of opening a session as a stop
abbrev pub open_stop : OpenFault → Stop
open_stop (opening.Cells count) = stop.TooManyCells count
open_stop (opening.NoStart bar num den) = stop.NoStart bar num den
open_stop (opening.NoDerivation channel bar) = stop.NoDerivation channel bar
open_stop opening.Memory = stop.Memory

-- no session is opened
abbrev pub IsUnopened : Grammar → Performance → Stop → Type 0
IsUnopened g p s = (fault : OpenFault) × IsOpenFault g p fault × (fault ≢ opening.Memory) × (s ≡ open_stop fault)

-- what is made, or the stop of the fault for which it is not
abbrev pub or_stop : {T E : Type 0} → (E → Stop) → Result T E → Result T Stop
or_stop stop (Ok made) = Ok made
or_stop stop (Err fault) = Err (stop fault)

-- a fault of the text of a score as a stop
abbrev pub score_stop : ScoreFault → Stop
score_stop (scoring.TooLong line) = stop.ScoreTooLong line
score_stop scoring.Memory = stop.Memory

-- a session is opened, and its score is too long
abbrev pub IsTooLongToWrite : Grammar → Performance → Stop → Type 0
IsTooLongToWrite g p s = (line : ℕ) × CanOpen g p × HasTooLongText g p line × (s ≡ stop.ScoreTooLong line)

-- what a command is ready for where its tests pass: to write a text, or to answer the lines of a script by a grammar, from a performance
-- on
pub data Ready : Type 0 where
  say : List ℕ → Ready
  serve : Talk → Grammar → Performance → Ready

-- the events of that score: of its text, as it is read
pub record AreEventsOf (g : Grammar) (p : Performance) (list : List KernEvent) : Type 0 where
  pub text : List ℕ
  pub written : IsKernTextOf g p text
  pub score : KernColumns
  pub read : score_of text ≡ Ok score
  pub are : AreEvents score list

-- the LilyPond text of its events
abbrev pub IsLilyOf : Grammar → Performance → List ℕ → Type 0
IsLilyOf g p text = (list : List KernEvent) × AreEventsOf g p list × IsLilyText g.resolution (map (score_bar p) p.bars) (length p.channels) list text

-- a text that is written of the score itself, as its relation says; the **kern text of the score is within its limit
abbrev pub IsWrittenOf : (Score → List ℕ → List ℕ → Type 0) → Grammar → Performance → List ℕ → Type 0
IsWrittenOf Is g p text = (s : Score) × (kern : List ℕ) × IsScoreOf g p s × IsKernTextOf g p kern × Is s p.channels text

-- the page of the score
abbrev pub IsPageOf : Grammar → Performance → List ℕ → Type 0
IsPageOf = IsWrittenOf IsPage

-- the MusicXML text of the score
abbrev pub IsMusicXmlOf : Grammar → Performance → List ℕ → Type 0
IsMusicXmlOf = IsWrittenOf IsMusicXml

-- the MIDI file of its events
abbrev pub IsRenderingOf : Grammar → Performance → List ℕ → Type 0
IsRenderingOf g p bytes = (list : List KernEvent) × AreEventsOf g p list × IsRendered g.resolution (map (score_bar p) p.bars) p.channels list bytes

-- what is written of a performance by a grammar in this form
abbrev pub IsFormOf : Form → Grammar → Performance → List ℕ → Type 0
IsFormOf form.Score = IsKernTextOf
IsFormOf form.LilyPond = IsLilyOf
IsFormOf form.Page = IsPageOf
IsFormOf form.MusicXml = IsMusicXmlOf
IsFormOf form.Rendered = IsRenderingOf

-- a fault of rendering as a stop
abbrev pub render_stop : RenderFault → Stop
render_stop (rendering.TooLong tick) = stop.RenderTooLong tick
render_stop rendering.Memory = stop.Memory

-- a session is opened, and its score is within its limit, but ends too late for a MIDI file
abbrev pub IsTooLongToRender : Grammar → Performance → Stop → Type 0
IsTooLongToRender g p s =
    (text : List ℕ) × (tick : ℕ) × CanOpen g p × IsKernTextOf g p text × HasRenderFault g.resolution (map (score_bar p) p.bars) (rendering.TooLong tick) × (s ≡ stop.RenderTooLong tick)

-- a session is opened, and its score is within its limit, but is not written in this form
abbrev pub IsUnwritten : Form → Grammar → Performance → Stop → Type 0
IsUnwritten form.Score g p s = ⊥
IsUnwritten form.LilyPond g p s = ⊥
IsUnwritten form.Page g p s = ⊥
IsUnwritten form.MusicXml g p s = ⊥
IsUnwritten form.Rendered g p s = IsTooLongToRender g p s

-- what is written of a session in this form: a text, whose score is within its limit
abbrev pub IsWriting : Form → Grammar → Performance → Result Ready Stop → Type 0
IsWriting form g p (Ok (say text)) = CanOpen g p × IsFormOf form g p text
IsWriting form g p (Ok (serve t h q)) = ⊥
IsWriting form g p (Err s) = IsUnopened g p s ⊎ IsTooLongToWrite g p s ⊎ IsUnwritten form g p s

-- what a session that answers a script comes to
abbrev pub IsAnswering : Talk → Grammar → Performance → Result Ready Stop → Type 0
IsAnswering talk g p (Ok (say text)) = ⊥
IsAnswering talk g p (Ok (serve t h q)) = CanOpen g p × (t ≡ talk) × (h ≡ g) × (q ≡ p)
IsAnswering talk g p (Err s) = IsUnopened g p s

-- ---- the fitted barline

-- a fault of fitting a barline as a stop
abbrev pub fit_stop : FitFault → Stop
fit_stop (fitting.NoBar bar) = stop.NoBarline bar
fit_stop fitting.NoCandidate = stop.NoCandidate
fit_stop fitting.Memory = stop.Memory

-- the fitted tick and its cost
abbrev pub fit_line : Fitted → List ℕ
fit_line x = joined_words (codes "fit " ∷ decimal x.tick ∷ codes " " ∷ decimal x.cost ∷ codes "\n" ∷ [])

-- the barline at the fitted tick
abbrev pub fitted_at : ℕ → Fitted → Candidate
fitted_at bar x = record { bar = bar; tick = x.tick }

-- there is no text of the score with a barline at a tick: it is too long, or memory is wanting
abbrev pub IsUnscored : Session → Candidate → Stop → Type 0
IsUnscored s c end = (end ≡ stop.Memory) ⊎ ((line : ℕ) × IsScoreAt s c (Err line) × (end ≡ stop.ScoreTooLong line))

-- that line, and the score with the barline there
abbrev pub fit_text : Fitted → List ℕ → List ℕ
fit_text x score = fit_line x ++ score

-- the text of a session with its barline at the fitted tick
abbrev pub IsFitTextOf : {A : Type 0} → Session → ℕ → Fitted → Vec ℕ A → Type 0
IsFitTextOf s bar x text = (score : List ℕ) × IsScoreAt s (fitted_at bar x) (Ok score) × (text.items ≡ fit_text x score)

-- a tick is fitted, and the score with the barline there is this, or is too long
pub record FitsScore (c : Candidates) (g : Grammar) (p : Performance) (x : Fitted) (score : Result (List ℕ) ℕ) : Type 0 where
  pub can : CanOpen g p
  pub fitted : IsFitted g p c.bar (ticks_of c) x
  pub scored : IsFittedScore g p c.bar x.tick score

-- no tick is fitted
abbrev pub IsUnfitted : Candidates → Grammar → Performance → Stop → Type 0
IsUnfitted c g p s = (fault : FitFault) × CanOpen g p × IsFitFault g p c.bar (ticks_of c) fault × (fault ≢ fitting.Memory) × (s ≡ fit_stop fault)

-- the score with the barline at the fitted tick is too long
abbrev pub IsTooLongFit : Candidates → Grammar → Performance → Stop → Type 0
IsTooLongFit c g p s = (x : Fitted) × (line : ℕ) × FitsScore c g p x (Err line) × (s ≡ stop.ScoreTooLong line)

-- what the fit of a barline of a performance comes to by a grammar
abbrev pub IsFitting : Candidates → Grammar → Performance → Result Ready Stop → Type 0
IsFitting c g p (Ok (say text)) = (x : Fitted) × (score : List ℕ) × FitsScore c g p x (Ok score) × (text ≡ fit_text x score)
IsFitting c g p (Ok (serve t h q)) = ⊥
IsFitting c g p (Err s) = IsUnopened g p s ⊎ IsUnfitted c g p s ⊎ IsTooLongFit c g p s

-- ---- the barlines that follow the player

-- what barlines that follow the player come to by a grammar: the script that moves those of the performance there
abbrev pub IsFollowing : Grammar → Performance → Result Ready Stop → Type 0
IsFollowing g p (Ok (say text)) = CanOpen g p × ((edits : List Edit) × IsAnswer g p edits × (text ≡ script_text edits))
IsFollowing g p (Ok (serve t h q)) = ⊥
IsFollowing g p (Err s) = IsUnopened g p s

-- ---- the notes

-- what a performance comes to: the text of its bars, tempos, keys and notes
abbrev pub IsNoting : Performance → Result Ready Stop → Type 0
IsNoting p (Ok (say text)) = IsNotesText p text
IsNoting p (Ok (serve t g q)) = ⊥
IsNoting p (Err s) = ⊥

-- ---- the events

-- what the score of a **kern file comes to: the text of its events
abbrev pub IsListing : KernColumns → Result Ready Stop → Type 0
IsListing score (Ok (say text)) = (list : List KernEvent) × AreEvents score list × (text ≡ events_text list)
IsListing score (Ok (serve t g p)) = ⊥
IsListing score (Err s) = ⊥

-- ---- the drill

-- the performance of the piece of a number, as its file is read and loaded
abbrev pub IsPieceOf : ℕ → Performance → Type 0
IsPieceOf number p = IsLoadingOf number DRILL_BARS (Ok p)

-- a piece is always made
abbrev pub IsPieceMade : ℕ → Result Performance Stop → Type 0
IsPieceMade number r = (p : Performance) × IsPieceOf number p × (r ≡ Ok p)

-- a session is opened, and the score after the last edit of the drill is too long
abbrev pub IsTooLongDrill : Grammar → ℕ → Performance → Stop → Type 0
IsTooLongDrill g number p s = (line : ℕ) × CanOpen g p × IsDrillOf g number p (Err line) × (s ≡ stop.ScoreTooLong line)

-- what the drill of a number on a performance comes to by a grammar: its summary
abbrev pub IsDrilling : Grammar → ℕ → Performance → Result Ready Stop → Type 0
IsDrilling g number p (Ok (say text)) = CanOpen g p × IsDrillOf g number p (Ok text)
IsDrilling g number p (Ok (serve t h q)) = ⊥
IsDrilling g number p (Err s) = IsUnopened g p s ⊎ IsTooLongDrill g number p s

-- ---- the run

-- what the files of inputs say: a grammar, a performance, and the script whose edits are made first
pub record Loaded : Type 0 where
  pub grammar : Grammar
  pub performance : Performance
  pub script : List ℕ

abbrev pub loaded : Grammar → Performance → List ℕ → Loaded
loaded g p script = record { grammar = g; performance = p; script = script }

-- what the files of inputs come to
abbrev pub AreLoaded : Inputs → List File → Result Loaded Stop → Type 0
AreLoaded i files =
    AreInTurn (IsRead (file_content files i.midi))
    (λ f. AreInTurn (IsUnderstood (file_content files i.grammar))
    (λ g. AreInTurn (IsScriptRead i.script files) (λ script. AreInTurn (IsPlaying i.options f) (λ p r. r ≡ Ok (loaded g p script)))))

-- what the opening of a session comes to
abbrev pub IsOpening : Grammar → Performance → Result Opened Stop → Type 0
IsOpening g p (Ok o) = CanOpen g p × (o ≡ opened_on g p)
IsOpening g p (Err s) = IsUnopened g p s

-- why the edits of a script end at a line, as a stop: it says no edit, its edit is refused, or memory is wanting
abbrev pub line_stop : ℕ → Option EditFault → Stop
line_stop line (Some editing.Memory) = stop.Memory
line_stop line fault = stop.ScriptLine line fault

-- a refused line as a stop
abbrev pub refused_stop : Refused → Stop
refused_stop x = stop.ScriptLine x.line x.fault

-- what the edits of a script come to
abbrev pub IsScripted : List ℕ → Opened → Result Opened Stop → Type 0
IsScripted script o r = (edits : Result Opened Refused) × AreLinesMade 1 o (script_lines script) edits × (r ≡ stopped refused_stop edits)

-- what inputs come to by the files: the performance that they say, after the edits of the script file
abbrev pub AreInputs : Inputs → List File → Result Opened Stop → Type 0
AreInputs i files = AreInTurn (AreLoaded i files) (λ x. AreInTurn (IsOpening x.grammar x.performance) (IsScripted x.script))

-- what they come to by what is asked of the grammar and the performance
abbrev pub AreFilesRead : Inputs → List File → (Grammar → Performance → Result Ready Stop → Type 0) → Result Ready Stop → Type 0
AreFilesRead i files last = AreInTurn (AreInputs i files) (λ o. last o.grammar o.performance)
