-- The laws, each as one statement over the definitions.
use Rattle.std.specs.Prelude.{◌≡◌, ◌↔◌, ◌<◌, ◌≤◌, ℕ, All, List, length, Result, Ok}
use Rattle.barline_fit.specs.declared.candidates.Candidates.{Candidates}
use Rattle.edit_script.specs.Replies.{done_text}
use Rattle.kern_reader.specs.Score.{IsKernScore, KernColumns}
use Rattle.performance_prepare.specs.Laws.{no_options}
use Rattle.performance_prepare.specs.Ranges.{AreInRange}
use Rattle.performance_prepare.specs.declared.options.Options.{Options}
use Rattle.rhythm_app.specs.Commands.{HasOutcome}
use Rattle.rhythm_app.specs.Learning.{IsLearning}
use Rattle.rhythm_app.specs.Outcome.{IsAnswering, IsDrilling, IsFitting, IsFollowing, IsListing, IsLoading, IsNoting, IsPieceMade, IsPieceOf, IsPlaying, IsWriting, Ready}
use Rattle.rhythm_app.specs.Scripted.{AreLinesMade, Opened}
use Rattle.rhythm_app.specs.declared.request.Form.{Form}
use Rattle.rhythm_app.specs.declared.request.Talk.{Talk}
use Rattle.rhythm_app.specs.declared.stop.Stop.{Stop}
use Rattle.rhythm_base.specs.Grammar.{Grammar}
use Rattle.rhythm_base.specs.Performance.{IsWellFormed, Performance}
use Rattle.rhythm_base.specs.Readable.{IsReadable}
use Rattle.rhythm_base.specs.declared.limits.TheConstants.{LONGEST_SCRIPT_LINE}
use Rattle.rhythm_ports.specs.Files.{File}
use Rattle.script_laws.specs.Script.{Run}
use Rattle.script_run.specs.Answers.{AnswersLine, Quits}
use Rattle.smf_reader.specs.Played.{Smf}
use Rattle.smf_reader.specs.Ranges.{IsPlayedFile}

abbrev pub AreBytes : List ℕ → Type 0
AreBytes bytes = All (λ b. b < 256) bytes

abbrev pub HoldBytes : List File → Type 0
HoldBytes files = All (λ file. AreBytes file.bytes) files

-- ---- each stage of a command comes to something, or to a stop

-- what a MIDI file says loads to a performance, or to a fault as a stop
abbrev pub LoadingsExist : Type 0
LoadingsExist = (f : Smf) → IsPlayedFile f → (r : Result Performance Stop) × IsLoading f r

-- and is played by options, or has a stop
abbrev pub PlayingsExist : Type 0
PlayingsExist = (o : Options) (f : Smf) → AreInRange o → IsPlayedFile f → (r : Result Performance Stop) × IsPlaying o f r

-- without options it is played as it is loaded
abbrev pub PlayingsWithoutOptions : Type 0
PlayingsWithoutOptions = (f : Smf) (r : Result Performance Stop) → IsPlaying no_options f r ↔ IsLoading f r

-- a performance is written by a grammar in each form, or is not, for a reason
abbrev pub WritingsExist : Type 0
WritingsExist = (form : Form) (g : Grammar) (p : Performance) → IsReadable g → IsWellFormed p → (r : Result Ready Stop) × IsWriting form g p r

-- a session that answers a script is opened, or is not
abbrev pub AnsweringsExist : Type 0
AnsweringsExist = (talk : Talk) (g : Grammar) (p : Performance) → IsReadable g → IsWellFormed p → (r : Result Ready Stop) × IsAnswering talk g p r

-- a performance has the text of its notes
abbrev pub NotingsExist : Type 0
NotingsExist = (p : Performance) → IsWellFormed p → (r : Result Ready Stop) × IsNoting p r

-- a score that is read has the text of its events
abbrev pub ListingsExist : Type 0
ListingsExist = (score : KernColumns) → IsKernScore score → (r : Result Ready Stop) × IsListing score r

-- of the candidates for a barline one is fitted, or none
abbrev pub FittingsExist : Type 0
FittingsExist = (c : Candidates) (g : Grammar) (p : Performance) → IsReadable g → IsWellFormed p → (r : Result Ready Stop) × IsFitting c g p r

-- the piece of a number is made, and its drill comes to an end
pub record DrillingsExist : Type 0 where
  pub pieces : (number : ℕ) → (r : Result Performance Stop) × IsPieceMade number r
  pub drills : (number : ℕ) (g : Grammar) (p : Performance) → IsReadable g → IsPieceOf number p → (r : Result Ready Stop) × IsDrilling g number p r

-- barlines that follow the player are found, or the performance is not opened
abbrev pub FollowingsExist : Type 0
FollowingsExist = (g : Grammar) (p : Performance) → IsReadable g → IsWellFormed p → (r : Result Ready Stop) × IsFollowing g p r

-- weights are learned from files by a grammar, or the first file that does not pass its tests has a stop
abbrev pub LearningsExist : Type 0
LearningsExist =
    (bit : ℕ) (files : List File) (midis : List (List ℕ)) (g : Grammar) → HoldBytes files → IsReadable g
    → (r : Result Ready Stop) × IsLearning bit files midis g r

-- ---- the script file

-- a line of no more than 4,096 bytes is answered `ok` by an editor
abbrev pub IsAnsweredOk : Grammar → Performance → List ℕ → List ℕ → Performance → Type 0
IsAnsweredOk g p line reply next =
    (length line ≤ LONGEST_SCRIPT_LINE) × ((built cost : ℕ) × AnswersLine g p line reply built next × (reply ≡ done_text built cost))

-- The edits of a script file are those of an edit script whose lines are all answered `ok`: where they are made, an editor answers each
-- line so, and stands on the same performance afterwards; and where it answers each line so, they are made
pub record ScriptFilesAreEdits : Type 0 where
  pub answered : (o last : Opened) (lines : List (List ℕ)) → AreLinesMade 1 o lines (Ok last)
      → (replies : List ℕ) × Run (IsAnsweredOk o.grammar) Quits o.performance lines replies last.performance
  pub made : (o : Opened) (lines : List (List ℕ)) (replies : List ℕ) (p : Performance) → Run (IsAnsweredOk o.grammar) Quits o.performance lines replies p
      → (last : Opened) × AreLinesMade 1 o lines (Ok last) × (last.performance ≡ p)

-- ---- the run

-- every command line has an outcome, whatever its words and whatever the bytes of its files
abbrev pub RunsHaveOutcomes : Type 0
RunsHaveOutcomes = (words : List (List ℕ)) (files : List File) → HoldBytes files → (r : Result Ready Stop) × HasOutcome words files r
