-- The laws, each as one statement over the definitions.
use Rattle.std.specs.Prelude.{◌≡◌, ◌≢◌, ℕ, ◌⊎◌, List, [], ◌∷◌, All, Option, Some, Result}
use Rattle.barline_follow.specs.Answer.{IsAnswer}
use Rattle.barline_follow.specs.Script.{Leads}
use Rattle.derivation.specs.PerformanceScore.{IsScoreOf}
use Rattle.derivation.specs.Score.{Score}
use Rattle.edit_laws.specs.EditOutcomes.{EditOutcome, IsOutcome}
use Rattle.edit_laws.specs.Reached.{AreReached}
use Rattle.edit_script.specs.Replies.{done_text, refused_text}
use Rattle.edit_script.specs.ScriptLines.{script_lines}
use Rattle.edit_session.specs.Opening.{CanOpen, IsOpenFault}
use Rattle.edit_session.specs.declared.open_fault.OpenFault.{OpenFault}
use Rattle.edit_session.specs.declared.open_fault.OpenFault.TheVariants as opening
use Rattle.rhythm_base.specs.declared.edit.Edit.{Edit}
use Rattle.rhythm_base.specs.declared.edit_fault.EditFault.TheVariants.{Memory}
use Rattle.rhythm_base.specs.EditRanges.{IsEditInRange}
use Rattle.rhythm_base.specs.Forest.{Tree}
use Rattle.rhythm_base.specs.Grammar.{Grammar}
use Rattle.rhythm_base.specs.Performance.{IsWellFormed, Performance}
use Rattle.rhythm_base.specs.Readable.{IsReadable}
use Rattle.rhythm_base.specs.Voices.{HasDerivation}
use Rattle.kern_writer.specs.PerformanceText.{IsWrittenScore}
use Rattle.script_run.specs.Answers.{AnswersLine, Quits}
use Rattle.script_run.specs.Desk.{AnswersOn, Desk, editor, studio}
use Rattle.script_run.specs.Editing.{Editing, begun_on}
use Rattle.script_run.specs.Laws.{EndsAmply, IsAmpleAnswer, IsByBytes}
use Rattle.script_run.specs.declared.script_stop.ScriptStop.{ScriptStop}
use Rattle.script_laws.specs.Script.{Run}
use Rattle.script_writer.specs.EditText.{script_text}
use Rattle.session_history.specs.History.{begun_with}
use Rattle.tree_laws.specs.Alternatives.{AreBestOfBar}
use Rattle.answer_laws.specs.Editable.{IsEditable, IsOpen}

-- the cells that a change of a performance reaches are some list
abbrev pub ReachedCellsExist : Type 0
ReachedCellsExist =
    (g : Grammar) (before after : Performance) → (cells : List (ℕ × ℕ)) × AreReached g before after cells

-- where each voice of a performance has a derivation there is a score, and its text or the first record past the longest
pub record ScoresExist : Type 0 where
  pub score : (g : Grammar) (p : Performance) → IsReadable g → IsWellFormed p → All (HasDerivation g p) p.channels
      → (s : Score) × IsScoreOf g p s
  pub written : (g : Grammar) (p : Performance) → IsReadable g → IsWellFormed p → All (HasDerivation g p) p.channels
      → (score : Result (List ℕ) ℕ) × IsWrittenScore g p score

-- a session can be opened on a performance, or there is a fault that is no want of memory
abbrev pub OpeningsExist : Type 0
OpeningsExist =
    (g : Grammar) (p : Performance) → IsReadable g → IsWellFormed p
    → CanOpen g p ⊎ ((fault : OpenFault) × (fault ≢ opening.Memory) × IsOpenFault g p fault)

-- a bar of a voice has as many best trees as are asked for, or all of its trees
abbrev pub AlternativesExist : Type 0
AlternativesExist =
    (g : Grammar) (p : Performance) (channel bar count : ℕ) → IsReadable g
    → (list : List (ℕ × Tree)) × AreBestOfBar g p channel bar count list

-- ---- of what can be edited

-- a desk with a performance that can be edited, of which nothing was edited yet, is open
abbrev pub DesksBeginOpen : Type 0
DesksBeginOpen =
    (g : Grammar) (p : Performance) → IsReadable g → IsEditable g p → IsOpen (editor g p) × IsOpen (studio (begun_with g p))

-- an edit has an outcome, and leaves a performance that can be edited
abbrev pub OutcomesExist : Type 0
OutcomesExist =
    (g : Grammar) (p : Performance) (edit : Edit) → IsReadable g → IsEditable g p → IsEditInRange edit
    → (outcome : EditOutcome) × (next : Performance) × IsOutcome g p edit outcome next × IsEditable g next

-- a line, whatever its bytes, has an answer that is no want of memory, and leaves a performance that can be edited
abbrev pub LinesHaveAnswers : Type 0
LinesHaveAnswers =
    (g : Grammar) (p : Performance) (line : List ℕ) → IsReadable g → IsEditable g p
    → (reply : List ℕ) × (n : ℕ) × (next : Performance) × AnswersLine g p line reply n next × (reply ≢ refused_text Memory)
    × IsEditable g next

-- so has a line on a desk, an editor or a studio, and leaves a desk that is open
abbrev pub DesksHaveAnswers : Type 0
DesksHaveAnswers =
    (desk : Desk) (line : List ℕ) → IsOpen desk
    → (reply : List ℕ) × (n : ℕ) × (next : Desk) × AnswersOn desk line reply n next × (reply ≢ refused_text Memory)
    × IsOpen next

-- so the lines of a script, up to one that says `quit`, have replies and an end
abbrev pub ScriptsHaveEnds : Type 0
ScriptsHaveEnds =
    (desk : Desk) (lines : List (List ℕ)) → IsOpen desk
    → (replies : List ℕ) × (last : Editing) × Run IsAmpleAnswer Quits (begun_on desk) lines replies last

-- a script has an end that its bytes decide, and what out takes up to there, without want of memory
abbrev pub OutputsExist : Type 0
OutputsExist =
    (desk : Desk) (script written : List ℕ) → IsOpen desk
    → (end : Result (Unit {0}) ScriptStop) × (rest : Option (List ℕ)) × (out : List ℕ) × (last : Editing)
    × IsByBytes end × EndsAmply end desk (Some script) rest (Some written) (Some out) last

-- ---- barlines that follow the player

-- each line is answered by how many cells it reached and the cost after it, from one performance on to another
abbrev pub AreDone : Grammar → Performance → List (List ℕ) → Performance → Type 0
AreDone g p [] q = q ≡ p
AreDone g p (line ∷ lines) q =
    (built : ℕ) × (cost : ℕ) × (next : Performance) × AnswersLine g p line (done_text built cost) built next × AreDone g next lines q

-- the script that follows the player, put behind the performance that it is of: each of its lines is accepted in turn, and answered so
abbrev pub FollowingsAreDone : Type 0
FollowingsAreDone =
    (g : Grammar) (p : Performance) (edits : List Edit) → IsReadable g → IsEditable g p → IsAnswer g p edits
    → (q : Performance) × Leads g p edits q × AreDone g p (script_lines (script_text edits)) q
