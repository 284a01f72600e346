-- What can be edited: a performance on which a session can be opened, a history of such ones, and a desk with one.
use Rattle.std.specs.Prelude.{All}
use Rattle.edit_session.specs.Opening.{CanOpen}
use Rattle.rhythm_base.specs.Grammar.{Grammar}
use Rattle.rhythm_base.specs.Performance.{IsWellFormed, Performance}
use Rattle.rhythm_base.specs.Readable.{IsReadable}
use Rattle.script_run.specs.Desk.{Desk, editor, studio}
use Rattle.session_history.specs.Changes.{IsHistory}
use Rattle.session_history.specs.History.{History}

-- it is well formed, and a session can be opened on it
abbrev pub IsEditable : Grammar → Performance → Type 0
IsEditable g p = IsWellFormed p × CanOpen g p

-- a session can be opened on each performance of the history
pub record IsEditableHistory (h : History) : Type 0 where
  pub history : IsHistory h
  pub past : All (λ step. CanOpen h.grammar step.performance) h.past
  pub present : CanOpen h.grammar h.present
  pub future : All (CanOpen h.grammar) h.future

-- the grammar is readable, and what is on the desk can be edited
abbrev pub IsOpen : Desk → Type 0
IsOpen (editor g p) = IsReadable g × IsEditable g p
IsOpen (studio h) = IsReadable h.grammar × IsEditableHistory h
