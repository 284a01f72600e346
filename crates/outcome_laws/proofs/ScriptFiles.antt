-- The edits of a script file come to a performance, or to a line that is refused.
use Rattle.std.proofs.Common.{◌≡◌, ◌≢◌, ◌≤◌, ◌⊎◌, ◌+◌, ℕ, List, [], ◌∷◌, length, inl, inr, refl, sym, subst, MatchResult, Option, Some, None, Result, Ok, Err}
use Rattle.answer_laws.proofs.Commands.{says_or_not}
use Rattle.answer_laws.proofs.Decisions.{Decided, decided_both, decided_most}
use Rattle.answer_laws.proofs.Openings.{opening_or_fault}
use Rattle.answer_laws.proofs.Outcomes.{some_outcome}
use Rattle.answer_laws.proofs.Reached.{some_reached}
use Rattle.answer_laws.specs.Editable.{IsEditable}
use Rattle.edit_laws.specs.EditOutcomes.{EditOutcome, IsOutcome, made, refused}
use Rattle.edit_laws.specs.Edits.{edited}
use Rattle.edit_laws.specs.Reached.{AreReached, WouldReach}
use Rattle.edit_script.proofs.CommandWords.{edit_in_range, one_command}
use Rattle.edit_script.specs.ScriptLines.{SaysCommand, SaysNothing, script_lines, script_words}
use Rattle.edit_script.specs.declared.command.Command.{Command}
use Rattle.edit_script.specs.declared.command.Command.TheVariants.{Alternatives, Change, Quit, Score}
use Rattle.rhythm_app.specs.Outcome.{AreInTurn, IsOpening, IsScripted, open_stop, refused_stop, stopped}
use Rattle.rhythm_app.specs.Scripted.{AreLinesMade, Opened, Refused, SaysEdit, edited_to, opened_on}
use Rattle.rhythm_app.specs.declared.stop.Stop.{Stop}
use Rattle.rhythm_base.specs.Grammar.{Grammar}
use Rattle.rhythm_base.specs.Performance.{IsWellFormed, Performance}
use Rattle.rhythm_base.specs.Readable.{IsReadable}
use Rattle.rhythm_base.specs.declared.edit.Edit.{Edit}
use Rattle.rhythm_base.specs.declared.edit_fault.EditFault.{EditFault}
use Rattle.rhythm_base.specs.declared.limits.TheConstants.{LONGEST_SCRIPT_LINE}
use Rattle.outcome_laws.proofs.InTurn.{ComesTo, in_turn}

-- a line says an edit, or none
edit_or_none : (line : List ℕ) → ((edit : Edit) × SaysEdit line edit) ⊎ ((edit : Edit) → SaysEdit line edit → ⊥)
edit_or_none line = go (decided_most (length line) LONGEST_SCRIPT_LINE) (says_or_not line)
  where
    other : (command : Command) → SaysCommand line command → ((edit : Edit) → command ≢ Change edit) → (edit : Edit) → SaysEdit line edit → ⊥
    other command says not edit is = not edit (one_command line command (Change edit) says is.1)

    by_command : length line ≤ LONGEST_SCRIPT_LINE → (command : Command) → SaysCommand line command → ((edit : Edit) × SaysEdit line edit) ⊎ ((edit : Edit) → SaysEdit line edit → ⊥)
    by_command short (Change edit) says = inl (edit, (short, says))
    by_command short Score says = inr (other Score says (λ edit e. cc))
    by_command short (Alternatives channel bar count) says = inr (other (Alternatives channel bar count) says (λ edit e. cc))
    by_command short Quit says = inr (other Quit says (λ edit e. cc))

    go : Decided (length line ≤ LONGEST_SCRIPT_LINE) → ((command : Command) × SaysCommand line command) ⊎ SaysNothing line
        → ((edit : Edit) × SaysEdit line edit) ⊎ ((edit : Edit) → SaysEdit line edit → ⊥)
    go (inl short) (inl (command, says)) = by_command short command says
    go (inl short) (inr nothing) = inr (λ edit is. nothing (Change edit) is.1)
    go (inr long) any = inr (λ edit is. long is.0)

-- the cells that an edit would have reached are some list
some_would : (g : Grammar) (p : Performance) (edit : Edit) → (cells : List (ℕ × ℕ)) × WouldReach g p edit cells
some_would g p edit = go (edited p edit)
  where
    go : (r : Result Performance EditFault) → (cells : List (ℕ × ℕ)) × MatchResult r (λ q. AreReached g p q cells) (λ fault. cells ≡ [])
    go (Ok q) = some_reached g p q
    go (Err fault) = ([], refl)

some_run : (number : ℕ) (o : Opened) (lines : List (List ℕ)) → IsReadable o.grammar → IsEditable o.grammar o.performance → (r : Result Opened Refused) × AreLinesMade number o lines r
some_run number o [] read can = (Ok o, refl)
some_run number o (line ∷ lines) read can = by_line (edit_or_none line) (λ next built still. some_run (number + 1) (edited_to o next built) lines read still)
  where
    Runs : Type 0
    Runs = (r : Result Opened Refused) × AreLinesMade number o (line ∷ lines) r

    -- the lines after it
    Later : Type 0
    Later = (next : Performance) (built : ℕ) → IsEditable o.grammar next → (r : Result Opened Refused) × AreLinesMade (number + 1) (edited_to o next built) lines r

    refused_here : (fault : EditFault) (edit : Edit) (next : Performance) → SaysEdit line edit → IsOutcome o.grammar o.performance edit (refused fault) next → Runs
    refused_here fault edit next says outcome =
        let cells = some_would o.grammar o.performance edit in
        (_, inl (Some fault, length cells.0, (edit, cells.0, says, outcome.0, cells.1, refl), refl))

    by_outcome : Later → (edit : Edit) → SaysEdit line edit → (outcome : EditOutcome) (next : Performance) → IsOutcome o.grammar o.performance edit outcome next
        → IsEditable o.grammar next → Runs
    by_outcome later edit says (refused fault) next outcome still = refused_here fault edit next says outcome
    by_outcome later edit says (made built cost) next outcome still = let it = later next built still in (it.0, inr (next, built, (edit, cost, says, outcome), it.1))

    by_line : ((edit : Edit) × SaysEdit line edit) ⊎ ((edit : Edit) → SaysEdit line edit → ⊥) → Later → Runs
    by_line (inr none) later = (_, inl (None, 0, (none, refl), refl))
    by_line (inl (edit, says)) later =
        let it = some_outcome o.grammar o.performance edit read can (edit_in_range edit (script_words line) says.1) in by_outcome later edit says it.0 it.1 it.2 it.3

-- a session is opened, and the edits of a script come to something, or there is a stop
pub some_opened : (g : Grammar) (p : Performance) (script : List ℕ) → IsReadable g → IsWellFormed p → ComesTo (AreInTurn (IsOpening g p) (IsScripted script))
some_opened g p script read formed = in_turn (IsOpening g p) (IsScripted script) opens scripted
  where
    opens : ComesTo (IsOpening g p)
    opens = elim (opening_or_fault g p read formed) [
      | inl can ↦ (Ok (opened_on g p), (can, refl))
      | inr fault ↦ (Err (open_stop fault.0), (fault.0, fault.2, fault.1, refl))
    ]

    scripted : (o : Opened) → IsOpening g p (Ok o) → ComesTo (IsScripted script o)
    scripted o (can, is) =
        let editable = subst (λ (x : Opened). IsReadable x.grammar × IsEditable x.grammar x.performance) (sym is) (read, (formed, can)) in
        let run = some_run 1 o (script_lines script) editable.0 editable.1 in
        (stopped refused_stop run.0, (run.0, run.1, refl))
