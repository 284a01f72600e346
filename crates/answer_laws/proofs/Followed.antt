-- The script that follows the player is accepted line by line.
use Rattle.std.proofs.Common.{◌≡◌, ℕ, inl, inr, List, [], ◌∷◌, length, refl, sym, subst, Ok}
use Rattle.std.specs.Prelude.{All}
use Rattle.std.proofs.lemmas.List.Elements.{All-cons, All-nil}
use Rattle.barline_follow.specs.Answer.{IsAnswer}
use Rattle.barline_follow.specs.Script.{Accepts, Leads, script}
use Rattle.edit_laws.proofs.Edited.{edited_formed}
use Rattle.edit_laws.proofs.EditedCounts.{edited_cells, edited_starts}
use Rattle.edit_laws.specs.EditOutcomes.{made}
use Rattle.edit_script.specs.Replies.{done_text}
use Rattle.edit_script.specs.ScriptLines.{SaysCommand, script_lines}
use Rattle.edit_script.specs.declared.command.Command.TheVariants.{Change}
use Rattle.rhythm_base.specs.declared.edit.Edit.{Edit}
use Rattle.rhythm_base.specs.EditRanges.{IsEditInRange}
use Rattle.rhythm_base.specs.Grammar.{Grammar}
use Rattle.rhythm_base.specs.Lists.{Each}
use Rattle.rhythm_base.specs.Performance.{Performance}
use Rattle.rhythm_base.specs.Readable.{IsReadable}
use Rattle.script_run.proofs.Replies.{change_builds}
use Rattle.script_writer.proofs.ReadBack.{read_back}
use Rattle.script_writer.specs.EditText.{script_text}
use Rattle.table_laws.proofs.Performances.{some_cost}
use Rattle.answer_laws.specs.Editable.{IsEditable}
use Rattle.answer_laws.specs.Laws.{AreDone}
use Rattle.answer_laws.proofs.Lines.{ample_done}
use Rattle.answer_laws.proofs.Reached.{some_reached}

in_range : (g : Grammar) (p q : Performance) (edits : List Edit) → Leads g p edits q → All IsEditInRange edits
in_range g p q [] leads = All-nil IsEditInRange
in_range g p q (edit ∷ edits) (next, accepted, leads) = All-cons IsEditInRange edit edits accepted.0 (in_range g next q edits leads)

module _ (g : Grammar) (readable : IsReadable g) where
  -- what is accepted can be edited again
  still_editable : (p next : Performance) (edit : Edit) → IsEditable g p → Accepts g p edit next → IsEditable g next
  still_editable p next edit editable (range, is, derivations) = (
    edited_formed p next edit editable.0 range is,
    record { cells = edited_cells p next edit is editable.1.cells; starts = edited_starts g p next edit is editable.1.starts; derivations = derivations },
  )

  done_in_turn : (p q : Performance) (edits : List Edit) (lines : List (List ℕ)) → IsEditable g p → Leads g p edits q
      → Each (λ edit line. SaysCommand line (Change edit)) edits lines → AreDone g p lines q
  done_in_turn p q [] lines editable leads says = subst (λ l. AreDone g p l q) (sym says) leads
  done_in_turn p q (edit ∷ edits) [] editable leads says = absurd says
  done_in_turn p q (edit ∷ edits) (line ∷ lines) editable (next, accepted, leads) (says, more) =
      let after = still_editable p next edit editable accepted in
      let cells = some_reached g p next in
      let cost = some_cost g next readable after.0 after.1.starts next.channels after.1.derivations in
      let built : ℕ = length cells.0 in
      let reply : List ℕ = done_text built cost.0 in (
        built,
        cost.0,
        next,
        record {
          step = inl (Change edit, says, (made built cost.0, (cells.0, record { made = accepted.1; reaches = cells.1; costs = cost.1 }, refl), refl));
          memory = λ e. absurd (ample_done built cost.0 e);
          built = change_builds g p line edit reply built says (inl (cost.0, refl));
        },
        done_in_turn next q edits lines after leads more,
      )

  -- the lines of accepted edits are
  leads_done : (p q : Performance) (edits : List Edit) → IsEditable g p → Leads g p edits q → AreDone g p (script_lines (script_text edits)) q
  leads_done p q edits editable leads = done_in_turn p q edits (script_lines (script_text edits)) editable leads (read_back edits (in_range g p q edits leads))

  pub followed_done : (p : Performance) (edits : List Edit) → IsEditable g p → IsAnswer g p edits
      → (q : Performance) × Leads g p edits q × AreDone g p (script_lines (script_text edits)) q
  followed_done p edits editable (ticks, chosen, inl (q, leads, same)) =
      let own = subst (λ es. Leads g p es q) (sym same) leads in
      (q, own, leads_done p q edits editable own)
  followed_done p edits editable (ticks, chosen, inr (none, same)) =
      let own : Leads g p edits p = subst (λ es. Leads g p es p) (sym same) refl in
      (p, own, leads_done p p edits editable own)
