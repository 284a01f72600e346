-- Barlines that follow the player are found, with the script that leads to them, or the performance is not opened.
use Rattle.std.proofs.Common.{inl, inr, [], List, ℕ, refl, Result, Ok, Err}
use Rattle.answer_laws.proofs.Openings.{opening_or_fault}
use Rattle.barline_follow.specs.Answer.{AreChosen, IsAnswer, chosen}
use Rattle.barline_follow.specs.Script.{script}
use Rattle.edit_session.specs.Opening.{CanOpen}
use Rattle.rhythm_app.specs.Outcome.{IsFollowing, Ready, open_stop, say}
use Rattle.rhythm_app.specs.declared.stop.Stop.{Stop}
use Rattle.rhythm_base.specs.declared.edit.Edit.{Edit}
use Rattle.rhythm_base.specs.Grammar.{Grammar}
use Rattle.rhythm_base.specs.Performance.{IsWellFormed, Performance}
use Rattle.rhythm_base.specs.Readable.{IsReadable}
use Rattle.script_writer.specs.EditText.{script_text}
use Rattle.table_laws.proofs.Performances.{some_cost}
use Rattle.outcome_laws.proofs.Rounds.{some_best}
use Rattle.outcome_laws.proofs.Scripts.{leads_or_not}

module _ (g : Grammar) (p : Performance) (readable : IsReadable g) (formed : IsWellFormed p) where
  some_chosen : CanOpen g p → (ticks : List ℕ) × AreChosen g p ticks
  some_chosen can =
      let best = some_best g p readable.ranges.some_unit in
      let cost = some_cost g p readable formed can.starts p.channels can.derivations in
      (chosen p cost.0 best.0, (best.0, cost.0, best.1, cost.1, refl))

  some_answer : CanOpen g p → (edits : List Edit) × IsAnswer g p edits
  some_answer can =
      let ticks = some_chosen can in
      elim (leads_or_not g readable.ranges.some_unit p (script p ticks.0)) [
        | inl led ↦ (script p ticks.0, (ticks.0, ticks.1, inl (led.0, led.1, refl)))
        | inr never ↦ ([], (ticks.0, ticks.1, inr ((λ q leads. never (q, leads)), refl)))
      ]

  pub some_following : (r : Result Ready Stop) × IsFollowing g p r
  some_following = elim (opening_or_fault g p readable formed) [
    | inl can ↦ let edits = some_answer can in (Ok (say (script_text edits.0)), (can, (edits.0, edits.1, refl)))
    | inr fault ↦ (Err (open_stop fault.0), (fault.0, fault.2, fault.1, refl))
  ]
