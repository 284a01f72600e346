-- What an edit, an undo and a redo do to a history, and what they count.
use Rattle.std.specs.Prelude.{◌≡◌, ◌≢◌, ℕ, IsOk, Result}
use Rattle.edit_laws.specs.EditOutcomes.{IsOutcome, IsRefused, made}
use Rattle.edit_laws.specs.Edits.{edited}
use Rattle.edit_session.specs.Effects.{AllLive, AreBuiltInVain}
use Rattle.edit_session.specs.Prepared.{RisesBy}
use Rattle.edit_session.specs.Products.{AreProductsOf, AreProductsOfEdit}
use Rattle.edit_session.specs.declared.committed.Applied.{Applied}
use Rattle.rhythm_base.specs.Voices.{IsCostOf}
use Rattle.rhythm_base.specs.declared.edit.Edit.{Edit}
use Rattle.rhythm_base.specs.declared.edit_fault.EditFault.{EditFault}
use Rattle.rhythm_base.specs.declared.edit_fault.EditFault.TheVariants.{Memory}
use Rattle.session_history.specs.Changes.{IsEdited}
use Rattle.session_history.specs.History.{History}

-- the edit is made and becomes the last step, and each voice of the present has a derivation
pub record IsStepMade (old : History) (edit : Edit) (new : History) (a : Applied) : Type 0 where
  pub made : IsOutcome old.grammar old.present edit (made a.built a.cost) new.present
  pub derivations : AllLive new.grammar new.present
  pub step : IsEdited old new.present new

-- the edit is refused, and the history is as before. There may not be enough memory where the present alone does not refuse it
pub record IsStepRefused (old : History) (edit : Edit) (new : History) (fault : EditFault) : Type 0 where
  pub unchanged : new ≡ old
  pub refused : fault ≢ Memory → IsRefused old.grammar old.present edit fault
  pub memory : fault ≡ Memory → IsOk (edited old.present edit)

-- how many tables are built for an edit that is refused
abbrev pub HasBuiltForNoStep : History → Edit → ℕ → ℕ → EditFault → Type 0
HasBuiltForNoStep h edit old new fault = RisesBy old new (AreBuiltInVain h.grammar h.present edit fault)

-- the products of an edit, by what becomes of it
abbrev pub HasMultipliedForEdit : {A : Type 0} → History → Edit → Result A EditFault → ℕ → ℕ → Type 0
HasMultipliedForEdit h edit result old new = AreProductsOfEdit h.grammar h.present edit result old new

-- an undo or a redo tells that it built no cell, and what the present costs
abbrev pub IsStepAnswer : History → Applied → Type 0
IsStepAnswer h a = (a.built ≡ 0) × IsCostOf h.grammar h.present a.cost

-- the products of the change from the present of a history to that of another
abbrev pub HasMultipliedOnce : History → History → ℕ → ℕ → Type 0
HasMultipliedOnce h next old new = AreProductsOf 1 h.grammar h.present next.present old new
