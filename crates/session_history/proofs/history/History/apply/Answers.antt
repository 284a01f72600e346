use Rattle.std.proofs.Common.{Ok, Err, map, sym, subst}
use Rattle.edit_session.specs.declared.committed.Applied.{Applied}
use Rattle.rhythm_base.specs.declared.edit_fault.EditFault.{EditFault}
use Rattle.session_history.specs.Changes.{IsEdited}
use Rattle.session_history.specs.Effects.{HasBuiltForNoStep, HasMultipliedForEdit, IsStepMade, IsStepRefused}
use Rattle.session_history.specs.History.{History}
use Rattle.session_history.specs.Steps.{next_of, step_of}
use Rattle.session_history.specs.Ways.{KeepsWays}
use Rattle.session_history.proofs.Moves.{IsMoved, edited_keeps, lives_formed, moved_by, rested_keeps, there}
use Rattle.session_history.proofs.Views.{edited_is, seen}
use Rattle.session_history.proofs.history.History.apply.Goals as goal

-- ---- an accepted edit

-- where the session stands after it
moved : (g : _) (c : goal.After-result-1 g) → IsMoved c.self.inside.session c.make_edit.new.self (there c.make_edit.new.self c.in-Ok.made.back) c.in-Ok.made.back
moved g c =
    let kept = c.self.inside in
    moved_by kept.session c.make_edit.new.self c.args.edit.now c.in-Ok.made.applied c.in-Ok.made.back
    (lives_formed kept.session.grammar kept.session.performance c.self.invariant.present.lives) c.requires c.in-Ok.ensures.made c.in-Ok.ensures.way_back

pub invariant_of-self : goal.invariant_of-self
invariant_of-self g c =
    let kept = c.self.inside in
    let now = c.make_edit.new.self in
    let back = c.in-Ok.made.back in
    subst (KeepsWays now c.put_last.new.self) (sym c.clear.ensures)
    (edited_keeps kept.session now kept.past kept.future (there now back) back c.self.invariant (moved g c) c.put_last.new.self c.put_last.ensures.rest c.put_last.ensures.few)

pub returns-in-Ok-clause-made : goal.returns-in-Ok-clause-made
returns-in-Ok-clause-made g c =
    let kept = c.self.inside in
    let now = c.make_edit.new.self in
    let back = c.in-Ok.made.back in
    let is = c.in-Ok.ensures.made in
    subst (λ (h : History). IsStepMade h c.args.edit.now (seen now c.put_last.new.self c.clear.new.self) c.in-Ok.made.applied) c.self.view_is (record {
      made = is.made;
      derivations = is.derivations;
      step = subst (λ future. IsEdited (seen kept.session kept.past kept.future) now.performance (seen now c.put_last.new.self future)) (sym c.clear.ensures)
          (edited_is kept.session now kept.past kept.future (there now back) back (moved g c) c.put_last.new.self c.put_last.ensures.kept);
    })

pub returns-in-Ok-clause-products : goal.returns-in-Ok-clause-products
returns-in-Ok-clause-products g c =
    let is = c.in-Ok.ensures.products in
    subst (λ (h : History). HasMultipliedForEdit h c.args.edit.now (Ok c.in-Ok.made.applied) c.args.products.now c.make_edit.new.products) c.self.view_is
    (record { rises = is.rises; most = is.most; none = is.none })

-- ---- a refused edit

pub invariant_of-self-in-Err : goal.invariant_of-self-in-Err
invariant_of-self-in-Err g c =
    let kept = c.self.inside in
    let is = c.in-Err.ensures.rejected in
    rested_keeps kept.session c.make_edit.new.self kept.past kept.future c.self.invariant is.still.grammar is.performance is.still.room

pub returns-in-Err-clause-refused : goal.returns-in-Err-clause-refused
returns-in-Err-clause-refused g c =
    let kept = c.self.inside in
    let now = c.make_edit.new.self in
    let is = c.in-Err.ensures.rejected in
    subst (λ (h : History). IsStepRefused h c.args.edit.now (seen now kept.past kept.future) c.in-Err.fault) c.self.view_is (record {
      unchanged = λ i. record { grammar = is.still.grammar i; past = map step_of kept.past; present = is.performance i; future = map next_of kept.future };
      refused = is.refused;
      memory = is.memory;
    })

pub returns-in-Err-clause-built : goal.returns-in-Err-clause-built
returns-in-Err-clause-built g c =
    subst (λ (h : History). HasBuiltForNoStep h c.args.edit.now c.args.builds.now c.make_edit.new.builds c.in-Err.fault) c.self.view_is c.in-Err.ensures.built

pub returns-in-Err-clause-products : goal.returns-in-Err-clause-products
returns-in-Err-clause-products g c =
    let is = c.in-Err.ensures.products in
    let fault : EditFault = c.in-Err.fault in
    subst (λ (h : History). HasMultipliedForEdit {A = Applied} h c.args.edit.now (Err fault) c.args.products.now c.make_edit.new.products) c.self.view_is
    (record { rises = is.rises; most = is.most; none = is.none })
