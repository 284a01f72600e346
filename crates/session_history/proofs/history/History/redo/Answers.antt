use Rattle.std.proofs.Common.{ℕ, refl, subst, sym}
use Rattle.edit_session.specs.Products.{AreProductsOf}
use Rattle.rhythm_base.specs.Grammar.{Grammar}
use Rattle.rhythm_base.specs.Performance.{Performance}
use Rattle.rhythm_base.specs.Voices.{IsCostOf}
use Rattle.session_history.specs.Changes.{IsRedone}
use Rattle.session_history.specs.History.{History}
use Rattle.session_history.specs.Ways.{KeepsWays}
use Rattle.session_history.proofs.Moves.{gone_there, next_way, lives_derived, lives_formed, redone_keeps}
use Rattle.session_history.proofs.Views.{seen, redone_is}
use Rattle.session_history.proofs.history.History.redo.Goals as goal

pub take_back-committed-requires-clause-suits : goal.take_back-committed-requires-clause-suits
take_back-committed-requires-clause-suits g c κs within =
    let kept = c.self.inside in (next_way kept.session kept.past kept.future c.self.invariant c.take_first.new.self c.in-Some.step c.in-Some.ensures).0

pub take_back-committed-requires-clause-formed : goal.take_back-committed-requires-clause-formed
take_back-committed-requires-clause-formed g c κs within =
    let kept = c.self.inside in
    let way = next_way kept.session kept.past kept.future c.self.invariant c.take_first.new.self c.in-Some.step c.in-Some.ensures in
    lives_formed kept.session.grammar c.in-Some.step.next way.1.lives

pub take_back-committed-requires-clause-derivations : goal.take_back-committed-requires-clause-derivations
take_back-committed-requires-clause-derivations g c κs within =
    let kept = c.self.inside in
    let way = next_way kept.session kept.past kept.future c.self.invariant c.take_first.new.self c.in-Some.step c.in-Some.ensures in
    lives_derived kept.session.grammar c.in-Some.step.next way.1.lives

pub take_back-committed-requires-clause-room : goal.take_back-committed-requires-clause-room
take_back-committed-requires-clause-room g c κs within =
    let kept = c.self.inside in (next_way kept.session kept.past kept.future c.self.invariant c.take_first.new.self c.in-Some.step c.in-Some.ensures).1.short

pub invariant_of-self-in-Some : goal.invariant_of-self-in-Some
invariant_of-self-in-Some g c =
    let kept = c.self.inside in
    let back = c.take_back-committed.result.back in
    let now = c.take_back-committed.new.self in
    let is = c.take_back-committed.ensures.made in
    let way = next_way kept.session kept.past kept.future c.self.invariant c.take_first.new.self c.in-Some.step c.in-Some.ensures in
    let moved = gone_there kept.session now c.in-Some.step back way.1 is.grammar is.performance is.room is.way_back.next is.way_back.suits in
    subst (λ past. KeepsWays now past c.take_first.new.self) (sym c.put_after.ensures)
    (redone_keeps kept.session now kept.past kept.future c.in-Some.step back c.self.invariant moved c.take_first.new.self c.in-Some.ensures)

pub returns-in-Some-clause-redone : goal.returns-in-Some-clause-redone
returns-in-Some-clause-redone g c =
    let kept = c.self.inside in
    let back = c.take_back-committed.result.back in
    let now = c.take_back-committed.new.self in
    let is = c.take_back-committed.ensures.made in
    let way = next_way kept.session kept.past kept.future c.self.invariant c.take_first.new.self c.in-Some.step c.in-Some.ensures in
    let moved = gone_there kept.session now c.in-Some.step back way.1 is.grammar is.performance is.room is.way_back.next is.way_back.suits in
    subst (λ h. IsRedone h (seen now c.put_after.new.self c.take_first.new.self)) c.self.view_is
    (subst (λ past. IsRedone (seen kept.session kept.past kept.future) (seen now past c.take_first.new.self)) (sym c.put_after.ensures)
    (redone_is kept.session now kept.past kept.future c.in-Some.step back moved c.take_first.new.self c.in-Some.ensures))

pub returns-in-Some-clause-told : goal.returns-in-Some-clause-told
returns-in-Some-clause-told g c =
    let is = c.take_back-committed.ensures.made in
    let now = c.take_back-committed.new.self in
    let cost : ℕ = c.take_back-committed.result.applied.cost in (
      refl,
      subst (λ (h : Grammar). IsCostOf h now.performance cost) (sym is.grammar)
          (subst (λ (p : Performance). IsCostOf c.self.inside.session.grammar p cost) (sym is.performance) is.cost),
    )

pub returns-in-Some-clause-products : goal.returns-in-Some-clause-products
returns-in-Some-clause-products g c =
    let is = c.take_back-committed.ensures in
    let now = c.take_back-committed.new.self in
    subst (λ (h : History). AreProductsOf 1 h.grammar h.present now.performance c.args.products.now c.take_back-committed.new.products) c.self.view_is
    (subst (λ (p : Performance). AreProductsOf 1 c.self.inside.session.grammar c.self.inside.session.performance p c.args.products.now c.take_back-committed.new.products) (sym is.made.performance) is.products)
