-- What is known after one tick is tried.
use Rattle.std.proofs.Common.{◌≡◌, ◌≢◌, ℕ, List, [], ◌∷◌, sym, ◌∙◌, subst, None, Result, Ok, Err, IfOk}
use Rattle.barline_fit.specs.Builds.{AreReachedAt, AreWithinReach}
use Rattle.barline_fit.specs.Fitted.{IsAcceptedAt, IsTriedAt}
use Rattle.barline_fit.proofs.Reaching.{reached_one, within_all, within_one, would_reach}
use Rattle.edit_session.specs.Effects.{AllLive, HasBuiltInVain, HasRoomFor, IsApplied, IsCommitted, IsRejected, IsWayBack}
use Rattle.edit_session.specs.Prepared.{Prepared, RisesBy}
use Rattle.edit_session.specs.Session.{Session}
use Rattle.edit_session.specs.declared.committed.Applied.{Applied}
use Rattle.edit_session.specs.declared.committed.Committed.{Committed}
use Rattle.rhythm_base.specs.Counter.{risen}
use Rattle.rhythm_base.specs.Grammar.{Grammar}
use Rattle.rhythm_base.specs.Performance.{IsWellFormed, Performance}
use Rattle.rhythm_base.specs.declared.edit.Edit.{Edit}
use Rattle.rhythm_base.specs.declared.edit.Edit.TheVariants.{Barline}
use Rattle.rhythm_base.specs.declared.edit_fault.EditFault.{EditFault}
use Rattle.rhythm_base.specs.declared.edit_fault.EditFault.TheVariants.{Memory}

pub built_within : (g : Grammar) (p : Performance) (bar : ℕ) (ticks : List ℕ) (old new : ℕ) → RisesBy old new (AreReachedAt g p bar ticks) → RisesBy old new (AreWithinReach g p bar ticks)
built_within g p bar ticks old new (n, rises, all) = (n, rises, within_all g p bar ticks n all)

-- what two clauses tell of one result
pub both_ok : {X E : Type 0} (r : Result X E) (P Q R : X → Type 0) → ((x : X) → P x → Q x → R x) → IfOk r P → IfOk r Q → IfOk r R
both_ok (Ok x) P Q R all p q = all x p q
both_ok (Err e) P Q R all p q = p

-- ---- an edit that is made, and taken back

module _ (old mid : Session) (edit : Edit) (a : Applied) (back : Prepared) where
  pub back_lives : IsApplied old edit mid a → IsWayBack old mid back → AllLive old.grammar old.performance → AllLive mid.grammar back.next
  back_lives made way lives = subst (λ (g : Grammar). AllLive g back.next) (sym made.still.grammar) (subst (AllLive old.grammar) (sym way.next) lives)

pub back_well : (old mid : Session) (back : Prepared) → IsWayBack old mid back → IsWellFormed old.performance → IsWellFormed back.next
back_well old mid back way formed = subst IsWellFormed (sym way.next) formed

pub back_again : (old mid new : Session) (edit : Edit) (a : Applied) (back : Prepared) (c : Committed) → IsApplied old edit mid a → IsWayBack old mid back
    → IsCommitted mid back new c → HasRoomFor old edit → new ≡ old
back_again old mid new edit a back c made way done enough =
    let grammar = done.grammar ∙ made.still.grammar in
    let performance = done.performance ∙ way.next in
    let workers = done.workers ∙ made.still.workers in
    let room = done.room ∙ made.still.enough enough in
    λ i. record { grammar = grammar i; performance = performance i; workers = workers i; room = room i }

-- ---- an edit that is refused

pub stays : (old new : Session) (edit : Edit) (fault : EditFault) → IsRejected old edit new fault → HasRoomFor old edit → new ≡ old
stays old new edit fault is enough =
    let room = is.still.enough enough in
    λ i. record { grammar = is.still.grammar i; performance = is.performance i; workers = is.still.workers i; room = room i }

-- ---- the barline at a tick

module _ (old : Session) (bar tick : ℕ) where
  -- the edit that sets it is made
  module _ (mid : Session) (a : Applied) where
    pub accepted_by : IsApplied old (Barline bar tick) mid a → IsAcceptedAt old.grammar old.performance bar tick a.cost
    accepted_by made = record {
      next = mid.performance;
      made = made.made.1.made;
      derivations = subst (λ (g : Grammar). AllLive g mid.performance) made.still.grammar made.derivations;
      costs = made.made.1.costs;
    }

    pub built_by : (before after : ℕ) → IsApplied old (Barline bar tick) mid a → after ≡ risen before a.built → RisesBy before after (AreReachedAt old.grammar old.performance bar (tick ∷ []))
    built_by before after made rises =
        let cells = made.made.0 in
        let would = would_reach old.grammar old.performance (Barline bar tick) mid.performance cells made.made.1.made made.made.1.reaches in
        (a.built, rises, subst (AreReachedAt old.grammar old.performance bar (tick ∷ [])) (sym made.made.2) (reached_one old.grammar old.performance bar tick cells would))

  -- it is refused
  pub tried_in_vain : (new : Session) (fault : EditFault) → fault ≢ Memory → IsRejected old (Barline bar tick) new fault → IsTriedAt old.grammar old.performance bar tick None
  tried_in_vain new fault other is =
      (record { fault = fault; refused = is.refused other }, λ cost accepted. is.never other accepted.next accepted.made accepted.derivations)

  pub built_in_vain : (fault : EditFault) (before after : ℕ) → fault ≢ Memory → HasBuiltInVain old (Barline bar tick) before after fault
      → RisesBy before after (AreReachedAt old.grammar old.performance bar (tick ∷ []))
  built_in_vain fault before after other (n, rises, vain) =
      let all = vain.all other in
      (n, rises, subst (AreReachedAt old.grammar old.performance bar (tick ∷ [])) (sym all.2) (reached_one old.grammar old.performance bar tick all.0 all.1))

  pub built_some : (fault : EditFault) (before after : ℕ) → HasBuiltInVain old (Barline bar tick) before after fault → RisesBy before after (AreWithinReach old.grammar old.performance bar (tick ∷ []))
  built_some fault before after (n, rises, vain) = (n, rises, within_one old.grammar old.performance bar tick n vain.most)
