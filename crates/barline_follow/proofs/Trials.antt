-- What is known after one edit is tried on a session.
use Rattle.std.proofs.Common.{◌≡◌, ◌≢◌, ℕ, [], ◌∷◌, sym, subst, inl}
use Rattle.std.specs.Prelude.{All}
use Rattle.std.proofs.lemmas.List.Elements.{All-cons, All-head, All-nil}
use Rattle.edit_session.specs.Effects.{AllLive, HasBuiltInVain, IsApplied, IsRejected, IsWayBack}
use Rattle.edit_session.specs.Prepared.{Prepared, RisesBy, Suits}
use Rattle.edit_session.specs.Session.{Session}
use Rattle.edit_session.specs.declared.committed.Applied.{Applied}
use Rattle.rhythm_base.specs.Counter.{risen}
use Rattle.rhythm_base.specs.EditRanges.{IsEditInRange}
use Rattle.rhythm_base.specs.Grammar.{Grammar}
use Rattle.rhythm_base.specs.Performance.{IsWellFormed, Performance}
use Rattle.rhythm_base.specs.declared.edit.Edit.{Edit}
use Rattle.rhythm_base.specs.declared.edit_fault.EditFault.{EditFault}
use Rattle.rhythm_base.specs.declared.edit_fault.EditFault.TheVariants.{Memory}
use Rattle.barline_follow.specs.Builds.{AreReachedInTurn, AreWithinReachInTurn}
use Rattle.barline_follow.specs.Script.{Accepts, IsOfBars}
use Rattle.barline_follow.specs.Trial.{IsStepBack}
use Rattle.barline_follow.proofs.ReachedInTurn.{reached_last, reached_once, within_once, would_reach}

-- one edit of bars
pub only : (edit : Edit) → All IsOfBars (edit ∷ []) → IsOfBars edit
only edit bars = All-head IsOfBars edit [] bars

pub alone : (edit : Edit) → IsOfBars edit → All IsOfBars (edit ∷ [])
alone edit is = All-cons IsOfBars edit [] is (All-nil IsOfBars)

-- ---- it is made

module _ (old new : Session) (edit : Edit) (a : Applied) where
  pub accepted : IsEditInRange edit → IsApplied old edit new a → Accepts old.grammar old.performance edit new.performance
  accepted range made = (range, made.made.1.made, subst (λ (g : Grammar). AllLive g new.performance) made.still.grammar made.derivations)

  pub step_back : (back : Prepared) → IsApplied old edit new a → IsWayBack old new back → IsWellFormed old.performance → AllLive old.grammar old.performance
      → IsStepBack old.grammar new.performance new.room back
  step_back back made way formed lives = record {
    suits = subst (λ (g : Grammar). Suits g new.performance back) made.still.grammar way.suits;
    formed = subst IsWellFormed (sym way.next) formed;
    derivations = subst (AllLive old.grammar) (sym way.next) lives;
    room_back = way.room;
  }

  pub made_reached : IsEditInRange edit → IsApplied old edit new a → (before after : ℕ) → after ≡ risen before a.built
      → RisesBy before after (AreReachedInTurn old.grammar old.performance (edit ∷ []))
  made_reached range made before after rises =
      let cells = made.made.0 in
      let would = would_reach old.grammar old.performance edit new.performance cells made.made.1.made made.made.1.reaches in (
        a.built,
        rises,
        subst (AreReachedInTurn old.grammar old.performance (edit ∷ [])) (sym made.made.2)
            (reached_once old.grammar old.performance edit new.performance cells (accepted range made) would),
      )

-- ---- it is refused

module _ (old new : Session) (edit : Edit) (fault : EditFault) where
  pub refused : fault ≢ Memory → IsRejected old edit new fault → (next : Performance) → Accepts old.grammar old.performance edit next → ⊥
  refused other is next accepts = is.never other next accepts.1 accepts.2

  pub vain_reached : IsEditInRange edit → fault ≢ Memory → IsRejected old edit new fault → (before after : ℕ) → HasBuiltInVain old edit before after fault
      → RisesBy before after (AreReachedInTurn old.grammar old.performance (edit ∷ []))
  vain_reached range other is before after (n, rises, vain) =
      let all = vain.all other in (
        n,
        rises,
        subst (AreReachedInTurn old.grammar old.performance (edit ∷ [])) (sym all.2)
            (reached_last old.grammar old.performance edit [] all.0 (inl (range, all.1)) (refused other is)),
      )

pub some_reached : (old : Session) (edit : Edit) (fault : EditFault) → IsEditInRange edit → (before after : ℕ) → HasBuiltInVain old edit before after fault
    → RisesBy before after (AreWithinReachInTurn old.grammar old.performance (edit ∷ []))
some_reached old edit fault range before after (n, rises, vain) =
    (n, rises, within_once old.grammar old.performance edit n range vain.most)
