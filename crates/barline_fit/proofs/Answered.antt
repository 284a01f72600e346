-- What is answered after all ticks are tried.
use Rattle.std.proofs.Common.{◌≡◌, ℕ, List, sym, subst, Option, Some, None, Result}
use Rattle.std.specs.Prelude.{IfErr, IfOk}
use Rattle.std.specs.Option.{ok_or}
use Rattle.barline_fit.specs.Fitted.{HasBarline, IsFitFault, IsFitted}
use Rattle.barline_fit.specs.declared.fit_fault.FitFault.{FitFault}
use Rattle.barline_fit.specs.declared.fit_fault.FitFault.TheVariants.{NoCandidate}
use Rattle.barline_fit.specs.declared.fitted.Fitted.{Fitted}
use Rattle.barline_fit.proofs.BestSoFar.{IsBestSoFar}
use Rattle.rhythm_base.specs.Grammar.{Grammar}
use Rattle.rhythm_base.specs.Performance.{Performance}

module _ (g : Grammar) (p : Performance) (bar : ℕ) (ticks : List ℕ) where
  pub best_is_fitted : (best : Option Fitted) (r : Result Fitted FitFault) → r ≡ ok_or best NoCandidate → IsBestSoFar g p bar ticks best → IfOk r (IsFitted g p bar ticks)
  best_is_fitted None r is h = subst (λ (x : Result Fitted FitFault). IfOk x (IsFitted g p bar ticks)) (sym is) tt
  best_is_fitted (Some x) r is h = subst (λ (x : Result Fitted FitFault). IfOk x (IsFitted g p bar ticks)) (sym is) h

  pub none_is_a_fault : (best : Option Fitted) (r : Result Fitted FitFault) → r ≡ ok_or best NoCandidate → HasBarline p bar → IsBestSoFar g p bar ticks best → IfErr r (IsFitFault g p bar ticks)
  none_is_a_fault None r is there h = subst (λ (x : Result Fitted FitFault). IfErr x (IsFitFault g p bar ticks)) (sym is) (there, h.refused)
  none_is_a_fault (Some x) r is there h = subst (λ (x : Result Fitted FitFault). IfErr x (IsFitFault g p bar ticks)) (sym is) tt
