-- What the score of a performance and a grammar comes to, and a session on it.
use Rattle.rhythm_base.specs.Counter.{risen}
use Rattle.std.proofs.Common.{◌≡◌, ◌≤◌, ◌⊎◌, ℕ, ap, arith, refl, inl, inr, subst, sym, Result, Ok, Err}
use Rattle.edit_session.specs.Opening.{CanOpen, IsBuilt, IsOpenFault}
use Rattle.edit_session.specs.declared.open_fault.OpenFault.{OpenFault}
use Rattle.edit_session.specs.declared.open_fault.OpenFault.TheVariants as opening
use Rattle.barline_fit.specs.declared.candidates.Candidates.{Candidates}
use Rattle.kern_writer.specs.PerformanceText.{HasTooLongText}
use Rattle.rhythm_app.specs.Outcome.{IsAnswering, IsFitting, IsTooLongToWrite, IsUnopened, IsWriting, open_stop, or_stop}
use Rattle.rhythm_app.specs.declared.request.Form.{Form}
use Rattle.rhythm_app.specs.declared.request.Talk.{Talk}
use Rattle.rhythm_app.specs.Builds.{MatchBuilds}
use Rattle.rhythm_app.specs.Stages.{Follows, IsOfContent}
use Rattle.rhythm_app.specs.declared.stop.Stop.{Stop}
use Rattle.rhythm_app.specs.declared.stop.Stop.TheVariants as stop
use Rattle.rhythm_base.specs.Grammar.{Grammar}
use Rattle.rhythm_base.specs.Performance.{Performance}

module _ (g : Grammar) (p : Performance) where
  pub unopened : (fault : OpenFault) → IsOpenFault g p fault → IsUnopened g p (open_stop fault) ⊎ (open_stop fault ≡ stop.Memory)
  unopened (opening.Cells count) h = inl (opening.Cells count, h, (λ e. cc), refl)
  unopened (opening.NoStart bar num den) h = inl (opening.NoStart bar num den, h, (λ e. cc), refl)
  unopened (opening.NoDerivation channel bar) h = inl (opening.NoDerivation channel bar, h, (λ e. cc), refl)
  unopened opening.Memory h = inr refl

  pub too_long_to_write : (line : ℕ) → CanOpen g p → HasTooLongText g p line → IsTooLongToWrite g p (stop.ScoreTooLong line)
  too_long_to_write line can long = (line, can, long, refl)

pub open_content : (fault : OpenFault) → IsOfContent (open_stop fault)
open_content (opening.Cells count) = tt
open_content (opening.NoStart bar num den) = tt
open_content (opening.NoDerivation channel bar) = tt
open_content opening.Memory = tt

pub open_built : (old new cells : ℕ) (fault : OpenFault) → IsBuilt old new cells fault → MatchBuilds (new ≡ risen old cells) (new ≤ risen old cells) (new ≡ old) (open_stop fault)
open_built old new cells (opening.Cells count) h = h
open_built old new cells (opening.NoStart bar num den) h = h
open_built old new cells (opening.NoDerivation channel bar) h = h
open_built old new cells opening.Memory h = h.1

pub open_rises : (old new cells : ℕ) (fault : OpenFault) → IsBuilt old new cells fault → old ≤ new
open_rises old new cells (opening.Cells count) h = omega (arith, h)
open_rises old new cells (opening.NoStart bar num den) h = omega (arith, h)
open_rises old new cells (opening.NoDerivation channel bar) h = omega (arith, h)
open_rises old new cells opening.Memory h = h.0

-- what is made without a stop is made without a fault
pub or_stop_made : {T E : Type 0} (f : E → Stop) (r : Result T E) (x : T) → (let q : Result T Stop = Ok x in q) ≡ or_stop f r → (let o : Result T E = Ok x in r ≡ o)
or_stop_made f (Ok y) x same = let e : x ≡ y = cc in ap (λ z. Ok z) (sym e)
or_stop_made f (Err fault) x same = absurd (cc)
