-- An edit of a drill that was tried, as a step of it.
use Rattle.std.proofs.Common.{◌≡◌, ℕ, ◌+◌, ◌≤◌, refl, sym, subst, ◌∙◌, arith, Some}
use Rattle.std.specs.Prelude.{IsOk}
use Rattle.edit_laws.specs.Edits.{edited}
use Rattle.rhythm_base.specs.declared.edit.Edit.{Edit}
use Rattle.rhythm_base.specs.declared.edit_fault.EditFault.{EditFault}
use Rattle.rhythm_base.specs.Grammar.{Grammar}
use Rattle.rhythm_base.specs.Performance.{IsWellFormed, Performance}
use Rattle.edit_laws.specs.EditOutcomes.{IsOutcome, made, refused}
use Rattle.rhythm_gen.specs.DrillEdit.{drill_edit}
use Rattle.drill_run.specs.Drill.{Drilled, IsDrillStep, IsWithinReach}
use Rattle.drill_run.proofs.DrillSteps.{kept_formed}
use Rattle.drill_run.proofs.Reach.{few_reached}

abbrev pub standing : Performance → ℕ → ℕ → Drilled
standing p accepted built = record { performance = p; accepted = accepted; built = built }

module _ (g : Grammar) (number e : ℕ) (p next : Performance) (edit : Edit) (is : Some edit ≡ drill_edit number e p) (accepted built : ℕ) where
  pub accepted_step : (reached cost : ℕ) → IsOutcome g p edit (made reached cost) next → IsDrillStep g number e (standing p accepted built) (standing next (accepted + 1) (built + reached)) 0
  accepted_step reached cost comes = record { edit = edit; is = sym is; outcome = made reached cost; comes = comes; counts = (refl, refl); builds = refl }

  pub refused_step : (fault : EditFault) (besides : ℕ) → IsOutcome g p edit (refused fault) next → IsWithinReach g p edit besides
      → IsDrillStep g number e (standing p accepted built) (standing next accepted built) besides
  refused_step fault besides comes within = record { edit = edit; is = sym is; outcome = refused fault; comes = comes; counts = (refl, refl); builds = within }

  -- an edit that is made reaches no more cells than there can be
  pub reached_few : (reached cost : ℕ) → IsWellFormed p → IsOutcome g p edit (made reached cost) next → reached ≤ 65536
  reached_few reached cost formed (cells, is_made, count) =
      let after = kept_formed number e p next edit formed (sym is) is_made.made in
      let few = few_reached g p next cells after is_made.reaches in
      omega (arith, few, count)

  -- what is within the reach of this edit is within the reach of any edit of that number
  pub any_edit : (more : ℕ) → IsWithinReach g p edit more → (other : Edit) → drill_edit number e p ≡ Some other → IsWithinReach g p other more
  any_edit more within other that =
      let both : Some edit ≡ Some other = is ∙ that in
      let same : edit ≡ other = cc in
      subst (λ (x : Edit). IsWithinReach g p x more) same within

  -- and where the performance does not refuse this one, it refuses none
  pub any_allowed : IsOk (edited p edit) → (other : Edit) → drill_edit number e p ≡ Some other → IsOk (edited p other)
  any_allowed allowed other that =
      let both : Some edit ≡ Some other = is ∙ that in
      let same : edit ≡ other = cc in
      subst (λ (x : Edit). IsOk (edited p x)) same allowed
