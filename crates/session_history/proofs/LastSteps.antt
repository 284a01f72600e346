-- The last step is kept.
use Rattle.std.proofs.Common.{◌≡◌, ◌≤◌, List, [], ◌∷◌, ◌++◌, Bool, true, false, if◌then◌else◌, nat_le, length, refl, ap, ◌∙◌, arith, rules}
use Rattle.rhythm_base.specs.Performance.{Performance}
use Rattle.rhythm_base.specs.declared.limits.TheConstants.{MOST_CELLS}
use Rattle.edit_session.specs.Opening.{cells_of}
use Rattle.session_history.specs.Changes.{IsEdited}
use Rattle.session_history.specs.History.{History, Step}
use Rattle.session_history.specs.Kept.{kept_steps, step_sizes}
use Rattle.session_history.specs.declared.steps.TheConstants.{MOST_KEPT_CELLS, MOST_STEPS}
use Rattle.session_history.proofs.FewReached.{few_reached}
use Rattle.session_history.proofs.Histories.{step_leads}

-- of steps the last is kept, where it is not too great
last_kept : (steps : List Step) (s : Step) → s.size ≤ MOST_KEPT_CELLS → (before : List Step) × (kept_steps (steps ++ s ∷ []) ≡ before ++ s ∷ [])
last_kept [] s small = ([], grind (arith, rules))
last_kept (t ∷ more) s small = go (nat_le (length (t ∷ more ++ s ∷ [])) MOST_STEPS) (nat_le (step_sizes (t ∷ more ++ s ∷ [])) MOST_KEPT_CELLS) (last_kept more s small)
  where
    go : (few fits : Bool) → (before : List Step) × (kept_steps (more ++ s ∷ []) ≡ before ++ s ∷ [])
        → (before : List Step) × ((if few then (if fits then t ∷ more ++ s ∷ [] else kept_steps (more ++ s ∷ [])) else kept_steps (more ++ s ∷ [])) ≡ before ++ s ∷ [])
    go true true rest = (t ∷ more, refl)
    go true false rest = rest
    go false fits rest = rest

pub last_step_is_kept : (h after : History) (next : Performance) → cells_of h.present ≤ MOST_CELLS → IsEdited h next after
    → (before : List Step) × (step : Step) × (after.past ≡ before ++ step ∷ []) × (step.performance ≡ h.present)
last_step_is_kept h after next few (s, (cells, reached, is), at) =
    let size : s.size ≡ length cells = ap (λ (x : Step). x.size) is in
    let kept = last_kept h.past s (omega (arith, size, few_reached h.grammar next h.present cells reached, few)) in
    (kept.0, s, ap (λ (x : History). x.past) at ∙ kept.1, step_leads h.grammar h.present next s (cells, reached, is))
