-- An undo takes an edit back, and a redo an undo.
use Rattle.std.proofs.Common.{◌≡◌, List, [], ◌∷◌, ◌++◌, sym, ap, ap₂, subst, ◌∙◌, append_assoc}
use Rattle.rhythm_base.specs.Performance.{Performance}
use Rattle.session_history.specs.Changes.{AreSteps, IsEdited, IsHistory, IsRedone, IsHistoryStep, IsUndone}
use Rattle.session_history.specs.History.{History, Step}
use Rattle.session_history.specs.Kept.{kept_steps}
use Rattle.session_history.specs.Laws.{IsTakenBack}
use Rattle.session_history.proofs.Histories.{kept_rest, one_last, one_step, step_leads, steps_before}

-- of a list with one more after it, a last part is nothing, or it ends with this one
last_part : {X : Type 0} (xs cut kept before : List X) (x y : X) → xs ++ x ∷ [] ≡ cut ++ kept → kept ≡ before ++ y ∷ [] → (xs ≡ cut ++ before) × (x ≡ y)
last_part xs cut kept before x y whole ends =
    one_last xs (cut ++ before) x y (whole ∙ ap (λ l. cut ++ l) ends ∙ sym (append_assoc cut before (y ∷ [])))

pub taken_back : (h after back : History) (next : Performance) → IsEdited h next after → IsUndone after back → IsTakenBack h next back
taken_back h after back next (s, step, at) (before, t, past, is) =
    let rest = kept_rest (h.past ++ s ∷ []) in
    let ends : kept_steps (h.past ++ s ∷ []) ≡ before ++ t ∷ [] = sym (ap (λ (x : History). x.past) at) ∙ past in
    let last = last_part h.past rest.0 (kept_steps (h.past ++ s ∷ [])) before s t rest.1 ends in
    record {
      grammar = ap (λ (x : History). x.grammar) is ∙ ap (λ (x : History). x.grammar) at;
      present = ap (λ (x : History). x.present) is ∙ sym (ap (λ (x : Step). x.performance) last.1) ∙ step_leads h.grammar h.present next s step;
      past = (rest.0, last.0 ∙ ap (λ l. rest.0 ++ l) (sym (ap (λ (x : History). x.past) is)));
      future = ap (λ (x : History). x.future) is ∙ (λ i. (at i).present ∷ (at i).future);
    }

pub made_again : (h back again : History) → IsHistory h → IsUndone h back → IsRedone back again → again ≡ h
made_again h back again kept (before, s, past, is) (next, later, t, future, step, at) =
    let ends = steps_before h.grammar before s h.present (subst (λ l. AreSteps h.grammar l h.present) past kept.steps) in
    let seen : next ∷ later ≡ h.present ∷ h.future = sym future ∙ ap (λ (x : History). x.future) is in
    let heads : next ≡ h.present = cc in
    let tails : later ≡ h.future = cc in
    let gone : IsHistoryStep h.grammar s.performance h.present t =
    subst (λ q. IsHistoryStep h.grammar s.performance q t) heads (subst (λ (b : History). IsHistoryStep b.grammar b.present next t) is step) in
    let same = one_step h.grammar s.performance h.present t s gone ends.1 in
    at ∙ (λ i. record {
      grammar = (is i).grammar;
      past = (ap₂ (λ (a : List Step) (x : Step). a ++ x ∷ []) (ap (λ (x : History). x.past) is) same ∙ sym past) i;
      present = heads i;
      future = tails i;
    })
