-- What edits, undo and redo do to the steps of a history.
use Rattle.std.proofs.Common.{◌≡◌, ℕ, List, [], ◌∷◌, ◌++◌, Bool, true, false, if◌then◌else◌, nat_le, length, refl, sym, ap, ap₂, subst, ◌∙◌}
use Rattle.std.specs.Prelude.{All}
use Rattle.rhythm_base.specs.Grammar.{Grammar}
use Rattle.rhythm_base.specs.Performance.{IsWellFormed, Performance}
use Rattle.edit_laws.proofs.OneReached.{one_reached}
use Rattle.std.proofs.lemmas.List.Elements.{All-append, All-cons, All-drop, All-head, All-nil, All-take}
use Rattle.std.proofs.Math.Seq.{take-append_seam}
use Rattle.session_history.specs.Changes.{AreSteps, IsEdited, IsHistory, IsRedone, IsHistoryStep, IsUndone}
use Rattle.session_history.specs.History.{History, Step}
use Rattle.session_history.specs.Kept.{kept_steps, step_sizes}
use Rattle.session_history.specs.declared.steps.TheConstants.{MOST_KEPT_CELLS, MOST_STEPS}

-- ---- the last element

-- two lists that end with one element are one
pub one_last : {X : Type 0} (xs ys : List X) (x y : X) → xs ++ x ∷ [] ≡ ys ++ y ∷ [] → (xs ≡ ys) × (x ≡ y)
one_last [] [] x y same = (refl, cc)
one_last [] (z ∷ []) x y same = absurd (cc)
one_last [] (z ∷ w ∷ ys) x y same = absurd (cc)
one_last (z ∷ []) [] x y same = absurd (cc)
one_last (z ∷ w ∷ xs) [] x y same = absurd (cc)
one_last (z ∷ xs) (w ∷ ys) x y same =
    let heads : z ≡ w = cc in
    let tails : xs ++ x ∷ [] ≡ ys ++ y ∷ [] = cc in
    let more = one_last xs ys x y tails in
    (ap₂ (λ a b. a ∷ b) heads more.0, more.1)

-- ---- changes are one

pub one_step : (g : Grammar) (earlier later : Performance) (s t : Step) → IsHistoryStep g earlier later s → IsHistoryStep g earlier later t → s ≡ t
one_step g earlier later s t (cells, reached, is) (cells', reached', is') =
    is ∙ ap (λ (cs : List (ℕ × ℕ)). record { performance = earlier; size = length cs }) (one_reached g later earlier cells cells' reached reached') ∙ sym is'

edited_by : History → Performance → Step → History
edited_by h next s = record { grammar = h.grammar; past = kept_steps (h.past ++ s ∷ []); present = next; future = [] }

pub edited_one : (h new new' : History) (next : Performance) → IsEdited h next new → IsEdited h next new' → new ≡ new'
edited_one h new new' next (s, is, at) (t, is', at') =
    at ∙ ap (λ (x : Step). record { grammar = h.grammar; past = kept_steps (h.past ++ x ∷ []); present = next; future = [] }) (one_step h.grammar h.present next s t is is') ∙ sym at'

undone_to : History → List Step → Step → History
undone_to h before s = record { grammar = h.grammar; past = before; present = s.performance; future = h.present ∷ h.future }

pub undone_one : (h new new' : History) → IsUndone h new → IsUndone h new' → new ≡ new'
undone_one h new new' (before, s, is, at) (before', t, is', at') =
    let same = one_last before before' s t (sym is ∙ is') in
    at ∙ (λ i. record { grammar = h.grammar; past = same.0 i; present = (same.1 i).performance; future = h.present ∷ h.future }) ∙ sym at'

pub redone_one : (h new new' : History) → IsRedone h new → IsRedone h new' → new ≡ new'
redone_one h new new' (next, later, s, is, step, at) (next', later', t, is', step', at') =
    let same : next ∷ later ≡ next' ∷ later' = sym is ∙ is' in
    let heads : next ≡ next' = cc in
    let tails : later ≡ later' = cc in
    let steps = one_step h.grammar h.present next s t step (subst (λ q. IsHistoryStep h.grammar h.present q t) (sym heads) step') in
    at ∙ (λ i. record { grammar = h.grammar; past = h.past ++ steps i ∷ []; present = heads i; future = tails i }) ∙ sym at'

-- ---- steps stay steps

-- the last of them leads to the present, and the others to where it stands
pub steps_before : (g : Grammar) (steps : List Step) (s : Step) (p : Performance) → AreSteps g (steps ++ s ∷ []) p → AreSteps g steps s.performance × IsHistoryStep g s.performance p s
steps_before g [] s p are = (tt, are.0)
steps_before g (t ∷ []) s p are = ((are.0, tt), are.1.0)
steps_before g (t ∷ u ∷ more) s p are = let more' = steps_before g (u ∷ more) s p are.1 in ((are.0, more'.0), more'.1)

-- and so with one step more
pub steps_with : (g : Grammar) (steps : List Step) (s : Step) (p : Performance) → AreSteps g steps s.performance → IsHistoryStep g s.performance p s → AreSteps g (steps ++ s ∷ []) p
steps_with g [] s p are is = (is, tt)
steps_with g (t ∷ []) s p are is = (are.0, (is, tt))
steps_with g (t ∷ u ∷ more) s p are is = (are.0, steps_with g (u ∷ more) s p are.1 is)

-- ---- what is kept

-- of steps the first ones are let go
pub kept_rest : (steps : List Step) → (cut : List Step) × (steps ≡ cut ++ kept_steps steps)
kept_rest [] = ([], refl)
kept_rest (s ∷ more) = go (nat_le (length (s ∷ more)) MOST_STEPS) (nat_le (step_sizes (s ∷ more)) MOST_KEPT_CELLS) (kept_rest more)
  where
    go : (few small : Bool) → (cut : List Step) × (more ≡ cut ++ kept_steps more)
        → (cut : List Step) × (s ∷ more ≡ cut ++ (if few then (if small then s ∷ more else kept_steps more) else kept_steps more))
    go true true rest = ([], refl)
    go true false rest = (s ∷ rest.0, ap (λ l. s ∷ l) rest.1)
    go false small rest = (s ∷ rest.0, ap (λ l. s ∷ l) rest.1)

-- those that are left are steps
rest_steps : (g : Grammar) (cut steps : List Step) (p : Performance) → AreSteps g (cut ++ steps) p → AreSteps g steps p
rest_steps g [] steps p are = are
rest_steps g (s ∷ cut) steps p are = rest_steps g cut steps p are.1

rest_all : (P : Step → Type 0) (cut steps : List Step) → All P (cut ++ steps) → All P steps
rest_all P [] steps all = all
rest_all P (s ∷ cut) steps all = rest_all P cut steps (All-drop P 1 (s ∷ cut ++ steps) all)

kept_steps_are : (g : Grammar) (steps : List Step) (p : Performance) → AreSteps g steps p → AreSteps g (kept_steps steps) p
kept_steps_are g steps p are = let rest = kept_rest steps in rest_steps g rest.0 (kept_steps steps) p (subst (λ l. AreSteps g l p) rest.1 are)

kept_all_of : (P : Step → Type 0) (steps : List Step) → All P steps → All P (kept_steps steps)
kept_all_of P steps all = let rest = kept_rest steps in rest_all P rest.0 (kept_steps steps) (subst (λ l. All P l) rest.1 all)

-- ---- changes keep histories

abbrev Formed : Step → Type 0
Formed step = IsWellFormed step.performance

pub step_leads : (g : Grammar) (earlier later : Performance) (s : Step) → IsHistoryStep g earlier later s → s.performance ≡ earlier
step_leads g earlier later s (cells, reached, is) = ap (λ (x : Step). x.performance) is

-- a step after those that there are
more_formed : (h : History) (s : Step) (next : Performance) → IsHistory h → IsHistoryStep h.grammar h.present next s → All Formed (h.past ++ s ∷ [])
more_formed h s next is step =
    All-append Formed h.past (s ∷ []) is.past
    (All-cons Formed s [] (subst IsWellFormed (sym (step_leads h.grammar h.present next s step)) is.present) (All-nil Formed))

more_steps : (h : History) (s : Step) (next : Performance) → IsHistory h → IsHistoryStep h.grammar h.present next s → AreSteps h.grammar (h.past ++ s ∷ []) next
more_steps h s next is step =
    let leads = sym (step_leads h.grammar h.present next s step) in
    steps_with h.grammar h.past s next (subst (AreSteps h.grammar h.past) leads is.steps) (subst (λ q. IsHistoryStep h.grammar q next s) leads step)

pub edited_kept : (h new : History) (next : Performance) → IsHistory h → IsWellFormed next → IsEdited h next new → IsHistory new
edited_kept h new next is formed (s, step, at) = subst IsHistory (sym at) (record {
  past = kept_all_of Formed (h.past ++ s ∷ []) (more_formed h s next is step);
  present = formed;
  future = All-nil IsWellFormed;
  steps = kept_steps_are h.grammar (h.past ++ s ∷ []) next (more_steps h s next is step);
})

pub undone_kept : (h new : History) → IsHistory h → IsUndone h new → IsHistory new
undone_kept h new is (before, s, past, at) =
    let all : All Formed (before ++ s ∷ []) = subst (λ l. All Formed l) past is.past in
    let steps = steps_before h.grammar before s h.present (subst (λ l. AreSteps h.grammar l h.present) past is.steps) in
    subst IsHistory (sym at) (record {
      past = subst (All Formed) (take-append_seam before (s ∷ [])) (All-take Formed (length before) (before ++ s ∷ []) all);
      present = All-head Formed s [] (rest_all Formed before (s ∷ []) all);
      future = All-cons IsWellFormed h.present h.future is.present is.future;
      steps = steps.0;
    })

pub redone_kept : (h new : History) → IsHistory h → IsRedone h new → IsHistory new
redone_kept h new is (next, later, s, future, step, at) =
    let all : All IsWellFormed (next ∷ later) = subst (λ l. All IsWellFormed l) future is.future in
    subst IsHistory (sym at) (record {
      past = more_formed h s next is step;
      present = All-head IsWellFormed next later all;
      future = All-drop IsWellFormed 1 (next ∷ later) all;
      steps = more_steps h s next is step;
    })
