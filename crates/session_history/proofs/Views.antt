-- What contracts see of a history after a step.
use Rattle.std.proofs.Common.{◌≡◌, ℕ, ◌+◌, List, [], ◌∷◌, ◌++◌, Bool, true, false, if◌then◌else◌, nat_le, length, map, refl, sym, ap, subst, ◌∙◌}
use Rattle.std.specs.Prelude.{All}
use Rattle.std.proofs.lemmas.List.{length-map, map-append}
use Rattle.std.proofs.lemmas.List.Elements.{All-cons, All-drop, All-head, All-nil}
use Rattle.edit_session.specs.Prepared.{Prepared, Suits, cell_of}
use Rattle.edit_session.specs.Session.{Session}
use Rattle.rhythm_base.specs.Grammar.{Grammar}
use Rattle.rhythm_base.specs.Performance.{IsWellFormed, Performance}
use Rattle.session_history.specs.Changes.{AreSteps, IsEdited, IsHistory, IsRedone, IsHistoryStep, IsUndone, performance_before}
use Rattle.session_history.specs.History.{History}
use Rattle.session_history.specs.Kept.{kept_steps, step_sizes}
use Rattle.session_history.specs.Steps.{kept_of, next_of, step_of, tables_of}
use Rattle.session_history.specs.Ways.{CanBeHeld, KeepsWays, LeadsBack, first_of}
use Rattle.session_history.specs.declared.steps.TheConstants.{MOST_KEPT_CELLS, MOST_STEPS}
use Rattle.session_history.proofs.Moves.{IsMoved, lives_formed}

abbrev pub seen : Session → List Prepared → List Prepared → History
seen session past future = record { grammar = session.grammar; past = map step_of past; present = session.performance; future = map next_of future }

-- ---- the steps that are kept

size_is : (steps : List Prepared) → step_sizes (map step_of steps) ≡ tables_of steps
size_is [] = refl
size_is (x ∷ more) = ap (λ n. length x.tables + n) (size_is more)

kept_map : (a b : Bool) (xs ys : List Prepared)
    → (if a then (if b then map step_of xs else map step_of ys) else map step_of ys) ≡ map step_of (if a then (if b then xs else ys) else ys)
kept_map true true xs ys = refl
kept_map true false xs ys = refl
kept_map false b xs ys = refl

pub kept_same : (steps : List Prepared) → kept_steps (map step_of steps) ≡ map step_of (kept_of steps)
kept_same [] = refl
kept_same (x ∷ more) =
    (λ i. if nat_le (length-map (x ∷ more) step_of i) MOST_STEPS
    then (if nat_le (size_is (x ∷ more) i) MOST_KEPT_CELLS then map step_of (x ∷ more) else kept_same more i) else kept_same more i)
    ∙ kept_map (nat_le (length (x ∷ more)) MOST_STEPS) (nat_le (tables_of (x ∷ more)) MOST_KEPT_CELLS) (x ∷ more) (kept_of more)

-- ---- the step that is made

-- the way back is the step from where it leads
way_is_step : (g : Grammar) (p : Performance) (x : Prepared) → Suits g p x → IsHistoryStep g x.next p (step_of x)
way_is_step g p x suits = (map cell_of x.tables, suits.reached, ap (λ (n : ℕ). record { performance = x.next; size = n }) (sym (length-map x.tables cell_of)))

module _ (old new : Session) (past future : List Prepared) (x back : Prepared) (moved : IsMoved old new x back) where
  step_back : IsHistoryStep old.grammar old.performance x.next (step_of back)
  step_back =
      subst (λ g. IsHistoryStep g old.performance x.next (step_of back)) moved.grammar
      (subst (λ p. IsHistoryStep new.grammar old.performance p (step_of back)) moved.performance
      (subst (λ p. IsHistoryStep new.grammar p new.performance (step_of back)) moved.way_back (way_is_step new.grammar new.performance back moved.suits)))

  pub undone_is : (xs : List Prepared) → past ≡ xs ++ x ∷ [] → IsUndone (seen old past future) (seen new xs (back ∷ future))
  undone_is xs is = (
    map step_of xs,
    step_of x,
    ap (map step_of) is ∙ map-append step_of xs (x ∷ []),
    λ i. record { grammar = moved.grammar i; past = map step_of xs; present = moved.performance i; future = moved.way_back i ∷ map next_of future },
  )

  pub redone_is : (rest : List Prepared) → future ≡ x ∷ rest → IsRedone (seen old past future) (seen new (past ++ back ∷ []) rest)
  redone_is rest is = (
    x.next,
    map next_of rest,
    step_of back,
    ap (map next_of) is,
    step_back,
    λ i. record { grammar = moved.grammar i; past = map-append step_of past (back ∷ []) i; present = moved.performance i; future = map next_of rest },
  )

  pub edited_is : (kept : List Prepared) → kept ≡ kept_of (past ++ back ∷ []) → IsEdited (seen old past future) new.performance (seen new kept [])
  edited_is kept is = (
    step_of back,
    subst (λ p. IsHistoryStep old.grammar old.performance p (step_of back)) (sym moved.performance) step_back,
    λ i. record {
      grammar = moved.grammar i;
      past = (ap (map step_of) is ∙ sym (kept_same (past ++ back ∷ [])) ∙ ap kept_steps (map-append step_of past (back ∷ []))) i;
      present = new.performance;
      future = [];
    },
  )

-- ---- what is kept is a history

steps_are : (g : Grammar) (xs : List Prepared) (p : Performance) → LeadsBack g xs p → AreSteps g (map step_of xs) p
steps_are g [] p leads = tt
steps_are g (x ∷ more) p leads =
    (subst (λ q. IsHistoryStep g x.next q (step_of x)) (first_is more) (way_is_step g (first_of more p) x leads.0), steps_are g more p leads.1)
  where
    first_is : (more : List Prepared) → first_of more p ≡ performance_before (map step_of more) p
    first_is [] = refl
    first_is (y ∷ ys) = refl

steps_formed : (g : Grammar) (room : ℕ) (xs : List Prepared) → All (λ x. CanBeHeld g room x.next) xs → All (λ step. IsWellFormed step.performance) (map step_of xs)
steps_formed g room [] kept = All-nil (λ step. IsWellFormed step.performance)
steps_formed g room (x ∷ xs) kept =
    All-cons (λ step. IsWellFormed step.performance) (step_of x) (map step_of xs)
    (lives_formed g x.next (All-head (λ x. CanBeHeld g room x.next) x xs kept).lives) (steps_formed g room xs (All-drop (λ x. CanBeHeld g room x.next) 1 (x ∷ xs) kept))

next_formed : (g : Grammar) (room : ℕ) (xs : List Prepared) → All (λ x. CanBeHeld g room x.next) xs → All IsWellFormed (map next_of xs)
next_formed g room [] kept = All-nil IsWellFormed
next_formed g room (x ∷ xs) kept =
    All-cons IsWellFormed (next_of x) (map next_of xs)
    (lives_formed g x.next (All-head (λ x. CanBeHeld g room x.next) x xs kept).lives) (next_formed g room xs (All-drop (λ x. CanBeHeld g room x.next) 1 (x ∷ xs) kept))

pub is_history : (session : Session) (past future : List Prepared) → KeepsWays session past future → IsHistory (seen session past future)
is_history session past future keeps = record {
  past = steps_formed session.grammar session.room past keeps.past;
  present = lives_formed session.grammar session.performance keeps.present.lives;
  future = next_formed session.grammar session.room future keeps.future;
  steps = steps_are session.grammar past session.performance keeps.leads_back;
}
