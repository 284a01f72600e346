-- What edits, undo and redo do to a history.
use Rattle.std.specs.Prelude.{◌≡◌, ℕ, ⊤, List, [], ◌∷◌, ◌++◌, All, length}
use Rattle.rhythm_base.specs.Grammar.{Grammar}
use Rattle.rhythm_base.specs.Performance.{IsWellFormed, Performance}
use Rattle.edit_laws.specs.Reached.{AreReached}
use Rattle.session_history.specs.History.{History, Step}
use Rattle.session_history.specs.Kept.{kept_steps}

-- the step from an earlier performance to a later one: its size counts the cells that the change back reaches
abbrev pub IsHistoryStep : Grammar → Performance → Performance → Step → Type 0
IsHistoryStep g earlier later step =
    (cells : List (ℕ × ℕ)) × AreReached g later earlier cells × (step ≡ record { performance = earlier; size = length cells })

-- An edit is accepted that makes a performance the present: the step to it comes after the past, of which as much as is kept stays,
-- and nothing is left to redo
abbrev pub IsEdited : History → Performance → History → Type 0
IsEdited old next new =
    (step : Step) × IsHistoryStep old.grammar old.present next step
    × (new ≡ record { grammar = old.grammar; past = kept_steps (old.past ++ step ∷ []); present = next; future = [] })

-- the last of the past becomes the present, and what was the present comes first of what can be redone
abbrev pub IsUndone : History → History → Type 0
IsUndone old new =
    (before : List Step) × (step : Step) × (old.past ≡ before ++ step ∷ [])
    × (new ≡ record { grammar = old.grammar; past = before; present = step.performance; future = old.present ∷ old.future })

-- the first of what can be redone becomes the present, and the step to it comes after the past
abbrev pub IsRedone : History → History → Type 0
IsRedone old new =
    (next : Performance) × (later : List Performance) × (step : Step) × (old.future ≡ next ∷ later)
    × IsHistoryStep old.grammar old.present next step
    × (new ≡ record { grammar = old.grammar; past = old.past ++ step ∷ []; present = next; future = later })

-- the performance that the first of these steps leads to, where the last leads to the present
abbrev pub performance_before : List Step → Performance → Performance
performance_before [] present = present
performance_before (step ∷ more) present = step.performance

-- each of the steps leads to the performance of the next, and the last to the present
abbrev pub AreSteps : Grammar → List Step → Performance → Type 0
AreSteps g [] present = ⊤
AreSteps g (step ∷ more) present = IsHistoryStep g step.performance (performance_before more present) step × AreSteps g more present

-- A history as edits, undo and redo leave it: all its performances are well formed, and its past is one of steps to the present
pub record IsHistory (h : History) : Type 0 where
  pub past : All (λ step. IsWellFormed step.performance) h.past
  pub present : IsWellFormed h.present
  pub future : All IsWellFormed h.future
  pub steps : AreSteps h.grammar h.past h.present
