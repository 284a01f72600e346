-- Lines of studios, the steps that are kept, and steps of a history of one edit.
use Rattle.std.specs.Prelude.{◌≡◌, ℕ, List, [], ◌∷◌, codes, refl, replicate, Result}
use Rattle.std.proofs.Common.{inl, inr}
use Rattle.rhythm_base.specs.Grammar.{Grammar}
use Rattle.rhythm_base.specs.Performance.{Performance}
use Rattle.edit_script.specs.Replies.{done_text}
use Rattle.rhythm_base.specs.Voices.{IsCostOf}
use Rattle.session_history.specs.History.{History, Step}
use Rattle.session_history.specs.Kept.{kept_steps}
use Rattle.session_history.specs.Studio.{StudioStep}
use Rattle.session_history.specs.StudioLines.{SaysStudio}
use Rattle.session_history.specs.declared.studio_command.StudioCommand.TheVariants.{Redo, Undo}

-- ---- lines

undo_line : SaysStudio (codes "undo") Undo
undo_line = refl

-- one carriage return is dropped
returned_line : SaysStudio (codes "redo\r") Redo
returned_line = refl

-- ---- steps that are kept

abbrev step_of_size : Performance → ℕ → Step
step_of_size p size = record { performance = p; size = size }

-- of five steps of 4,096 cells four are kept, which reach 16,384 together
four_great_steps : (p : Performance) → kept_steps (replicate 5 (step_of_size p 4096)) ≡ replicate 4 (step_of_size p 4096)
four_great_steps p = refl

-- a small step after a great one that is not kept is not kept either, unless it comes later
later_steps : (p : Performance) → kept_steps (step_of_size p 1 ∷ step_of_size p 9000 ∷ step_of_size p 2 ∷ step_of_size p 9000 ∷ []) ≡ step_of_size p 2 ∷ step_of_size p 9000 ∷ []
later_steps p = refl

-- of 65 steps 64 are kept
no_more_steps : (p : Performance) → kept_steps (replicate 65 (step_of_size p 0)) ≡ replicate 64 (step_of_size p 0)
no_more_steps p = refl

-- ---- a history of one edit, by any grammar and whatever the score is

module _ (g : Grammar) (p q : Performance) (S : Performance → Result (List ℕ) ℕ → Type 0) where
  abbrev edited : History
  edited = record { grammar = g; past = step_of_size p 1 ∷ []; present = q; future = [] }

  abbrev taken_back : History
  taken_back = record { grammar = g; past = []; present = p; future = q ∷ [] }

  no_step_on : StudioStep S edited (codes "redo") (codes "refused NoStep\n") edited
  no_step_on = inl (Redo, refl, inr (refl, refl, refl))

  one_step_back : IsCostOf g p 100 → StudioStep S edited (codes "undo") (done_text 0 100) taken_back
  one_step_back costs = inl (Undo, refl, inl (([], step_of_size p 1, refl, refl), (100, costs, refl)))

  no_step_back : StudioStep S taken_back (codes "undo\r") (codes "refused NoStep\n") taken_back
  no_step_back = inl (Undo, refl, inr (refl, refl, refl))
