-- Lines that stand after those before them, one after another.
use Rattle.std.proofs.Common.{◌≡◌, ℕ, false, List, [], ◌∷◌, ◌++◌, length, sym, ap, ◌∙◌, subst, append_assoc}
use Rattle.std.specs.Prelude.{None, reverse}
use Rattle.std.proofs.lemmas.List.{reverse-append}
use Rattle.kern_reader.specs.Columns.{announced, columns_of, current_bar, grid_of, spines_of, stage_of}
use Rattle.kern_reader.specs.Faults.{first_fault, is_head_stage, said_tests}
use Rattle.kern_laws.specs.Lines.{KernLine}
use Rattle.kern_laws.proofs.ScoreLines.{HasTurn, Over, StandFrom}

pub record IsGood (n : ℕ) (before : List KernLine) (line : KernLine) : Type 0 where
  pub turn : HasTurn (stage_of before) line
  pub wide : is_head_stage (stage_of before) ≡ false → length (columns_of before) ≡ n
  pub faultless : first_fault (said_tests (stage_of before) (grid_of before) (current_bar before) (announced before) (spines_of before) line) ≡ None

-- from the lines before to those after
abbrev pub Walk : ℕ → List KernLine → List KernLine → List KernLine → Type 0
Walk n before [] after = before ≡ after
Walk n before (line ∷ lines) after = IsGood n before line × Walk n (line ∷ before) lines after

pub walk_append : (n : ℕ) (before xs mid ys after : List KernLine) → Walk n before xs mid → Walk n mid ys after → Walk n before (xs ++ ys) after
walk_append n before [] mid ys after h k = subst (λ b. Walk n b ys after) (sym h) k
walk_append n before (x ∷ xs) mid ys after (good, h) k = (good, walk_append n (x ∷ before) xs mid ys after h k)

pub walk_after : (n : ℕ) (before lines after : List KernLine) → Walk n before lines after → after ≡ reverse lines ++ before
walk_after n before [] after h = sym h
walk_after n before (line ∷ lines) after (good, h) =
    walk_after n (line ∷ before) lines after h ∙ sym (ap (λ xs. xs ++ before) (reverse-append (line ∷ []) lines) ∙ append_assoc (reverse lines) (line ∷ []) before)

pub walk_stands : (n : ℕ) (before lines after : List KernLine) → Walk n before lines after → stage_of after ≡ Over → StandFrom n before lines
walk_stands n before [] after h over = ap stage_of h ∙ over
walk_stands n before (line ∷ lines) after (good, h) over = (good.turn, good.wide, good.faultless, walk_stands n (line ∷ before) lines after h over)
