-- A machine whose steps are one has one run.
use Rattle.std.proofs.Common.{◌≡◌, ℕ, inl, inr, List, [], ◌∷◌, ◌++◌, sym, ap₂, ◌∙◌, subst}
use Rattle.script_laws.specs.Script.{Run}

module _ {State : Type 0} (Steps : State → List ℕ → List ℕ → State → Type 0) (Ends : List ℕ → Type 0) (Good : State → Type 0)
    (keeps : (s next : State) (line reply : List ℕ) → Good s → Steps s line reply next → Good next) where
  -- what each step keeps a run keeps
  pub run_keeps : (s last : State) (lines : List (List ℕ)) (replies : List ℕ) → Good s → Run Steps Ends s lines replies last → Good last
  run_keeps s last [] replies good (none, stays) = subst Good (sym stays) good
  run_keeps s last (line ∷ lines) replies good (reply, next, step, inl (ends, all, stays)) = subst Good (sym stays) (keeps s next line reply good step)
  run_keeps s last (line ∷ lines) replies good (reply, next, step, inr (goes, (more, run, all))) =
      run_keeps next last lines more (keeps s next line reply good step) run

  pub one_run : ((s next next' : State) (line reply reply' : List ℕ) → Good s → Steps s line reply next → Steps s line reply' next' → (reply ≡ reply') × (next ≡ next'))
      → (s last last' : State) (lines : List (List ℕ)) (replies replies' : List ℕ) → Good s → Run Steps Ends s lines replies last
      → Run Steps Ends s lines replies' last' → (replies ≡ replies') × (last ≡ last')
  one_run one s last last' [] replies replies' good (none, stays) (none', stays') = (none ∙ sym none', stays ∙ sym stays')
  one_run one s last last' (line ∷ lines) replies replies' good (reply, next, step, inl (ends, all, stays)) (reply', next', step', inl (ends', all', stays')) =
      let same = one s next next' line reply reply' good step step' in
      (all ∙ same.0 ∙ sym all', stays ∙ same.1 ∙ sym stays')
  one_run one s last last' (line ∷ lines) replies replies' good (reply, next, step, inl (ends, all, stays)) (reply', next', step', inr (goes, (more, run, all'))) =
      absurd (goes ends)
  one_run one s last last' (line ∷ lines) replies replies' good (reply, next, step, inr (goes, (more, run, all))) (reply', next', step', inl (ends, all', stays')) =
      absurd (goes ends)
  one_run one s last last' (line ∷ lines) replies replies' good (reply, next, step, inr (goes, (more, run, all))) (reply', next', step', inr (goes', (more', run', all'))) =
      let same = one s next next' line reply reply' good step step' in
      let rest = one_run one next last last' lines more more' (keeps s next line reply good step) run
      (subst (λ (t : State). Run Steps Ends t lines more' last') (sym same.1) run') in
      (all ∙ ap₂ ◌++◌ same.0 rest.0 ∙ sym all', rest.1)
