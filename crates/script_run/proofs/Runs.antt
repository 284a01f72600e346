-- Runs one after another.
use Rattle.std.proofs.Common.{ℕ, inl, inr, List, [], ◌∷◌, ◌++◌, refl, sym, ap, ◌∙◌, subst, append_assoc, append-nil}
use Rattle.std.specs.Prelude.{All}
use Rattle.std.proofs.lemmas.List.Elements.{All-head, All-tail}
use Rattle.script_laws.specs.Script.{Run}

module _ {State : Type 0} (Steps : State → List ℕ → List ℕ → State → Type 0) (Ends : List ℕ → Type 0) where
  -- lines that do not end the run, and then more
  pub run_append : (s m t : State) (lines tail : List (List ℕ)) (replies more : List ℕ) → All (λ line. Ends line → ⊥) lines
      → Run Steps Ends s lines replies m → Run Steps Ends m tail more t → Run Steps Ends s (lines ++ tail) (replies ++ more) t
  run_append s m t [] tail replies more unended run after =
      let P : List ℕ → Type 0 = λ l. Run Steps Ends s tail (l ++ more) t in
      subst P (sym run.0) (subst (λ (x : State). Run Steps Ends x tail more t) run.1 after)
  run_append s m t (line ∷ lines) tail replies more unended (reply, next, step, inl (ends, all, stays)) after =
      absurd (All-head (λ l. Ends l → ⊥) line lines unended ends)
  run_append s m t (line ∷ lines) tail replies more unended (reply, next, step, inr (goes, (others, run, all))) after =
      let again = run_append next m t lines tail others more (All-tail (λ l. Ends l → ⊥) line lines unended) run after in
      (reply, next, step, inr (goes, (others ++ more, again, ap (λ l. l ++ more) all ∙ append_assoc reply others more)))

  -- one line that does not end the run
  pub run_one : (s t : State) (line reply : List ℕ) → Steps s line reply t → (Ends line → ⊥) → Run Steps Ends s (line ∷ []) reply t
  run_one s t line reply step goes = (reply, t, step, inr (goes, ([], (refl, refl), sym (append-nil reply))))

  -- one line that ends it
  pub run_end : (s t : State) (line reply : List ℕ) → Steps s line reply t → Ends line → Run Steps Ends s (line ∷ []) reply t
  run_end s t line reply step ends = (reply, t, step, inl (ends, refl, refl))
