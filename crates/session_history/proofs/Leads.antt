-- Ways one after another: each leads back from the performance after it.
use Rattle.std.proofs.Common.{ℕ, List, [], ◌∷◌, ◌++◌, drop, zero, suc}
use Rattle.edit_session.specs.Prepared.{Prepared, Suits}
use Rattle.rhythm_base.specs.Grammar.{Grammar}
use Rattle.rhythm_base.specs.Performance.{Performance}
use Rattle.session_history.specs.Ways.{LeadsBack}

module _ (g : Grammar) where
  -- the last of them leads back from the present, and the others from where it leads
  pub before_last : (xs : List Prepared) (x : Prepared) (p : Performance) → LeadsBack g (xs ++ x ∷ []) p → LeadsBack g xs x.next × Suits g p x
  before_last [] x p leads = (tt, leads.0)
  before_last (y ∷ []) x p leads = ((leads.0, tt), leads.1.0)
  before_last (y ∷ z ∷ more) x p leads = let more' = before_last (z ∷ more) x p leads.1 in ((leads.0, more'.0), more'.1)

  -- and so with one more
  pub with_last : (xs : List Prepared) (x : Prepared) (p : Performance) → LeadsBack g xs x.next → Suits g p x → LeadsBack g (xs ++ x ∷ []) p
  with_last [] x p leads suits = (suits, tt)
  with_last (y ∷ []) x p leads suits = (leads.0, (suits, tt))
  with_last (y ∷ z ∷ more) x p leads suits = (leads.0, with_last (z ∷ more) x p leads.1 suits)

  -- and with the first ones left out
  pub from_rest : (n : ℕ) (xs : List Prepared) (p : Performance) → LeadsBack g xs p → LeadsBack g (drop n xs) p
  from_rest zero xs p leads = leads
  from_rest (suc n) [] p leads = tt
  from_rest (suc n) (x ∷ xs) p leads = from_rest n xs p leads.1
