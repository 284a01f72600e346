-- What holds or does not hold: a lower number, what is not, what follows from something else, all of several, and all of a list.
use Rattle.std.proofs.Common.{◌<◌, ℕ, inl, inr, List, [], ◌∷◌, arith}
use Rattle.std.specs.Prelude.{All}
use Rattle.std.proofs.lemmas.Bool.{cases_lt}
use Rattle.std.proofs.lemmas.List.Elements.{All-nil}
use Rattle.answer_laws.proofs.Decisions.{Decided, decided_both, decided_like}
use Rattle.rhythm_base.proofs.OrderedLists.{all_cons, all_head, all_tail}

pub decided_less : (m n : ℕ) → Decided (m < n)
decided_less m n = elim (cases_lt m n) [ inl less ↦ inl less | inr most ↦ inr (λ less. omega (arith, less, most)) ]

pub decided_not : {P : Type 0} → Decided P → Decided (P → ⊥)
decided_not (inl p) = inr (λ never. never p)
decided_not (inr never) = inl never

pub decided_three : {P Q R : Type 0} → Decided P → Decided Q → Decided R → Decided (P × Q × R)
decided_three p q r = decided_like (λ h. (h.0, h.1.0, h.1.1)) (λ h. (h.0, (h.1, h.2))) (decided_both p (decided_both q r))

pub decided_four : {P Q R S : Type 0} → Decided P → Decided Q → Decided R → Decided S → Decided (P × Q × R × S)
decided_four p q r s = decided_like (λ h. (h.0, h.1.0, h.1.1, h.1.2)) (λ h. (h.0, (h.1, h.2, h.3))) (decided_both p (decided_three q r s))

pub decided_if : {P Q : Type 0} → Decided P → Decided Q → Decided (P → Q)
decided_if p (inl q) = inl (λ _. q)
decided_if (inl p) (inr never) = inr (λ f. never (f p))
decided_if (inr not) (inr never) = inl (λ p. absurd (not p))

pub decided_every : {X : Type 0} (P : X → Type 0) → ((x : X) → Decided (P x)) → (xs : List X) → Decided (All P xs)
decided_every P each [] = inl (All-nil P)
decided_every P each (x ∷ xs) = go (each x) (decided_every P each xs)
  where
    go : Decided (P x) → Decided (All P xs) → Decided (All P (x ∷ xs))
    go (inl own) (inl others) = inl (all_cons P x xs own others)
    go (inl own) (inr never) = inr (λ all. never (all_tail P x xs all))
    go (inr never) others = inr (λ all. never (all_head P x xs all))
