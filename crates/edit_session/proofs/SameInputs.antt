-- Two inputs are equal or not: their codes are.
use Rattle.std.proofs.Common.{◌≡◌, ◌⊎◌, ℕ, refl, ap, inl, inr}
use base.Stored.{Gv, gnil, gnum, gcons}
use Rattle.std.proofs.lemmas.Bool.{cases_eq}
use Rattle.rhythm_base.specs.BarInput.{BarInput}
use Rattle.rhythm_base.specs.BarInputCode.{bar_input_code}

number : Gv → ℕ
number gnil = 0
number (gnum n) = n
number (gcons a b) = 0

front : Gv → Gv
front gnil = gnil
front (gnum n) = gnil
front (gcons a b) = a

back : Gv → Gv
back gnil = gnil
back (gnum n) = gnil
back (gcons a b) = b

same_code : (x y : Gv) → (x ≡ y) ⊎ (x ≡ y → ⊥)
unfolding number front back
same_code gnil gnil = inl refl
same_code gnil (gnum n) = inr (λ e. absurd (cc))
same_code gnil (gcons a b) = inr (λ e. absurd (cc))
same_code (gnum m) gnil = inr (λ e. absurd (cc))
same_code (gnum m) (gnum n) = elim (cases_eq m n) [ inl e ↦ inl (ap gnum e) | inr not ↦ inr (λ e. not (ap number e)) ]
same_code (gnum m) (gcons a b) = inr (λ e. absurd (cc))
same_code (gcons a b) gnil = inr (λ e. absurd (cc))
same_code (gcons a b) (gnum n) = inr (λ e. absurd (cc))
same_code (gcons a b) (gcons c d) = elim (same_code a c) [
  | inr not ↦ inr (λ e. not (ap front e))
  | inl first ↦ elim (same_code b d) [ inr not ↦ inr (λ e. not (ap back e)) | inl second ↦ inl (λ i. gcons (first i) (second i)) ]
]

pub same_input_or_not : (k l : BarInput) → (k ≡ l) ⊎ (k ≡ l → ⊥)
same_input_or_not k l = elim (same_code (bar_input_code.code k) (bar_input_code.code l)) [
  | inl e ↦ inl (bar_input_code.inj k l e)
  | inr not ↦ inr (λ e. not (ap bar_input_code.code e))
]
