-- What is kept of steps, and what is let go.
use Rattle.std.proofs.Common.{◌≡◌, ◌≤◌, ◌<◌, ℕ, ◌+◌, ◌-◌, List, [], ◌∷◌, length, refl, sym, arith, nat_le, Bool, true, false, suc, rules, drop, ap, length-drop, ◌∙◌}
use Rattle.std.proofs.lemmas.List.{drop-drop}
use Rattle.circular_buffer.specs.Buffer.{keep_last}
use Rattle.edit_session.specs.Prepared.{Prepared}
use Rattle.session_history.specs.Steps.{kept_of, tables_of}
use Rattle.session_history.specs.declared.steps.TheConstants.{MOST_STEPS, MOST_KEPT_CELLS}

-- within both bounds all is kept
pub kept_all : (steps : List Prepared) → length steps ≤ MOST_STEPS → tables_of steps ≤ MOST_KEPT_CELLS → kept_of steps ≡ steps
kept_all [] few small = refl
kept_all (x ∷ more) few small = grind (arith, rules)

-- of steps that have too many tables the first is not kept
pub kept_cut : (steps : List Prepared) → MOST_KEPT_CELLS < tables_of steps → kept_of steps ≡ kept_of (drop 1 steps)
kept_cut [] many = grind (arith)
kept_cut (x ∷ more) many = grind (arith, rules)

-- nor is it of too many steps
pub kept_shifted : (steps : List Prepared) → MOST_STEPS < length steps → kept_of steps ≡ kept_of (drop 1 steps)
kept_shifted [] many = grind (arith)
kept_shifted (x ∷ more) many = grind (arith, rules)

-- the first step is let go
pub record IsCutOn (whole steps : List Prepared) : Type 0 where
  pub rest : (n : ℕ) × (steps ≡ drop n whole)
  pub few : length steps ≤ MOST_STEPS
  pub kept : kept_of steps ≡ kept_of whole

pub cut_on : (whole steps : List Prepared) → IsCutOn whole steps → MOST_KEPT_CELLS < tables_of steps → IsCutOn whole (drop 1 steps)
cut_on whole steps h many = record {
  rest = (h.rest.0 + 1, ap (drop 1) h.rest.1 ∙ drop-drop 1 h.rest.0 whole);
  few = omega (arith, length-drop 1 steps, h.few);
  kept = sym (kept_cut steps many) ∙ h.kept;
}

-- of too many steps the last ones are kept
pub kept_last : (steps : List Prepared) → kept_of (keep_last MOST_STEPS steps) ≡ kept_of steps
kept_last [] = refl
kept_last (x ∷ more) = go (nat_le (length (x ∷ more)) MOST_STEPS) refl (kept_last more)
  where
    go : (b : Bool) → nat_le (length (x ∷ more)) MOST_STEPS ≡ b → kept_of (keep_last MOST_STEPS more) ≡ kept_of more → kept_of (keep_last MOST_STEPS (x ∷ more)) ≡ kept_of (x ∷ more)
    go true few others = let none : length (x ∷ more) - MOST_STEPS ≡ 0 = grind (arith, rules) in ap (λ n. kept_of (drop n (x ∷ more))) none
    go false many others =
        let one : length (x ∷ more) - MOST_STEPS ≡ suc (length more - MOST_STEPS) = grind (arith, rules) in
        let above : MOST_STEPS < length (x ∷ more) = grind (arith, rules) in
        ap (λ n. kept_of (drop n (x ∷ more))) one ∙ others ∙ sym (kept_shifted (x ∷ more) above)
