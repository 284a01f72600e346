-- The choices of a row by its leaf.
use Rattle.std.proofs.Common.{◌≡◌, ◌≢◌, ℕ, ◌+◌, ◌*◌, ◌<◌, ◌≤◌, ◌^◌, ◌==◌, Bool, true, false, List, [], ◌∷◌, refl, sym, ap, ◌∙◌, subst, arith}
use Rattle.std.specs.Prelude.{Option, Some, None, if◌then◌else◌}
use Rattle.std.proofs.lemmas.Bool.Decides.{nat_tests}
use Rattle.rhythm_base.specs.BarInput.{BarInput}
use Rattle.rhythm_base.specs.Grammar.{Grammar}
use Rattle.rhythm_base.specs.Ranked.{Key}
use Rattle.row_laws.specs.BestRules.{leaf_choice}
use Rattle.row_laws.specs.BestRules as best
use Rattle.row_laws.specs.Grounds.{IsReady, ground_of}
use Rattle.row_laws.specs.LeafRules.{EndsInterval, HasNoLeafRule, IsFirstLeafRule}
use Rattle.row_laws.specs.Leaves.{HasLeaf, IsCrowded}
use Rattle.row_laws.proofs.BestRules.{best-crowded, best-leaf}
use Rattle.row_laws.proofs.LeafKeys.{leaf_key}
use Rattle.grammar_plan.specs.declared.plan.Plan.{Plan}
use Rattle.least_rows.specs.Choices.{AreBestChoices, IsChoiceMade, choice_in, sum_of_choice}
use Rattle.least_rows.specs.declared.choice.Choice.{Choice}
use Rattle.least_rows.proofs.Choices.{best-to}

abbrev sum_if : ℕ → ℕ → ℕ → Bool → Option best.Choice
sum_if weight cost r t = if t then Some (weight + cost, r * 2 ^ 48) else None

abbrev key_if : ℕ → ℕ → ℕ → Bool → Option Key
key_if weight cost r t = if t then Some (weight + cost, r ∷ []) else None

module _ (g : Grammar) (k : BarInput) (plan : Plan) (ready : IsReady g k) (p w symbol a : ℕ) (wide : 1 ≤ w) (within : p + w ≤ k.resolution) (low : a < 5) (choices : List (Option Choice)) where
  none-made : (b : ℕ) (o : Option Choice) → None ≡ o → IsChoiceMade (ground_of g k) plan p (w, symbol) a b o None
  none-made b None e = tt
  none-made b (Some c) e = absurd (cc)

  pub crowded-choices : IsCrowded k p w → ((b : ℕ) → b < 5 → None ≡ choice_in choices b) → AreBestChoices (ground_of g k) plan p (w, symbol) a (EndsInterval g) choices
  crowded-choices many none = record {
    keys = λ b. None;
    best_of = best-to (ground_of g k) p (w, symbol) a (EndsInterval g) (λ b. None) (λ b. None) (λ b. sum_of_choice (choice_in choices b)) (λ b lb. ap sum_of_choice (none b lb)) (best-crowded g k ready p w symbol a wide within low many);
    made = λ b lb. none-made b (choice_in choices b) (none b lb);
  }

  pub no-leaf-choices : (own next cost : ℕ) (sounds : Bool) → HasLeaf g k p w own next sounds cost → HasNoLeafRule g symbol (a + own) sounds → ((b : ℕ) → b < 5 → None ≡ choice_in choices b)
      → AreBestChoices (ground_of g k) plan p (w, symbol) a (EndsInterval g) choices
  no-leaf-choices own next cost sounds here absent none = record {
    keys = leaf_key None next cost;
    best_of = best-to (ground_of g k) p (w, symbol) a (EndsInterval g) (leaf_key None next cost) (leaf_choice None next cost) (λ b. sum_of_choice (choice_in choices b)) (λ b lb. ap sum_of_choice (none b lb))
        (best-leaf g k ready p w symbol a wide within low own next cost sounds here None absent);
    made = λ b lb. none-made b (choice_in choices b) (none b lb);
  }

  pub one-leaf-choices : (own next cost : ℕ) (sounds : Bool) → HasLeaf g k p w own next sounds cost → (r weight : ℕ) → IsFirstLeafRule g symbol (a + own) sounds r weight
      → choice_in choices next ≡ Some (record { cost = weight + cost; order = r * 2 ^ 48; cut = None; way = 0 }) → ((b : ℕ) → b < 5 → b ≢ next → choice_in choices b ≡ None)
      → AreBestChoices (ground_of g k) plan p (w, symbol) a (EndsInterval g) choices
  one-leaf-choices own next cost sounds here r weight first there others = record {
    keys = leaf_key (Some (r, weight)) next cost;
    best_of = best-to (ground_of g k) p (w, symbol) a (EndsInterval g) (leaf_key (Some (r, weight)) next cost) (leaf_choice (Some (r, weight)) next cost) (λ b. sum_of_choice (choice_in choices b))
        (λ b lb. sums b lb (next == b) refl)
        (best-leaf g k ready p w symbol a wide within low own next cost sounds here (Some (r, weight)) first);
    made = λ b lb. made b lb (next == b) refl;
  }
    where
      at-next : (b : ℕ) → (next == b) ≡ true → choice_in choices b ≡ Some (record { cost = weight + cost; order = r * 2 ^ 48; cut = None; way = 0 })
      at-next b e = let is : next ≡ b = grind (arith, nat_tests) in subst (λ b. choice_in choices b ≡ Some (record { cost = weight + cost; order = r * 2 ^ 48; cut = None; way = 0 })) is there

      elsewhere : (b : ℕ) → b < 5 → (next == b) ≡ false → choice_in choices b ≡ None
      elsewhere b lb e = let other : b ≢ next = λ s. grind (arith, nat_tests) in others b lb other

      sums : (b : ℕ) → b < 5 → (t : Bool) → (next == b) ≡ t → leaf_choice (Some (r, weight)) next cost b ≡ sum_of_choice (choice_in choices b)
      sums b lb true e = ap (sum_if weight cost r) e ∙ sym (ap sum_of_choice (at-next b e))
      sums b lb false e = ap (sum_if weight cost r) e ∙ sym (ap sum_of_choice (elsewhere b lb e))

      made : (b : ℕ) → b < 5 → (t : Bool) → (next == b) ≡ t → IsChoiceMade (ground_of g k) plan p (w, symbol) a b (choice_in choices b) (leaf_key (Some (r, weight)) next cost b)
      made b lb true e =
          subst (λ o. IsChoiceMade (ground_of g k) plan p (w, symbol) a b o (leaf_key (Some (r, weight)) next cost b)) (sym (at-next b e))
          (subst (λ t. IsChoiceMade (ground_of g k) plan p (w, symbol) a b (Some (record { cost = weight + cost; order = r * 2 ^ 48; cut = None; way = 0 })) (key_if weight cost r t)) (sym e)
          (r, 0, omega arith, omega arith, refl))
      made b lb false e = subst (λ o. IsChoiceMade (ground_of g k) plan p (w, symbol) a b o (leaf_key (Some (r, weight)) next cost b)) (sym (elsewhere b lb e)) tt
