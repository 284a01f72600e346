-- Trees with a rule of a set on top: a rule more, and all rules.
use Rattle.std.proofs.Common.{◌∙◌, sym, ◌≡◌, ℕ, ◌⊎◌, inl, inr, Bool, true, false, [], ◌∷◌, refl, ap, subst}
use Rattle.std.specs.Prelude.{Option, Some, None, slice_get, if◌then◌else◌}
use Rattle.rhythm_base.specs.Bodies.{children, ending_of}
use Rattle.rhythm_base.specs.Forest.{none, more}
use Rattle.rhythm_base.specs.Ranked.{Key, is_before}
use Rattle.rhythm_base.specs.Trees.{are_trees, children_of, leaf_of_ending, suits}
use Rattle.rhythm_base.specs.declared.rule.Ending.{Ending}
use Rattle.rhythm_base.specs.declared.rule.Rule.{Rule}
use Rattle.rhythm_base.specs.Grammar.{Grammar}
use Rattle.row_laws.specs.LeafRules.{EndsInterval}
use Rattle.tree_laws.specs.Forests.{Ground, IsForestKey}
use Rattle.path_laws.specs.Tables.{IsLeastKey}
use Rattle.rhythm_base.proofs.TotalOrders.{above, before_above}
use Rattle.path_laws.proofs.KeyOrders.{keys_total}
use Rattle.path_laws.proofs.LeastKeys.{IsLeast-same}
use Rattle.tree_laws.proofs.Ranks.{both}
use Rattle.row_laws.specs.BestRules.{IsKeyOfRules}
use Rattle.row_laws.specs.RuleKeys.{IsCutRule, IsRuleKey}
use Rattle.row_laws.proofs.Lower.{lower_of, on_top}
use Rattle.row_laws.proofs.RuleKeys.{cut-least}

-- the lower of the least of two sets is the least of both
lower-both : (S T : Key → Type 0) (o u : Option Key) → IsLeastKey S o → IsLeastKey T u → IsLeastKey (λ k. S k ⊎ T k) (lower_of o u)
lower-both S T None None h g = λ k b. elim b [
  | inl s ↦ h k s
  | inr t ↦ g k t
]
lower-both S T (Some x) None h g = (
  inl h.0,
  λ k b. elim b [
    | inl s ↦ h.1 k s
    | inr t ↦ absurd (g k t)
  ],
)
lower-both S T None (Some y) h g = (
  inr g.0,
  λ k b. elim b [
    | inl s ↦ absurd (h k s)
    | inr t ↦ g.1 k t
  ],
)
lower-both S T (Some x) (Some y) h g = go (is_before y x) refl
  where
    go : (t : Bool) → is_before y x ≡ t → IsLeastKey (λ k. S k ⊎ T k) (if t then Some y else Some x)
    go true e = (
      inr g.0,
      λ k b. elim b [
        | inl s ↦ above keys_total k x y (h.1 k s) (before_above keys_total y x e)
        | inr t ↦ g.1 k t
      ],
    )
    go false e = (
      inl h.0,
      λ k b. elim b [
        | inl s ↦ h.1 k s
        | inr t ↦ above keys_total k y x (g.1 k t) e
      ],
    )

module _ (d : Ground) (p : ℕ) (q : ℕ × ℕ) (a b : ℕ) (rules : ℕ → Type 0) where
  -- a rule of the set, or one that cuts
  pub rules-more : (r : ℕ) (rule : Rule) → IsCutRule d.book q r rule → (o u : Option Key) → IsLeastKey (IsKeyOfRules d p q rules a b) o → IsLeastKey (IsForestKey d None p (children rule.body q.0) a b) u
      → IsLeastKey (IsKeyOfRules d p q (λ s. rules s ⊎ (s ≡ r)) a b) (lower_of o (on_top rule.weight r u))
  rules-more r rule cut o u least below =
      IsLeast-same (λ k. IsKeyOfRules d p q rules a b k ⊎ IsRuleKey d None p q r a b k) (IsKeyOfRules d p q (λ s. rules s ⊎ (s ≡ r)) a b) (lower_of o (on_top rule.weight r u)) there back
      (lower-both (IsKeyOfRules d p q rules a b) (IsRuleKey d None p q r a b) o (on_top rule.weight r u) least
      (cut-least d None p q r a b rule cut.at cut.suit (ap (λ o. leaf_of_ending o p q.0) cut.cuts) u below))
    where
      there : (k : Key) → IsKeyOfRules d p q rules a b k ⊎ IsRuleKey d None p q r a b k → IsKeyOfRules d p q (λ s. rules s ⊎ (s ≡ r)) a b k
      there k (inl h) = (h.0, inl h.1, h.2)
      there k (inr h) = (r, inr refl, h)

      back : (k : Key) → IsKeyOfRules d p q (λ s. rules s ⊎ (s ≡ r)) a b k → IsKeyOfRules d p q rules a b k ⊎ IsRuleKey d None p q r a b k
      back k (s, inl h, key) = inl (s, h, key)
      back k (s, inr e, key) = inr (subst (λ t. IsRuleKey d None p q t a b k) e key)

  -- all rules that suit are of the set
  pub rules-all : ((r : ℕ) → suits (slice_get d.book.rules r) q ≡ true → rules r) → (o : Option Key) → IsLeastKey (IsKeyOfRules d p q rules a b) o → IsLeastKey (IsForestKey d None p (q ∷ []) a b) o
  rules-all whole o least = IsLeast-same (IsKeyOfRules d p q rules a b) (IsForestKey d None p (q ∷ []) a b) o (λ k x. (more x.0 x.2.0 none, x.2.1, x.2.2)) back least
    where
      back : (k : Key) → IsForestKey d None p (q ∷ []) a b k → IsKeyOfRules d p q rules a b k
      back k (none, stands, is) = let no : false ≡ true = stands.trees in absurd (cc)
      back k (more r f none, stands, is) = (r, whole r (both (suits (slice_get d.book.rules r) q) _ stands.trees).0, (f, stands, is))
      back k (more r f (more r' f' rest), stands, is) =
          let below = (both (suits (slice_get d.book.rules r) q) _ stands.trees).1 in
          let no : false ≡ true = (both (are_trees d.book.rules (children_of (slice_get d.book.rules r) q.0) f) _ below).1 in
          absurd (cc)

  -- sets of the same rules
  pub rules-same : (others : ℕ → Type 0) → ((r : ℕ) → rules r → others r) → ((r : ℕ) → others r → rules r) → (o : Option Key) → IsLeastKey (IsKeyOfRules d p q rules a b) o → IsLeastKey (IsKeyOfRules d p q others a b) o
  rules-same others there back o least =
      IsLeast-same (IsKeyOfRules d p q rules a b) (IsKeyOfRules d p q others a b) o (λ k h. (h.0, there h.0 h.1, h.2)) (λ k h. (h.0, back h.0 h.1, h.2)) least

-- a rule that cuts does not end its interval
pub cut-no_end : (g : Grammar) (q : ℕ × ℕ) (r : ℕ) (rule : Rule) → IsCutRule g q r rule → EndsInterval g r → ⊥
cut-no_end g q r rule cut (other, ending, at, ends) =
    let same : Some rule ≡ Some other = sym cut.at ∙ at in
    let no : ◌≡◌ {A = Option Ending} None (Some ending) = sym (ending_as (sym same)) ∙ ends in
    absurd (cc)
  where
    ending_as : Some other ≡ Some rule → ending_of other.body ≡ None
    ending_as e = let one : other ≡ rule = cc in ap (λ (r : Rule). ending_of r.body) one ∙ cut.cuts

-- a rule that suits ends its interval or cuts it
pub ends-or-cuts : (g : Grammar) (q : ℕ × ℕ) (r : ℕ) → suits (slice_get g.rules r) q ≡ true → EndsInterval g r ⊎ ((rule : Rule) × IsCutRule g q r rule)
ends-or-cuts g q r suit = go (slice_get g.rules r) refl
  where
    go : (o : Option Rule) → slice_get g.rules r ≡ o → EndsInterval g r ⊎ ((rule : Rule) × IsCutRule g q r rule)
    go None e = let no : false ≡ true = sym (ap (λ o. suits o q) e) ∙ suit in absurd (cc)
    go (Some rule) e = body (ending_of rule.body) refl
      where
        body : (o : Option Ending) → ending_of rule.body ≡ o → EndsInterval g r ⊎ ((rule : Rule) × IsCutRule g q r rule)
        body None c = inr (rule, record { at = e; suit = sym (ap (λ o. suits o q) e) ∙ suit; cuts = c })
        body (Some ending) c = inl (rule, ending, e, c)
