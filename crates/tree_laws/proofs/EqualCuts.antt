-- In a grammar of version 1 every cut is equal.
use Rattle.std.proofs.Common.{◌≡◌, ℕ, ◌+◌, Bool, true, false, ◌&&◌, List, [], ◌∷◌, ◌++◌, Option, Some, None, refl, sym, ap, ap₂, ◌∙◌, subst, length, slice_get, arith, ◌==◌}
use Rattle.rhythm_base.specs.declared.rule.Ending.{Ending}
use Rattle.rhythm_base.specs.declared.rule.Rule.{Rule}
use Rattle.rhythm_base.specs.Bodies.{Cut, can_cut, cut_of, divides, ending_of, equal, parts_of_cut, unequal}
use Rattle.rhythm_base.specs.Forest.{Forest, none, more}
use Rattle.rhythm_base.specs.Grammar.{Grammar}
use Rattle.rhythm_base.specs.Readable.{IsBody, IsBodyOf, IsReadable}
use Rattle.rhythm_base.specs.Trees.{are_trees, children_of, leaves, leaves_at, suits}
use Rattle.tree_laws.proofs.ShapesOfTrees.{body-of}
use Rattle.tree_laws.specs.VersionOne.{are_equal_trees, equal_children, equal_leaves, equal_parts, is_equal_cut, suits_equally}

parts_same : (version names w : ℕ) (c : Option Cut) (e : Option Ending) → version ≡ 1 → IsBodyOf version names c e → parts_of_cut c w ≡ equal_parts c w
parts_same version names w None e one h = refl
parts_same version names w (Some (equal symbols)) e one h = refl
parts_same version names w (Some (unequal parts)) e one h = absurd (omega (arith, one, h.0))

cuts_same : (version names w : ℕ) (c : Option Cut) (e : Option Ending) → version ≡ 1 → IsBodyOf version names c e → divides c w ≡ is_equal_cut c w
cuts_same version names w None e one h = refl
cuts_same version names w (Some (equal symbols)) e one h = refl
cuts_same version names w (Some (unequal parts)) e one h = absurd (omega (arith, one, h.0))

module _ (g : Grammar) (readable : IsReadable g) (one : g.version ≡ 1) where
  children_same : (r w : ℕ) → children_of (slice_get g.rules r) w ≡ equal_children (slice_get g.rules r) w
  children_same r w = go (slice_get g.rules r) refl
    where
      go : (o : Option Rule) → slice_get g.rules r ≡ o → children_of o w ≡ equal_children o w
      go None e = refl
      go (Some rule) e = parts_same g.version (length g.names) w (cut_of rule.body) (ending_of rule.body) one (body-of g readable r rule e)

  suits_same : (r : ℕ) (q : ℕ × ℕ) → suits (slice_get g.rules r) q ≡ suits_equally (slice_get g.rules r) q
  suits_same r q = go (slice_get g.rules r) refl
    where
      go : (o : Option Rule) → slice_get g.rules r ≡ o → suits o q ≡ suits_equally o q
      go None e = refl
      go (Some rule) e =
          ap (λ b. (rule.lhs == q.1) && b) (cuts_same g.version (length g.names) q.0 (cut_of rule.body) (ending_of rule.body) one (body-of g readable r rule e))

  pub equal_trees : (qs : List (ℕ × ℕ)) (f : Forest) → are_trees g.rules qs f ≡ are_equal_trees g.rules qs f
  equal_trees [] none = refl
  equal_trees [] (more r k rest) = refl
  equal_trees (q ∷ qs) none = refl
  equal_trees (q ∷ qs) (more r k rest) =
      ap₂ ◌&&◌ (suits_same r q)
      (ap₂ ◌&&◌ (ap (λ cs. are_trees g.rules cs k) (children_same r q.0) ∙ equal_trees (equal_children (slice_get g.rules r) q.0) k) (equal_trees qs rest))

  pub leaves_equal : (p : ℕ) (qs : List (ℕ × ℕ)) (f : Forest) → leaves g.rules p qs f ≡ equal_leaves g.rules p qs f
  leaves_equal p qs none = refl
  leaves_equal p [] (more r k rest) = refl
  leaves_equal p (q ∷ qs) (more r k rest) =
      ap (λ ls. leaves_at (slice_get g.rules r) p q.0 ++ ls)
      (ap₂ ◌++◌ (ap (λ cs. leaves g.rules p cs k) (children_same r q.0) ∙ leaves_equal p (equal_children (slice_get g.rules r) q.0) k) (leaves_equal (p + q.0) qs rest))
