-- Rule lists parse in one way: trees whose lists begin alike, whatever stands after, are the same, over any widths and of any symbols.
use Rattle.std.proofs.Common.{◌≡◌, ℕ, true, List, [], ◌∷◌, ◌++◌, length, refl, sym, ap, ◌∙◌, subst, append_assoc, append-nil}
use Rattle.std.specs.Prelude.{slice_get}
use Rattle.rhythm_base.specs.declared.rule.Rule.{Rule}
use Rattle.rhythm_base.specs.Forest.{Forest, none, more, Tree, preorder, preorder_of}
use Rattle.rhythm_base.specs.Trees.{are_trees, children_of, suits}
use Rattle.rhythm_base.proofs.RuleTrees.{children-same}
use Rattle.tree_laws.proofs.Ranks.{both}

-- as many trees on both sides
pub one_forest : (rules : List Rule) (qs ps : List (ℕ × ℕ)) (f g : Forest) (xs ys : List ℕ) → length qs ≡ length ps → are_trees rules qs f ≡ true → are_trees rules ps g ≡ true
    → preorder f ++ xs ≡ preorder g ++ ys → (f ≡ g) × (xs ≡ ys)
one_forest rules [] [] none none xs ys n p q e = (refl, e)
one_forest rules [] (c ∷ cs) f g xs ys n p q e = absurd (cc)
one_forest rules (c ∷ cs) [] f g xs ys n p q e = absurd (cc)
one_forest rules [] [] none (more r k s) xs ys n p q e = absurd (cc)
one_forest rules [] [] (more r k s) g xs ys n p q e = absurd (cc)
one_forest rules (c ∷ cs) (d ∷ ds) none g xs ys n p q e = absurd (cc)
one_forest rules (c ∷ cs) (d ∷ ds) (more r k s) none xs ys n p q e = absurd (cc)
one_forest rules (c ∷ cs) (d ∷ ds) (more r k s) (more r' k' s') xs ys n p q e =
    let p' = both (suits (slice_get rules r) c) _ p in
    let p'' = both (are_trees rules (children_of (slice_get rules r) c.0) k) _ p'.1 in
    let q' = both (suits (slice_get rules r') d) _ q in
    let q'' = both (are_trees rules (children_of (slice_get rules r') d.0) k') _ q'.1 in
    let head : r ≡ r' = cc in
    let tail : (preorder k ++ preorder s) ++ xs ≡ (preorder k' ++ preorder s') ++ ys = cc in
    let others : length cs ≡ length ds = cc in
    let kids = one_forest rules (children_of (slice_get rules r) c.0) (children_of (slice_get rules r) d.0) k k' (preorder s ++ xs) (preorder s' ++ ys)
    (children-same (slice_get rules r) c.0 d.0) p''.0
    (subst (λ n. are_trees rules (children_of (slice_get rules n) d.0) k' ≡ true) (sym head) q''.0)
    (sym (append_assoc (preorder k) (preorder s) xs) ∙ tail ∙ append_assoc (preorder k') (preorder s') ys) in
    let rest = one_forest rules cs ds s s' xs ys others p''.1 q''.1 kids.1 in
    ((λ i. more (head i) (kids.0 i) (rest.0 i)), rest.1)

pub one_parse : (rules : List Rule) (qs : List (ℕ × ℕ)) (f g : Forest) (xs ys : List ℕ) → are_trees rules qs f ≡ true → are_trees rules qs g ≡ true
    → preorder f ++ xs ≡ preorder g ++ ys → (f ≡ g) × (xs ≡ ys)
one_parse rules qs f g xs ys p q e = one_forest rules qs qs f g xs ys refl p q e

-- no list is a proper beginning of another
pub no_prefix : (rules : List Rule) (q p : ℕ × ℕ) (t u : Tree) (zs : List ℕ) → are_trees rules (q ∷ []) (more t.rule t.kids none) ≡ true
    → are_trees rules (p ∷ []) (more u.rule u.kids none) ≡ true → preorder_of t ++ zs ≡ preorder_of u → (t ≡ u) × (zs ≡ [])
no_prefix rules q p t u zs h k e =
    let lists : preorder (more t.rule t.kids none) ++ zs ≡ preorder (more u.rule u.kids none) ++ [] =
    ap (λ l. l ++ zs) (append-nil (preorder_of t)) ∙ e ∙ sym (append-nil (preorder_of u)) ∙ sym (append-nil (preorder_of u ++ [])) in
    let one = one_forest rules (q ∷ []) (p ∷ []) (more t.rule t.kids none) (more u.rule u.kids none) zs [] refl h k lists in
    (same t u one.0, one.1)
  where
    same : (t u : Tree) → more t.rule t.kids none ≡ more u.rule u.kids none → t ≡ u
    same t u e =
        let rules_same : t.rule ≡ u.rule = cc in
        let kids_same : t.kids ≡ u.kids = cc in
        λ i. record { rule = rules_same i; kids = kids_same i }
