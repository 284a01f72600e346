-- The leaves of a tree stand side by side in its bar.
use Rattle.std.proofs.Common.{inl, inr, ◌≡◌, ℕ, zero, suc, ◌+◌, ◌*◌, ◌/◌, ◌%◌, ◌≤◌, ◌==◌, nat_lt, max, true, List, [], ◌∷◌, ◌++◌, map, length, refl, sym, ap, ◌∙◌, subst, arith, append_assoc}
use Rattle.std.specs.Prelude.{Option, Some, None, slice_get}
use Rattle.std.specs.List.{list_all}
use Rattle.std.proofs.Math.Nat.{mul-le-mul_right}
use Rattle.std.proofs.lemmas.Bool.Decides.{nat_tests}
use Rattle.rhythm_base.specs.Forest.{Forest, none, more}
use Rattle.rhythm_base.specs.Bodies.{cuts_or_ends, Cut, cut_of, divides, ending_of, equal, parts_of_cut, unequal, sizes, children, can_cut}
use Rattle.rhythm_base.proofs.Booleans.{and_left, and_right}
use Rattle.rhythm_base.specs.Trees.{BarLeaf, children_of, suits, are_trees, leaf_of, leaves_at, leaves, leaf_of_ending}
use Rattle.rhythm_base.specs.declared.rule.Body.{Body}
use Rattle.rhythm_base.specs.declared.rule.Ending.{Ending}
use Rattle.rhythm_base.specs.declared.rule.Rule.{Rule}
pub use Rattle.tree_laws.specs.Forests.{AreWide}

-- parts of positive width side by side from p to q
abbrev pub SideBySide : ℕ → List BarLeaf → ℕ → Type 0
SideBySide p [] q = p ≡ q
SideBySide p (x ∷ xs) q = (x.place ≡ p) × (1 ≤ x.width) × SideBySide (p + x.width) xs q

pub SideBySide-append : (p m q : ℕ) (xs ys : List BarLeaf) → SideBySide p xs m → SideBySide m ys q → SideBySide p (xs ++ ys) q
SideBySide-append p m q [] ys h k = subst (λ p. SideBySide p ys q) (sym h) k
SideBySide-append p m q (x ∷ xs) ys h k = (h.0, h.1, SideBySide-append (p + x.width) m q xs ys h.2 k)

-- ---- the children of a node fill it

pub equal_sizes : (v : ℕ) (ks : List ℕ) → sizes (map (λ s. (v, s)) ks) ≡ length ks * v
equal_sizes v [] = omega arith
equal_sizes v (k ∷ ks) = let ih = equal_sizes v ks in ap (λ n. v + n) ih ∙ grind arith

equal_wide : (v : ℕ) (ks : List ℕ) → 1 ≤ v → AreWide (map (λ s. (v, s)) ks)
equal_wide v [] h = _
equal_wide v (k ∷ ks) h = (h, equal_wide v ks h)

pub unequal_sizes : (v : ℕ) (ps : List (ℕ × ℕ)) → sizes (map (λ q. (q.0 * v, q.1)) ps) ≡ sizes ps * v
unequal_sizes v [] = omega arith
unequal_sizes v (p ∷ ps) = let ih = unequal_sizes v ps in ap (λ n. p.0 * v + n) ih ∙ grind arith

pub times_wide : (a v : ℕ) → 1 ≤ a → 1 ≤ v → 1 ≤ a * v
times_wide a v h k = let more : 1 * v ≤ a * v = mul-le-mul_right v h in omega arith

unequal_wide : (v : ℕ) (ps : List (ℕ × ℕ)) → 1 ≤ v → list_all (λ q. nat_lt 0 q.0) ps ≡ true → AreWide (map (λ q. (q.0 * v, q.1)) ps)
unequal_wide v [] h k = _
unequal_wide v (p ∷ ps) h k =
    let own = and_left (nat_lt 0 p.0) _ k in
    let low : 1 ≤ p.0 = grind (arith, nat_tests) in (times_wide p.0 v low h, unequal_wide v ps h (and_right (nat_lt 0 p.0) _ k))

-- the shares of a width, where their number divides it
pub whole_share : (w n : ℕ) → 1 ≤ w → 1 ≤ n → w % max 1 n == 0 ≡ true → (n * (w / max 1 n) ≡ w) × (1 ≤ w / max 1 n)
whole_share w n low many e =
    let long : max 1 n ≡ n = omega arith in
    let divides : w % max 1 n ≡ 0 = grind (arith, nat_tests) in
    let divides' : w % n ≡ 0 = rw long at divides in
    let whole : n * (w / n) ≡ w = omega arith in
    rw long (whole, positive (w / n) whole)
  where
    positive : (v : ℕ) → n * v ≡ w → 1 ≤ v
    positive zero e = let nothing : n * 0 ≡ 0 = grind arith in absurd (omega arith)
    positive (suc v) e = omega arith

-- the sum of positive parts is positive
pub some_size : (ps : List (ℕ × ℕ)) → 1 ≤ length ps → list_all (λ q. nat_lt 0 q.0) ps ≡ true → 1 ≤ sizes ps
some_size [] h k = absurd (omega arith)
some_size (p ∷ ps) h k =
    let own = and_left (nat_lt 0 p.0) _ k in
    let low : 1 ≤ p.0 = grind (arith, nat_tests) in omega arith

-- ---- the leaves of trees

leaves_nothing : (rules : List Rule) (p : ℕ) (f : Forest) → leaves rules p [] f ≡ []
leaves_nothing rules p none = refl
leaves_nothing rules p (more r k rest) = refl

-- the trees below a node, or the node itself where it is a leaf, fill it
fill : (rules : List Rule) (b : Body) (p w : ℕ) (k : Forest) → 1 ≤ w → can_cut b w ≡ true
    → ((qs : List (ℕ × ℕ)) → AreWide qs → are_trees rules qs k ≡ true → SideBySide p (leaves rules p qs k) (p + sizes qs))
    → are_trees rules (children b w) k ≡ true → SideBySide p (leaf_of b p w ++ leaves rules p (children b w) k) (p + w)
fill rules b p w k low cuts below h = elim (cuts_or_ends b) [
  | inl t ↦ seen (Some t.0) (cut_of b) None (ending_of b) t.1 t.2 (cut_fill t.0 (subst (λ c. divides c w ≡ true) t.1 cuts) (subst (λ c. are_trees rules (parts_of_cut c w) k ≡ true) t.1 h))
  | inr t ↦ seen None (cut_of b) (Some t.0) (ending_of b) t.1 t.2 (refl, low, subst (λ l. SideBySide (p + w) l (p + w)) (sym (leaves_nothing rules p k)) refl)
]
  where
    seen : (c d : Option Cut) (e o : Option Ending) → d ≡ c → o ≡ e → SideBySide p (leaf_of_ending e p w ++ leaves rules p (parts_of_cut c w) k) (p + w)
        → SideBySide p (leaf_of_ending o p w ++ leaves rules p (parts_of_cut d w) k) (p + w)
    seen c d e o s t f =
        let P : Option Cut → Type 0 = λ c. SideBySide p (leaf_of_ending o p w ++ leaves rules p (parts_of_cut c w) k) (p + w) in
        let Q : Option Ending → Type 0 = λ e. SideBySide p (leaf_of_ending e p w ++ leaves rules p (parts_of_cut c w) k) (p + w) in
        subst P (sym s) (subst Q (sym t) f)

    cut_fill : (c : Cut) → divides (Some c) w ≡ true → are_trees rules (parts_of_cut (Some c) w) k ≡ true
        → SideBySide p (leaves rules p (parts_of_cut (Some c) w) k) (p + w)
    cut_fill (equal ks) cuts h =
        let count = and_left (nat_lt 1 (length ks)) _ cuts in
        let many : 1 ≤ length ks = grind (arith, nat_tests) in
        let share = whole_share w (length ks) low many (and_right (nat_lt 1 (length ks)) _ cuts) in
        let filled = below (parts_of_cut (Some (equal ks)) w) (equal_wide (w / max 1 (length ks)) ks share.1) h in
        subst (λ n. SideBySide p (leaves rules p (parts_of_cut (Some (equal ks)) w) k) (p + n)) (equal_sizes (w / max 1 (length ks)) ks ∙ share.0) filled
    cut_fill (unequal ps) cuts h =
        let rest = and_right (nat_lt 1 (length ps)) _ cuts in
        let count = and_left (nat_lt 1 (length ps)) _ cuts in
        let many : 1 ≤ length ps = grind (arith, nat_tests) in
        let some = some_size ps many (and_left (list_all (λ q. nat_lt 0 q.0) ps) _ rest) in
        let share = whole_share w (sizes ps) low some (and_right (list_all (λ q. nat_lt 0 q.0) ps) _ rest) in
        let filled = below (parts_of_cut (Some (unequal ps)) w) (unequal_wide (w / max 1 (sizes ps)) ps share.1 (and_left (list_all (λ q. nat_lt 0 q.0) ps) _ rest)) h in
        subst (λ n. SideBySide p (leaves rules p (parts_of_cut (Some (unequal ps)) w) k) (p + n)) (unequal_sizes (w / max 1 (sizes ps)) ps ∙ share.0) filled

fill_rule : (rules : List Rule) (o : Option Rule) (p : ℕ) (q : ℕ × ℕ) (k : Forest) → 1 ≤ q.0 → suits o q ≡ true
    → ((qs : List (ℕ × ℕ)) → AreWide qs → are_trees rules qs k ≡ true → SideBySide p (leaves rules p qs k) (p + sizes qs))
    → are_trees rules (children_of o q.0) k ≡ true → SideBySide p (leaves_at o p q.0 ++ leaves rules p (children_of o q.0) k) (p + q.0)
fill_rule rules None p q k low suit below h = absurd (cc)
fill_rule rules (Some rule) p q k low suit below h = fill rules rule.body p q.0 k low (and_right (rule.lhs == q.1) _ suit) below h

-- the leaves of one tree: itself, or those of its children
abbrev pub leaves_under : List Rule → Option Rule → ℕ → ℕ × ℕ → Forest → List BarLeaf
leaves_under rules o p q k = leaves_at o p q.0 ++ leaves rules p (children_of o q.0) k

-- the leaves of trees fill their widths
pub leaves-fill : (rules : List Rule) (f : Forest) (p : ℕ) (qs : List (ℕ × ℕ)) → AreWide qs → are_trees rules qs f ≡ true → SideBySide p (leaves rules p qs f) (p + sizes qs)
leaves-fill rules none p [] wide h = omega arith
leaves-fill rules none p (q ∷ qs) wide h = absurd (cc)
leaves-fill rules (more r k rest) p [] wide h = absurd (cc)
leaves-fill rules (more r k rest) p (q ∷ qs) wide h =
    let o : Option Rule = slice_get rules r in
    let below = and_right (suits o q) _ h in
    let own = fill_rule rules o p q k wide.0 (and_left (suits o q) _ h) (λ qs. leaves-fill rules k p qs) (and_left (are_trees rules (children_of o q.0) k) _ below) in
    let others = leaves-fill rules rest (p + q.0) qs wide.1 (and_right (are_trees rules (children_of o q.0) k) _ below) in
    let end : p + q.0 + sizes qs ≡ p + (q.0 + sizes qs) = omega arith in
    subst (λ n. SideBySide p (leaves rules p (q ∷ qs) (more r k rest)) n) end
    (subst (λ l. SideBySide p l (p + q.0 + sizes qs)) (append_assoc (leaves_at o p q.0) (leaves rules p (children_of o q.0) k) (leaves rules (p + q.0) qs rest))
    (SideBySide-append p (p + q.0) (p + q.0 + sizes qs) (leaves_at o p q.0 ++ leaves rules p (children_of o q.0) k) (leaves rules (p + q.0) qs rest) own others))

pub tree-fill : (rules : List Rule) (o : Option Rule) (p : ℕ) (q : ℕ × ℕ) (k : Forest) → 1 ≤ q.0 → suits o q ≡ true → are_trees rules (children_of o q.0) k ≡ true → SideBySide p (leaves_under rules o p q k) (p + q.0)
tree-fill rules o p q k low suit h = fill_rule rules o p q k low suit (λ qs. leaves-fill rules k p qs) h
