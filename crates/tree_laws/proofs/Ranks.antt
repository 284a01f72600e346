-- Ranks: their order, and how they add up.
use Rattle.std.proofs.Common.{◌≡◌, ◌≢◌, ℕ, ◌+◌, ◌<◌, ◌⊎◌, inl, inr, Bool, true, false, ◌&&◌, List, [], ◌∷◌, ◌++◌, refl, sym, subst, arith, append_assoc}
use Rattle.std.specs.Prelude.{slice_get}
use Rattle.std.specs.Ordering.{nat_cmp, ordering_then}
use Rattle.std.specs.Cmp.{IsTotalOrder, ranked, nat_cmp_is, then_total, on_total, nat_cmp_total}
use Rattle.std.specs.Cmp.Lexicographic.{slice_cmp, nat_list_cmp_total}
use Rattle.std.specs.declared.cmp.Ordering.{Ordering}
use Rattle.std.specs.declared.cmp.Ordering.TheVariants.{Less, Equal, Greater}
use Rattle.rhythm_base.specs.declared.rule.Rule.{Rule}
use Rattle.rhythm_base.specs.Forest.{Forest, none, more, preorder}
use Rattle.rhythm_base.specs.Least.{Rank, rank_cmp}
use Rattle.rhythm_base.specs.Trees.{are_trees, children_of, suits}
use Rattle.path_laws.proofs.KeyOrders.{then_assoc}

pub ranks_total : IsTotalOrder rank_cmp
ranks_total = then_total (on_total (λ (p : Rank). p.0) nat_cmp_total) (on_total (λ (p : Rank). p.1) nat_list_cmp_total)

-- the greater number decides, and else what comes next
pub not_less-means : (a c : ℕ) (o : Ordering) → ordering_then (nat_cmp a c) o ≢ Less → (c < a) ⊎ ((a ≡ c) × (o ≢ Less))
not_less-means a c o h = go (nat_cmp a c) refl h
  where
    go : (r : Ordering) → r ≡ nat_cmp a c → ordering_then r o ≢ Less → (c < a) ⊎ ((a ≡ c) × (o ≢ Less))
    go Less e f = absurd (f refl)
    go Equal e f = inr (ranked a c Equal e, f)
    go Greater e f = inl (ranked a c Greater e)

pub not_less-above : (a c : ℕ) (o : Ordering) → c < a → ordering_then (nat_cmp a c) o ≢ Less
not_less-above a c o h = λ e. absurd (differ (subst (λ r. ordering_then r o ≡ Less) (sym (nat_cmp_is a c Greater h)) e))
  where
    differ : ordering_then Greater o ≡ Less → ⊥
    differ e = cc

pub not_less-same : (a c : ℕ) (o : Ordering) → a ≡ c → o ≢ Less → ordering_then (nat_cmp a c) o ≢ Less
not_less-same a c o h f = λ e. f (subst (λ r. ordering_then r o ≡ Less) (sym (nat_cmp_is a c Equal h)) e)

pub then_not_less : (o u : Ordering) → o ≢ Less → u ≢ Less → ordering_then o u ≢ Less
then_not_less Less u f g = absurd (f refl)
then_not_less Equal u f g = g
then_not_less Greater u f g = λ e. cc

-- neither part is lower, so the whole is not
pub sums_not_less : (a b c d : ℕ) (o u : Ordering) → ordering_then (nat_cmp a c) o ≢ Less → ordering_then (nat_cmp b d) u ≢ Less
    → ordering_then (nat_cmp (a + b) (c + d)) (ordering_then o u) ≢ Less
sums_not_less a b c d o u f g = go (not_less-means a c o f) (not_less-means b d u g)
  where
    go : (c < a) ⊎ ((a ≡ c) × (o ≢ Less)) → (d < b) ⊎ ((b ≡ d) × (u ≢ Less)) → ordering_then (nat_cmp (a + b) (c + d)) (ordering_then o u) ≢ Less
    go (inl h) (inl k) = not_less-above (a + b) (c + d) (ordering_then o u) (omega arith)
    go (inl h) (inr k) = not_less-above (a + b) (c + d) (ordering_then o u) (omega (arith, k.0))
    go (inr h) (inl k) = not_less-above (a + b) (c + d) (ordering_then o u) (omega (arith, h.0))
    go (inr h) (inr k) = not_less-same (a + b) (c + d) (ordering_then o u) (omega (arith, h.0, k.0)) (then_not_less o u h.1 k.1)

pub both : (a b : Bool) → a && b ≡ true → (a ≡ true) × (b ≡ true)
both true b h = (refl, h)
both false b h = absurd (cc)

-- lists that begin with a number, by what is known of the parts where the numbers are the same
same_heads : (r r' : ℕ) (k k' s s' xs ys : List ℕ)
    → (r ≡ r' → (xs' ys' : List ℕ) → slice_cmp nat_cmp (k ++ xs') (k' ++ ys') ≡ ordering_then (slice_cmp nat_cmp k k') (slice_cmp nat_cmp xs' ys'))
    → slice_cmp nat_cmp (s ++ xs) (s' ++ ys) ≡ ordering_then (slice_cmp nat_cmp s s') (slice_cmp nat_cmp xs ys)
    → ordering_then (nat_cmp r r') (slice_cmp nat_cmp ((k ++ s) ++ xs) ((k' ++ s') ++ ys))
    ≡ ordering_then (ordering_then (nat_cmp r r') (slice_cmp nat_cmp (k ++ s) (k' ++ s'))) (slice_cmp nat_cmp xs ys)
same_heads r r' k k' s s' xs ys kids rest = go (nat_cmp r r') refl
  where
    go : (o : Ordering) → o ≡ nat_cmp r r' → ordering_then o (slice_cmp nat_cmp ((k ++ s) ++ xs) ((k' ++ s') ++ ys))
        ≡ ordering_then (ordering_then o (slice_cmp nat_cmp (k ++ s) (k' ++ s'))) (slice_cmp nat_cmp xs ys)
    go Less e = refl
    go Greater e = refl
    go Equal e =
        let at = kids (ranked r r' Equal e) in
        rw (append_assoc k s xs, append_assoc k' s' ys, at (s ++ xs) (s' ++ ys), at s s', rest, then_assoc (slice_cmp nat_cmp k k') (slice_cmp nat_cmp s s') (slice_cmp nat_cmp xs ys)) refl

-- the numbers of two forests over the same widths and symbols: what differs first decides, and what follows comes after
pub preorders-cmp : (rules : List Rule) (qs : List (ℕ × ℕ)) (f g : Forest) (xs ys : List ℕ)
    → are_trees rules qs f ≡ true → are_trees rules qs g ≡ true
    → slice_cmp nat_cmp (preorder f ++ xs) (preorder g ++ ys) ≡ ordering_then (slice_cmp nat_cmp (preorder f) (preorder g)) (slice_cmp nat_cmp xs ys)
preorders-cmp rules [] none none xs ys p q = refl
preorders-cmp rules [] none (more r k s) xs ys p q = absurd (cc)
preorders-cmp rules [] (more r k s) g xs ys p q = absurd (cc)
preorders-cmp rules (c ∷ cs) none g xs ys p q = absurd (cc)
preorders-cmp rules (c ∷ cs) (more r k s) none xs ys p q = absurd (cc)
preorders-cmp rules (c ∷ cs) (more r k s) (more r' k' s') xs ys p q =
    let p' = both (suits (slice_get rules r) c) _ p in
    let p'' = both (are_trees rules (children_of (slice_get rules r) c.0) k) _ p'.1 in
    let q' = both (suits (slice_get rules r') c) _ q in
    let q'' = both (are_trees rules (children_of (slice_get rules r') c.0) k') _ q'.1 in
    same_heads r r' (preorder k) (preorder k') (preorder s) (preorder s') xs ys
    (λ e xs' ys'. preorders-cmp rules (children_of (slice_get rules r) c.0) k k' xs' ys' p''.0
    (let P : ℕ → Type 0 = λ n. are_trees rules (children_of (slice_get rules n) c.0) k' ≡ true in subst P (sym e) q''.0))
    (preorders-cmp rules cs s s' xs ys p''.1 q''.1)
