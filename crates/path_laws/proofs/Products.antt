-- The laws of products and tables.
use Rattle.std.proofs.Common.{◌≡◌, ℕ, zero, suc, ◌<◌, [], ◌∷◌, refl, sym, subst, ap, ◌∙◌, arith}
use Rattle.std.specs.Prelude.{Option, Some, None, slice_index_or}
use Rattle.rhythm_base.specs.declared.best.Best.{Best}
use Rattle.rhythm_base.specs.Ranked.{CarryMatrix, at, five, grid, Key, Keys, list_cmp, is_before, key_sum, key_of, one, pick, number_of, times, ranked, table_of, choice, sum_key, product_of}
use Rattle.std.specs.Cmp.Lexicographic.{nat_list_cmp_total}
use Rattle.std.proofs.lemmas.Cmp.{tied_itself}
use Rattle.std.specs.declared.cmp.Ordering.TheVariants.{Equal}
use Rattle.rhythm_base.proofs.TotalOrders.{list_equal}
use Rattle.path_laws.proofs.KeyOrders.{long_parse}
use Rattle.path_laws.specs.Rows.{same, lists_cmp, AreAlike}
use Rattle.path_laws.proofs.Alike.{AreApart, parse, ranked_same, ranks_alike, via, via_alike}
use Rattle.path_laws.proofs.Picks.{middle_same, sums_via, times_via, pick_count}

-- ---- five by five

pub five_at : {A : Type 0} (f : ℕ → A) (z : A) (b : ℕ) → b < 5 → slice_index_or (five f) b z ≡ f b
five_at f z zero h = refl
five_at f z (suc zero) h = refl
five_at f z (suc (suc zero)) h = refl
five_at f z (suc (suc (suc zero))) h = refl
five_at f z (suc (suc (suc (suc zero)))) h = refl
five_at f z (suc (suc (suc (suc (suc b))))) h = absurd (omega arith)

pub five_same : {A : Type 0} (f g : ℕ → A) → ((b : ℕ) → b < 5 → f b ≡ g b) → five f ≡ five g
five_same f g h = λ i. h 0 (omega arith) i ∷ h 1 (omega arith) i ∷ h 2 (omega arith) i ∷ h 3 (omega arith) i ∷ h 4 (omega arith) i ∷ []

pub grid_at : (f : ℕ → ℕ → Option Best) (a b : ℕ) → a < 5 → b < 5 → at (grid f) a b ≡ f a b
grid_at f a b la lb = ap (λ row. slice_index_or row b None) (five_at (λ c. five (f c)) [] a la) ∙ five_at (f a) None b lb

pub grid_same : (f g : ℕ → ℕ → Option Best) → ((a b : ℕ) → a < 5 → b < 5 → f a b ≡ g a b) → grid f ≡ grid g
grid_same f g h = five_same (λ a. five (f a)) (λ a. five (g a)) (λ a la. five_same (f a) (g a) (λ b lb. h a b la lb))

-- ---- a row of keys and the row of its table

pub alike_to : (r s t : ℕ → Option Key) → ((b : ℕ) → b < 5 → s b ≡ t b) → AreAlike r s → AreAlike r t
alike_to r s t e h = record {
  costs = λ b low. subst (λ q. same (r b) q) (e b low) (h.costs b low);
  order = λ b c lb lc. h.order b c lb lc ∙ (λ i. lists_cmp (e b lb i) (e c lc i));
}

pub one_of_table : (k : Keys) (a b : ℕ) → a < 5 → b < 5 → key_of (ranked (k a) (k a b)) ≡ one (table_of k) a b
one_of_table k a b la lb = ap key_of (sym (grid_at (λ a b. ranked (k a) (k a b)) a b la lb))

pub table_alike : (k : Keys) (a : ℕ) → a < 5 → AreAlike (k a) (one (table_of k) a)
table_alike k a low = alike_to (k a) (λ b. key_of (ranked (k a) (k a b))) (one (table_of k) a) (λ b lb. one_of_table k a b low lb) (ranks_alike (k a))

-- no list of a row is a proper beginning of another
abbrev pub RowsParse : Keys → Type 0
RowsParse k = (a b c : ℕ) → a < 5 → b < 5 → c < 5 → parse (k a b) (k a c)

abbrev pub RowsApart : Keys → Type 0
RowsApart k = (a : ℕ) → a < 5 → AreApart (k a)

-- ranks tell apart what lists tell apart
pub table_apart : (k : Keys) → RowsApart k → RowsApart (one (table_of k))
table_apart k h a low b c lb lc x y ex ey e = go (k a b) (k a c) refl refl (table_alike k a low)
  where
    go : (p q : Option Key) → k a b ≡ p → k a c ≡ q → AreAlike (k a) (one (table_of k) a) → b ≡ c
    go p q ep eq alike = apart_by p q ep eq
        (subst (λ v. same v (Some x)) ep (subst (λ v. same (k a b) v) ex (alike.costs b lb)))
        (subst (λ v. same v (Some y)) eq (subst (λ v. same (k a c) v) ey (alike.costs c lc)))
        ((λ i. lists_cmp (sym ep i) (sym eq i)) ∙ alike.order b c lb lc ∙ (λ i. lists_cmp (ex i) (ey i)) ∙ ap (λ l. list_cmp l y.1) e ∙ tied_itself nat_list_cmp_total y.1)
      where
        apart_by : (p q : Option Key) → k a b ≡ p → k a c ≡ q → same p (Some x) → same q (Some y) → lists_cmp p q ≡ Equal → b ≡ c
        apart_by None q ep eq h1 h2 o = absurd h1
        apart_by (Some u) None ep eq h1 h2 o = absurd h2
        apart_by (Some u) (Some v) ep eq h1 h2 o = h a low b c lb lc u v ep eq (list_equal u.1 v.1 o)

ranks_parse : (m : CarryMatrix) → RowsParse (one m)
ranks_parse m a b c la lb lc = go (at m a b) (at m a c)
  where
    go : (o u : Option Best) → parse (key_of o) (key_of u)
    go None u = tt
    go (Some e) None = tt
    go (Some e) (Some f) = long_parse (e.rank ∷ []) (f.rank ∷ []) refl

-- ---- the product of tables is the table of the product

pub middle_is : (k l : Keys) → RowsParse k → RowsApart k → (a b : ℕ) → a < 5 → b < 5
    → number_of (pick is_before (λ m. key_sum (k a m) (l m b)) 5) ≡ number_of (choice (table_of k) (table_of l) a b)
unfolding choice
middle_is k l long apart a b la lb =
    middle_same (k a) l (λ m. at (table_of k) a m) (λ m b. at (table_of l) m b) (table_alike k a la) (λ m lm. table_alike l m lm) (λ m m' lm lm'. long a m m' la lm lm') (table_apart k apart a la) b lb

pub product_is : (k l : Keys) → RowsParse k → RowsApart k → table_of (times k l) ≡ product_of (table_of k) (table_of l)
unfolding product_of choice
product_is k l long apart = grid_same _ _ (λ a b la lb. ranked_same (times k l a) (λ b. sum_key (choice (table_of k) (table_of l) a b)) (rows a la) b lb)
  where
    rows : (a : ℕ) → a < 5 → AreAlike (times k l a) (λ b. sum_key (choice (table_of k) (table_of l) a b))
    rows a la =
        let o : ℕ → Option ℕ = λ b. number_of (pick is_before (λ m. key_sum (k a m) (l m b)) 5) in
        let left : (λ b. via (k a) l b (o b)) ≡ times k l a = λ i b. sym (times_via k l a b) i in
        let ways : AreAlike (λ b. via (k a) l b (o b)) (λ b. via (one (table_of k) a) (one (table_of l)) b (o b))
        = via_alike (k a) (one (table_of k) a) l (one (table_of l)) (table_alike k a la) (λ m lm. table_alike l m lm) (apart a la)
        (λ m m' lm lm'. long a m m' la lm lm') (λ m m' lm lm'. ranks_parse (table_of k) a m m' la lm lm') o (λ b low. pick_count is_before (λ m. key_sum (k a m) (l m b))) in
        let right : (b : ℕ) → b < 5 → via (one (table_of k) a) (one (table_of l)) b (o b) ≡ sum_key (choice (table_of k) (table_of l) a b)
        = λ b low. ap (via (one (table_of k) a) (one (table_of l)) b) (middle_is k l long apart a b la low) ∙ sym (sums_via (λ m. at (table_of k) a m) (λ m b. at (table_of l) m b) b) in
        alike_to (times k l a) _ _ right (subst (λ r. AreAlike r (λ b. via (one (table_of k) a) (one (table_of l)) b (o b))) left ways)
