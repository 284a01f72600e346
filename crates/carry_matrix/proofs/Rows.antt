-- The rows of a matrix give back its entries.
use Rattle.std.proofs.Common.{◌≡◌, ℕ, zero, suc, ◌+◌, ◌<◌, ◌≤◌, ◌^◌, Bool, true, false, nat_lt, List, [], ◌∷◌, refl, sym, ap, subst, ◌∙◌, arith}
use Rattle.std.specs.Prelude.{IfSome, Option, Some, None, slice_index_or, if◌then◌else◌}
use Rattle.std.proofs.lemmas.Bool.Decides.{nat_tests}
use Rattle.rhythm_base.specs.declared.best.Best.{Best}
use Rattle.rhythm_base.specs.Paths.{AreLow, IsLow, IsRanked}
use Rattle.rhythm_base.specs.Ranked.{CarryMatrix, Key, at, count_under, is_under, one}
use Rattle.carry_matrix.specs.declared.row.Row.{Row}
use Rattle.carry_matrix.specs.Rows.{AreRows, IsWithin, cost_code, entries_of, entry_at, entry_of, rank_code, row_at, row_code, rows_of}
use Rattle.path_laws.proofs.Products.{five_at, grid_same}

pub entry_back : (o : Option Best) → IsLow o → entry_of (cost_code o) (rank_code o) ≡ o
entry_back None low = refl
entry_back (Some e) low = go (nat_lt e.cost (2 ^ 62)) refl
  where
    under : e.cost < 2 ^ 62
    under = low e refl

    go : (b : Bool) → nat_lt e.cost (2 ^ 62) ≡ b → (if b then Some (record { cost = e.cost; rank = e.rank }) else None) ≡ Some e
    go true t = refl
    go false t = absurd (grind (arith, nat_tests, under, t))

pub row_read : (m : CarryMatrix) (from : ℕ) → from < 5 → row_at (rows_of m) from ≡ row_code (at m from)
unfolding rows_of
row_read m from low = five_at (λ from. row_code (at m from)) (record { costs = []; ranks = [] }) from low

pub entry_read : (m : CarryMatrix) → AreLow m → (from to : ℕ) → from < 5 → to < 5 → entry_at (rows_of m) from to ≡ at m from to
entry_read m low from to lf lt =
    (λ i. entry_of (slice_index_or (row_read m from lf i).costs to 0) (slice_index_or (row_read m from lf i).ranks to 0))
    ∙ (λ i. entry_of (five_at (λ to. cost_code (at m from to)) 0 to lt i) (five_at (λ to. rank_code (at m from to)) 0 to lt i))
    ∙ entry_back (at m from to) (low from to)

pub entries_back : (m : CarryMatrix) → IsRanked m → AreLow m → entries_of (rows_of m) ≡ m
unfolding entries_of
entries_back m ranked low = grid_same _ (at m) (λ from to lf lt. entry_read m low from to lf lt) ∙ sym ranked.shape

pub matrix_rows : (m : CarryMatrix) → IsRanked m → AreLow m → AreRows (rows_of m)
matrix_rows m ranked low = record {
  coded = ap rows_of (sym (entries_back m ranked low));
  ranked = subst IsRanked (sym (entries_back m ranked low)) ranked;
  low = subst AreLow (sym (entries_back m ranked low)) low;
}

-- five rows are those of a matrix, if each is
pub each_row : (m : CarryMatrix) (r0 r1 r2 r3 r4 : Row) → r0 ≡ row_code (at m 0) → r1 ≡ row_code (at m 1) → r2 ≡ row_code (at m 2) → r3 ≡ row_code (at m 3) → r4 ≡ row_code (at m 4)
    → r0 ∷ r1 ∷ r2 ∷ r3 ∷ r4 ∷ [] ≡ rows_of m
unfolding rows_of
each_row m r0 r1 r2 r3 r4 h0 h1 h2 h3 h4 = λ i. h0 i ∷ h1 i ∷ h2 i ∷ h3 i ∷ h4 i ∷ []

-- a row for a number that is known
pub row_for : (m : CarryMatrix) (r : Row) {n k : ℕ} → r ≡ row_code (at m n) → n ≡ k → r ≡ row_code (at m k)
row_for m r is same = is ∙ ap (λ n. row_code (at m n)) same

few_under : (row : ℕ → Option Key) (x : List ℕ) (n : ℕ) → count_under row x n ≤ n
few_under row x zero = omega arith
few_under row x (suc n) = go (is_under (row n) x) (few_under row x n)
  where
    go : (b : Bool) → count_under row x n ≤ n → (if b then 1 else 0) + count_under row x n ≤ suc n
    go true below = omega (arith, below)
    go false below = omega (arith, below)

pub low_rank : (m : CarryMatrix) → IsRanked m → (from to : ℕ) (e : Best) → from < 5 → to < 5 → at m from to ≡ Some e → e.rank ≤ 5
low_rank m ranked from to e lf lt s =
    let rank : e.rank ≡ count_under (one m from) (e.rank ∷ []) 5 = ranked.counts from to lf lt e s in
    let few : count_under (one m from) (e.rank ∷ []) 5 ≤ 5 = few_under (one m from) (e.rank ∷ []) 5 in
    omega (arith, rank, few)

pub rank_within : (m : CarryMatrix) → IsRanked m → (from to : ℕ) → from < 5 → to < 5 → (o : Option Best) → o ≡ at m from to → IfSome o (λ e. e.rank ≤ 5)
rank_within m ranked from to lf lt None is = tt
rank_within m ranked from to lf lt (Some e) is = low_rank m ranked from to e lf lt (sym is)

pub row_within : (m : CarryMatrix) → IsRanked m → AreLow m → (from : ℕ) → from < 5 → IsWithin (row_code (at m from))
row_within m ranked low from lf = λ to lt.
    let cost = five_at (λ to. cost_code (at m from to)) 0 to lt in
    let rank = five_at (λ to. rank_code (at m from to)) 0 to lt in
    (subst (λ n. n ≤ 2 ^ 63) (sym cost) (cost_within to (at m from to) refl), subst (λ n. n ≤ 5) (sym rank) (rank_within to lt (at m from to) refl))
  where
    cost_within : (to : ℕ) (o : Option Best) → at m from to ≡ o → cost_code o ≤ 2 ^ 63
    cost_within to None s = omega arith
    cost_within to (Some e) s = let under : e.cost < 2 ^ 62 = low from to e s in omega (arith, under)

    rank_within : (to : ℕ) → to < 5 → (o : Option Best) → at m from to ≡ o → rank_code o ≤ 5
    rank_within to lt None s = omega arith
    rank_within to lt (Some e) s = low_rank m ranked from to e lf lt s
