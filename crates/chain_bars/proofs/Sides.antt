-- What stands before a cell and after it, level by level.
use Rattle.std.proofs.Common.{◌≡◌, ℕ, zero, suc, ◌+◌, ◌*◌, ◌/◌, ◌-◌, ◌^◌, ◌<◌, ◌≤◌, List, [], ◌∷◌, length, take, refl, sym, subst, ap, ◌∙◌, inl, inr, arith}
use Rattle.std.specs.Prelude.{Some, None, Bool, true, false, ◌==◌, if◌then◌else◌, drop, min, slice_index_or}
use Rattle.std.proofs.lemmas.Bool.{cases_lt}
use Rattle.rhythm_base.specs.Counter.{risen}
use Rattle.rhythm_base.specs.declared.best.Best.{Best}
use Rattle.path_laws.proofs.ProductCosts.{grid_entry}
use Rattle.rhythm_base.specs.Ranked.{CarryMatrix, at, five, least_key, table, product_of, identity_entries}
use Rattle.rhythm_base.specs.Paths.{IsRanked, IsCheap, AreCheap}
use Rattle.path_laws.proofs.Products.{five_same}
use Rattle.path_laws.proofs.PathTables.{table_append, table_single, table_nil, table_ranked, product_assoc, product_ranked, identity_left, identity_right, identity_ranked}
use Rattle.path_laws.specs.Tables.{AllRanked}
use Rattle.chain_bars.specs.Tower.{Level, level_above, level_of, level, AreCells, IsTower, best_cost, cost_of}
use Rattle.chain_bars.proofs.Towers.{to_all, table_paired, table_cost, doubled, doubled_low, raised_cheap, raised_ranked, raised_short, raised_upto, root_one, cheap_at, product_cheap, paired_length, level_cheap}
use Rattle.chain_bars.proofs.Deaths.{take_snoc}
use Rattle.chain_bars.proofs.Descents.{drop_step, drop_all}

-- the cells before the one at `place`, `at` of them: those before its ancestor at level k, and then m
pub record IsBefore (es : List CarryMatrix) (cell k place : ℕ) (m : CarryMatrix) : Type 0 where
  pub whole : product_of (table (take place (level_of es k))) m ≡ table (take cell es)
  pub ranked : IsRanked m
  pub cheap : IsCheap (doubled k 500000000000) m

pub record IsAfter (es : List CarryMatrix) (cell k place : ℕ) (m : CarryMatrix) : Type 0 where
  pub whole : product_of m (table (drop (place + 1) (level_of es k))) ≡ table (drop (cell + 1) es)
  pub ranked : IsRanked m
  pub cheap : IsCheap (doubled k 500000000000) m

-- ---- lists

take_paired : (es : List CarryMatrix) (q j : ℕ) → j ≡ 2 * q → j ≤ length es → level_above (take j es) ≡ take q (level_above es)
take_paired es zero zero e h = refl
take_paired es zero (suc j) e h = absurd (omega (arith, e))
take_paired es (suc q) zero e h = absurd (omega (arith, e))
take_paired es (suc q) (suc zero) e h = absurd (omega (arith, e))
take_paired [] (suc q) (suc (suc j)) e h = absurd (omega (arith, h))
take_paired (x ∷ []) (suc q) (suc (suc j)) e h = absurd (omega (arith, h))
take_paired (x ∷ y ∷ es) (suc q) (suc (suc j)) e h = ap (λ l. product_of x y ∷ l) (take_paired es q j (omega (arith, e)) (omega (arith, h)))

drop_paired : (es : List CarryMatrix) (q j : ℕ) → j ≡ 2 * q → level_above (drop j es) ≡ drop q (level_above es)
drop_paired es zero zero e = refl
drop_paired es zero (suc j) e = absurd (omega (arith, e))
drop_paired es (suc q) zero e = absurd (omega (arith, e))
drop_paired es (suc q) (suc zero) e = absurd (omega (arith, e))
drop_paired [] (suc q) (suc (suc j)) e = refl
drop_paired (x ∷ []) (suc q) (suc (suc j)) e = sym (drop_all [] q (omega arith))
drop_paired (x ∷ y ∷ es) (suc q) (suc (suc j)) e = drop_paired es q j (omega (arith, e))

pub ranked_take : (es : List CarryMatrix) (n : ℕ) → AllRanked es → AllRanked (take n es)
ranked_take es zero h = tt
ranked_take [] (suc n) h = tt
ranked_take (x ∷ es) (suc n) h = (h.0, ranked_take es n h.1)

ranked_drop : (es : List CarryMatrix) (n : ℕ) → AllRanked es → AllRanked (drop n es)
ranked_drop es zero h = h
ranked_drop [] (suc n) h = tt
ranked_drop (x ∷ es) (suc n) h = ranked_drop es n h.1

ranked_at : (es : List CarryMatrix) (n : ℕ) → AllRanked es → n < length es → IsRanked (slice_index_or es n [])
ranked_at [] n h low = absurd (omega (arith, low))
ranked_at (x ∷ es) zero h low = h.0
ranked_at (x ∷ es) (suc n) h low = ranked_at es n h.1 (omega (arith, low))

-- ---- one level up

pub identity_cheap : (c : ℕ) → IsCheap c identity_entries
unfolding identity_entries
identity_cheap c i j e s = go (i == j) (grid_entry (λ a b. if a == b then Some (record { cost = 0; rank = 0 }) else None) i j e s)
  where
    go : (b : Bool) → (if b then Some (record { cost = 0; rank = 0 }) else None) ≡ Some e → e.cost ≤ c
    go true t =
        let same : (record { cost = 0; rank = 0 }) ≡ e = cc in
        subst (λ (x : Best). x.cost ≤ c) same (omega arith)
    go false t = absurd (cc)

cheap_double : (k : ℕ) (m : CarryMatrix) → IsCheap (doubled k 500000000000) m → IsCheap (doubled (k + 1) 500000000000) m
cheap_double k m h = λ i j e s.
    let low : e.cost ≤ doubled k 500000000000 = h i j e s in
    let next : k + 1 ≡ suc k = omega arith in
    subst (λ n. e.cost ≤ doubled n 500000000000) (sym next) (omega (arith, low))

pub before_start : (es : List CarryMatrix) (cell : ℕ) → AllRanked es → IsBefore es cell 0 cell identity_entries
before_start es cell h = record { whole = identity_right (table (take cell es)) (table_ranked (take cell es) (to_all (take cell es) (ranked_take es cell h))); ranked = identity_ranked; cheap = identity_cheap (doubled 0 500000000000) }

pub after_start : (es : List CarryMatrix) (cell : ℕ) → AllRanked es → IsAfter es cell 0 cell identity_entries
after_start es cell h = record { whole = identity_left (table (drop (cell + 1) es)) (table_ranked (drop (cell + 1) es) (to_all (drop (cell + 1) es) (ranked_drop es (cell + 1) h))); ranked = identity_ranked; cheap = identity_cheap (doubled 0 500000000000) }

pub before_step : (es : List CarryMatrix) (cell k place : ℕ) (m n : CarryMatrix) → AreCells es → place < length (level_of es k) → IsBefore es cell k place m
    → (2 * (place / 2) < place → n ≡ product_of (slice_index_or (level_of es k) (2 * (place / 2)) []) m) → (place ≤ 2 * (place / 2) → n ≡ m) → IsBefore es cell (k + 1) (place / 2) n
before_step es cell k place m n cells low h right left = elim (cases_lt (2 * (place / 2)) place) [
  | inl less ↦
      let made : n ≡ product_of node m = right less in
      record {
        whole = ap (λ t. product_of t n) up ∙ ap (product_of (table (take (2 * q) fs))) made ∙ sym (product_assoc (table (take (2 * q) fs)) node m front_ranked node_ranked h.ranked) ∙ ap (λ t. product_of t m) (sym (longer less)) ∙ h.whole;
        ranked = subst IsRanked (sym made) (product_ranked node m node_ranked h.ranked);
        cheap = subst (λ c. IsCheap c n) twice (subst (IsCheap (2 * doubled k 500000000000)) (sym made) (product_cheap (doubled k 500000000000) node m (cheap_at (doubled k 500000000000) fs (2 * q) (raised_cheap 500000000000 es k cells.cheap)) h.cheap));
      }
  | inr more ↦
      let same : n ≡ m = left more in
      let even : 2 * q ≡ place = omega (arith, more) in
      record {
        whole = ap (λ t. product_of t n) up ∙ (λ i. product_of (table (take (even i) fs)) (same i)) ∙ h.whole;
        ranked = subst IsRanked (sym same) h.ranked;
        cheap = subst (IsCheap (doubled (k + 1) 500000000000)) (sym same) (cheap_double k m h.cheap);
      }
]
  where
    fs : List CarryMatrix
    fs = level_of es k

    q : ℕ
    q = place / 2

    node : CarryMatrix
    node = slice_index_or fs (2 * q) []

    below : 2 * q ≤ place
    below = omega arith

    ranked : AllRanked fs
    ranked = raised_ranked es k cells.ranked

    node_ranked : IsRanked node
    node_ranked = ranked_at fs (2 * q) ranked (omega (arith, below, low))

    front_ranked : IsRanked (table (take (2 * q) fs))
    front_ranked = table_ranked (take (2 * q) fs) (to_all (take (2 * q) fs) (ranked_take fs (2 * q) ranked))

    next : k + 1 ≡ suc k
    next = omega arith

    twice : 2 * doubled k 500000000000 ≡ doubled (k + 1) 500000000000
    twice = ap (λ j. doubled j 500000000000) (sym next)

    up : table (take q (level_of es (k + 1))) ≡ table (take (2 * q) fs)
    up = ap (λ j. table (take q (level_of es j))) next ∙ ap table (sym (take_paired fs q (2 * q) refl (omega (arith, below, low)))) ∙ table_paired (take (2 * q) fs) (ranked_take fs (2 * q) ranked)

    longer : 2 * q < place → table (take place fs) ≡ product_of (table (take (2 * q) fs)) node
    longer less =
        let odd : place ≡ suc (2 * q) = omega (arith, less) in
        ap (λ j. table (take j fs)) odd ∙ ap table (take_snoc fs (2 * q) (omega (arith, below, low)))
        ∙ table_append (take (2 * q) fs) (node ∷ []) (to_all (take (2 * q) fs) (ranked_take fs (2 * q) ranked))
        ∙ ap (product_of (table (take (2 * q) fs))) (table_single node node_ranked)

pub after_step : (es : List CarryMatrix) (cell k place : ℕ) (m n : CarryMatrix) → AreCells es → place < length (level_of es k) → IsAfter es cell k place m
    → (2 * (place / 2) ≡ place → place + 1 < length (level_of es k) → n ≡ product_of m (slice_index_or (level_of es k) (place + 1) []))
    → (length (level_of es k) ≤ place + 1 → n ≡ m) → (2 * (place / 2) < place → n ≡ m) → IsAfter es cell (k + 1) (place / 2) n
after_step es cell k place m n cells low h left lone right = elim (cases_lt (2 * (place / 2)) place) [
  | inl less ↦
      let same : n ≡ m = right less in
      let odd : 2 * q + 2 ≡ place + 1 = omega (arith, less) in
      kept same (ap (λ j. table (drop j fs)) odd)
  | inr more ↦ elim (cases_lt (place + 1) (length fs)) [
    | inl there ↦
        let made : n ≡ product_of m node = left (omega (arith, more)) there in
        let node_ranked : IsRanked node = ranked_at fs (place + 1) ranked there in
        let after : suc (place + 1) ≡ 2 * q + 2 = omega (arith, more) in
        let rest_ranked : IsRanked (table (drop (2 * q + 2) fs)) = table_ranked (drop (2 * q + 2) fs) (to_all (drop (2 * q + 2) fs) (ranked_drop fs (2 * q + 2) ranked)) in
        let shorter : table (drop (place + 1) fs) ≡ product_of node (table (drop (2 * q + 2) fs)) =
        ap table (drop_step fs (place + 1) (2 * q + 2) [] (sym after) there)
        ∙ table_append (node ∷ []) (drop (2 * q + 2) fs) (node_ranked, tt)
        ∙ ap (λ t. product_of t (table (drop (2 * q + 2) fs))) (table_single node node_ranked) in
        record {
          whole = ap (product_of n) up ∙ ap (λ t. product_of t (table (drop (2 * q + 2) fs))) made ∙ product_assoc m node (table (drop (2 * q + 2) fs)) h.ranked node_ranked rest_ranked ∙ ap (product_of m) (sym shorter) ∙ h.whole;
          ranked = subst IsRanked (sym made) (product_ranked m node h.ranked node_ranked);
          cheap = subst (λ c. IsCheap c n) twice (subst (IsCheap (2 * doubled k 500000000000)) (sym made) (product_cheap (doubled k 500000000000) m node h.cheap (cheap_at (doubled k 500000000000) fs (place + 1) (raised_cheap 500000000000 es k cells.cheap))));
        }
    | inr end ↦
        let same : n ≡ m = lone end in
        kept same (ap table (drop_all fs (2 * q + 2) (omega (arith, more, end)) ∙ sym (drop_all fs (place + 1) end)))
  ]
]
  where
    fs : List CarryMatrix
    fs = level_of es k

    q : ℕ
    q = place / 2

    node : CarryMatrix
    node = slice_index_or fs (place + 1) []

    ranked : AllRanked fs
    ranked = raised_ranked es k cells.ranked

    next : k + 1 ≡ suc k
    next = omega arith

    twice : 2 * doubled k 500000000000 ≡ doubled (k + 1) 500000000000
    twice = ap (λ j. doubled j 500000000000) (sym next)

    up : table (drop (q + 1) (level_of es (k + 1))) ≡ table (drop (2 * q + 2) fs)
    up = ap (λ j. table (drop (q + 1) (level_of es j))) next ∙ ap table (sym (drop_paired fs (q + 1) (2 * q + 2) (omega arith))) ∙ table_paired (drop (2 * q + 2) fs) (ranked_drop fs (2 * q + 2) ranked)

    kept : n ≡ m → table (drop (2 * q + 2) fs) ≡ table (drop (place + 1) fs) → IsAfter es cell (k + 1) q n
    kept same e = record {
      whole = ap (product_of n) (up ∙ e) ∙ ap (λ x. product_of x (table (drop (place + 1) fs))) same ∙ h.whole;
      ranked = subst IsRanked (sym same) h.ranked;
      cheap = subst (IsCheap (doubled (k + 1) 500000000000)) (sym same) (cheap_double k m h.cheap);
    }

-- ---- what the code asks at each level, and the answer at the root

pub record Asked (es nodes : List CarryMatrix) (k place : ℕ) (m : CarryMatrix) : Type 0 where
  pub here : nodes ≡ level_of es k
  pub few : length nodes ≤ 4096
  pub held : place < length nodes
  pub cheap : AreCheap (2 ^ 61 - 1) nodes
  pub small : IsCheap (2 ^ 61 - 1) m
  pub next : place / 2 < length (level_of es (k + 1))

pub side_asks : (ls : List Level) (nodes : List CarryMatrix) (k place : ℕ) (m : CarryMatrix) → AreCells (level ls 0) → IsTower (level ls 0) ls → k < 12 → nodes ≡ level ls k
    → place < length (level_of (level ls 0) k) → IsCheap (doubled k 500000000000) m → Asked (level ls 0) nodes k place m
side_asks ls nodes k place m cells t low n p h =
    let es : List CarryMatrix = level ls 0 in
    let all : k < 13 = omega (arith, low) in
    let here : nodes ≡ level_of es k = n ∙ t.each k all in
    let upto : length (level_of es k) ≤ length es = raised_upto es k in
    let size : length nodes ≡ length (level_of es k) = ap length here in
    let pairs = paired_length (level_of es k) in
    let bound : doubled k 500000000000 ≤ 2 ^ 61 - 1 = doubled_low k all in
    let next : suc k ≡ k + 1 = omega arith in
    record {
      here = here;
      few = omega (arith, size, upto, cells.few);
      held = omega (arith, size, p);
      cheap = subst (AreCheap (2 ^ 61 - 1)) (sym here) (level_cheap es k cells all);
      small = λ i j e s. let c = h i j e s in omega (arith, c, bound);
      next = subst (λ j. place / 2 < length (level_of es j)) next (omega (arith, p, pairs.0));
    }

pub before_root : (ls : List Level) (cell k place : ℕ) (m : CarryMatrix) → AreCells (level ls 0) → k ≡ 12 → place < length (level_of (level ls 0) k)
    → IsBefore (level ls 0) cell k place m → five (λ to. best_cost (at m 0 to)) ≡ five (λ to. cost_of (least_key (take cell (level ls 0)) 0 to))
before_root ls cell k place m cells e p h =
    let es : List CarryMatrix = level ls 0 in
    let one : length (level_of es k) ≡ 1 = ap (λ j. length (level_of es j)) e ∙ root_one es cells in
    let first : place ≡ 0 = omega (arith, one, p) in
    let same : m ≡ table (take cell es) =
    sym (identity_left m h.ranked) ∙ ap (λ u. product_of u m) (sym table_nil) ∙ ap (λ j. product_of (table (take j (level_of es k))) m) (sym first) ∙ h.whole in
    five_same (λ to. best_cost (at m 0 to)) (λ to. cost_of (least_key (take cell es) 0 to)) (λ b low. ap (λ u. best_cost (at u 0 b)) same ∙ table_cost (take cell es) 0 b (omega arith) low)

pub after_root : (ls : List Level) (cell k place : ℕ) (m : CarryMatrix) → AreCells (level ls 0) → k ≡ 12
    → IsAfter (level ls 0) cell k place m → five (λ from. best_cost (at m from 0)) ≡ five (λ from. cost_of (least_key (drop (cell + 1) (level ls 0)) from 0))
after_root ls cell k place m cells e h =
    let es : List CarryMatrix = level ls 0 in
    let one : length (level_of es k) ≡ 1 = ap (λ j. length (level_of es j)) e ∙ root_one es cells in
    let none : drop (place + 1) (level_of es k) ≡ [] = drop_all (level_of es k) (place + 1) (omega (arith, one)) in
    let same : m ≡ table (drop (cell + 1) es) =
    sym (identity_right m h.ranked) ∙ ap (product_of m) (sym table_nil) ∙ ap (λ l. product_of m (table l)) (sym none) ∙ h.whole in
    five_same (λ from. best_cost (at m from 0)) (λ from. cost_of (least_key (drop (cell + 1) es) from 0)) (λ b low. ap (λ u. best_cost (at u b 0)) same ∙ table_cost (drop (cell + 1) es) b 0 low (omega arith))

-- at most two products for each level, and none where a single node is left
pub sides_step : (es : List CarryMatrix) (k d n start before left now : ℕ) → n ≡ length (level_of es k) → length es ≤ 2 ^ d → before ≤ risen start (2 * min k d) → left ≤ risen before 1 → now ≤ risen left 1
    → (n ≤ 1 → left ≡ before) → (n ≤ 1 → now ≡ left) → now ≤ risen start (2 * min (k + 1) d)
sides_step es k d n start before left now size few h one two first second = elim (cases_lt k d) [
  | inl low ↦ omega (arith, low, h, one, two)
  | inr high ↦
      let short : length (level_of es k) ≤ 1 = raised_short es d k high few in
      let e : left ≡ before = first (omega (arith, size, short)) in
      let f : now ≡ left = second (omega (arith, size, short)) in
      omega (arith, high, h, e, f)
]

pub sides_end : (k d start now : ℕ) → now ≤ risen start (2 * min k d) → now ≤ risen start (2 * d)
sides_end k d start now h = omega (arith, h)
