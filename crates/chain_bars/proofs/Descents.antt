-- A least path over the products of neighbours becomes one over the cells by the counts in the middle.
use Rattle.std.proofs.Common.{◌≡◌, ℕ, zero, suc, ◌+◌, ◌<◌, ◌≤◌, false, List, [], ◌∷◌, ◌++◌, ◌*◌, ◌-◌, ◌^◌, length, append_assoc, append-nil, refl, sym, subst, ap, ◌∙◌, inl, inr, arith}
use Rattle.std.specs.Prelude.{Option, Some, None, IsSome, slice_index_or, drop}
use Rattle.std.proofs.lemmas.Bool.{cases_lt}
use Rattle.rhythm_base.specs.declared.best.Best.{Best}
use Rattle.rhythm_base.specs.Ranked.{CarryMatrix, at, Key, is_before, plus, key_sum, key_of, one, least_key, table, middle_of, choice, number_of, product_of, sum_before, summed, Sum}
use Rattle.rhythm_base.specs.Paths.{path_key, AreCarried, IsPathKey, IsLeastPath, IsRanked, AreCheap}
use Rattle.path_laws.proofs.KeyOrders.{keys_total}
use Rattle.rhythm_base.proofs.TotalOrders.{itself}
use Rattle.path_laws.proofs.LeastKeys.{IsLeast, IsLeast-one}
use Rattle.path_laws.proofs.Alike.{via}
use Rattle.path_laws.proofs.Picks.{Held, pick_held}
use Rattle.path_laws.proofs.PathTables.{joined_parts, keys-least_path, least_path_key, no_path_before, middle_on_path, least_append, two, table_single, product_ranked}
use Rattle.path_laws.specs.Tables.{AllRanked}
use Rattle.chain_bars.specs.Tower.{Level, level_above, level_of, level, AreCells, IsTower, best_cost, cost_of}
use Rattle.chain_bars.specs.Walks.{number_or, refined, descended, AreCarries}
use Rattle.chain_bars.proofs.Towers.{table_paired, table_cost, root_cost, root_one, paired_length, raised_ranked, raised_upto, level_cheap}
use Rattle.chain_bars.proofs.Growth.{single}

pub key_parts : (o : Option Best) (k : Key) → key_of o ≡ Some k → (e : Best) × (o ≡ Some e) × (k ≡ (e.cost, e.rank ∷ []))
key_parts None k e = absurd (cc)
key_parts (Some x) k e =
    let s : k ≡ (x.cost, x.rank ∷ []) = cc in
    (x, refl, s)

-- ---- one cell

pub keys_one : (e : CarryMatrix) (a b : ℕ) → b < 5 → least_key (e ∷ []) a b ≡ key_sum (one e a b) (Some (0, []))
keys_one e a b low = IsLeast-one (IsPathKey (e ∷ []) a b) _ _ (keys-least_path (e ∷ []) a b) (go (one e a b) refl)
  where
    of_path : (k : Key) → IsPathKey (e ∷ []) a b k → key_sum (one e a b) (Some (0, [])) ≡ Some k
    of_path k ([], c, t, s) = absurd (cc)
    of_path k (m ∷ [], c, t, s) = subst (λ n. key_sum (one e a n) (Some (0, [])) ≡ Some k) t s
    of_path k (m ∷ n ∷ p, c, t, s) =
        let q = joined_parts (one e a m) (path_key [] m (n ∷ p)) k s in
        absurd (cc)

    go : (o : Option Key) → one e a b ≡ o → IsLeast (IsPathKey (e ∷ []) a b) (key_sum o (Some (0, [])))
    go None s = λ k r. let f : key_sum None (Some (0, [])) ≡ Some k = subst (λ o. key_sum o (Some (0, [])) ≡ Some k) s (of_path k r) in absurd (cc)
    go (Some u) s = (
      (b ∷ [], (low, tt), refl, ap (λ o. key_sum o (Some (0, []))) s),
      λ k r.
          let f : key_sum (Some u) (Some (0, [])) ≡ Some k = subst (λ o. key_sum o (Some (0, [])) ≡ Some k) s (of_path k r) in
          let same : plus u (0, []) ≡ k = cc in
          subst (λ q. is_before q (plus u (0, [])) ≡ false) same (itself keys_total (plus u (0, []))),
    )

pub single_least : (e : CarryMatrix) (a b : ℕ) (u : Key) → b < 5 → one e a b ≡ Some u → IsLeastPath (e ∷ []) a b (b ∷ []) (plus u (0, []))
single_least e a b u low s = record {
  counts = (low, tt);
  ends = refl;
  key = ap (λ o. key_sum o (Some (0, []))) s;
  least = no_path_before (e ∷ []) a b (plus u (0, [])) (keys_one e a b low ∙ ap (λ o. key_sum o (Some (0, []))) s);
}

-- ---- the count in the middle is below 5

pub middle_low : (x y : CarryMatrix) (a b m : ℕ) → middle_of x y a b ≡ Some m → m < 5
unfolding middle_of choice
middle_low x y a b m e = go (choice x y a b) refl e
  where
    sums : ℕ → Option Sum
    sums n = summed (at x a n) (at y n b)

    go : (o : Option (ℕ × Sum)) → choice x y a b ≡ o → number_of o ≡ Some m → m < 5
    go None p s = absurd (cc)
    go (Some z) p s =
        let same : z.0 ≡ m = cc in
        subst (λ n. n < 5) same (subst (Held sums 5) p (pick_held sum_before sums 5)).0

-- ---- the first count of a least path, and the rest of it

pub record Headed (e : CarryMatrix) (es : List CarryMatrix) (a b m : ℕ) (p : List ℕ) : Type 0 where
  pub first : Key
  pub there : one e a m ≡ Some first
  pub middle : middle_of (table (e ∷ [])) (table es) a b ≡ Some m
  pub key : Key
  pub rest : IsLeastPath es m b p key

pub head_least : (e : CarryMatrix) (es : List CarryMatrix) (a b m : ℕ) (p : List ℕ) (k : Key) → IsRanked e → a < 5 → b < 5 → IsLeastPath (e ∷ es) a b (m ∷ p) k → Headed e es a b m p
head_least e es a b m p k r la lb h = go (middle_of (table (e ∷ [])) (table es) a b) refl
  where
    mine : (x : Key) × (y : Key) × (one e a m ≡ Some x) × (path_key es m p ≡ Some y) × (k ≡ plus x y)
    mine = joined_parts (one e a m) (path_key es m p) k h.key

    found : Some k ≡ via (least_key (e ∷ []) a) (least_key es) b (middle_of (table (e ∷ [])) (table es) a b)
    found = sym (least_path_key (e ∷ es) a b (m ∷ p) k h) ∙ middle_on_path (e ∷ []) es a b (r, tt) la lb

    go : (o : Option ℕ) → middle_of (table (e ∷ [])) (table es) a b ≡ o → Headed e es a b m p
    go None s = let f : Some k ≡ None = found ∙ ap (via (least_key (e ∷ []) a) (least_key es) b) s in absurd (cc)
    go (Some c) s =
        let low : c < 5 = middle_low (table (e ∷ [])) (table es) a b c s in
        let f : Some k ≡ key_sum (least_key (e ∷ []) a c) (least_key es c b) = found ∙ ap (via (least_key (e ∷ []) a) (least_key es) b) s in
        let theirs = joined_parts (least_key (e ∷ []) a c) (least_key es c b) k (sym f) in
        let front = joined_parts (one e a c) (Some (0, [])) theirs.0 (sym (keys_one e a c low) ∙ theirs.2) in
        let x : Key = mine.0 in
        let y : Key = mine.1 in
        let z : Key = front.0 in
        let v : Key = theirs.1 in
        let p1 = key_parts (at e a m) x mine.2 in
        let p2 = key_parts (at e a c) z front.2 in
        let unit : (0, []) ≡ front.1 = cc in
        let whole : plus x y ≡ plus (plus z (0, [])) v = sym mine.4 ∙ theirs.4 ∙ ap (λ q. plus q v) (front.4 ∙ ap (plus z) (sym unit)) in
        let lists : x.1 ++ y.1 ≡ (z.1 ++ []) ++ v.1 = ap (λ (q : Key). q.1) whole in
        let costs : x.0 + y.0 ≡ (z.0 + 0) + v.0 = ap (λ (q : Key). q.0) whole in
        let left : x.1 ≡ p1.0.rank ∷ [] = ap (λ (q : Key). q.1) p1.2 in
        let right : z.1 ≡ p2.0.rank ∷ [] = ap (λ (q : Key). q.1) p2.2 in
        let spelled : p1.0.rank ∷ y.1 ≡ p2.0.rank ∷ v.1 = ap (λ l. l ++ y.1) (sym left) ∙ lists ∙ ap (λ l. (l ++ []) ++ v.1) right in
        let ranks : p1.0.rank ≡ p2.0.rank = cc in
        let tails : y.1 ≡ v.1 = cc in
        let place : m ≡ c = r.apart a m c la h.counts.0 low p1.0 p2.0 p1.1 p2.1 ranks in
        let same_key : Some x ≡ Some z = sym mine.2 ∙ ap (one e a) place ∙ front.2 in
        let x_is : x ≡ z = cc in
        let heads : x.0 ≡ z.0 = ap (λ (q : Key). q.0) x_is in
        let sums : y.0 ≡ v.0 = omega (arith, heads, costs) in
        let y_is : v ≡ y = λ i. (sym sums i, sym tails i) in
        record {
          first = x;
          there = mine.2;
          middle = s ∙ ap Some (sym place);
          key = y;
          rest = record { counts = h.counts.1; ends = h.ends; key = mine.3; least = no_path_before es m b y (ap (λ n. least_key es n b) place ∙ theirs.3 ∙ ap Some y_is) };
        }

-- ---- two neighbours

pub record Paired (x y : CarryMatrix) (a m : ℕ) : Type 0 where
  pub key : Key
  pub path : IsLeastPath (x ∷ y ∷ []) a m (number_or (middle_of x y a m) ∷ m ∷ []) key

-- where the product has an entry
pub pair_least : (x y : CarryMatrix) (a m : ℕ) (u : Key) → IsRanked x → IsRanked y → a < 5 → m < 5 → one (product_of x y) a m ≡ Some u → Paired x y a m
pair_least x y a m u rx ry la lm there = go (least_key (x ∷ y ∷ []) a m) (middle_of x y a m) refl refl
  where
    tables : middle_of (table (x ∷ [])) (table (y ∷ [])) a m ≡ middle_of x y a m
    tables = λ i. middle_of (table_single x rx i) (table_single y ry i) a m

    found : least_key (x ∷ y ∷ []) a m ≡ via (least_key (x ∷ []) a) (least_key (y ∷ [])) m (middle_of x y a m)
    found = middle_on_path (x ∷ []) (y ∷ []) a m (rx, tt) la lm ∙ ap (via (least_key (x ∷ []) a) (least_key (y ∷ [])) m) tables

    costs : best_cost (at (product_of x y) a m) ≡ cost_of (least_key (x ∷ y ∷ []) a m)
    costs = ap (λ t. best_cost (at t a m)) (sym (two x y rx ry)) ∙ table_cost (x ∷ y ∷ []) a m la lm

    split : (c : ℕ) (k : Key) → middle_of x y a m ≡ Some c → Some k ≡ key_sum (least_key (x ∷ []) a c) (least_key (y ∷ []) c m) → Paired x y a m
    split c k s f =
        let low : c < 5 = middle_low x y a m c s in
        let parts = joined_parts (least_key (x ∷ []) a c) (least_key (y ∷ []) c m) k (sym f) in
        let left = joined_parts (one x a c) (Some (0, [])) parts.0 (sym (keys_one x a c low) ∙ parts.2) in
        let right = joined_parts (one y c m) (Some (0, [])) parts.1 (sym (keys_one y c m lm) ∙ parts.3) in
        let path = least_append (x ∷ []) (y ∷ []) a c m (c ∷ []) (m ∷ []) (plus left.0 (0, [])) (plus right.0 (0, [])) (rx, tt) la lm (tables ∙ s)
        (single_least x a c left.0 low left.2) (single_least y c m right.0 lm right.2) in
        record {
          key = plus (plus left.0 (0, [])) (plus right.0 (0, []));
          path = subst (λ n. IsLeastPath (x ∷ y ∷ []) a m (n ∷ m ∷ []) (plus (plus left.0 (0, [])) (plus right.0 (0, [])))) (sym (ap number_or s)) path;
        }

    go : (o : Option Key) (w : Option ℕ) → least_key (x ∷ y ∷ []) a m ≡ o → middle_of x y a m ≡ w → Paired x y a m
    go None w e s =
        let entry = key_parts (at (product_of x y) a m) u there in
        let f : best_cost (Some entry.0) ≡ cost_of None = ap best_cost (sym entry.1) ∙ costs ∙ ap cost_of e in
        absurd (cc)
    go (Some k) None e s =
        let f : Some k ≡ None = sym e ∙ found ∙ ap (via (least_key (x ∷ []) a) (least_key (y ∷ [])) m) s in
        absurd (cc)
    go (Some k) (Some c) e s = split c k s (sym e ∙ found ∙ ap (via (least_key (x ∷ []) a) (least_key (y ∷ [])) m) s)

-- ---- a whole level

abbrev pub HasLeast : List CarryMatrix → ℕ → ℕ → List ℕ → Type 0
HasLeast es a b p = (k : Key) × IsLeastPath es a b p k

pub refine_least : (es : List CarryMatrix) (a b : ℕ) (p : List ℕ) → AllRanked es → a < 5 → b < 5 → HasLeast (level_above es) a b p → HasLeast es a b (refined es a p)
refine_least [] a b [] r la lb h = h
refine_least [] a b (m ∷ p) r la lb h = let e : None ≡ Some h.0 = h.1.key in absurd (cc)
refine_least (x ∷ []) a b p r la lb h = h
refine_least (x ∷ y ∷ es) a b [] r la lb h = let e : None ≡ Some h.0 = h.1.key in absurd (cc)
refine_least (x ∷ y ∷ es) a b (m ∷ p) r la lb h =
    let whole : IsRanked (product_of x y) = product_ranked x y r.0 r.1.0 in
    let head = head_least (product_of x y) (level_above es) a b m p h.0 whole la lb h.1 in
    let low : m < 5 = h.1.counts.0 in
    let pair = pair_least x y a m head.first r.0 r.1.0 la low head.there in
    let rest = refine_least es m b p r.1.1 low lb (head.key, head.rest) in
    let here : middle_of (table (x ∷ y ∷ [])) (table es) a b ≡ Some m =
    (λ i. middle_of ((two x y r.0 r.1.0 ∙ sym (table_single (product_of x y) whole)) i) (sym (table_paired es r.1.1) i) a b) ∙ head.middle in
    (plus pair.key rest.0, least_append (x ∷ y ∷ []) es a m b (number_or (middle_of x y a m) ∷ m ∷ []) (refined es m p) pair.key rest.0 (r.0, (r.1.0, tt)) la lb here pair.path rest.1)

-- the root's only path
pub root_least : (es : List CarryMatrix) (k : ℕ) (r : CarryMatrix) → AllRanked es → level_of es k ≡ r ∷ [] → IsSome (cost_of (least_key es 0 0)) → HasLeast (level_of es k) 0 0 (0 ∷ [])
root_least es k r h e s = go (at r 0 0) refl
  where
    go : (o : Option Best) → at r 0 0 ≡ o → HasLeast (level_of es k) 0 0 (0 ∷ [])
    go None f = let no : None ≡ cost_of (least_key es 0 0) = ap best_cost (sym f) ∙ root_cost es k r h e in absurd (let t : IsSome {T = ℕ} None = subst (IsSome {T = ℕ}) (sym no) s in cc)
    go (Some b) f =
        let u : Key = (b.cost, b.rank ∷ []) in
        (plus u (0, []), subst (λ l. IsLeastPath l 0 0 (0 ∷ []) (plus u (0, []))) (sym e) (single_least r 0 0 u (omega arith) (ap key_of f)))

-- ---- the steps of the code

pub counts_at : (p : List ℕ) (n : ℕ) → AreCarried p → slice_index_or p n 0 < 5
counts_at [] n h = omega arith
counts_at (m ∷ p) zero h = h.0
counts_at (m ∷ p) (suc n) h = counts_at p n h.1

pub drop_step : {A : Type 0} (xs : List A) (n m : ℕ) (d : A) → m ≡ suc n → n < length xs → drop n xs ≡ slice_index_or xs n d ∷ drop m xs
drop_step xs n zero d e h = absurd (omega arith)
drop_step [] n (suc m) d e h = absurd (omega arith)
drop_step (x ∷ xs) zero (suc zero) d e h = refl
drop_step (x ∷ xs) zero (suc (suc m)) d e h = absurd (omega arith)
drop_step (x ∷ xs) (suc n) (suc m) d e h = drop_step xs n m d (omega arith) (omega arith)

pub drop_all : {A : Type 0} (xs : List A) (n : ℕ) → length xs ≤ n → drop n xs ≡ []
drop_all [] zero h = refl
drop_all [] (suc n) h = refl
drop_all (x ∷ xs) zero h = absurd (omega arith)
drop_all (x ∷ xs) (suc n) h = drop_all xs n (omega arith)

pub below_step : (es : List CarryMatrix) (p done more : List ℕ) (n n' j j' a : ℕ) → n' ≡ suc n → j' ≡ suc (suc j) → n < length p → j < length es
    → (j + 1 < length es → more ≡ done ++ number_or (middle_of (slice_index_or es j []) (slice_index_or es (j + 1) []) a (slice_index_or p n 0)) ∷ slice_index_or p n 0 ∷ [])
    → (length es ≤ j + 1 → more ≡ done ++ slice_index_or p n 0 ∷ [])
    → (length es ≤ j + 1 → length p ≤ n')
    → done ++ refined (drop j es) a (drop n p) ≡ descended es p
    → more ++ refined (drop j' es) (slice_index_or p n 0) (drop n' p) ≡ descended es p
below_step es p done more n n' j j' a en ej high here paired_more lone last h = elim (cases_lt (j + 1) (length es)) [
  | inl less ↦
      let grown : more ≡ done ++ between ∷ m ∷ [] = paired_more less in
      let nodes : drop j es ≡ slice_index_or es j [] ∷ slice_index_or es (j + 1) [] ∷ drop j' es =
      drop_step es j (j + 1) [] (omega arith) here ∙ ap (λ l. slice_index_or es j [] ∷ l) (drop_step es (j + 1) j' [] (omega (arith, ej)) less) in
      ap (λ l. l ++ refined (drop j' es) m (drop n' p)) grown
      ∙ append_assoc done (between ∷ m ∷ []) (refined (drop j' es) m (drop n' p))
      ∙ ap (λ l. done ++ l) (λ i. refined (sym nodes i) a (sym counts i))
      ∙ h
  | inr more_or ↦
      let grown : more ≡ done ++ m ∷ [] = lone more_or in
      let nodes : drop j es ≡ slice_index_or es j [] ∷ [] =
      drop_step es j (j + 1) [] (omega arith) here ∙ ap (λ l. slice_index_or es j [] ∷ l) (drop_all es (j + 1) more_or) in
      let after : drop j' es ≡ [] = drop_all es j' (omega (arith, more_or, ej)) in
      let end : drop n' p ≡ [] = drop_all p n' (last more_or) in
      ap (λ l. l ++ refined (drop j' es) m (drop n' p)) grown
      ∙ ap (λ l. (done ++ m ∷ []) ++ refined l m (drop n' p)) after
      ∙ append-nil (done ++ m ∷ [])
      ∙ ap (λ l. done ++ m ∷ l) (sym end)
      ∙ ap (λ l. done ++ l) (λ i. refined (sym nodes i) a (sym counts i))
      ∙ h
]
  where
    m : ℕ
    m = slice_index_or p n 0

    between : ℕ
    between = number_or (middle_of (slice_index_or es j []) (slice_index_or es (j + 1) []) a m)

    counts : drop n p ≡ m ∷ drop n' p
    counts = drop_step p n n' 0 en high

-- from a level to the one below it
pub carries_down : (es : List CarryMatrix) (p : List ℕ) → AllRanked es → AreCarries (level_above es) p → AreCarries es (descended es p)
carries_down es p r h =
    let least = refine_least es 0 0 h.path r (omega arith) (omega arith) (h.key, h.least) in
    record { path = refined es 0 h.path; from_none = ap (descended es) h.from_none; key = least.0; least = least.1 }

path_long : (es : List CarryMatrix) (a : ℕ) (p : List ℕ) (k : Key) → path_key es a p ≡ Some k → length p ≡ length es
path_long [] a [] k e = refl
path_long [] a (m ∷ p) k e = absurd (cc)
path_long (x ∷ es) a [] k e = absurd (cc)
path_long (x ∷ es) a (m ∷ p) k e =
    let q = joined_parts (one x a m) (path_key es m p) k e in
    ap suc (path_long es m p q.1 q.3)

pub carries_long : (es : List CarryMatrix) (p : List ℕ) → AreCarries es p → (length p ≡ length es + 1) × AreCarried p
carries_long es p h =
    let long : length h.path ≡ length es = path_long es 0 h.path h.key h.least.key in
    let whole : length p ≡ length (0 ∷ h.path) = ap length h.from_none in
    (omega (arith, whole, long), subst AreCarried (sym h.from_none) (omega arith, h.least.counts))

-- ---- walking down a tower

pub root_carries : (ls : List Level) (top : ℕ) (p : List ℕ) → AreCells (level ls 0) → IsSome (cost_of (least_key (level ls 0) 0 0)) → top ≡ 12 → p ≡ 0 ∷ 0 ∷ [] → AreCarries (level_of (level ls 0) top) p
root_carries ls top p cells s e f =
    let es : List CarryMatrix = level ls 0 in
    let least = root_least es 12 (slice_index_or (level_of es 12) 0 []) cells.ranked (single (level_of es 12) (root_one es cells)) s in
    subst (λ k. AreCarries (level_of es k) p) (sym e) (record { path = 0 ∷ []; from_none = f; key = least.0; least = least.1 })

pub record Asked (nodes : List CarryMatrix) (p : List ℕ) : Type 0 where
  pub few : length nodes ≤ 4096
  pub cheap : AreCheap (2 ^ 61 - 1) nodes
  pub some : 1 ≤ length p
  pub counts : AreCarried p
  pub covers : length nodes ≤ 2 * (length p - 1)
  pub fits : 2 * (length p - 1) ≤ length nodes + 1

pub down_asks : (ls : List Level) (nodes : List CarryMatrix) (k above : ℕ) (p : List ℕ) → AreCells (level ls 0) → IsTower (level ls 0) ls → above ≡ suc k → above < 13 → nodes ≡ level ls k
    → AreCarries (level_of (level ls 0) above) p → Asked nodes p
down_asks ls nodes k above p cells t e low n h =
    let es : List CarryMatrix = level ls 0 in
    let all : k < 13 = omega (arith, e, low) in
    let here : nodes ≡ level_of es k = n ∙ t.each k all in
    let upto : length (level_of es k) ≤ length es = raised_upto es k in
    let long = carries_long (level_above (level_of es k)) p (subst (λ a. AreCarries (level_of es a) p) e h) in
    let pairs = paired_length (level_of es k) in
    let size : length nodes ≡ length (level_of es k) = ap length here in
    record {
      few = omega (arith, size, upto, cells.few);
      cheap = subst (AreCheap (2 ^ 61 - 1)) (sym here) (level_cheap es k cells all);
      some = omega (arith, long.0);
      counts = long.1;
      covers = omega (arith, long.0, pairs.0, size);
      fits = omega (arith, long.0, pairs.1, size);
    }

pub down_step : (ls : List Level) (nodes : List CarryMatrix) (k above : ℕ) (p q : List ℕ) → AreCells (level ls 0) → IsTower (level ls 0) ls → above ≡ suc k → above < 13 → nodes ≡ level ls k
    → AreCarries (level_of (level ls 0) above) p → q ≡ descended nodes p → AreCarries (level_of (level ls 0) k) q
down_step ls nodes k above p q cells t e low n h d =
    let es : List CarryMatrix = level ls 0 in
    let here : nodes ≡ level_of es k = n ∙ t.each k (omega (arith, e, low)) in
    subst (AreCarries (level_of es k)) (sym (d ∙ ap (λ l. descended l p) here)) (carries_down (level_of es k) p (raised_ranked es k cells.ranked) (subst (λ a. AreCarries (level_of es a) p) e h))
