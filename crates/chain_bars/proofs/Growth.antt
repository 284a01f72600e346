-- Levels that are built one above the other, and the cost at the root.
use Rattle.std.proofs.Common.{◌≡◌, inl, inr, ℕ, zero, suc, ◌+◌, ◌*◌, ◌/◌, ◌-◌, ◌<◌, ◌≤◌, List, [], ◌∷◌, ◌++◌, length, refl, sym, subst, ap, ◌∙◌, arith, append_assoc}
use Rattle.std.specs.Prelude.{slice_index_or, drop, min}
use Rattle.std.proofs.lemmas.Bool.{cases_lt}
use Rattle.std.proofs.lemmas.List.{length_push}
use Rattle.rhythm_base.specs.Counter.{risen}
use Rattle.rhythm_base.specs.Ranked.{CarryMatrix, at, least_key}
use Rattle.rhythm_base.specs.Paths.{IsRanked}
use Rattle.path_laws.specs.Tables.{AllRanked}
use Rattle.chain_bars.specs.Tower.{Level, level_above, node_at, level_of, halved, AreCells, IsTower, level, room_at, tier, cost_of, best_cost}
use Rattle.chain_bars.proofs.Changes.{Asked, tower_asks}
use Rattle.chain_bars.proofs.Lists.{index_same, tier_read}
use Rattle.chain_bars.proofs.Towers.{paired_length, paired_rest, raised_length, raised_some, raised_upto, root_cost, root_one}

-- ---- one level

pub pairs_step : (es ns : List CarryMatrix) (k : ℕ) (node : CarryMatrix) → 2 * k < length es → ns ++ level_above (drop (2 * k) es) ≡ level_above es → node ≡ node_at es k
    → (ns ++ node ∷ []) ++ level_above (drop (2 * (k + 1)) es) ≡ level_above es
pairs_step es ns k node h e s =
    let two_on : 2 * (k + 1) ≡ suc (suc (2 * k)) = omega arith in
    let rest : node_at es k ∷ level_above (drop (2 * (k + 1)) es) ≡ level_above (drop (2 * k) es) = ap (λ n. node_at es k ∷ level_above (drop n es)) two_on ∙ sym (paired_rest es k (2 * k) refl h) in
    append_assoc ns (node ∷ []) (level_above (drop (2 * (k + 1)) es))
    ∙ ap (λ (x : CarryMatrix). ns ++ x ∷ level_above (drop (2 * (k + 1)) es)) s ∙ ap (λ l. ns ++ l) rest ∙ e

-- the products of the pairs below a place
pub pairs_count : (n k start before now : ℕ) → 2 * k < n → before ≡ risen start (min k (n / 2)) → (2 * k + 1 < n → now ≡ risen before 1) → (n ≤ 2 * k + 1 → now ≡ before) → now ≡ risen start (min (k + 1) (n / 2))
pairs_count n k start before now low h two lone = elim (cases_lt (2 * k + 1) n) [
  | inl there ↦ let e = two there in omega (arith, there, h, e)
  | inr end ↦ let e = lone end in omega (arith, low, end, h, e)
]

-- ---- one level above the other

push_before : (ls : List Level) (x : Level) (k : ℕ) → k < length ls → tier (ls ++ x ∷ []) k ≡ tier ls k
push_before [] x k h = absurd (omega arith)
push_before (l ∷ ls) x zero h = refl
push_before (l ∷ ls) x (suc k) h = push_before ls x k (omega arith)

push_last : (ls : List Level) (x : Level) (k : ℕ) → length ls ≡ k → tier (ls ++ x ∷ []) k ≡ x
push_last [] x zero h = refl
push_last [] x (suc k) h = absurd (omega arith)
push_last (l ∷ ls) x zero h = absurd (omega arith)
push_last (l ∷ ls) x (suc k) h = push_last ls x k (omega arith)

-- the levels below `above`, each with memory for what stands there
pub record IsBuilt (es : List CarryMatrix) (ls : List Level) (above : ℕ) : Type 0 where
  pub count : length ls ≡ above
  pub each : (k : ℕ) → k < above → level ls k ≡ level_of es k
  pub room : (k : ℕ) → k < above → halved (length es) k ≤ room_at ls k

pub built_step : (es : List CarryMatrix) (ls : List Level) (above : ℕ) (t : Level) → IsBuilt es ls above → t.nodes ≡ level_of es above → halved (length es) above ≤ t.room → IsBuilt es (ls ++ t ∷ []) (above + 1)
built_step es ls above t h e r = record {
  count = let long : length (ls ++ t ∷ []) ≡ length ls + 1 = length_push ls t in omega (arith, long, h.count);
  each = λ k low. elim (cases_lt k above) [
    | inl less ↦ ap (λ (x : Level). x.nodes) (push_before ls t k (omega (arith, less, h.count))) ∙ h.each k less
    | inr more ↦
        let place : above ≡ k = omega (arith, low, more) in
        ap (λ (x : Level). x.nodes) (push_last ls t k (h.count ∙ place)) ∙ e ∙ ap (level_of es) place
  ];
  room = λ k low. elim (cases_lt k above) [
    | inl less ↦ subst (λ (x : Level). halved (length es) k ≤ x.room) (sym (push_before ls t k (omega (arith, less, h.count)))) (h.room k less)
    | inr more ↦
        let place : above ≡ k = omega (arith, low, more) in
        subst (λ (x : Level). halved (length es) k ≤ x.room) (sym (push_last ls t k (h.count ∙ place))) (subst (λ m. halved (length es) m ≤ t.room) place r)
  ];
}

-- the level above the last one
pub record Next (es nodes : List CarryMatrix) (a : ℕ) : Type 0 where
  pub here : level_above nodes ≡ level_of es (suc a)
  pub room : halved (length es) (suc a) ≡ (length nodes + 1) / 2
  pub rest : (start before now : ℕ) → before ≡ risen start (length es - length nodes) → now ≡ risen before (length nodes / 2) → now ≡ risen start (length es - length (level_of es (suc a)))

pub built_next : (es nodes : List CarryMatrix) (a : ℕ) → nodes ≡ level_of es a → length (level_of es a) ≤ length es → Next es nodes a
built_next es nodes a e upto =
    let size : length nodes ≡ length (level_of es a) = ap length e in
    let size_is : length (level_of es a) ≡ halved (length es) a = raised_length es a in
    let pairs = paired_length (level_of es a) in
    record {
      here = ap level_above e;
      room = omega (arith, size, size_is);
      rest = λ start before now h n. omega (arith, size, pairs.0, pairs.1, upto, h, n);
    }

pub built_asks : (es : List CarryMatrix) (ls : List Level) (above : ℕ) (t : Level) → AreCells es → IsBuilt es ls above → 1 ≤ above → above < 13 → t ≡ slice_index_or ls (above - 1) t → Asked es t.nodes (above - 1)
built_asks es ls above t cells h some low e =
    tower_asks es t.nodes (above - 1) cells (omega (arith, low)) (ap (λ (x : Level). x.nodes) (tier_read ls (above - 1) t (omega (arith, some, h.count)) e) ∙ h.each (above - 1) (omega (arith, some)))

pub record Grown (es : List CarryMatrix) (ls : List Level) (above start now : ℕ) (t : Level) : Type 0 where
  pub levels : IsBuilt es (ls ++ t ∷ []) (above + 1)
  pub products : now ≡ risen start (length es - length (level_of es (above + 1 - 1)))
  pub most : now ≤ risen start (length es - 1)

pub built_more : (es nodes : List CarryMatrix) (ls : List Level) (above start before now : ℕ) (t : Level) → AreCells es → IsBuilt es ls above → 1 ≤ above → nodes ≡ level_of es (above - 1) → t.nodes ≡ level_above nodes → (length nodes + 1) / 2 ≤ t.room
    → before ≡ risen start (length es - length (level_of es (above - 1))) → now ≡ risen before (length nodes / 2) → Grown es ls above start now t
built_more es nodes ls above start before now t cells h some here e r b n =
    let next = built_next es nodes (above - 1) here (raised_upto es (above - 1)) in
    let up : suc (above - 1) ≡ above = omega (arith, some) in
    let again : above + 1 - 1 ≡ suc (above - 1) = omega (arith, some) in
    let size : length nodes ≡ length (level_of es (above - 1)) = ap length here in
    let rest : now ≡ risen start (length es - length (level_of es (suc (above - 1)))) = next.rest start before now (b ∙ ap (λ m. risen start (length es - m)) (sym size)) n in
    let one : 1 ≤ length (level_of es (suc (above - 1))) = raised_some es (suc (above - 1)) cells.some in
    record {
      levels = built_step es ls above t h (e ∙ next.here ∙ ap (level_of es) up) (subst (λ m. halved (length es) m ≤ t.room) up (let room = next.room in omega (arith, room, r)));
      products = rest ∙ ap (λ m. risen start (length es - length (level_of es m))) (sym again);
      most = omega (arith, rest, one);
    }

pub built_most : (es : List CarryMatrix) (above start now : ℕ) → AreCells es → now ≡ risen start (length es - length (level_of es (above - 1))) → now ≤ risen start (length es - 1)
built_most es above start now cells e =
    let one : 1 ≤ length (level_of es (above - 1)) = raised_some es (above - 1) cells.some in
    omega (arith, e, one)

pub built_all : (es : List CarryMatrix) (above start now : ℕ) → AreCells es → above ≡ 13 → now ≡ risen start (length es - length (level_of es (above - 1))) → now ≡ risen start (length es - 1)
built_all es above start now cells last e =
    let top : above - 1 ≡ 12 = omega (arith, last) in
    e ∙ ap (λ k. risen start (length es - length (level_of es k))) top ∙ ap (λ m. risen start (length es - m)) (root_one es cells)

-- ---- each cell is ranked

pub all_ranked : (es : List CarryMatrix) → ((k : ℕ) → k < length es → IsRanked (slice_index_or es k [])) → AllRanked es
all_ranked [] h = tt
all_ranked (x ∷ es) h = (h 0 (omega arith), all_ranked es (λ k low. h (suc k) (omega arith)))

pub see_step : (es : List CarryMatrix) (n : ℕ) (x : CarryMatrix) → ((k : ℕ) → k < n → IsRanked (slice_index_or es k [])) → n < length es → x ≡ slice_index_or es n x → IsRanked x
    → (k : ℕ) → k < n + 1 → IsRanked (slice_index_or es k [])
see_step es n x h low e r k k_low = elim (cases_lt k n) [
  | inl less ↦ h k less
  | inr more ↦
      let place : n ≡ k = omega (arith, k_low, more) in
      subst (λ m. IsRanked (slice_index_or es m [])) place (subst IsRanked (index_same es n x [] low e) r)
]

-- ---- the root

pub single : (es : List CarryMatrix) → length es ≡ 1 → es ≡ slice_index_or es 0 [] ∷ []
single [] e = absurd (omega arith)
single (x ∷ []) e = refl
single (x ∷ y ∷ es) e = absurd (omega arith)

pub root_is : (ls : List Level) (top : List CarryMatrix) (k : ℕ) (x : CarryMatrix) → AreCells (level ls 0) → IsTower (level ls 0) ls → k ≡ 12 → top ≡ level ls k → x ≡ slice_index_or top 0 x
    → best_cost (at x 0 0) ≡ cost_of (least_key (level ls 0) 0 0)
root_is ls top k x cells t last e s =
    let es : List CarryMatrix = level ls 0 in
    let here : top ≡ level_of es 12 = e ∙ ap (level ls) last ∙ t.each 12 (omega arith) in
    let one : length (level_of es 12) ≡ 1 = root_one es cells in
    let some : 0 < length top = let size : length top ≡ length (level_of es 12) = ap length here in omega (arith, one, size) in
    ap (λ m. best_cost (at m 0 0)) (index_same top 0 x [] some s ∙ ap (λ l. slice_index_or l 0 []) here)
    ∙ root_cost es 12 (slice_index_or (level_of es 12) 0 []) cells.ranked (single (level_of es 12) one)

pub root_some : (ls : List Level) (top : List CarryMatrix) (k : ℕ) → AreCells (level ls 0) → IsTower (level ls 0) ls → k ≡ 12 → top ≡ level ls k → 0 < length top
root_some ls top k cells t last e =
    let here : top ≡ level_of (level ls 0) 12 = e ∙ ap (level ls) last ∙ t.each 12 (omega arith) in
    let one : length (level_of (level ls 0) 12) ≡ 1 = root_one (level ls 0) cells in
    let size : length top ≡ length (level_of (level ls 0) 12) = ap length here in
    omega (arith, one, size)
