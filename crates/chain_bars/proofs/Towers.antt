-- What holds of levels of partial products.
use Rattle.std.proofs.Common.{◌≡◌, ℕ, zero, suc, ◌+◌, ◌*◌, ◌^◌, ◌-◌, ◌/◌, ◌<◌, ◌≤◌, List, [], ◌∷◌, inl, inr, length, refl, sym, subst, ap, ◌∙◌, arith}
use Rattle.std.specs.Prelude.{Option, Some, None, slice_index_or, slice_set, drop, min}
use Rattle.rhythm_base.specs.Ranked.{CarryMatrix, at, Key, ranked, least_key, table, product_of}
use Rattle.rhythm_base.specs.Counter.{risen}
use Rattle.rhythm_base.specs.Paths.{IsRanked, IsCheap, AreCheap}
use Rattle.path_laws.proofs.Products.{grid_at}
use Rattle.path_laws.proofs.ProductCosts.{product_cost}
use Rattle.std.proofs.lemmas.Bool.{cases_lt}
use Rattle.std.proofs.Math.Nat.{pow-suc}
use Rattle.path_laws.proofs.PathTables.{table_append, table_single, two, product_ranked}
use Rattle.chain_bars.specs.Tower.{level_above, node_at, level_of, halved, AreCells, cost_of, best_cost}
use Rattle.path_laws.specs.Tables.{AllRanked, AllRanked}

-- ---- one level above another

pub paired_at : (es : List CarryMatrix) (k : ℕ) → slice_index_or (level_above es) k [] ≡ node_at es k
paired_at [] k = refl
paired_at (x ∷ []) zero = refl
paired_at (x ∷ []) (suc k) = refl
paired_at (x ∷ y ∷ es) zero = refl
paired_at (x ∷ y ∷ es) (suc k) = paired_at es k

abbrev pub half : ℕ → ℕ
half zero = zero
half (suc zero) = zero
half (suc (suc n)) = suc (half n)

pub half_is : (n : ℕ) → n / 2 ≡ half n
half_is zero = refl
half_is (suc zero) = refl
half_is (suc (suc n)) =
    let before : n / 2 ≡ half n = half_is n in
    omega (arith, before)

pub paired_set : (es : List CarryMatrix) (n : ℕ) (c : CarryMatrix) → n < length es → level_above (slice_set es n c) ≡ slice_set (level_above es) (half n) (node_at (slice_set es n c) (half n))
paired_set [] n c h = absurd (omega arith)
paired_set (x ∷ []) zero c h = refl
paired_set (x ∷ []) (suc n) c h = absurd (omega arith)
paired_set (x ∷ y ∷ es) zero c h = refl
paired_set (x ∷ y ∷ es) (suc zero) c h = refl
paired_set (x ∷ y ∷ es) (suc (suc n)) c h = ap (λ l. product_of x y ∷ l) (paired_set es n c (omega arith))

pub paired_length : (es : List CarryMatrix) → (length es ≤ 2 * length (level_above es)) × (2 * length (level_above es) ≤ length es + 1)
paired_length [] = (omega arith, omega arith)
paired_length (x ∷ []) = (omega arith, omega arith)
paired_length (x ∷ y ∷ es) =
    let before = paired_length es in
    (omega (arith, before.0), omega (arith, before.1))

pub node_two : (es : List CarryMatrix) (k n m : ℕ) → n ≡ 2 * k → m ≡ 2 * k + 1 → m < length es → node_at es k ≡ product_of (slice_index_or es n []) (slice_index_or es m [])
node_two [] k n m e f h = absurd (omega arith)
node_two (x ∷ []) k n m e f h = absurd (omega arith)
node_two (x ∷ y ∷ es) zero zero (suc zero) e f h = refl
node_two (x ∷ y ∷ es) zero zero zero e f h = absurd (omega arith)
node_two (x ∷ y ∷ es) zero zero (suc (suc m)) e f h = absurd (omega arith)
node_two (x ∷ y ∷ es) zero (suc n) m e f h = absurd (omega arith)
node_two (x ∷ y ∷ es) (suc k) (suc (suc n)) (suc (suc m)) e f h = node_two es k n m (omega arith) (omega arith) (omega arith)
node_two (x ∷ y ∷ es) (suc k) zero m e f h = absurd (omega arith)
node_two (x ∷ y ∷ es) (suc k) (suc zero) m e f h = absurd (omega arith)
node_two (x ∷ y ∷ es) (suc k) (suc (suc n)) zero e f h = absurd (omega arith)
node_two (x ∷ y ∷ es) (suc k) (suc (suc n)) (suc zero) e f h = absurd (omega arith)

pub node_one : (es : List CarryMatrix) (k n : ℕ) → n ≡ 2 * k → n + 1 ≡ length es → node_at es k ≡ slice_index_or es n []
node_one [] k n e h = absurd (omega arith)
node_one (x ∷ []) zero zero e h = refl
node_one (x ∷ []) zero (suc n) e h = absurd (omega arith)
node_one (x ∷ []) (suc k) zero e h = absurd (omega arith)
node_one (x ∷ []) (suc k) (suc n) e h = absurd (omega arith)
node_one (x ∷ y ∷ es) zero n e h = absurd (omega arith)
node_one (x ∷ y ∷ es) (suc k) zero e h = absurd (omega arith)
node_one (x ∷ y ∷ es) (suc k) (suc zero) e h = absurd (omega arith)
node_one (x ∷ y ∷ es) (suc k) (suc (suc n)) e h = node_one es k n (omega arith) (omega arith)

-- a loop's step: what is above the rest
pub paired_rest : (es : List CarryMatrix) (k n : ℕ) → n ≡ 2 * k → n < length es → level_above (drop n es) ≡ node_at es k ∷ level_above (drop (suc (suc n)) es)
paired_rest [] k n e h = absurd (omega arith)
paired_rest (x ∷ []) zero zero e h = refl
paired_rest (x ∷ []) zero (suc n) e h = absurd (omega arith)
paired_rest (x ∷ []) (suc k) zero e h = absurd (omega arith)
paired_rest (x ∷ []) (suc k) (suc n) e h = absurd (omega arith)
paired_rest (x ∷ y ∷ es) zero zero e h = refl
paired_rest (x ∷ y ∷ es) zero (suc n) e h = absurd (omega arith)
paired_rest (x ∷ y ∷ es) (suc k) zero e h = absurd (omega arith)
paired_rest (x ∷ y ∷ es) (suc k) (suc zero) e h = absurd (omega arith)
paired_rest (x ∷ y ∷ es) (suc k) (suc (suc n)) e h = paired_rest es k n (omega arith) (omega arith)

-- ---- ranks and tables

pub to_all : (es : List CarryMatrix) → AllRanked es → AllRanked es
to_all [] h = tt
to_all (x ∷ es) h = (h.0, to_all es h.1)

pub paired_ranked : (es : List CarryMatrix) → AllRanked es → AllRanked (level_above es)
paired_ranked [] h = tt
paired_ranked (x ∷ []) h = h
paired_ranked (x ∷ y ∷ es) h = (product_ranked x y h.0 h.1.0, paired_ranked es h.1.1)

pub table_paired : (es : List CarryMatrix) → AllRanked es → table (level_above es) ≡ table es
table_paired [] h = refl
table_paired (x ∷ []) h = refl
table_paired (x ∷ y ∷ es) h =
    let p : IsRanked (product_of x y) = product_ranked x y h.0 h.1.0 in
    table_append (product_of x y ∷ []) (level_above es) (p, tt)
    ∙ (λ i. product_of ((table_single (product_of x y) p ∙ sym (two x y h.0 h.1.0)) i) (table_paired es h.1.1 i))
    ∙ sym (table_append (x ∷ y ∷ []) es (h.0, (h.1.0, tt)))

pub raised_ranked : (es : List CarryMatrix) (k : ℕ) → AllRanked es → AllRanked (level_of es k)
raised_ranked es zero h = h
raised_ranked es (suc k) h = paired_ranked (level_of es k) (raised_ranked es k h)

pub table_raised : (es : List CarryMatrix) (k : ℕ) → AllRanked es → table (level_of es k) ≡ table es
table_raised es zero h = refl
table_raised es (suc k) h = table_paired (level_of es k) (raised_ranked es k h) ∙ table_raised es k h

-- ---- lengths

abbrev pub times_two : ℕ → ℕ → ℕ
times_two zero e = e
times_two (suc k) e = times_two k (2 * e)

pub times_two_is : (k e : ℕ) → times_two k e ≡ 2 ^ k * e
times_two_is zero e = grind arith
times_two_is (suc k) e =
    let before : times_two k (2 * e) ≡ 2 ^ k * (2 * e) = times_two_is k (2 * e) in
    let moved : 2 ^ k * (2 * e) ≡ 2 ^ k * 2 * e = grind arith in
    before ∙ moved ∙ ap (λ n. n * e) (sym (pow-suc 2 k))

pub raised_few : (es : List CarryMatrix) (k e : ℕ) → length es ≤ times_two k e → length (level_of es k) ≤ e
raised_few es zero e h = h
raised_few es (suc k) e h =
    let before : length (level_of es k) ≤ 2 * e = raised_few es k (2 * e) h in
    let pairs = paired_length (level_of es k) in
    omega (arith, before, pairs.1)

-- from the level on where at most one node is left, there is at most one
raised_tail : (es : List CarryMatrix) (d j k : ℕ) → k ≡ j + d → length es ≤ 2 ^ d → length (level_of es k) ≤ 1
raised_tail es d zero k e h =
    let all : times_two d 1 ≡ 2 ^ d = times_two_is d 1 ∙ grind arith in
    let short : length (level_of es d) ≤ 1 = raised_few es d 1 (subst (λ n. length es ≤ n) (sym all) h) in
    let same : k ≡ d = omega (arith, e) in
    subst (λ n. length (level_of es n) ≤ 1) (sym same) short
raised_tail es d (suc j) zero e h = absurd (omega (arith, e))
raised_tail es d (suc j) (suc k) e h =
    let before : length (level_of es k) ≤ 1 = raised_tail es d j k (omega (arith, e)) h in
    let pairs = paired_length (level_of es k) in
    omega (arith, before, pairs.1)

pub raised_short : (es : List CarryMatrix) (d k : ℕ) → d ≤ k → length es ≤ 2 ^ d → length (level_of es k) ≤ 1
raised_short es d k low h = raised_tail es d (k - d) k (omega (arith, low)) h

pub raised_some : (es : List CarryMatrix) (k : ℕ) → 1 ≤ length es → 1 ≤ length (level_of es k)
raised_some es zero h = h
raised_some es (suc k) h =
    let before : 1 ≤ length (level_of es k) = raised_some es k h in
    let pairs = paired_length (level_of es k) in
    omega (arith, before, pairs.0)

-- ---- costs

pub product_cheap : (c : ℕ) (a b : CarryMatrix) → IsCheap c a → IsCheap c b → IsCheap (2 * c) (product_of a b)
product_cheap c a b ha hb i j e s =
    let q = product_cost a b i j e s in
    let left : q.1.cost ≤ c = ha i q.0 q.1 q.3 in
    let right : q.2.cost ≤ c = hb q.0 j q.2 q.4 in
    omega (arith, q.5, left, right)

pub paired_cheap : (c : ℕ) (es : List CarryMatrix) → AreCheap c es → AreCheap (2 * c) (level_above es)
paired_cheap c [] h = tt
paired_cheap c (x ∷ []) h = ((λ i j e s. let low = h.0 i j e s in omega (arith, low)), tt)
paired_cheap c (x ∷ y ∷ es) h = (product_cheap c x y h.0 h.1.0, paired_cheap c es h.1.1)

abbrev pub doubled : ℕ → ℕ → ℕ
doubled zero c = c
doubled (suc k) c = 2 * doubled k c

pub raised_cheap : (c : ℕ) (es : List CarryMatrix) (k : ℕ) → AreCheap c es → AreCheap (doubled k c) (level_of es k)
raised_cheap c es zero h = h
raised_cheap c es (suc k) h = paired_cheap (doubled k c) (level_of es k) (raised_cheap c es k h)

pub cheap_at : (c : ℕ) (es : List CarryMatrix) (k : ℕ) → AreCheap c es → IsCheap c (slice_index_or es k [])
cheap_at c [] k h = λ i j e s. absurd (cc)
cheap_at c (x ∷ es) zero h = h.0
cheap_at c (x ∷ es) (suc k) h = cheap_at c es k h.1

pub cheap_more : (c d : ℕ) (es : List CarryMatrix) → c ≤ d → AreCheap c es → AreCheap d es
cheap_more c d [] l h = tt
cheap_more c d (x ∷ es) l h = ((λ i j e s. let low = h.0 i j e s in omega (arith, low)), cheap_more c d es l h.1)

pub doubled_low : (k : ℕ) → k < 13 → doubled k 500000000000 ≤ 2 ^ 61 - 1
doubled_low zero h = omega arith
doubled_low (suc zero) h = omega arith
doubled_low (suc (suc zero)) h = omega arith
doubled_low (suc (suc (suc zero))) h = omega arith
doubled_low (suc (suc (suc (suc zero)))) h = omega arith
doubled_low (suc (suc (suc (suc (suc zero))))) h = omega arith
doubled_low (suc (suc (suc (suc (suc (suc zero)))))) h = omega arith
doubled_low (suc (suc (suc (suc (suc (suc (suc zero))))))) h = omega arith
doubled_low (suc (suc (suc (suc (suc (suc (suc (suc zero)))))))) h = omega arith
doubled_low (suc (suc (suc (suc (suc (suc (suc (suc (suc zero))))))))) h = omega arith
doubled_low (suc (suc (suc (suc (suc (suc (suc (suc (suc (suc zero)))))))))) h = omega arith
doubled_low (suc (suc (suc (suc (suc (suc (suc (suc (suc (suc (suc zero))))))))))) h = omega arith
doubled_low (suc (suc (suc (suc (suc (suc (suc (suc (suc (suc (suc (suc zero)))))))))))) h = omega arith
doubled_low (suc (suc (suc (suc (suc (suc (suc (suc (suc (suc (suc (suc (suc k))))))))))))) h = absurd (omega arith)

-- two of a level may be added
pub level_cheap : (es : List CarryMatrix) (k : ℕ) → AreCells es → k < 13 → AreCheap (2 ^ 61 - 1) (level_of es k)
level_cheap es k h low = cheap_more (doubled k 500000000000) (2 ^ 61 - 1) (level_of es k) (doubled_low k low) (raised_cheap 500000000000 es k h.cheap)

-- a single node stands at the top
pub root_one : (es : List CarryMatrix) → AreCells es → length (level_of es 12) ≡ 1
root_one es h =
    let short : length (level_of es 12) ≤ 1 = raised_few es 12 1 h.few in
    let some : 1 ≤ length (level_of es 12) = raised_some es 12 h.some in
    omega (arith, short, some)

-- ---- the root

pub cost_ranked : (row : ℕ → Option Key) (o : Option Key) → best_cost (ranked row o) ≡ cost_of o
cost_ranked row None = refl
cost_ranked row (Some k) = refl

pub table_cost : (es : List CarryMatrix) (a b : ℕ) → a < 5 → b < 5 → best_cost (at (table es) a b) ≡ cost_of (least_key es a b)
unfolding table
table_cost es a b la lb = ap best_cost (grid_at (λ c d. ranked (least_key es c) (least_key es c d)) a b la lb) ∙ cost_ranked (least_key es a) (least_key es a b)

pub root_cost : (es : List CarryMatrix) (k : ℕ) (r : CarryMatrix) → AllRanked es → level_of es k ≡ r ∷ [] → best_cost (at r 0 0) ≡ cost_of (least_key es 0 0)
root_cost es k r h e =
    let one_ranked : IsRanked r = (subst AllRanked e (raised_ranked es k h)).0 in
    let same : r ≡ table es = sym (table_single r one_ranked) ∙ sym (ap table e) ∙ table_raised es k h in
    ap (λ m. best_cost (at m 0 0)) same ∙ table_cost es 0 0 (omega arith) (omega arith)

-- ---- one cell is set anew

pub raised_set : (es fs : List CarryMatrix) (k n : ℕ) (x : CarryMatrix) → level_of fs k ≡ slice_set (level_of es k) n x → n < length (level_of es k)
    → level_of fs (suc k) ≡ slice_set (level_of es (suc k)) (half n) (node_at (level_of fs k) (half n))
raised_set es fs k n x e h =
    ap level_above e ∙ paired_set (level_of es k) n x h
    ∙ ap (λ l. slice_set (level_above (level_of es k)) (half n) (node_at l (half n))) (sym e)

-- ---- how many nodes a level has

pub raised_length : (es : List CarryMatrix) (k : ℕ) → length (level_of es k) ≡ halved (length es) k
raised_length es zero = refl
raised_length es (suc k) =
    let before : length (level_of es k) ≡ halved (length es) k = raised_length es k in
    let pairs = paired_length (level_of es k) in
    omega (arith, before, pairs.0, pairs.1)

pub halved_more : (n m k : ℕ) → n ≤ m → halved n k ≤ halved m k
halved_more n m zero h = h
halved_more n m (suc k) h =
    let before : halved n k ≤ halved m k = halved_more n m k h in
    omega (arith, before)

pub raised_upto : (es : List CarryMatrix) (k : ℕ) → length (level_of es k) ≤ length es
raised_upto es zero = omega arith
raised_upto es (suc k) =
    let before : length (level_of es k) ≤ length es = raised_upto es k in
    let p = paired_length (level_of es k) in
    omega (arith, before, p.1)

-- ---- how many products a way to the top takes

-- at most one for each level, and none where at most one node is left
pub way_step : (es : List CarryMatrix) (k d n at start before now : ℕ) → n ≡ length (level_of es k) → length es ≤ 2 ^ d → before ≤ risen start (min k d) → (2 * at + 1 < n → now ≡ risen before 1) → (n ≤ 2 * at + 1 → now ≡ before)
    → now ≤ risen start (min (k + 1) d)
way_step es k d n at start before now size few h two lone = elim (cases_lt k d) [
  | inl low ↦ elim (cases_lt (2 * at + 1) n) [
    | inl there ↦ let e = two there in omega (arith, low, h, e)
    | inr end ↦ let e = lone end in omega (arith, low, h, e)
  ]
  | inr high ↦
      let short : length (level_of es k) ≤ 1 = raised_short es d k high few in
      let e : now ≡ before = lone (omega (arith, size, short)) in
      omega (arith, high, h, e)
]

pub way_end : (k d start now : ℕ) → now ≤ risen start (min k d) → now ≤ risen start d
way_end k d start now h = omega (arith, h)
