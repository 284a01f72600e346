-- The keys below a border are those below the border before it, and those of its key.
use Rattle.std.proofs.Common.{◌≡◌, ◌≢◌, ◌⊎◌, ℕ, ◌+◌, ◌-◌, ◌*◌, ◌<◌, ◌≤◌, Bool, true, false, cond, eqb, not, List, [], ◌∷◌, length, get_or, replicate, set, take, inl, inr, refl, sym, ap, ◌∙◌, subst, arith}
use Rattle.std.specs.Prelude.{All, ◌==◌, filter, nat_lt, slice_index}
use Rattle.std.specs.List.{sum}
use Rattle.std.proofs.lemmas.Bool.{cases_order}
use Rattle.std.proofs.lemmas.Bool.Decides.{nat_tests}
use Rattle.std.proofs.lemmas.List.{get_or-replicate, get_or-set_other, get_or-set_same, length-take}
use Rattle.std.proofs.lemmas.List.Filters.{length-filter_both, length-filter_more, sum_by-filter_both}
use Rattle.std.proofs.lemmas.List.Sums.{sum_by-cons}
use Rattle.rhythm_base.proofs.ListParts.{filter_few}
use Rattle.rhythm_base.proofs.Members.{all_among, all_from_among, out_of}
use Rattle.rhythm_base.proofs.OrderedLists.{all_head, all_tail}
use Rattle.performance_prepare.specs.Middle.{keys_below, keys_from}
use Rattle.performance_prepare.specs.Sides.{ArePart, IsSide, keys_at}

-- ---- one border more

one_key : (b k : ℕ) (t u v : Bool) (xs ys zs : List ℕ) → nat_lt k (b + 1) ≡ t → nat_lt k b ≡ u → eqb k b ≡ v
    → length xs ≡ length ys + length zs → sum xs ≡ sum ys + b * length zs
    → (length (cond t (k ∷ xs) xs) ≡ length (cond u (k ∷ ys) ys) + length (cond v (k ∷ zs) zs))
    × (sum (cond t (k ∷ xs) xs) ≡ sum (cond u (k ∷ ys) ys) + b * length (cond v (k ∷ zs) zs))
one_key b k true true false xs ys zs t u v n s = (
  omega (arith, n),
  (let c = sum_by-cons (λ x. x) k xs in
      let d = sum_by-cons (λ x. x) k ys in omega (arith, c, d, s)),
)
one_key b k true false true xs ys zs t u v n s = (
  omega (arith, n),
  (let c = sum_by-cons (λ x. x) k xs in
      let e : k ≡ b = grind (arith, nat_tests) in omega (arith, c, e, s)),
)
one_key b k false false false xs ys zs t u v n s = (n, s)
one_key b k true true true xs ys zs t u v n s = absurd (grind (arith, nat_tests))
one_key b k true false false xs ys zs t u v n s = absurd (grind (arith, nat_tests))
one_key b k false true true xs ys zs t u v n s = absurd (grind (arith, nat_tests))
one_key b k false true false xs ys zs t u v n s = absurd (grind (arith, nat_tests))
one_key b k false false true xs ys zs t u v n s = absurd (grind (arith, nat_tests))

below_more : (b : ℕ) (keys : List ℕ) → (length (keys_below (b + 1) keys) ≡ length (keys_below b keys) + length (keys_at b keys))
    × (sum (keys_below (b + 1) keys) ≡ sum (keys_below b keys) + b * length (keys_at b keys))
below_more b [] = (refl, omega arith)
below_more b (k ∷ keys) =
    let rest = below_more b keys in
    one_key b k (nat_lt k (b + 1)) (nat_lt k b) (eqb k b) (keys_below (b + 1) keys) (keys_below b keys) (keys_at b keys) refl refl refl
    rest.0 rest.1

pub side_more : (b : ℕ) (keys : List ℕ) (count total more : ℕ) → IsSide (keys_below b keys) count total → more ≡ length (keys_at b keys)
    → IsSide (keys_below (b + 1) keys) (count + more) (total + b * more)
side_more b keys count total more h e =
    let next = below_more b keys in
    record { all = (λ i. h.all i + e i) ∙ sym next.0; value = (λ i. h.value i + b * e i) ∙ sym next.1 }

none_below : (keys : List ℕ) → keys_below 0 keys ≡ []
none_below [] = refl
none_below (k ∷ keys) = ap (λ b. cond b (k ∷ keys_below 0 keys) (keys_below 0 keys)) (never k) ∙ none_below keys
  where
    never : (n : ℕ) → nat_lt n 0 ≡ false
    never n = grind (arith, nat_tests)

pub side_none : (keys : List ℕ) → IsSide (keys_below 0 keys) 0 0
side_none keys = subst (λ ks. IsSide ks 0 0) (sym (none_below keys)) (record { all = refl; value = refl })

-- the keys on the other side
pub side_other : (b : ℕ) (keys : List ℕ) (count total n s : ℕ) → IsSide keys n s → IsSide (keys_below b keys) count total
    → IsSide (keys_from b keys) (n - count) (s - total)
side_other b keys count total n s whole h =
    let both = length-filter_both (λ k. nat_lt k b) (λ k. not (nat_lt k b)) (λ k. refl) keys in
    let sums = sum_by-filter_both (λ k. nat_lt k b) (λ k. not (nat_lt k b)) (λ k. refl) (λ x. x) keys in
    let long = whole.all in
    let all = whole.value in
    record { all = (let e = h.all in omega (arith, both, long, e)); value = (let e = h.value in omega (arith, sums, all, e)) }

-- ---- how many keys there are of each number

differs : (a b : ℕ) → a ≢ b → eqb a b ≡ false
differs a b h = grind (arith, nat_tests)

same : (a : ℕ) → eqb a a ≡ true
same a = grind (arith, nat_tests)

pub at_few : (key : ℕ) (keys : List ℕ) → length (keys_at key keys) ≤ length keys
at_few key keys = filter_few (λ k. k == key) keys

pub counted_more : (counts keys : List ℕ) (i d v : ℕ) → i < length keys → length counts ≡ 128 → get_or keys i d < 128
    → ((key : ℕ) → key < 128 → slice_index counts key ≡ length (keys_at key (take i keys)))
    → v ≡ slice_index counts (get_or keys i d) + 1 → (key : ℕ) → key < 128
    → slice_index (set counts (get_or keys i d) v) key ≡ length (keys_at key (take (i + 1) keys))
counted_more counts keys i d v lt long low each is key within = elim (cases_order key (get_or keys i d)) [
  | inl e ↦ (
      let k : ℕ = get_or keys i d in
      let more = length-filter_more (λ x. x == k) keys i d lt in
      let one : ◌≡◌ {A = ℕ} (cond (eqb k k) 1 0) 1 = ap (λ b. cond {A = ℕ} b 1 0) (same k) in
      let old = each k low in
      let here : slice_index (set counts k v) k ≡ v = get_or-set_same counts k v 0 (omega (arith, long, low)) in
      let whole : slice_index (set counts k v) k ≡ length (keys_at k (take (i + 1) keys)) = omega (arith, here, is, old, more, one) in
      subst (λ n. slice_index (set counts k v) n ≡ length (keys_at n (take (i + 1) keys))) (sym e) whole
      )
  | inr other ↦ (
      let apart : key ≢ get_or keys i d = λ e. either e other in
      let more = length-filter_more (λ x. x == key) keys i d lt in
      let none : ◌≡◌ {A = ℕ} (cond (eqb (get_or keys i d) key) 1 0) 0 =
      ap (λ b. cond {A = ℕ} b 1 0) (differs (get_or keys i d) key (λ e. apart (sym e))) in
      let old = each key within in
      let there = get_or-set_other counts (get_or keys i d) key v 0 apart in
      omega (arith, there, old, more, none)
      )
]
  where
    either : key ≡ get_or keys i d → (key < get_or keys i d) ⊎ (get_or keys i d < key) → ⊥
    either e (inl l) = omega (arith, e, l)
    either e (inr g) = omega (arith, e, g)

pub none_counted : (keys : List ℕ) (key : ℕ) → key < 128 → slice_index (replicate 128 0) key ≡ length (keys_at key (take 0 keys))
none_counted [] key lt = get_or-replicate 128 key 0 0 lt
none_counted (k ∷ keys) key lt = get_or-replicate 128 key 0 0 lt

pub counted_few : (key i : ℕ) (keys : List ℕ) → length (keys_at key (take i keys)) ≤ length keys
counted_few key i keys = let few = at_few key (take i keys) in let short = length-take i keys in omega (arith, few, short)

-- ---- sides are not too great

sum_low : (keys : List ℕ) → All (λ k. k < 128) keys → sum keys ≤ 127 * length keys
sum_low [] low = omega arith
sum_low (k ∷ keys) low =
    let here = all_head (λ x. x < 128) k keys low in
    let rest = sum_low keys (all_tail (λ x. x < 128) k keys low) in
    let both = sum_by-cons (λ x. x) k keys in
    omega (arith, here, rest, both)

kept_low : (p : ℕ → Bool) (keys : List ℕ) → All (λ k. k < 128) keys → All (λ k. k < 128) (filter p keys)
kept_low p keys low = all_from_among (λ k. k < 128) (filter p keys) (λ k am. all_among (λ x. x < 128) keys low k (out_of p keys k am).0)

pub below_part : (keys : List ℕ) (border count total s : ℕ) → All (λ k. k < 128) keys → s ≡ sum keys
    → IsSide (keys_below border keys) count total → ArePart count total (length keys) s
below_part keys border count total s low all h =
    let other = side_other border keys count total (length keys) s (record { all = refl; value = all }) h in
    let sums = sum_by-filter_both (λ k. nat_lt k border) (λ k. not (nat_lt k border)) (λ k. refl) (λ x. x) keys in
    let one = sum_low (keys_below border keys) (kept_low (λ k. nat_lt k border) keys low) in
    let two = sum_low (keys_from border keys) (kept_low (λ k. not (nat_lt k border)) keys low) in
    record {
      few = (let f = filter_few (λ k. nat_lt k border) keys in let e = h.all in omega (arith, f, e));
      low = (let e = h.all in let v = h.value in omega (arith, e, v, one));
      within = (let v = h.value in omega (arith, v, all, sums));
      high = (let e = other.all in let v = other.value in omega (arith, e, v, two));
    }

pub side_next : (keys : List ℕ) (border count total more n s : ℕ) → 1 ≤ border → IsSide (keys_below (border - 1) keys) count total
    → more ≡ length (keys_at (border - 1) keys) → n ≡ count + more → s ≡ total + (border - 1) * more
    → IsSide (keys_below border keys) n s
side_next keys border count total more n s some h e is all =
    let next : border - 1 + 1 ≡ border = omega (arith, some) in
    let here = side_more (border - 1) keys count total more h e in
    subst (λ b. IsSide (keys_below b keys) n s) next (record { all = is ∙ here.all; value = all ∙ here.value })
