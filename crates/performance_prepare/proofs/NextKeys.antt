-- Borders without a key between them part the keys the same way.
use Rattle.std.proofs.Common.{◌≡◌, ℕ, ◌+◌, ◌*◌, ◌≤◌, Bool, true, cond, not, List, [], ◌∷◌, min, inl, inr, refl, sym, ap, ◌∙◌, arith}
use Rattle.std.specs.Prelude.{filter, nat_lt}
use Rattle.std.specs.List.{reduce}
use Rattle.std.proofs.lemmas.Bool.Decides.{nat_tests}
use Rattle.rhythm_base.proofs.Members.{Among, kept_by, out_of}
use Rattle.performance_prepare.specs.Groups.{held_beside, stretch}
use Rattle.performance_prepare.specs.Middle.{keys_below, keys_from}
use Rattle.performance_prepare.specs.Parted.{IsParting, next_key, or_last, parted_cost}
use Rattle.performance_prepare.proofs.LeastNumbers.{fold_least, fold_low, fold_over}

filter_still : (p q : ℕ → Bool) (keys : List ℕ) → ((k : ℕ) → Among k keys → p k ≡ q k) → filter p keys ≡ filter q keys
filter_still p q [] same = refl
filter_still p q (k ∷ keys) same =
    let here = same k (inl refl) in
    let rest = filter_still p q keys (λ x am. same x (inr am)) in
    λ i. cond (here i) (k ∷ rest i) (rest i)

-- ---- the next key

least : (xs : List ℕ) (x : ℕ) → Among x xs → or_last (reduce min xs) ≤ x
least [] x am = absurd am
least (y ∷ xs) x (inl e) = let low = fold_low y xs in omega (arith, low, e)
least (y ∷ xs) x (inr am) = fold_least y xs x am

over : (b : ℕ) (xs : List ℕ) → b ≤ 128 → ((x : ℕ) → Among x xs → b ≤ x) → b ≤ or_last (reduce min xs)
over b [] low all = low
over b (x ∷ xs) low all = fold_over b x xs (all x (inl refl)) (λ y am. all y (inr am))

test_from : (b k : ℕ) → b ≤ k → not (nat_lt k b) ≡ true
test_from b k le = grind (arith, nat_tests)

test_is : (b k : ℕ) → not (nat_lt k b) ≡ true → b ≤ k
test_is b k e = grind (arith, nat_tests)

next_least : (b : ℕ) (keys : List ℕ) (k : ℕ) → Among k keys → b ≤ k → next_key b keys ≤ k
next_least b keys k am le = least (keys_from b keys) k (kept_by (λ x. not (nat_lt x b)) keys k am (test_from b k le))

pub next_from : (b : ℕ) (keys : List ℕ) → b ≤ 128 → b ≤ next_key b keys
next_from b keys low = over b (keys_from b keys) low (λ x am. test_is b x (out_of (λ y. not (nat_lt y b)) keys x am).1)

-- ---- what is parted

test_still : (b c k : ℕ) → b ≤ c → (b ≤ k → c ≤ k) → nat_lt k c ≡ nat_lt k b
test_still b c k le far = grind (arith, nat_tests)

module _ (b c : ℕ) (keys : List ℕ) (le : b ≤ c) (near : c ≤ next_key b keys) where
  still : (k : ℕ) → Among k keys → nat_lt k c ≡ nat_lt k b
  still k am = test_still b c k le (λ from. (let l = next_least b keys k am from in omega (arith, l, near)))

  below_still : keys_below c keys ≡ keys_below b keys
  below_still = filter_still (λ k. nat_lt k c) (λ k. nat_lt k b) keys still

  from_still : keys_from c keys ≡ keys_from b keys
  from_still = filter_still (λ k. not (nat_lt k c)) (λ k. not (nat_lt k b)) keys (λ k am. ap not (still k am))

pub parted_still : (struck held : List ℕ) (b last cost : ℕ) → last ≤ next_key b struck → last ≤ next_key b held
    → cost ≡ parted_cost struck held b → IsParting struck held b last cost
parted_still struck held b last cost near far is c le within =
    let sb = below_still b c struck le (omega (arith, within, near)) in
    let sf = from_still b c struck le (omega (arith, within, near)) in
    let hb = below_still b c held le (omega (arith, within, far)) in
    let hf = from_still b c held le (omega (arith, within, far)) in
    is ∙ sym (λ i. 100 * (stretch (sb i) + stretch (sf i)) + 1000 * (held_beside (sb i) (hb i) + held_beside (sf i) (hf i)))
