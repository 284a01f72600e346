-- The order of keys: its laws, and how it goes with joining.
use Rattle.std.proofs.Common.{◌≡◌, ℕ, ◌+◌, ◌<◌, ◌⊎◌, inl, inr, false, List, [], ◌∷◌, ◌++◌, length, refl, sym, ap, ◌∙◌, arith}
use Rattle.std.specs.Ordering.{nat_cmp, ordering_then, is_lt}
use Rattle.std.specs.Cmp.{IsTotalOrder, ranked, nat_cmp_is, then_total, on_total, nat_cmp_total}
use Rattle.std.specs.Cmp.Lexicographic.{nat_list_cmp_total}
use Rattle.std.specs.declared.cmp.Ordering.{Ordering}
use Rattle.std.specs.declared.cmp.Ordering.TheVariants.{Less, Equal, Greater}
use Rattle.rhythm_base.specs.Ranked.{Key, key_cmp, list_cmp, is_before, plus}
use Rattle.rhythm_base.proofs.TotalOrders.{list_equal, then_equal}

pub keys_total : IsTotalOrder key_cmp
keys_total = then_total (on_total (λ (p : Key). p.0) nat_cmp_total) (on_total (λ (p : Key). p.1) nat_list_cmp_total)

pub key_equal : (x y : Key) → key_cmp x y ≡ Equal → x ≡ y
key_equal x y e =
    let p = then_equal (nat_cmp x.0 y.0) (list_cmp x.1 y.1) e in
    let q : x.0 ≡ y.0 = ranked x.0 y.0 Equal (sym p.0) in
    let r : x.1 ≡ y.1 = list_equal x.1 y.1 p.1 in
    λ i. (q i, r i)

pub then_assoc : (a b c : Ordering) → ordering_then (ordering_then a b) c ≡ ordering_then a (ordering_then b c)
then_assoc Less b c = refl
then_assoc Equal b c = refl
then_assoc Greater b c = refl

-- lists that are as long: what comes after decides last
pub append_cmp : (x y v w : List ℕ) → length x ≡ length y → list_cmp (x ++ v) (y ++ w) ≡ ordering_then (list_cmp x y) (list_cmp v w)
append_cmp [] [] v w e = refl
append_cmp [] (d ∷ y) v w e = absurd (omega arith)
append_cmp (c ∷ x) [] v w e = absurd (omega arith)
append_cmp (c ∷ x) (d ∷ y) v w e =
    ap (ordering_then (nat_cmp c d)) (append_cmp x y v w (omega arith)) ∙ sym (then_assoc (nat_cmp c d) (list_cmp x y) (list_cmp v w))

means : (a c : ℕ) (o : Ordering) → is_lt (ordering_then (nat_cmp a c) o) ≡ false → (c < a) ⊎ ((a ≡ c) × (is_lt o ≡ false))
means a c o h = go (nat_cmp a c) refl h
  where
    go : (r : Ordering) → r ≡ nat_cmp a c → is_lt (ordering_then r o) ≡ false → (c < a) ⊎ ((a ≡ c) × (is_lt o ≡ false))
    go Less e f = absurd (cc)
    go Equal e f = inr (ranked a c Equal e, f)
    go Greater e f = inl (ranked a c Greater e)

over : (a c : ℕ) (o : Ordering) → c < a → is_lt (ordering_then (nat_cmp a c) o) ≡ false
over a c o h = sym (ap (λ r. is_lt (ordering_then r o)) (nat_cmp_is a c Greater h))

level : (a c : ℕ) (o : Ordering) → a ≡ c → is_lt o ≡ false → is_lt (ordering_then (nat_cmp a c) o) ≡ false
level a c o h f = sym (ap (λ r. is_lt (ordering_then r o)) (nat_cmp_is a c Equal h)) ∙ f

then_above : (o u : Ordering) → is_lt o ≡ false → is_lt u ≡ false → is_lt (ordering_then o u) ≡ false
then_above Less u f g = f
then_above Equal u f g = g
then_above Greater u f g = refl

sums_above : (a b c d : ℕ) (o u : Ordering) → is_lt (ordering_then (nat_cmp a c) o) ≡ false → is_lt (ordering_then (nat_cmp b d) u) ≡ false
    → is_lt (ordering_then (nat_cmp (a + b) (c + d)) (ordering_then o u)) ≡ false
sums_above a b c d o u f g = go (means a c o f) (means b d u g)
  where
    go : (c < a) ⊎ ((a ≡ c) × (is_lt o ≡ false)) → (d < b) ⊎ ((b ≡ d) × (is_lt u ≡ false)) → is_lt (ordering_then (nat_cmp (a + b) (c + d)) (ordering_then o u)) ≡ false
    go (inl h) (inl k) = over (a + b) (c + d) (ordering_then o u) (omega arith)
    go (inl h) (inr k) = over (a + b) (c + d) (ordering_then o u) (omega (arith, k.0))
    go (inr h) (inl k) = over (a + b) (c + d) (ordering_then o u) (omega (arith, h.0))
    go (inr h) (inr k) = level (a + b) (c + d) (ordering_then o u) (omega (arith, h.0, k.0)) (then_above o u h.1 k.1)

-- neither list is a proper beginning of the other, so that what stands after them comes after
abbrev pub Parse : List ℕ → List ℕ → Type 0
Parse x y = (u v : List ℕ) → list_cmp (x ++ u) (y ++ v) ≡ ordering_then (list_cmp x y) (list_cmp u v)

-- lists of one length do
pub long_parse : (x y : List ℕ) → length x ≡ length y → Parse x y
long_parse x y e u v = append_cmp x y u v e

-- neither part is lower, so the whole is not
pub plus_above : (x y v w : Key) → Parse x.1 v.1 → is_before x v ≡ false → is_before y w ≡ false → is_before (plus x y) (plus v w) ≡ false
plus_above x y v w e h k =
    ap (λ r. is_lt (ordering_then (nat_cmp (x.0 + y.0) (v.0 + w.0)) r)) (e y.1 w.1)
    ∙ sums_above x.0 y.0 v.0 w.0 (list_cmp x.1 v.1) (list_cmp y.1 w.1) h k
