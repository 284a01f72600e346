-- A leaf with the ties that are joined to it: what they come to in all.
use Rattle.std.proofs.Common.{◌≡◌, ℕ, zero, suc, ◌+◌, ◌-◌, ◌*◌, ◌^◌, ◌≤◌, Bool, true, false, cond, ◌&&◌, List, [], ◌∷◌, take, refl, sym, ap, ◌∙◌, subst, arith}
use Rattle.std.specs.Prelude.{◌==◌, All, map, sum, sum_by, Some}
use Rattle.std.specs.Int.{◌∣◌}
use Rattle.std.proofs.Math.Nat.{dvd-mul_left, eq_of_mul-eq-mul_right}
use Rattle.std.proofs.lemmas.Bool.Decides.{nat_tests}
use Rattle.std.proofs.lemmas.List.Elements.{All-cons}
use Rattle.std.proofs.lemmas.List.Sums.{sum-map}
use Rattle.std.proofs.lemmas.Nat.{pow_pos}
use Rattle.std.proofs.lemmas.Nat.Gcd.{dvd_trans}
use Rattle.durations.specs.declared.value.Recip.TheVariants.{Of}
use Rattle.durations.specs.declared.value.Value.{Value}
use Rattle.durations.specs.declared.joined.Timed.{Timed}
use Rattle.durations.specs.Joined.{AreValuesOf, dots, is_tie_of, dots_after, may_join}
use Rattle.rhythm_base.specs.SoundKinds.{is_tie}
use Rattle.durations.specs.Laws.{CountsIn, SumTo}
use Rattle.durations.proofs.Firsts.{values_dots}
use Rattle.durations.proofs.Grids.{values_grid}
use Rattle.durations.proofs.OneList.{values_one}
use Rattle.durations.proofs.Sums.{Summing, sums, values_summing}
use Rattle.durations.proofs.Wide.{some_product}

-- the lengths of leaves in all
abbrev pub lengths : List Timed → ℕ
lengths leaves = sum_by (λ x. x.len) leaves

-- the last of d ties is 1/2^d of the length, and so the ties are in all what is left of the length without as much
pub record IsJoin (len : ℕ) (more : List Timed) (d : ℕ) : Type 0 where
  pub few : d ≤ 2
  pub last : ℕ
  pub length : last * 2 ^ d ≡ len
  pub ties : lengths (take d more) ≡ last * (2 ^ d - 1)

tie_len : (b : Bool) (x y : ℕ) → (b && (x == y)) ≡ true → x ≡ y
tie_len b x y h = grind (arith, nat_tests, h)

none_joined : (len : ℕ) (more : List Timed) → IsJoin len more 0
none_joined len more = record { few = omega arith; last = len; length = omega arith; ties = omega arith }

ties_join : (len : ℕ) (more : List Timed) → IsJoin len more (dots_after len more)
ties_join len [] = none_joined len []
ties_join len (half ∷ []) = go (is_tie_of len 2 (Some half)) refl
  where
    go : (b : Bool) → is_tie_of len 2 (Some half) ≡ b → IsJoin len (half ∷ []) (cond b 1 0)
    go false e = none_joined len (half ∷ [])
    go true e = let h = tie_len (is_tie half.kind) (2 * half.len) len e in record { few = omega arith; last = half.len; length = omega (arith, h); ties = omega arith }
ties_join len (half ∷ quarter ∷ more) = go (is_tie_of len 2 (Some half)) refl (is_tie_of len 4 (Some quarter)) refl
  where
    go : (b : Bool) → is_tie_of len 2 (Some half) ≡ b → (c : Bool) → is_tie_of len 4 (Some quarter) ≡ c → IsJoin len (half ∷ quarter ∷ more) (cond b (cond c 2 1) 0)
    go false e c f = none_joined len (half ∷ quarter ∷ more)
    go true e false f = let h = tie_len (is_tie half.kind) (2 * half.len) len e in record { few = omega arith; last = half.len; length = omega (arith, h); ties = omega arith }
    go true e true f =
        let h = tie_len (is_tie half.kind) (2 * half.len) len e in
        let k = tie_len (is_tie quarter.kind) (4 * quarter.len) len f in
        record { few = omega arith; last = quarter.len; length = omega (arith, k); ties = omega (arith, h, k) }

pub leaf_joins : (whole : ℕ) (leaf : Timed) (more : List Timed) → IsJoin leaf.len more (dots whole leaf more)
leaf_joins whole leaf more = go (may_join whole leaf)
  where
    go : (b : Bool) → IsJoin leaf.len more (cond b (dots_after leaf.len more) 0)
    go false = none_joined leaf.len more
    go true = ties_join leaf.len more

-- ---- the value of a leaf with its dots

-- a leaf of q * (p + 1), with ties of q * p in all, is 2 * p + 1 parts long, of n * (p + 1) in a whole note
dotted : (q p n len s whole : ℕ) → q * (p + 1) ≡ len → s ≡ q * p → n * len ≡ whole → (len + s) * (n * (p + 1)) ≡ (2 * p + 1) * whole
dotted q p n len s whole e f g =
    let all : len + s ≡ q * (2 * p + 1) = sym (ap (λ x. x + s) e) ∙ ap (λ x. q * (p + 1) + x) f ∙ turned q p in
    ap (λ x. x * (n * (p + 1))) all ∙ moved q p n ∙ ap (λ x. (2 * p + 1) * (n * x)) e ∙ ap (λ x. (2 * p + 1) * x) g
  where
    turned : (q p : ℕ) → q * (p + 1) + q * p ≡ q * (2 * p + 1)
    turned q p = grind arith

    moved : (q p n : ℕ) → q * (2 * p + 1) * (n * (p + 1)) ≡ (2 * p + 1) * (n * (q * (p + 1)))
    moved q p n = grind arith

some_left : (n len whole : ℕ) → 1 ≤ whole → n * len ≡ whole → 1 ≤ n
some_left zero len whole some h = absurd (omega (arith, h, some))
some_left (suc n) len whole some h = omega arith

some_right : (n len whole : ℕ) → 1 ≤ whole → n * len ≡ whole → 1 ≤ len
some_right n zero whole some h = let e : n * 0 ≡ 0 = omega arith in absurd (omega (arith, h, some, e))
some_right n (suc len) whole some h = omega arith

pub group_summing :
    (whole : ℕ) (leaf : Timed) (more : List Timed) (d : ℕ) (vs : List Value)
    → 1 ≤ whole → IsJoin leaf.len more d → AreValuesOf whole leaf d vs → Summing (leaf.len + lengths (take d more)) whole vs
group_summing whole leaf more zero vs some join h =
    subst (λ x. Summing x whole vs) (omega arith) (values_summing leaf.len whole vs some h)
group_summing whole leaf more (suc j) vs some join (n, e, is) =
    let p = pow_pos (suc j) in
    let power : 2 ^ suc j ≡ 2 ^ suc j - 1 + 1 = omega (arith, p) in
    let length : join.last * (2 ^ suc j - 1 + 1) ≡ leaf.len = ap (λ x. join.last * x) (sym power) ∙ join.length in
    let product = dotted join.last (2 ^ suc j - 1) n leaf.len (lengths (take (suc j) more)) whole length join.ties e in
    let parts : 2 * (2 ^ suc j - 1) + 1 ≡ 1 * (2 * 2 ^ suc j - 1) = omega (arith, p) in
    let long = ap (λ x. (leaf.len + lengths (take (suc j) more)) * (n * x)) power ∙ product ∙ ap (λ x. x * whole) parts in
    let positive = some_product n (2 ^ suc j) (some_left n leaf.len whole some e) (omega (arith, p)) in
    subst (Summing (leaf.len + lengths (take (suc j) more)) whole) (sym is) (leaf.len + lengths (take (suc j) more), 0, omega arith, (positive, long), refl)

pub dots_sum :
    (whole : ℕ) (leaf : Timed) (more : List Timed) (vs : List Value)
    → 1 ≤ whole → AreValuesOf whole leaf (dots whole leaf more) vs → SumTo (leaf.len + sum (map (λ x. x.len) (take (dots whole leaf more) more))) whole vs
dots_sum whole leaf more vs some values =
    let joined = take (dots whole leaf more) more in
    let all = group_summing whole leaf more (dots whole leaf more) vs some (leaf_joins whole leaf more) values in
    subst (λ x. SumTo (leaf.len + x) whole vs) (sym (sum-map (λ (x : Timed). x.len) joined)) (sums (leaf.len + lengths joined) whole vs all)

pub group_dots : (whole : ℕ) (leaf : Timed) (more : List Timed) (d : ℕ) (vs : List Value) → IsJoin leaf.len more d → AreValuesOf whole leaf d vs → All (λ v. v.dots ≤ 2) vs
group_dots whole leaf more zero vs join h = values_dots leaf.len whole vs h
group_dots whole leaf more (suc j) vs join (n, e, is) =
    subst (All (λ v. v.dots ≤ 2)) (sym is) (All-cons (λ v. v.dots ≤ 2) (record { recip = Of n; dots = suc j }) [] join.few (λ k d lt. absurd (omega arith)))

pub group_grid : (whole : ℕ) (leaf : Timed) (more : List Timed) (d : ℕ) (vs : List Value) → IsJoin leaf.len more d → AreValuesOf whole leaf d vs → All (CountsIn whole) vs
group_grid whole leaf more zero vs join h = values_grid leaf.len whole vs h
group_grid whole leaf more (suc j) vs join (n, e, is) =
    subst (All (CountsIn whole)) (sym is) (All-cons (CountsIn whole) (record { recip = Of n; dots = suc j }) [] first (λ k d lt. absurd (omega arith)))
  where
    moved : (n q p : ℕ) → q * (n * p) ≡ n * (q * p)
    moved n q p = grind arith

    part : n * 2 ^ suc j ∣ whole
    part = subst (λ x. n * 2 ^ suc j ∣ x) (moved n join.last (2 ^ suc j) ∙ ap (λ x. n * x) join.length ∙ e) (dvd-mul_left (n * 2 ^ suc j) join.last)

    first : CountsIn whole (record { recip = Of n; dots = suc j })
    first all of even = dvd_trans (n * 2 ^ suc j) part of

pub group_one : (whole : ℕ) (leaf : Timed) (d : ℕ) (vs ws : List Value) → 1 ≤ whole → AreValuesOf whole leaf d vs → AreValuesOf whole leaf d ws → vs ≡ ws
group_one whole leaf zero vs ws some h k = values_one leaf.len whole vs ws some h k
group_one whole leaf (suc j) vs ws some (n, e, is) (m, f, are) =
    let same : n ≡ m = eq_of_mul-eq-mul_right leaf.len (some_right n leaf.len whole some e) n m (e ∙ sym f) in
    let value : List Value = record { recip = Of n; dots = suc j } ∷ [] in
    is ∙ ap (λ x. (record { recip = Of x; dots = suc j }) ∷ []) same ∙ sym are
