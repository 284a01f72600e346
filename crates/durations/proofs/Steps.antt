-- One leaf of a bar more.
use Rattle.std.proofs.Common.{◌≡◌, ℕ, zero, suc, ◌+◌, ◌-◌, ◌*◌, ◌^◌, ◌≤◌, ◌<◌, List, [], ◌∷◌, ◌++◌, drop, get_or, length, take, refl, sym, ap, ◌∙◌, subst, arith}
use Rattle.std.specs.Prelude.{All, map, sum}
use Rattle.std.proofs.Math.Nat.{mul-le-mul_left}
use Rattle.std.proofs.Math.Seq.{take-length}
use Rattle.std.proofs.lemmas.List.{length-drop}
use Rattle.rhythm_base.specs.declared.sound.SoundKind.TheVariants.{Begin}
use Rattle.durations.specs.declared.value.Value.{Value}
use Rattle.durations.specs.declared.joined.Timed.{Timed}
use Rattle.durations.specs.declared.joined.Written.{Written}
use Rattle.durations.specs.Joined.{AreValuesOf, AreWrittenFrom, dots, value_places}
use Rattle.durations.specs.Laws.{SumTo}
use Rattle.durations.specs.Value.{IsWide, width}
use Rattle.durations.proofs.Groups.{group_dots, group_summing, leaf_joins, lengths}
use Rattle.durations.proofs.Sums.{sums}

-- a leaf of the list
abbrev pub leaf_at : List Timed → ℕ → Timed
leaf_at xs i = get_or xs i (record { len = 0; kind = Begin })

-- the leaves after a place, as a slice to the end
pub after : (xs : List Timed) (i : ℕ) → take (length xs - i) (drop i xs) ≡ drop i xs
after xs i = ap (λ n. take n (drop i xs)) (sym (length-drop i xs)) ∙ take-length (drop i xs)

pub step_joined :
    (whole joined i place : ℕ) (xs more : List Timed) (x : Timed) (ws : List Written)
    → xs ≡ x ∷ more → 0 < joined → AreWrittenFrom whole (joined - 1) (i + 1) (place + x.len) more ws → AreWrittenFrom whole joined i place xs ws
step_joined whole zero i place xs more x ws is some h = absurd (omega (arith, some))
step_joined whole (suc joined) i place xs more x ws is some h =
    let e : suc joined - 1 ≡ joined = omega arith in
    subst (λ l. AreWrittenFrom whole (suc joined) i place l ws) (sym is) (subst (λ n. AreWrittenFrom whole n (i + 1) (place + x.len) more ws) e h)

pub step_group :
    (whole joined i place d : ℕ) (xs more : List Timed) (x : Timed) (vs : List Value) (ws : List Written)
    → xs ≡ x ∷ more → joined ≡ 0 → d ≡ dots whole x more → AreValuesOf whole x d vs → AreWrittenFrom whole d (i + 1) (place + x.len) more ws
    → AreWrittenFrom whole joined i place xs (value_places whole i place vs ++ ws)
step_group whole joined i place d xs more x vs ws is none e values h =
    let there : AreValuesOf whole x (dots whole x more) vs = subst (λ n. AreValuesOf whole x n vs) e values in
    let next : AreWrittenFrom whole (dots whole x more) (i + 1) (place + x.len) more ws = subst (λ n. AreWrittenFrom whole n (i + 1) (place + x.len) more ws) e h in
    subst (λ n. AreWrittenFrom whole n i place xs (value_places whole i place vs ++ ws)) (sym none)
    (subst (λ l. AreWrittenFrom whole 0 i place l (value_places whole i place vs ++ ws)) (sym is) (vs, ws, there, refl, next))

group_sum : (whole d : ℕ) (more : List Timed) (x : Timed) (vs : List Value) → 1 ≤ whole → d ≡ dots whole x more → AreValuesOf whole x d vs → SumTo (x.len + lengths (take (dots whole x more) more)) whole vs
group_sum whole d more x vs some e values =
    let there : AreValuesOf whole x (dots whole x more) vs = subst (λ n. AreValuesOf whole x n vs) e values in
    sums (x.len + lengths (take (dots whole x more) more)) whole vs (group_summing whole x more (dots whole x more) vs some (leaf_joins whole x more) there)

pub group_wide : (whole d : ℕ) (more : List Timed) (x : Timed) (vs : List Value) → 1 ≤ whole → d ≡ dots whole x more → AreValuesOf whole x d vs → All (IsWide whole) vs
group_wide whole d more x vs some e values = (group_sum whole d more x vs some e values).wide

pub group_few : (whole d : ℕ) (more : List Timed) (x : Timed) (vs : List Value) → d ≡ dots whole x more → AreValuesOf whole x d vs → All (λ v. v.dots ≤ 2) vs
group_few whole d more x vs e values = group_dots whole x more (dots whole x more) vs (leaf_joins whole x more) (subst (λ n. AreValuesOf whole x n vs) e values)

-- a leaf with those that are joined to it is less than twice as long
pub group_end : (whole d : ℕ) (more : List Timed) (x : Timed) (vs : List Value) → 1 ≤ whole → d ≡ dots whole x more → AreValuesOf whole x d vs → sum (map (width whole) vs) ≤ 2 * x.len
group_end whole d more x vs some e values =
    let all = group_sum whole d more x vs some e values in
    let join = leaf_joins whole x more in
    let less = mul-le-mul_left {m = 2 ^ dots whole x more - 1} {n = 2 ^ dots whole x more} join.last (omega arith) in
    omega (arith, all.sum, join.length, join.ties, less)

pub nothing : (whole joined i place : ℕ) → AreWrittenFrom whole joined i place [] []
nothing whole zero i place = refl
nothing whole (suc joined) i place = refl
