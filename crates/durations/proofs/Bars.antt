-- The written values of a bar.
use Rattle.std.proofs.Common.{◌≡◌, ℕ, zero, suc, ◌+◌, ◌≤◌, ◌<◌, List, [], ◌∷◌, ◌++◌, length, take, refl, sym, ap, ◌∙◌, subst, arith}
use Rattle.std.specs.Prelude.{All, map, sum, sum_by}
use Rattle.std.proofs.lemmas.List.Elements.{All-append, All-cons}
use Rattle.std.proofs.lemmas.List.Sums.{sum-map, sum_by-cons}
use Rattle.durations.specs.declared.value.Value.{Value}
use Rattle.durations.specs.declared.joined.Timed.{Timed}
use Rattle.durations.specs.declared.joined.Written.{Written}
use Rattle.durations.specs.Joined.{ArePlaced, AreValuesOf, AreWritten, AreWrittenFrom, dots, value_places}
use Rattle.durations.specs.Laws.{CountsIn, FillTheBar, SumTo}
use Rattle.durations.specs.Value.{width}
use Rattle.durations.proofs.Groups.{group_dots, group_grid, group_one, group_summing, leaf_joins, lengths}
use Rattle.durations.proofs.Sums.{Summing, sums}

abbrev pub values_in : List Written → List Value
values_in ws = map (λ w. w.value) ws

placed_values : (whole i place : ℕ) (vs : List Value) (rest : List Written) → values_in (value_places whole i place vs ++ rest) ≡ vs ++ values_in rest
placed_values whole i place [] rest = refl
placed_values whole i place (v ∷ vs) rest = ap (λ x. v ∷ x) (placed_values whole i (place + width whole v) vs rest)

-- ---- sums

summing_append : (x y whole : ℕ) (vs ws : List Value) → Summing x whole vs → Summing y whole ws → Summing (x + y) whole (vs ++ ws)
summing_append x y whole [] ws h k = subst (λ z. Summing z whole ws) (omega (arith, h)) k
summing_append x y whole (v ∷ vs) ws (first, rest, e, long, more) k = (first, rest + y, omega (arith, e), long, summing_append rest y whole vs ws more k)

-- what is written, with the leaves that are joined to an earlier one, is all that there is
abbrev pub SumsUp : ℕ → ℕ → List Timed → List Written → Type 0
SumsUp whole joined leaves ws = (len : ℕ) × (len + lengths (take joined leaves) ≡ lengths leaves) × Summing len whole (values_in ws)

written_sums : (whole joined i place : ℕ) (leaves : List Timed) (ws : List Written) → 1 ≤ whole → AreWrittenFrom whole joined i place leaves ws → SumsUp whole joined leaves ws
written_sums whole zero i place [] ws some h = (0, refl, subst (λ x. Summing 0 whole (values_in x)) (sym h) refl)
written_sums whole (suc joined) i place [] ws some h = (0, refl, subst (λ x. Summing 0 whole (values_in x)) (sym h) refl)
written_sums whole zero i place (leaf ∷ more) ws some (vs, rest, values, is, then) =
    let d = dots whole leaf more in
    let next = written_sums whole d (i + 1) (place + leaf.len) more rest some then in
    let s = lengths (take d more) in
    let group = group_summing whole leaf more d vs some (leaf_joins whole leaf more) values in
    let all = summing_append (leaf.len + s) next.0 whole vs (values_in rest) group next.2 in
    let same : vs ++ values_in rest ≡ values_in ws = sym (ap values_in is ∙ placed_values whole i place vs rest) in
    (leaf.len + s + next.0, omega (arith, next.1, sum_by-cons (λ (x : Timed). x.len) leaf more), subst (Summing (leaf.len + s + next.0) whole) same all)
written_sums whole (suc joined) i place (leaf ∷ more) ws some h =
    let next = written_sums whole joined (i + 1) (place + leaf.len) more ws some h in
    (next.0, omega (arith, next.1, sum_by-cons (λ (x : Timed). x.len) leaf more, sum_by-cons (λ (x : Timed). x.len) leaf (take joined more)), next.2)

written_sum : (whole : ℕ) (leaves : List Timed) (ws : List Written) → 1 ≤ whole → AreWritten whole leaves ws → SumTo (sum (map (λ x. x.len) leaves)) whole (values_in ws)
written_sum whole leaves ws some h =
    let up = written_sums whole 0 0 0 leaves ws some h in
    let all : up.0 ≡ sum (map (λ x. x.len) leaves) = omega (arith, up.1, sum-map (λ (x : Timed). x.len) leaves) in
    subst (λ x. SumTo x whole (values_in ws)) all (sums up.0 whole (values_in ws) up.2)

-- ---- places

placed_append : (whole i place : ℕ) (vs : List Value) (rest : List Written) → ArePlaced whole (place + sum_by (width whole) vs) rest → ArePlaced whole place (value_places whole i place vs ++ rest)
placed_append whole i place [] rest h = subst (λ x. ArePlaced whole x rest) (omega arith) h
placed_append whole i place (v ∷ vs) rest h =
    let e : place + sum_by (width whole) (v ∷ vs) ≡ place + width whole v + sum_by (width whole) vs = omega (arith, sum_by-cons (width whole) v vs) in
    (refl, placed_append whole i (place + width whole v) vs rest (subst (λ x. ArePlaced whole x rest) e h))

-- the next value begins after the leaves that are joined to an earlier one
written_places : (whole joined i place : ℕ) (leaves : List Timed) (ws : List Written) → 1 ≤ whole → AreWrittenFrom whole joined i place leaves ws → ArePlaced whole (place + lengths (take joined leaves)) ws
written_places whole zero i place [] ws some h = subst (ArePlaced whole (place + lengths (take zero []))) (sym h) tt
written_places whole (suc joined) i place [] ws some h = subst (ArePlaced whole (place + lengths (take (suc joined) []))) (sym h) tt
written_places whole zero i place (leaf ∷ more) ws some (vs, rest, values, is, then) =
    let d = dots whole leaf more in
    let next = written_places whole d (i + 1) (place + leaf.len) more rest some then in
    let group = sums (leaf.len + lengths (take d more)) whole vs (group_summing whole leaf more d vs some (leaf_joins whole leaf more) values) in
    let e : place + leaf.len + lengths (take d more) ≡ place + sum_by (width whole) vs = omega (arith, group.sum, sum-map (width whole) vs) in
    let all = placed_append whole i place vs rest (subst (λ x. ArePlaced whole x rest) e next) in
    let from : place ≡ place + lengths (take zero (leaf ∷ more)) = omega arith in
    subst (λ x. ArePlaced whole x ws) from (subst (ArePlaced whole place) (sym is) all)
written_places whole (suc joined) i place (leaf ∷ more) ws some h =
    let next = written_places whole joined (i + 1) (place + leaf.len) more ws some h in
    subst (λ x. ArePlaced whole x ws) (omega (arith, sum_by-cons (λ (x : Timed). x.len) leaf (take joined more))) next

written_placed : (whole : ℕ) (leaves : List Timed) (ws : List Written) → 1 ≤ whole → AreWritten whole leaves ws → ArePlaced whole 0 ws
written_placed whole leaves ws some h = subst (λ x. ArePlaced whole x ws) (omega arith) (written_places whole 0 0 0 leaves ws some h)

-- values that follow one another end no later than all together
placed_within : (whole place end : ℕ) (ws : List Written) → ArePlaced whole place ws → place + sum_by (width whole) (values_in ws) ≤ end → All (λ w. w.from + width whole w.value ≤ end) ws
placed_within whole place end [] h le = λ k d lt. absurd (omega arith)
placed_within whole place end (w ∷ ws) (from, next) le =
    let e : sum_by (width whole) (values_in (w ∷ ws)) ≡ width whole w.value + sum_by (width whole) (values_in ws) = sum_by-cons (width whole) w.value (values_in ws) in
    All-cons (λ w. w.from + width whole w.value ≤ end) w ws (omega (arith, from, e, le)) (placed_within whole (place + width whole w.value) end ws next (omega (arith, e, le)))

pub written_fills : (whole : ℕ) (leaves : List Timed) (ws : List Written) → 1 ≤ whole → AreWritten whole leaves ws → FillTheBar whole leaves ws
written_fills whole leaves ws some h =
    let all = written_sum whole leaves ws some h in
    let places = written_placed whole leaves ws some h in
    record {
      sum = all;
      places = places;
      within = placed_within whole 0 (sum (map (λ x. x.len) leaves)) ws places (omega (arith, all.sum, sum-map (width whole) (values_in ws)));
    }

-- ---- leaves

placed_leaf : (whole i place most : ℕ) (vs : List Value) → i < most → All (λ w. w.leaf < most) (value_places whole i place vs)
placed_leaf whole i place most [] lt = λ k d l. absurd (omega arith)
placed_leaf whole i place most (v ∷ vs) lt =
    All-cons (λ w. w.leaf < most) (record { leaf = i; from = place; value = v }) (value_places whole i (place + width whole v) vs) lt (placed_leaf whole i (place + width whole v) most vs lt)

written_leaves : (whole joined i place most : ℕ) (leaves : List Timed) (ws : List Written) → i + length leaves ≤ most → AreWrittenFrom whole joined i place leaves ws → All (λ w. w.leaf < most) ws
written_leaves whole zero i place most [] ws le h = subst (All (λ w. w.leaf < most)) (sym h) (λ k d l. absurd (omega arith))
written_leaves whole (suc joined) i place most [] ws le h = subst (All (λ w. w.leaf < most)) (sym h) (λ k d l. absurd (omega arith))
written_leaves whole zero i place most (leaf ∷ more) ws le (vs, rest, values, is, then) =
    let next = written_leaves whole (dots whole leaf more) (i + 1) (place + leaf.len) most more rest (omega (arith, le)) then in
    subst (All (λ w. w.leaf < most)) (sym is) (All-append (λ w. w.leaf < most) (value_places whole i place vs) rest (placed_leaf whole i place most vs (omega (arith, le))) next)
written_leaves whole (suc joined) i place most (leaf ∷ more) ws le h = written_leaves whole joined (i + 1) (place + leaf.len) most more ws (omega (arith, le)) h

pub written_leaf : (whole : ℕ) (leaves : List Timed) (ws : List Written) → AreWritten whole leaves ws → All (λ w. w.leaf < length leaves) ws
written_leaf whole leaves ws h = written_leaves whole 0 0 0 (length leaves) leaves ws (omega arith) h

-- ---- what holds of the values of each leaf holds of all

written_all :
    (P : Value → Type 0) (whole joined i place : ℕ) (leaves : List Timed) (ws : List Written)
    → ((leaf : Timed) (more : List Timed) (vs : List Value) → AreValuesOf whole leaf (dots whole leaf more) vs → All P vs)
    → AreWrittenFrom whole joined i place leaves ws → All P (values_in ws)
written_all P whole zero i place [] ws each h = subst (λ x. All P (values_in x)) (sym h) (λ k d l. absurd (omega arith))
written_all P whole (suc joined) i place [] ws each h = subst (λ x. All P (values_in x)) (sym h) (λ k d l. absurd (omega arith))
written_all P whole zero i place (leaf ∷ more) ws each (vs, rest, values, is, then) =
    let next = written_all P whole (dots whole leaf more) (i + 1) (place + leaf.len) more rest each then in
    let same : vs ++ values_in rest ≡ values_in ws = sym (ap values_in is ∙ placed_values whole i place vs rest) in
    subst (All P) same (All-append P vs (values_in rest) (each leaf more vs values) next)
written_all P whole (suc joined) i place (leaf ∷ more) ws each h = written_all P whole joined (i + 1) (place + leaf.len) more ws each h

pub written_dots : (whole : ℕ) (leaves : List Timed) (ws : List Written) → AreWritten whole leaves ws → All (λ v. v.dots ≤ 2) (values_in ws)
written_dots whole leaves ws h =
    written_all (λ v. v.dots ≤ 2) whole 0 0 0 leaves ws (λ leaf more vs values. group_dots whole leaf more (dots whole leaf more) vs (leaf_joins whole leaf more) values) h

pub written_grid : (whole : ℕ) (leaves : List Timed) (ws : List Written) → AreWritten whole leaves ws → All (CountsIn whole) (values_in ws)
written_grid whole leaves ws h =
    written_all (CountsIn whole) whole 0 0 0 leaves ws (λ leaf more vs values. group_grid whole leaf more (dots whole leaf more) vs (leaf_joins whole leaf more) values) h

-- ---- the written values are one list

both : (whole i place : ℕ) (vs us : List Value) (rest others : List Written) → vs ≡ us → rest ≡ others → value_places whole i place vs ++ rest ≡ value_places whole i place us ++ others
both whole i place vs us rest others e f = λ k. value_places whole i place (e k) ++ f k

written_same :
    (whole joined i place : ℕ) (leaves : List Timed) (ws us : List Written)
    → 1 ≤ whole → AreWrittenFrom whole joined i place leaves ws → AreWrittenFrom whole joined i place leaves us → ws ≡ us
written_same whole zero i place [] ws us some h k = h ∙ sym k
written_same whole (suc joined) i place [] ws us some h k = h ∙ sym k
written_same whole zero i place (leaf ∷ more) ws us some (vs, rest, values, is, then) (others, left, there, are, next) =
    let d = dots whole leaf more in
    let one = group_one whole leaf d vs others some values there in
    let two = written_same whole d (i + 1) (place + leaf.len) more rest left some then next in
    is ∙ both whole i place vs others rest left one two ∙ sym are
written_same whole (suc joined) i place (leaf ∷ more) ws us some h k = written_same whole joined (i + 1) (place + leaf.len) more ws us some h k

pub written_one : (whole : ℕ) (leaves : List Timed) (ws us : List Written) → 1 ≤ whole → AreWritten whole leaves ws → AreWritten whole leaves us → ws ≡ us
written_one whole leaves ws us some h k = written_same whole 0 0 0 leaves ws us some h k
