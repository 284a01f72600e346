use Rattle.std.proofs.Common.{◌≡◌, ℕ, ◌+◌, ◌<◌, ◌≤◌, List, [], ◌∷◌, ◌++◌, take, drop, subst, sym, ap, ◌∙◌, arith}
use Rattle.std.specs.Prelude.{All, map, sum}
use Rattle.std.proofs.Math.ListN.{drop_of_length-le}
use Rattle.std.proofs.lemmas.List.{append-nil, append_assoc, drop_more}
use Rattle.std.proofs.lemmas.List.Sums.{sum-map, sum_by_more, sum_by_more_le, sum_by-take-le}
use Rattle.rhythm_base.specs.declared.sound.SoundKind.TheVariants.{Begin}
use Rattle.durations.specs.declared.joined.Timed.{Timed}
use Rattle.durations.specs.declared.joined.Written.{Written}
use Rattle.durations.specs.Joined.{AreWritten, AreWrittenFrom, dots, value_places}
use Rattle.durations.specs.Value.{IsWide, width}
use Rattle.durations.proofs.Bars.{written_dots, written_fills, written_grid, written_leaf}
use Rattle.durations.proofs.Steps.{after, leaf_at, nothing, step_joined, step_group, group_wide, group_few, group_end}
use Rattle.durations.proofs.joined.values_of.Goals as goal
use Rattle.durations.proofs.joined.values_of.Goals.{then-joined-gt0, else-joined-gt0+in_ok-renew+in_ok-push_values}

pub overflow_cast-leaf : goal.overflow_cast-leaf
overflow_cast-leaf c =
    let f : Timed → ℕ = λ x. x.len in
    let xs = c.args.leaves.now in
    omega (arith, c.leaves.invariant.place, c.leaves.invariant.few, sum-map f (take c.leaves.leaf xs), sum-map f xs, sum_by-take-le f xs c.leaves.leaf, c.requires.bar, c.requires.few)

pub push_values-requires-clause-dots : goal.push_values-requires-clause-dots
push_values-requires-clause-dots c =
    let xs = c.args.leaves.now in
    let i = c.leaves.leaf in
    let e = c.dots-joined.ensures ∙ ap (dots c.of-grid.result (leaf_at xs i)) (after xs (i + 1)) in
    subst (All (λ v. v.dots ≤ 2)) (sym c.deref.ensures.value) (group_few c.of-grid.result c.dots-joined.result (drop (i + 1) xs) (leaf_at xs i) c.renew.new.values.items e c.in_ok-renew.ensures)

pub push_values-requires-clause-wide : goal.push_values-requires-clause-wide
push_values-requires-clause-wide c =
    let xs = c.args.leaves.now in
    let i = c.leaves.leaf in
    let e = c.dots-joined.ensures ∙ ap (dots c.of-grid.result (leaf_at xs i)) (after xs (i + 1)) in
    subst (All (IsWide c.of-grid.result)) (sym c.deref.ensures.value) (group_wide c.of-grid.result c.dots-joined.result (drop (i + 1) xs) (leaf_at xs i) c.renew.new.values.items (omega (arith, c.requires.some, c.of-grid.ensures)) e c.in_ok-renew.ensures)

pub push_values-requires-clause-end : goal.push_values-requires-clause-end
push_values-requires-clause-end c =
    let f : Timed → ℕ = λ x. x.len in
    let xs = c.args.leaves.now in
    let i = c.leaves.leaf in
    let e = c.dots-joined.ensures ∙ ap (dots c.of-grid.result (leaf_at xs i)) (after xs (i + 1)) in
    let end = group_end c.of-grid.result c.dots-joined.result (drop (i + 1) xs) (leaf_at xs i) c.renew.new.values.items (omega (arith, c.requires.some, c.of-grid.ensures)) e c.in_ok-renew.ensures in
    let same : sum (map (width c.of-grid.result) c.deref.result.now) ≡ sum (map (width c.of-grid.result) c.renew.new.values.items) = ap (λ x. sum (map (width c.of-grid.result) x)) c.deref.ensures.value in
    let more = sum_by_more_le f xs i (record { len = 0; kind = Begin }) c.leaves-test.true in
    omega (arith, same, end, more, c.leaves.invariant.place, sum-map f (take i xs), sum-map f xs, c.requires.bar, c.requires.few)

pub overflow_add-place : goal.overflow_add-place
overflow_add-place c =
    let f : Timed → ℕ = λ x. x.len in
    let xs = c.args.leaves.now in
    let i = c.leaves.leaf in
    let more = sum_by_more_le f xs i (record { len = 0; kind = Begin }) c.leaves-test.true in
    omega (arith, more, c.leaves.invariant.place, sum-map f (take i xs), sum-map f xs, c.requires.bar, c.requires.few)

pub leaves-preserved : goal.leaves-preserved
leaves-preserved c =
    let f : Timed → ℕ = λ x. x.len in
    let whole = c.of-grid.result in
    let xs = c.args.leaves.now in
    let i = c.leaves.leaf in
    let place = c.leaves.place in
    let is : drop i xs ≡ leaf_at xs i ∷ drop (i + 1) xs = drop_more xs i (record { len = 0; kind = Begin }) c.leaves-test.true in
    let some : 1 ≤ (leaf_at xs i).len = (c.requires.leaves i (record { len = 0; kind = Begin }) c.leaves-test.true).some in
    record {
      so_far = elim c.if-joined-gt0.branch [
        | then-joined-gt0 w ↦ λ ws h.
            let next = subst (λ n. AreWrittenFrom whole n (i + 1) (place + (leaf_at xs i).len) (drop (i + 1) xs) ws) w.joined-is h in
            let some : 0 < c.leaves.joined = omega (arith, w.if-joined-gt0.true) in
            let all = c.leaves.invariant.so_far ws (step_joined whole c.leaves.joined i place (drop i xs) (drop (i + 1) xs) (leaf_at xs i) ws is some next) in
            subst (λ (v : List Written). AreWritten whole xs (v ++ ws)) (sym (ap (λ v. v.items) w.written-is)) all
        | else-joined-gt0+in_ok-renew+in_ok-push_values w ↦ λ ws h.
            let vs = w.renew.new.values.items in
            let d = w.dots-joined.result in
            let next = subst (λ n. AreWrittenFrom whole n (i + 1) (place + (leaf_at xs i).len) (drop (i + 1) xs) ws) w.joined-is h in
            let none : c.leaves.joined ≡ 0 = omega (arith, w.if-joined-gt0.false) in
            let e = w.dots-joined.ensures ∙ ap (dots whole (leaf_at xs i)) (after xs (i + 1)) in
            let step = step_group whole c.leaves.joined i place d (drop i xs) (drop (i + 1) xs) (leaf_at xs i) vs ws is none e w.in_ok-renew.ensures next in
            let all = c.leaves.invariant.so_far (value_places whole i place vs ++ ws) step in
            let items = ap (λ v. v.items) w.written-is ∙ w.in_ok-push_values.ensures ∙ ap (λ x. c.leaves.written.items ++ value_places whole i place x) w.deref.ensures.value in
            subst (AreWritten whole xs) (sym (append_assoc c.leaves.written.items (value_places whole i place vs) ws) ∙ ap (λ x. x ++ ws) (sym items)) all
      ];
      place = omega (arith, c.leaves.invariant.place, sum-map f (take i xs), sum-map f (take (i + 1) xs), sum_by_more f xs i (record { len = 0; kind = Begin }) c.leaves-test.true);
      few = omega (arith, c.leaves.invariant.few, some);
    }

pub returns-clause-written : goal.returns-clause-written
returns-clause-written c =
    let none : drop c.leaves.leaf c.args.leaves.now ≡ [] = drop_of_length-le c.args.leaves.now c.leaves-test.false in
    let end = subst (λ x. AreWrittenFrom c.of-grid.result c.leaves.joined c.leaves.leaf c.leaves.place x []) (sym none) (nothing c.of-grid.result c.leaves.joined c.leaves.leaf c.leaves.place) in
    let told = subst (AreWritten c.of-grid.result c.args.leaves.now) (append-nil c.leaves.written.items) (c.leaves.invariant.so_far [] end) in
    subst (λ whole. AreWritten whole c.args.leaves.now c.leaves.written.items) c.of-grid.ensures told

pub returns-clause-fills : goal.returns-clause-fills
returns-clause-fills c = written_fills c.args.whole c.args.leaves.now c.leaves.written.items c.requires.some (returns-clause-written c)

pub returns-clause-leaf : goal.returns-clause-leaf
returns-clause-leaf c = written_leaf c.args.whole c.args.leaves.now c.leaves.written.items (returns-clause-written c)

pub returns-clause-dots : goal.returns-clause-dots
returns-clause-dots c = written_dots c.args.whole c.args.leaves.now c.leaves.written.items (returns-clause-written c)

pub returns-clause-grid : goal.returns-clause-grid
returns-clause-grid c = written_grid c.args.whole c.args.leaves.now c.leaves.written.items (returns-clause-written c)
