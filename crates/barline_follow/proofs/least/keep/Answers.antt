use Rattle.std.proofs.Common.{◌≡◌, ◌≤◌, ◌++◌, ◌∷◌, [], ℕ, Bool, List, Result, Ok, Err, nat_eq, not, sym, subst, ap, ◌∙◌}
use Rattle.std.specs.Prelude.{Contains, AllPairs, OnOk, filter}
use Rattle.std.proofs.lemmas.List.Kept.{AllPairs-filter}
use Rattle.rhythm_base.specs.Lists.{list_with}
use Rattle.barline_follow.specs.Least.{AreFirstLeast}
use Rattle.barline_follow.proofs.FirstLeast.{Before, new_kept, place_of, same_kept}
use Rattle.barline_follow.proofs.least.keep.Goals as goal

pub returns-then-has_as_low : goal.returns-then-has_as_low
returns-then-has_as_low g c xs are =
    let low = c.has_as_low.ensures.yes c.if-has_as_low.true in
    same_kept g.T.Valued.value g.T.Valued.tick xs c.args.item c.args.kept.now.items are low.0
    (subst (λ (l : List g.row.T.Denot). Contains l low.0) c.as_slice.ensures.value low.1) (low.2 ∙ c.tick.ensures)
    (subst (λ (n : ℕ). g.T.Valued.value low.0 ≤ n) c.value.ensures low.3)

pub put-requires : goal.put-requires
put-requires g c =
    let elsewhere : ℕ → g.row.T.Denot → Bool = λ t x. not (nat_eq (g.T.Valued.tick x) t) in
    let cleared : c.clear_tick.new.list.items ≡ filter (elsewhere c.tick-2.result) c.args.kept.now.items = c.clear_tick.ensures in
    subst (λ (l : List g.row.T.Denot). AllPairs (Before g.T.Valued.value g.T.Valued.tick) l) (sym cleared)
    (AllPairs-filter (Before g.T.Valued.value g.T.Valued.tick) (elsewhere c.tick-2.result) c.args.kept.now.items c.requires.1.in_order)

on_ok : {A E : Type 0} (r : Result A E) (P Q : Type 0) → (P → Q) → OnOk r P → OnOk r Q
on_ok (Ok a) P Q f h = f h
on_ok (Err e) P Q f h = h

pub returns : goal.returns
returns g c xs are =
    let value = g.T.Valued.value in
    let tick = g.T.Valued.tick in
    let elsewhere : ℕ → g.row.T.Denot → Bool = λ t x. not (nat_eq (tick x) t) in
    let cleared : c.clear_tick.new.list.items ≡ filter (elsewhere (tick c.args.item)) c.args.kept.now.items =
    c.clear_tick.ensures ∙ ap (λ (t : ℕ). filter (elsewhere t) c.args.kept.now.items) c.tick-2.ensures in
    let none : (k : g.row.T.Denot) → Contains c.args.kept.now.items k → tick k ≡ tick c.args.item → value k ≤ value c.args.item → ⊥ =
    λ k there at le. c.has_as_low.ensures.no c.if-has_as_low.false k (subst (λ (l : List g.row.T.Denot). Contains l k) (sym c.as_slice.ensures.value) there)
    (at ∙ sym c.tick.ensures) (subst (λ (n : ℕ). value k ≤ n) (sym c.value.ensures) le) in
    let new = new_kept value tick xs c.args.item c.args.kept.now.items are none in
    on_ok c.put.result (c.put.new.list.items ≡ list_with (place_of value tick) c.args.item c.clear_tick.new.list.items)
    (AreFirstLeast value tick (xs ++ (c.args.item ∷ [])) c.put.new.list.items)
    (λ is. subst (λ (l : List g.row.T.Denot). AreFirstLeast value tick (xs ++ (c.args.item ∷ [])) l)
    (sym (is ∙ ap (list_with (place_of value tick) c.args.item) cleared)) new) c.put.ensures
