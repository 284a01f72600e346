use Rattle.std.proofs.Common.{rules, arith, refl, replicate, ℕ, ◌≡◌, ◌≤◌, ◌-◌, [], List, get_or, length, sym, ◌∙◌, subst, drop}
use Rattle.std.specs.Prelude.{All, reverse}
use Rattle.std.proofs.lemmas.List.{get_or-replicate}
use Rattle.std.proofs.lemmas.List.Elements.{All-nil, All-push}
use Rattle.hand_borders.specs.Ways.{AreWays}
use Rattle.hand_borders.proofs.Followed.{all_least, begin_few, best_begin, best_pushed, borders_near, if_ok, none_least, sums_few}
use Rattle.hand_borders.proofs.Steps.{AreBest}
use Rattle.hand_borders.proofs.borders.least_borders.Goals as goal

pub returns-then-count-eq0 : goal.returns-then-count-eq0
returns-then-count-eq0 c = c.new.ensures.items ∙ none_least c.args.groups.now c.if-count-eq0.true

pub add_group-requires : goal.add_group-requires
add_group-requires c = λ k d lt. let e = get_or-replicate 129 k 0 d lt in omega (arith, e)

pub groups-init : goal.groups-init
groups-init c =
    let G : List (List ℕ) = c.args.groups.now in
    let some : 1 ≤ length G = omega (arith, c.if-count-eq0.false) in
    let wide : length c.add_group.new.costs ≡ 129 = search rules in
    let none : c.new-list.result.items ≡ [] = c.new-list.ensures.items in
    record {
      best = subst (λ (rows : List (List ℕ)). AreBest (drop (length G - 1) G) c.add_group.new.costs (reverse rows)) (sym none)
          (best_begin G (get_or G (length G - 1) []) (replicate 129 0) c.add_group.new.costs [] some refl
          (λ k lt. get_or-replicate 129 k 0 0 lt) c.add_group.ensures.sums);
      ways = subst (All AreWays) (sym none) (All-nil AreWays);
      few = begin_few (replicate 129 0) c.add_group.new.costs wide (λ k lt. get_or-replicate 129 k 0 0 lt) c.add_group.ensures.few;
      long = wide;
    }

pub groups-preserved : goal.groups-preserved
groups-preserved c =
    let G : List (List ℕ) = c.args.groups.now in
    let from : List ℕ = c.ways_from-ways.new.costs in
    let sums : List ℕ = c.add_group-in-groups.new.costs in
    let long : length c.groups.after ≡ 129 = c.groups.invariant.long in
    let wide : length sums ≡ 129 = search rules in
    let narrow : length c.ways_from-ways.result ≡ 129 = search rules in
    record {
      best = best_pushed G c.groups.done (get_or G (length G - 1 - c.groups.done) []) c.groups.after from c.ways_from-ways.result sums
          c.push.new.self.items c.groups.list.items [] c.groups.auto.done c.groups-test.true refl c.groups.invariant.best
          c.ways_from-ways.ensures c.add_group-in-groups.ensures.sums c.in_ok-push.ensures.items;
      ways = subst (All AreWays) (sym c.in_ok-push.ensures.items)
          (All-push AreWays c.groups.list.items c.ways_from-ways.result c.groups.invariant.ways
          (borders_near c.groups.after from c.ways_from-ways.result narrow c.ways_from-ways.ensures));
      few = sums_few c.groups.after from c.ways_from-ways.result sums c.groups.done long wide c.groups.invariant.few
          c.ways_from-ways.ensures c.add_group-in-groups.ensures.few;
      long = wide;
    }

pub returns : goal.returns
returns c =
    if_ok _ _ c.followed.result (λ v is. all_least c.args.groups.now c.groups.done c.lowest.result c.groups.after v.items
    c.groups.list.items (omega (arith, c.if-count-eq0.false)) c.groups-test.false c.groups.invariant.best c.lowest.ensures is)
    c.followed.ensures
