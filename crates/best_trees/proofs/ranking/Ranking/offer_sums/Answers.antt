use Rattle.std.proofs.Common.{◌≡◌, ◌∙◌, ◌+◌, ◌++◌, ap, map, refl, subst, sym}
use Rattle.std.specs.Prelude.{AllPairs, Some, slice_get}
use Rattle.rhythm_base.specs.Ranked.{Key, plus}
use Rattle.best_trees.specs.Firsts.{AreCheaper, AreKeptKeys, IsBefore, all_offered, sums_offered}
use Rattle.best_trees.proofs.Offers.{all-kept, none_first, sums-next, sums-none, sums-past}
use Rattle.best_trees.proofs.ranking.Ranking.offer_sums.Goals as goal

pub returns-in_default : goal.returns-in_default
returns-in_default c =
    let bare = none_first c.args.right.now (c.in_default.ensures.value ∙ ap (λ l. slice_get l 0) (c.deref.ensures.value ∙ c.right.view_is)) in
    let left = map (plus (c.args.cost, c.args.top.now)) c.args.left.now in
    sym (ap (λ l. sums_offered c.args.count left l c.args.self.now) bare ∙ sums-none c.args.count left c.args.self.now)

pub returns-then-are_cheaper : goal.returns-then-are_cheaper
returns-then-are_cheaper c =
    let n = c.args.count in
    let x : Key = c.first-item.result in
    let y : Key = c.in-Some.least.now in
    let top : Key = (c.args.cost, c.args.top.now) in
    let items = c.deref-first-items.result.now in
    let all : items ≡ c.args.left.now = c.deref-first-items.ensures.value ∙ c.left.view_is in
    let order : AllPairs IsBefore items = subst (AllPairs IsBefore) (sym all) c.requires.left.in_order in
    let at : slice_get c.args.right.now 0 ≡ Some y = sym (c.in-Some.ensures.value ∙ ap (λ l. slice_get l 0) (c.deref.ensures.value ∙ c.right.view_is)) in
    let cost : (c.args.cost + c.cost.result) + c.cost-in-firsts.result ≡ (c.args.cost + x.0) + y.0 = λ i. (c.args.cost + c.cost.ensures i) + c.cost-in-firsts.ensures i in
    let cheap : AreCheaper n ((c.args.cost + x.0) + y.0) c.firsts.self = subst (λ m. AreCheaper n m c.firsts.self) cost (c.if-are_cheaper.ensures refl) in
    sym (sums-past n items c.firsts.first-index x c.firsts-test.true c.first-item.is top y c.args.right.now c.firsts.self order c.requires.right.in_order at c.firsts.invariant.kept cheap)
    ∙ c.firsts.invariant.so_far ∙ ap (λ l. sums_offered n (map (plus top) l) c.args.right.now c.args.self.now) all

pub firsts-preserved : goal.firsts-preserved
firsts-preserved c =
    let n = c.args.count in
    let x : Key = c.first-item.result in
    let top : Key = (c.args.cost, c.args.top.now) in
    let right = c.args.right.now in
    let is : c.offer_each.new.self ≡ all_offered n (map (plus (plus top x)) right) c.firsts.self =
    c.in_ok-offer_each.ensures ∙ (λ i. all_offered n (map (plus (c.args.cost + c.cost.ensures i, c.args.top.now ++ c.rules.ensures i)) right) c.firsts.self) in
    record {
      kept = subst (AreKeptKeys n) (sym is) (all-kept n (map (plus (plus top x)) right) c.firsts.self c.firsts.invariant.kept);
      so_far = sums-next n c.deref-first-items.result.now c.firsts.first-index x c.firsts-test.true c.first-item.is top right c.firsts.self c.offer_each.new.self is ∙ c.firsts.invariant.so_far;
    }
