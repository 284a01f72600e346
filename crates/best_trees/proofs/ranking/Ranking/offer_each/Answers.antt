use Rattle.std.proofs.Common.{◌≡◌, ◌∙◌, ◌+◌, ◌++◌, ap, map, subst, sym}
use Rattle.std.specs.Prelude.{AllPairs}
use Rattle.rhythm_base.specs.Ranked.{Key, plus}
use Rattle.best_trees.specs.Firsts.{AreKeptKeys, IsBefore, IsPast, all_offered, offered}
use Rattle.best_trees.proofs.Offers.{each-next, each-past, offered-kept, offered-past}
use Rattle.best_trees.proofs.ranking.Ranking.offer_each.Goals as goal

pub others-preserved : goal.others-preserved
others-preserved c =
    let n = c.args.count in
    let x : Key = c.other-item.result in
    let k : Key = (c.args.cost, c.args.top.now ++ c.args.rules.now) in
    let is : c.offer.new.self ≡ offered n (plus k x) c.others.self = c.in_ok-offer.ensures.kept ∙ (λ i. offered n (c.args.cost + c.cost.ensures i, (c.args.top.now ++ c.args.rules.now) ++ c.rules.ensures i) c.others.self) in
    record {
      kept = subst (AreKeptKeys n) (sym is) (offered-kept n (plus k x) c.others.self c.others.invariant.kept);
      so_far = each-next n c.deref-other-items.result.now c.others.other-index x c.others-test.true c.other-item.is k c.others.self c.offer.new.self is ∙ c.others.invariant.so_far;
    }

pub returns-then-not-branch : goal.returns-then-not-branch
returns-then-not-branch c =
    let n = c.args.count in
    let x : Key = c.other-item.result in
    let k : Key = (c.args.cost, c.args.top.now ++ c.args.rules.now) in
    let items = c.deref-other-items.result.now in
    let is : c.offer.new.self ≡ offered n (plus k x) c.others.self = c.in_ok-offer.ensures.kept ∙ (λ i. offered n (c.args.cost + c.cost.ensures i, (c.args.top.now ++ c.args.rules.now) ++ c.rules.ensures i) c.others.self) in
    let read : ◌≡◌ {A = Key} (c.args.cost + c.cost.result, (c.args.top.now ++ c.args.rules.now) ++ c.rules.result.now) (plus k x) = λ i. (c.args.cost + c.cost.ensures i, (c.args.top.now ++ c.args.rules.now) ++ c.rules.ensures i) in
    let past : IsPast n (plus k x) c.others.self = subst (λ key. IsPast n key c.others.self) read (c.in_ok-offer.ensures.past c.if-not-branch.true) in
    let all : items ≡ c.args.others.now = c.deref-other-items.ensures.value ∙ c.others-2.view_is in
    let order : AllPairs IsBefore items = subst (AllPairs IsBefore) (sym all) c.requires.others.in_order in
    is ∙ offered-past n (plus k x) c.others.self c.others.invariant.kept past ∙ sym (each-past n k x items c.others.self c.others.other-index c.others-test.true c.other-item.is order c.others.invariant.kept past) ∙ c.others.invariant.so_far ∙ ap (λ l. all_offered n (map (plus k) l) c.args.self.now) all
