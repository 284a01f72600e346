use Rattle.std.proofs.Common.{◌∙◌, ◌++◌, ap, subst}
use Rattle.std.specs.Prelude.{Contains}
use Rattle.std.specs.List.{insert}
use Rattle.rhythm_base.specs.Ranked.{Key}
use Rattle.best_trees.specs.Firsts.{IsPlace}
use Rattle.best_trees.proofs.Offers.{offered-far, offered-room, offered-there, placed-past}
use Rattle.best_trees.proofs.ranking.Ranking.offer.Goals as goal

pub returns-in_default-clause-kept : goal.returns-in_default-clause-kept
returns-in_default-clause-kept c =
    let k : Key = (c.args.cost, (c.args.top.now ++ c.args.first.now) ++ c.args.last.now) in
    let there : Contains c.args.self.now k = subst (λ xs. Contains xs k) (c.as_slice.ensures.value ∙ c.self.view_is) c.in_default.ensures in
    offered-there c.args.count k c.args.self.now c.requires there

pub returns-then-place-count-clause-kept : goal.returns-then-place-count-clause-kept
returns-then-place-count-clause-kept c =
    let k : Key = (c.args.cost, (c.args.top.now ++ c.args.first.now) ++ c.args.last.now) in
    let place : IsPlace c.args.self.now k c.in-Some.place = subst (λ xs. IsPlace xs k c.in-Some.place) (c.as_slice.ensures.value ∙ c.self.view_is) c.in-Some.ensures in
    offered-far c.args.count k c.args.self.now c.requires c.in-Some.place place c.if-place-count.true

pub returns-then-place-count-clause-past : goal.returns-then-place-count-clause-past
returns-then-place-count-clause-past c = λ far.
    let k : Key = (c.args.cost, (c.args.top.now ++ c.args.first.now) ++ c.args.last.now) in
    let place : IsPlace c.args.self.now k c.in-Some.place = subst (λ xs. IsPlace xs k c.in-Some.place) (c.as_slice.ensures.value ∙ c.self.view_is) c.in-Some.ensures in
    placed-past c.args.count k c.args.self.now c.requires c.in-Some.place place c.if-place-count.true

pub returns-clause-kept : goal.returns-clause-kept
returns-clause-kept c =
    let k : Key = (c.args.cost, (c.args.top.now ++ c.args.first.now) ++ c.args.last.now) in
    let place : IsPlace c.args.self.now k c.in-Some.place = subst (λ xs. IsPlace xs k c.in-Some.place) (c.as_slice.ensures.value ∙ c.self.view_is) c.in-Some.ensures in
    let entries = c.self-2.view_is ∙ c.room-rules.ensures.entries in
    let tops = c.in_ok-extend_from_slice.ensures.items ∙ ap (λ l. l ++ c.args.top.now) (c.reserve.ensures.items ∙ c.room-rules.ensures.list) in
    let firsts = c.in_ok-extend_from_slice-2.ensures.items ∙ ap (λ l. l ++ c.args.first.now) tops in
    let lists = c.in_ok-extend_from_slice-3.ensures.items ∙ ap (λ l. l ++ c.args.last.now) firsts in
    c.in_ok-insert.ensures.items
    ∙ (λ i. insert (entries i) c.in-Some.place (c.args.cost, lists i))
    ∙ offered-room c.args.count k c.args.self.now c.requires c.in-Some.place place c.if-place-count.false
