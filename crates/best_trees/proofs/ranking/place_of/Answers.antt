use Rattle.std.proofs.Common.{◌≡◌, ◌∙◌, ◌++◌, ◌-◌, get_or, sym, ap, arith}
use Rattle.std.specs.declared.cmp.Ordering.TheVariants.{Equal, Greater}
use Rattle.rhythm_base.specs.Ranked.{Key, key_cmp}
use Rattle.best_trees.proofs.Offers.{key_there, place_after}
use Rattle.best_trees.proofs.ranking.place_of.Goals as goal

pub returns-in-Equal : goal.returns-in-Equal
returns-in-Equal c =
    let k : Key = (c.args.cost, (c.args.top.now ++ c.args.first.now) ++ c.args.last.now) in
    let some = c.back-test.true in
    let within = c.back.invariant.within in
    let is : Equal ≡ key_cmp k (get_or c.args.entries.now (c.back.place - 1) c.index-entries-place.result) = sym c.in-Equal.is ∙ c.order.ensures ∙ ap (key_cmp k) c.index-entries-place.is in
    key_there c.args.entries.now k (c.back.place - 1) c.index-entries-place.result (omega (arith, some, within)) is

pub returns-in-Greater : goal.returns-in-Greater
returns-in-Greater c =
    let k : Key = (c.args.cost, (c.args.top.now ++ c.args.first.now) ++ c.args.last.now) in
    let is : Greater ≡ key_cmp k (get_or c.args.entries.now (c.back.place - 1) c.index-entries-place.result) = sym c.in-Greater.is ∙ c.order.ensures ∙ ap (key_cmp k) c.index-entries-place.is in
    place_after c.args.entries.now k c.back.place c.index-entries-place.result c.requires c.back-test.true c.back.invariant.within is c.back.invariant.high
