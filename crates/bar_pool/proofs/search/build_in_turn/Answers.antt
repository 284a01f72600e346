use Rattle.std.proofs.Common.{rules, ◌≡◌, ◌<◌, ◌+◌, ◌∷◌, ◌++◌, [], length, get_or, subst, sym, take}
use Rattle.rhythm_base.specs.Lists.{Each}
use Rattle.bar_pool.proofs.EachLemmas.{Each-more}
use Rattle.bar_pool.proofs.search.build_in_turn.Goals as goal

pub cells-preserved : goal.cells-preserved
cells-preserved g c =
    let Built = g.J.Job.built c.args.job.now in
    let searched = c.args.searched.now in
    let lt : c.cells.place < length searched = search rules in
    let of : Built (get_or searched c.cells.place 0) c.in_ok-build_searched.field-0 = c.in_ok-build_searched.ensures.built in
    let pushed : c.push.new.self.items ≡ c.cells.built.items ++ c.in_ok-build_searched.field-0 ∷ [] = search rules in
    let more = Each-more Built searched c.cells.built.items c.cells.place 0 c.in_ok-build_searched.field-0 lt c.cells.invariant.0 of in
    (subst (Each Built (take (c.cells.place + 1) searched)) (sym pushed) more, search rules)
