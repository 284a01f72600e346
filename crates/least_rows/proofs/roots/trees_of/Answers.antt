use Rattle.std.proofs.Common.{refl}
use Rattle.least_rows.proofs.PlanSeats.{on_ok}
use Rattle.least_rows.proofs.RootRows.{all-asked, bar-trees}
use Rattle.least_rows.proofs.roots.trees_of.Goals as goal

pub write_rows-requires-clause-texts : goal.write_rows-requires-clause-texts
write_rows-requires-clause-texts c t has = absurd (c.in_ok-clear.ensures t has)

pub returns : goal.returns
returns c =
    on_ok c.write_rows.result
    (λ h. bar-trees c.args.search.now.grammar.now c.args.search.now.input.now c.find_bests.new.bests.rows (all-asked c.args.search.now.grammar.now c.args.search.now.input.now c.find_bests.new.bests.rows c.in_ok-find_bests.ensures.bests) (record { bests = c.find_bests.new.bests; lists = c.write_rows.new.lists }) c.in_ok-find_bests.ensures.long refl h)
    c.write_rows.ensures
