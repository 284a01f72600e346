use Rattle.std.proofs.Common.{refl}
use Rattle.least_rows.proofs.RootRows.{bar-trees}
use Rattle.least_rows.proofs.room.keep_quiet.Goals as goal

pub returns : goal.returns
returns c =
    let q = c.in_ok-found.found in
    bar-trees c.args.grammar.now c.args.input.now q.bests.rows c.in_ok-found.ensures.rows
    (record { bests = q.bests; lists = record { rules = c.quiet_trees.new.rules; ends = q.ends } })
    c.in_ok-found.ensures.long refl c.in_ok-found.ensures.written
