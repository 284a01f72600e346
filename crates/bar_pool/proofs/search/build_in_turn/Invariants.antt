use Rattle.std.proofs.Common.{◌≡◌, take}
use Rattle.rhythm_base.specs.Counter.{risen}
use Rattle.rhythm_base.specs.Lists.{Each}
use Rattle.bar_pool.proofs.search.build_in_turn.Given as goal

abbrev pub invariant-cells : goal.invariant-cells
invariant-cells g l = Each (g.J.Job.built l.job) (take l.place l.searched) l.built.items × (l.builds ≡ risen l.initial.builds l.place)
