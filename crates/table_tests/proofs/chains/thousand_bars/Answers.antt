use Rattle.std.proofs.Common.{rules, subst, sym, ◌≡◌, replicate}
use Rattle.rhythm_base.specs.Paths.{AreCheap}
use Rattle.table_tests.proofs.Replicas.{AreCheap-replicate}
use Rattle.table_tests.proofs.chains.thousand_bars.Goals as goal

pub returns-clause-cheap : goal.returns-clause-cheap
returns-clause-cheap c =
    let items : c.in_ok-vec.field-0.items ≡ replicate 1000 c.open_bar-bar.result = search rules in
    subst (AreCheap 500000000000) (sym items) (AreCheap-replicate 500000000000 1000 c.open_bar-bar.result c.open_bar-bar.ensures)
