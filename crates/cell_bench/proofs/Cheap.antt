-- The matrices of tables are cheap.
use Rattle.std.proofs.Common.{List, [], ◌∷◌, sym, subst}
use Rattle.bar_pool.specs.Pool.{AreTablesOf}
use Rattle.chain_bars.specs.Laws.{matrices}
use Rattle.rhythm_base.specs.declared.limits.TheConstants.{DEAREST_CELL}
use Rattle.rhythm_base.specs.BarInput.{BarInput}
use Rattle.rhythm_base.specs.BarTables.{BarTable}
use Rattle.rhythm_base.specs.Grammar.{Grammar}
use Rattle.rhythm_base.specs.Paths.{AreCheap}
use Rattle.tree_laws.proofs.CheapTables.{table_cheap}

pub tables_cheap : (g : Grammar) (inputs : List BarInput) (tables : List BarTable) → AreTablesOf g inputs tables → AreCheap DEAREST_CELL (matrices tables)
tables_cheap g [] tables h = subst (λ ts. AreCheap DEAREST_CELL (matrices ts)) (sym h) tt
tables_cheap g (k ∷ inputs) [] h = absurd h
tables_cheap g (k ∷ inputs) (x ∷ tables) h = (table_cheap g x h.0.is, tables_cheap g inputs tables h.1)
