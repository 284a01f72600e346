-- Tables of cells as plain values and back.
use Rattle.std.specs.Prelude.{ℕ, refl}
use Rattle.std.specs.Coded.{Coded, code_by, coded×, coded_ℕ}
use Rattle.least_cost.specs.TableCode.{table_code}
use Rattle.edit_session.specs.Prepared.{CellTable}
use Rattle.rhythm_base.specs.BarTables.{BarTable}

abbrev pub cell_table_code : Coded CellTable
cell_table_code =
    code_by (ℕ × (ℕ × BarTable)) (coded× coded_ℕ (coded× coded_ℕ table_code)) (λ x. (x.channel, (x.bar, x.table))) (λ q. record { channel = q.0; bar = q.1.0; table = q.1.1 })
    (λ _. refl)
