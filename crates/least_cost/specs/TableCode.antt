-- Tables as plain data.
use Rattle.std.specs.Prelude.{ℕ, List, Option, refl}
use Rattle.std.specs.Coded.{Coded, code_by, coded×, coded_ℕ, coded_list, coded_option}
use Rattle.rhythm_base.specs.declared.best.Best.{Best}
use Rattle.rhythm_base.specs.BarInputCode.{bar_input_code}
use Rattle.rhythm_base.specs.BarInput.{BarInput}
use Rattle.rhythm_base.specs.BarTables.{BarTable}
use Rattle.rhythm_base.specs.Ranked.{CarryMatrix}

abbrev pub best_code : Coded Best
best_code = code_by (ℕ × ℕ) (coded× coded_ℕ coded_ℕ) (λ b. (b.cost, b.rank)) (λ q. record { cost = q.0; rank = q.1 }) (λ _. refl)

abbrev pub table_code : Coded BarTable
table_code =
    code_by
    (CarryMatrix × (List (List (Option (List ℕ))) × BarInput))
    (coded× (coded_list (coded_list (coded_option best_code))) (coded× (coded_list (coded_list (coded_option (coded_list coded_ℕ)))) bar_input_code))
    (λ t. (t.matrix, (t.lists, t.input)))
    (λ q. record { matrix = q.0; lists = q.1.0; input = q.1.1 })
    (λ _. refl)
