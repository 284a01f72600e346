-- The input of a cell as plain values and back.
use Rattle.std.specs.Prelude.{ℕ, List, Option, refl}
use Rattle.std.specs.Coded.{Coded, code_by, coded×, coded_ℕ, coded_list, coded_option}
use Rattle.rhythm_base.specs.declared.inner.Inner.{Inner}
use Rattle.rhythm_base.specs.ShapeCode.{shape_code}
use Rattle.rhythm_base.specs.Shape.{Shape}
use Rattle.rhythm_base.specs.BarInput.{BarInput}

abbrev pub inner_code : Coded Inner
inner_code = code_by (ℕ × ℕ) (coded× coded_ℕ coded_ℕ) (λ c. (c.onset, c.end)) (λ q. record { onset = q.0; end = q.1 }) (λ _. refl)

abbrev pub bar_input_code : Coded BarInput
bar_input_code =
    code_by
    (ℕ × (ℕ × (ℕ × (ℕ × (ℕ × (List Inner × (ℕ × Option Shape)))))))
    (coded× coded_ℕ (coded× coded_ℕ (coded× coded_ℕ (coded× coded_ℕ (coded× coded_ℕ (coded× (coded_list inner_code) (coded× coded_ℕ (coded_option shape_code))))))))
    (λ k. (k.symbol, (k.resolution, (k.num, (k.den, (k.length, (k.chords, (k.before, k.pin))))))))
    (λ q. record { symbol = q.0; resolution = q.1.0; num = q.1.1.0; den = q.1.1.1.0; length = q.1.1.1.1.0; chords = q.1.1.1.1.1.0; before = q.1.1.1.1.1.1.0; pin = q.1.1.1.1.1.1.1 })
    (λ _. refl)
