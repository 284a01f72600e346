-- Bars of tests.
use Rattle.std.specs.Prelude.{ℕ}
use Rattle.rhythm_base.specs.declared.note.Bar.{Bar}

-- a bar of so many quarters
abbrev pub quarter_bar : ℕ → ℕ → Bar
quarter_bar start num = record { start = start; num = num; den = 4 }
