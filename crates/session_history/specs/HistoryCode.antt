-- Histories as plain values and back.
use Rattle.std.specs.Prelude.{ℕ, refl}
use Rattle.std.specs.Coded.{Coded, code_by, coded×, coded_ℕ}
use Rattle.rhythm_base.specs.Performance.{Performance}
use Rattle.rhythm_base.specs.PerformanceCode.{performance_code}
use Rattle.session_history.specs.History.{Step}

abbrev pub step_code : Coded Step
step_code =
    code_by (Performance × ℕ) (coded× performance_code coded_ℕ) (λ s. (s.performance, s.size))
    (λ q. record { performance = q.0; size = q.1 }) (λ _. refl)
