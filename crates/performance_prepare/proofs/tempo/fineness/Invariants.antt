use Rattle.std.proofs.Common.{◌≡◌, ◌≤◌, ◌-◌}
use Rattle.performance_prepare.specs.Tempo.{finer, fineness}
use Rattle.performance_prepare.proofs.tempo.fineness.Given as goal

abbrev pub invariant-loop-doubling : goal.invariant-loop-doubling
invariant-loop-doubling l = record { value : finer (13 - l._doubling) l.fn.division l.times ≡ fineness l.fn.division; few : l.times ≤ 8192 }
