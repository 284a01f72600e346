-- What a call that prepares a take answers.
use Rattle.std.specs.Prelude.{◌≡◌, Result, Ok, Err, ⊤}
use Rattle.performance_load.specs.Take.{Take}
use Rattle.performance_prepare.specs.declared.prepare_fault.PrepareFault.{PrepareFault}
use Rattle.performance_prepare.specs.declared.prepare_fault.PrepareFault.TheVariants.{Memory}

-- the take or the fault that is meant, but for want of memory
abbrev pub Answers : Result Take PrepareFault → Result Take PrepareFault → Type 0
Answers meant (Ok t) = meant ≡ Ok t
Answers meant (Err Memory) = ⊤
Answers meant (Err fault) = meant ≡ Err fault

-- one map after the other: after a fault nothing is done
infixl 10 ◌>>=◌
abbrev pub ◌>>=◌ : {A B : Type 0} → Result A PrepareFault → (A → Result B PrepareFault) → Result B PrepareFault
(Ok x) >>= next = next x
(Err fault) >>= next = Err fault
