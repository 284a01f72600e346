-- The laws, each as one statement over the definitions.
use Rattle.std.specs.Prelude.{◌≡◌, ◌≢◌}
use Rattle.edit_session.specs.Opening.{CanOpen, IsOpenFault}
use Rattle.edit_session.specs.declared.open_fault.OpenFault.{OpenFault}
use Rattle.edit_session.specs.declared.open_fault.OpenFault.TheVariants.{Memory}
use Rattle.rhythm_base.specs.Grammar.{Grammar}
use Rattle.rhythm_base.specs.Performance.{IsWellFormed, Performance}
use Rattle.rhythm_base.specs.Readable.{IsReadable}

-- a performance can be opened or has one fault, and not both, but for want of memory
pub record OpeningsAreOne : Type 0 where
  pub fault : (g : Grammar) (p : Performance) (a b : OpenFault) → IsReadable g → IsWellFormed p → a ≢ Memory → b ≢ Memory
      → IsOpenFault g p a → IsOpenFault g p b → a ≡ b
  pub either : (g : Grammar) (p : Performance) (a : OpenFault) → IsReadable g → IsWellFormed p → a ≢ Memory → CanOpen g p → IsOpenFault g p a → ⊥
