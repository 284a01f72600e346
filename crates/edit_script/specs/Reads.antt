-- How a reading may end.
use Rattle.std.specs.Prelude.{Result, Ok, Err}
use Rattle.edit_script.specs.declared.line_fault.LineFault.{LineFault}
use Rattle.edit_script.specs.declared.line_fault.LineFault.TheVariants.{BadLine, Memory}

-- a value of the kind; a bad line exactly where there is no such value; want of memory only where it may come
abbrev pub Reads : {T : Type 0} → (T → Type 0) → Type 0 → Result T LineFault → Type 0
Reads Is MayWant (Ok x) = Is x
Reads {T} Is MayWant (Err BadLine) = (x : T) → Is x → ⊥
Reads Is MayWant (Err Memory) = MayWant
