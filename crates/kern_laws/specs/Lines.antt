-- The lines of a **kern text, as its reader keeps them.
use Rattle.std.specs.Prelude.{None}
use Rattle.kern_reader.specs.Lines.{data_line}

abbrev pub type_of : {X : Type 0} → X → Type 0
type_of {X} x = X

-- the reader calls them so, and shows them by what says them
abbrev pub KernLine : Type 0
KernLine = type_of (data_line None)
