-- The names of the faults.
use Rattle.std.specs.Prelude.{ℕ, List, codes}
use Rattle.kern_reader.specs.declared.fault.KernWhat.{KernWhat}
use Rattle.kern_reader.specs.declared.fault.KernWhat.TheVariants as what

abbrev pub fault_name : KernWhat → List ℕ
fault_name what.Head = codes "Head"
fault_name what.End = codes "End"
fault_name what.Width = codes "Width"
fault_name what.Token = codes "Token"
fault_name what.Grid = codes "Grid"
fault_name what.Place = codes "Place"
fault_name what.Grace = codes "Grace"
fault_name what.Bar = codes "Bar"
fault_name what.Tie = codes "Tie"
fault_name what.Memory = codes "Memory"
