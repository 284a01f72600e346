-- What is told at one moment of what is lent to a run: the shelf, the script, out and err, and the counters.
use Rattle.std.specs.Prelude.{ℕ, List, Option}
use Rattle.rhythm_ports.specs.Files.{File}

pub record Lent (S O E : Type 0) : Type 0 where
  -- the files of the shelf, where they are told; how often a name was opened that they lack; and the count of its faults
  pub files : Option (List File)
  pub strays : ℕ
  pub shelf_faults : ℕ
  -- the script, what is left of it, where it is told, and the count of its faults
  pub script : S
  pub rest : Option (List ℕ)
  pub script_faults : ℕ
  -- out, what it has taken, where it is told, and the count of its faults
  pub out : O
  pub taken : Option (List ℕ)
  pub out_faults : ℕ
  -- err, likewise
  pub err : E
  pub told : Option (List ℕ)
  pub err_faults : ℕ
  -- how many tables were built, and how many products made
  pub built : ℕ
  pub multiplied : ℕ
