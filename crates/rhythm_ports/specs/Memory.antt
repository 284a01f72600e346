-- What contracts see of the objects in memory.
use Rattle.std.specs.Prelude.{ℕ, List}
use Rattle.rhythm_ports.specs.Calls.{Calls}
use Rattle.rhythm_ports.specs.Files.{File}

-- a source: the bytes to come
pub record MemSourceState : Type 0 where
  pub rest : List ℕ
  pub calls : Calls

-- a sink: the bytes written
pub record MemSinkState : Type 0 where
  pub bytes : List ℕ
  pub calls : Calls

-- a shelf: its files, the rest of the chosen one, and how often a name was opened that they lack
pub record MemShelfState : Type 0 where
  pub files : List File
  pub rest : List ℕ
  pub calls : Calls
  pub strays : ℕ

-- a source that never fails
pub record SureSourceState : Type 0 where
  pub rest : List ℕ
  pub most : ℕ

-- a shelf that never fails
pub record SureShelfState : Type 0 where
  pub files : List File
  pub rest : List ℕ
  pub most : ℕ
  pub strays : ℕ
