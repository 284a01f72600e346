-- Files in memory, of which one may be chosen.
use Rattle.std.specs.Prelude.{ℕ, List, [], drop, slice_get, Option, Some, None}
use Rattle.rhythm_ports.specs.Files.{File}

-- the files, and the rest of the chosen one
pub record Stock : Type 0 where
  pub files : List File
  pub rest : List ℕ

abbrev pub bytes_of : Option File → List ℕ
bytes_of None = []
bytes_of (Some f) = f.bytes

-- what is left of the file at a place
abbrev pub rest_at : List File → Option ℕ → ℕ → List ℕ
rest_at fs None at = []
rest_at fs (Some i) at = drop at (bytes_of (slice_get fs i))
