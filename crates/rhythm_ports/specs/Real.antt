-- What contracts see of the real objects, which tell their callers no bytes.
use Rattle.std.specs.Prelude.{ℕ, Bool, List, [], Option, Some, None}

-- the bytes of the reader or the writer inside, where its type says them, and how many calls failed
pub record RealState : Type 0 where
  pub known : Option (List ℕ)
  pub faults : ℕ

-- the same of a shelf, and whether a file is chosen
pub record RealShelfState : Type 0 where
  pub is_open : Bool
  pub known : Option (List ℕ)
  pub faults : ℕ

-- where no file is chosen there are no bytes
abbrev pub chosen_bytes : {F : Type 0} → (F → Option (List ℕ)) → Option F → Option (List ℕ)
chosen_bytes bytes None = Some []
chosen_bytes bytes (Some file) = bytes file
