-- Files by their names.
use Rattle.std.specs.Prelude.{◌≡◌, ◌≢◌, ℕ, Bool, List, [], ◌∷◌, Option, Some, None, is_none, unwrap_or, ⊤, if◌then◌else◌}
use Rattle.std.specs.Str.{bytes_eq}
use Rattle.rhythm_ports.specs.Counts.{count_after}

-- a file: its name as UTF-8, and its bytes
pub record File : Type 0 where
  pub name : List ℕ
  pub bytes : List ℕ

-- the file has the name
abbrev pub has_name : List ℕ → File → Bool
has_name name f = bytes_eq f.name name

-- the bytes of the file of the name
abbrev pub file_of : List File → List ℕ → Option (List ℕ)
file_of [] name = None
file_of (f ∷ fs) name = if has_name name f then Some f.bytes else file_of fs name

-- the files with one more, in place of one of its name
abbrev pub put_file : List File → List ℕ → List ℕ → List File
put_file [] name bytes = record { name = name; bytes = bytes } ∷ []
put_file (f ∷ fs) name bytes = if has_name name f then record f { bytes = bytes } ∷ fs else f ∷ put_file fs name bytes

-- a put, after which the name has the new bytes, and each other name has what it had
pub record PutsFile (old new : List File) (name bytes : List ℕ) : Type 0 where
  pub files : new ≡ put_file old name bytes
  pub named : file_of new name ≡ Some bytes
  pub others : (other : List ℕ) → other ≢ name → file_of new other ≡ file_of old other

-- after an open the rest is the file's bytes, and no bytes where there is no such file
abbrev pub Opens : Option (List File) → List ℕ → Option (List ℕ) → Type 0
Opens None name rest = ⊤
Opens (Some files) name rest = rest ≡ Some (unwrap_or (file_of files name) [])

-- how many strays there are after an open of a name: an absent one is a stray
abbrev pub strays_after : List File → List ℕ → ℕ → ℕ
strays_after files name before = count_after before (is_none (file_of files name))

-- an open of a name that the files have is no stray
abbrev pub KeepsStrays : Option (List File) → List ℕ → ℕ → ℕ → Type 0
KeepsStrays None name before now = ⊤
KeepsStrays (Some files) name before now = file_of files name ≢ None → now ≡ before
