-- What was found so far, and for which intervals.
use Rattle.std.specs.HashMap.{get}
use Rattle.std.specs.Int.RustNames.{bit_or}
use Rattle.std.specs.Prelude.{⊤, ◌≡◌, ◌≢◌, ◌+◌, ◌*◌, ◌%◌, ◌^◌, ◌<◌, ℕ, List, [], ◌∷◌, ◌++◌, length, min, nat_eq, slice_get, Some}
use Rattle.rhythm_base.specs.Ranked.{Key}
use Rattle.tree_laws.specs.Forests.{Ground}
use Rattle.row_laws.specs.QuietTrees.{IsQuiet}
use Rattle.best_trees.specs.declared.memo.Family.{Family}
use Rattle.best_trees.specs.declared.memo.Found.{Found}
use Rattle.best_trees.specs.declared.memo.LastParts.{LastParts}
use Rattle.best_trees.specs.declared.memo.LastParts.TheVariants.{One, Several}
use Rattle.best_trees.specs.declared.memo.Memo.{Memo}
use Rattle.best_trees.specs.declared.memo.Site.{Site}
use Rattle.best_trees.specs.declared.memo.Site.TheVariants.{From, Wherever}
use Rattle.best_trees.specs.declared.pins.Demand.{Demand}
use Rattle.best_trees.specs.declared.pins.Demand.TheVariants.{Any, Nothing, Shapes}
use Rattle.row_laws.specs.declared.quiet.Quiet.TheVariants.{Silent, Sounding}

-- the w units from the unit p on lie there
abbrev pub LiesAt : Ground → Site → ℕ → ℕ → Type 0
LiesAt d (From q) p w = p ≡ q
LiesAt d (Wherever quiet) p w = IsQuiet quiet d p w

-- this number is that of what was found for the family
abbrev pub HasFound : List Found → Family → ℕ → Type 0
HasFound xs family n = (x : Found) × (slice_get xs n ≡ Some x) × (x.family ≡ family)

-- ---- codes, by which families are known

-- one of two numbers where an interval is quiet, and another for each unit
abbrev pub site_code : Site → ℕ
site_code (Wherever Silent) = 0
site_code (Wherever Sounding) = 1
site_code (From p) = p + 2

-- a number for each demand; those of the greatest numbers have one together
abbrev pub demand_code : Demand → ℕ
demand_code Any = 0
demand_code Nothing = 1
demand_code (Shapes n) = min (n + 2) 4294967295

-- a family's site, width, symbol and demand, each in its own bits of a number of 64
unfoldable pub family_code : Family → ℕ
family_code x = bit_or (bit_or (bit_or (site_code x.site * 2 ^ 52 % 2 ^ 64) (x.width * 2 ^ 40 % 2 ^ 64)) (x.symbol * 2 ^ 32 % 2 ^ 64)) (demand_code x.demand)

-- the family is known under this number: its code has the number, and what was found under it is its own
pub record IsKnownAs (memo : Memo) (family : Family) (n : ℕ) : Type 0 where
  pub number : get nat_eq memo.numbers (family_code family) ≡ Some n
  pub found : HasFound memo.found.items family n

-- under none
abbrev pub IsUnknown : Memo → Family → Type 0
IsUnknown memo family = (n : ℕ) → IsKnownAs memo family n → ⊥

-- families of other codes are known as before
abbrev pub KeepsKnown : Memo → Memo → Family → Type 0
KeepsKnown old new family = (other : Family) (n : ℕ) → family_code other ≢ family_code family → IsKnownAs old other n → IsKnownAs new other n

-- ---- what is found besides

-- this, and nothing else, was found besides
abbrev pub AddsFound : List Found → List Found → Family → List (List Key) → Type 0
AddsFound xs ys family grid = (x : Found) × (ys ≡ xs ++ x ∷ []) × (x.family ≡ family) × (x.grid ≡ grid)

-- what stands under a number stays there
abbrev pub KeepsFound : List Found → List Found → Type 0
KeepsFound xs ys = (n : ℕ) (x : Found) → slice_get xs n ≡ Some x → slice_get ys n ≡ Some x

-- what they refer to was found
abbrev pub AreThere : List Found → LastParts → Type 0
AreThere xs (One n) = n < length xs
AreThere xs (Several own) = ⊤

-- this is their grid
abbrev pub IsGridOf : List Found → LastParts → List (List Key) → Type 0
IsGridOf xs (One n) grid = (x : Found) → slice_get xs n ≡ Some x → x.grid ≡ grid
IsGridOf xs (Several own) grid = own ≡ grid
