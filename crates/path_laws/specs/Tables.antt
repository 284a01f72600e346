-- Lists of ranked matrices, and the least key of a set.
use Rattle.std.specs.Prelude.{◌≡◌, false, List, [], ◌∷◌, Option, Some, None}
use Rattle.rhythm_base.specs.Paths.{IsRanked}
use Rattle.rhythm_base.specs.Ranked.{CarryMatrix, Key, is_before}

abbrev pub AllRanked : List CarryMatrix → Type 0
AllRanked [] = Unit {0}
AllRanked (e ∷ es) = IsRanked e × AllRanked es

-- the least key of a set, or that the set is empty
abbrev pub IsLeastKey : (Key → Type 0) → Option Key → Type 0
IsLeastKey S None = (k : Key) → S k → ⊥
IsLeastKey S (Some x) = S x × ((k : Key) → S k → is_before k x ≡ false)
