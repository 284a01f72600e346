-- What is said of keys of which no more is known than their sides.
use Rattle.std.specs.Prelude.{◌≡◌, ℕ, List}
use Rattle.performance_prepare.specs.Middle.{keys_below, keys_from, parting}
use Rattle.performance_prepare.specs.Sides.{IsSide}
use Rattle.performance_prepare.specs.declared.middle.Side.{Side}

-- how well the border parts keys that has these sides
abbrev pub IsPartingOf : Side → Side → ℕ → Type 0
IsPartingOf below above value =
    (keys : List ℕ) (border : ℕ) → IsSide (keys_below border keys) below.count below.sum
    → IsSide (keys_from border keys) above.count above.sum → value ≡ parting keys border

-- the same by the side below it and all keys
abbrev pub IsPartingBelow : Side → Side → ℕ → Type 0
IsPartingBelow below all value =
    (keys : List ℕ) (border : ℕ) → IsSide (keys_below border keys) below.count below.sum → IsSide keys all.count all.sum
    → value ≡ parting keys border
