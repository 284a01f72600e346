-- When two matrices may be multiplied.
use Rattle.std.specs.Prelude.{◌≡◌, ℕ, ◌+◌, ◌^◌, ◌<◌, Some}
use Rattle.rhythm_base.specs.declared.best.Best.{Best}
use Rattle.rhythm_base.specs.Ranked.{CarryMatrix, at}

-- each cost of a and each of b add up to less than 2 ^ 62
abbrev pub HaveLowSums : CarryMatrix → CarryMatrix → Type 0
HaveLowSums a b = (i j k l : ℕ) (x y : Best) → at a i j ≡ Some x → at b k l ≡ Some y → x.cost + y.cost < 2 ^ 62
