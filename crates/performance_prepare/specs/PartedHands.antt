-- What is said of keys of which no more is known than their hands.
use Rattle.std.specs.Prelude.{◌≡◌, ℕ, List, [], ◌∷◌, ◌++◌}
use Rattle.performance_prepare.specs.Groups.{held_beside}
use Rattle.performance_prepare.specs.Parted.{AreTwoHands, IsHand, next_key, parted_cost}
use Rattle.performance_prepare.specs.declared.parted.Hand.{Hand}
use Rattle.performance_prepare.specs.declared.parted.TwoHands.{TwoHands}

-- the hands when they get one key more
abbrev pub AreHandsWith : ℕ → ℕ → TwoHands → TwoHands → Type 0
AreHandsWith border key hands more = (keys : List ℕ) → AreTwoHands border keys hands → AreTwoHands border (keys ++ key ∷ []) more

-- a hand that strikes the one keeps so many keys of the other held
abbrev pub KeepHeld : Hand → Hand → ℕ → Type 0
KeepHeld struck held count = (keys others : List ℕ) → IsHand keys struck → IsHand others held → count ≡ held_beside keys others

-- what the border costs that parts what is struck and what is held into these hands
abbrev pub IsPartedCost : TwoHands → TwoHands → ℕ → Type 0
IsPartedCost struck held cost =
    (keys others : List ℕ) (border : ℕ) → AreTwoHands border keys struck → AreTwoHands border others held
    → cost ≡ parted_cost keys others border

-- the next key from the border on that parts keys into these hands
abbrev pub IsNextKey : TwoHands → ℕ → Type 0
IsNextKey hands key = (keys : List ℕ) (border : ℕ) → AreTwoHands border keys hands → key ≡ next_key border keys
