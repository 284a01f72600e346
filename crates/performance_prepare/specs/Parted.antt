-- What a border costs by how it parts the keys of a group.
use Rattle.std.specs.Prelude.{◌≡◌, ℕ, ◌+◌, ◌-◌, ◌*◌, ◌<◌, ◌≤◌, List, length, slice_index, Option, Some, None, min}
use Rattle.std.specs.List.{reduce}
use Rattle.rhythm_base.specs.Lists.{gap, greatest, least_of}
use Rattle.performance_prepare.specs.Groups.{held_beside, stretch}
use Rattle.performance_prepare.specs.Middle.{keys_below, keys_from}
use Rattle.performance_prepare.specs.declared.parted.Hand.{Hand}
use Rattle.performance_prepare.specs.declared.parted.TwoHands.{TwoHands}

-- 100 for each semitone above an octave of a hand, and 1,000 for each key that a hand holds where it strikes anew
abbrev pub parted_cost : List ℕ → List ℕ → ℕ → ℕ
parted_cost struck held border =
    100 * (stretch (keys_below border struck) + stretch (keys_from border struck))
    + 1000
    * (held_beside (keys_below border struck) (keys_below border held) + held_beside (keys_from border struck) (keys_from border held))

-- and 1 for each key that it is from the middle for each that is struck
abbrev pub place_cost : ℕ → List ℕ → List ℕ → ℕ → ℕ
place_cost middle struck held border = length struck * gap border middle + parted_cost struck held border

-- a key within five of the border costs 20 for each half key that it is nearer
abbrev pub near : ℕ → ℕ → ℕ
near key border = 20 * (10 - gap (2 * key + 1) (2 * border))

-- what is known of the keys of a hand: how many they are, and the lowest and the highest of them
pub record IsHand (keys : List ℕ) (hand : Hand) : Type 0 where
  pub all : hand.count ≡ length keys
  pub low : hand.lowest ≡ least_of keys
  pub high : hand.highest ≡ greatest keys

-- and of the keys below a border and the others
pub record AreTwoHands (border : ℕ) (keys : List ℕ) (hands : TwoHands) : Type 0 where
  pub left : IsHand (keys_below border keys) hands.left
  pub right : IsHand (keys_from border keys) hands.right

-- no border costs more than that
abbrev pub CostUpTo : ℕ → List ℕ → Type 0
CostUpTo most costs = (border : ℕ) → border < 129 → slice_index costs border ≤ most

-- each border costs so much more
abbrev pub CostMore : (ℕ → ℕ) → List ℕ → List ℕ → Type 0
CostMore f before after = (border : ℕ) → border < 129 → slice_index after border ≡ slice_index before border + f border

-- the borders from one up to another, but not that, cost so much more, and the others what they did
pub record AreRaised (first end more : ℕ) (before after : List ℕ) : Type 0 where
  pub low : (border : ℕ) → border < first → slice_index after border ≡ slice_index before border
  pub raised : (border : ℕ) → first ≤ border → border < end → border < 129 → slice_index after border ≡ slice_index before border + more
  pub high : (border : ℕ) → end ≤ border → border < 129 → slice_index after border ≡ slice_index before border

-- the borders from one on up to another cost so much by it
abbrev pub IsParting : List ℕ → List ℕ → ℕ → ℕ → ℕ → Type 0
IsParting struck held first last cost = (border : ℕ) → first ≤ border → border ≤ last → cost ≡ parted_cost struck held border

abbrev pub or_last : Option ℕ → ℕ
or_last None = 128
or_last (Some key) = key

-- the lowest of the keys at a border or above it, and the last border without one
abbrev pub next_key : ℕ → List ℕ → ℕ
next_key border keys = or_last (reduce min (keys_from border keys))
