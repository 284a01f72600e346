-- The keys on a side of a border: how many there are, and their sum.
use Rattle.std.specs.Prelude.{◌≡◌, ℕ, ◌-◌, ◌*◌, ◌≤◌, ◌==◌, List, filter, length}
use Rattle.std.specs.List.{sum}
use Rattle.rhythm_base.specs.declared.limits.TheConstants.{MOST_NOTES}

abbrev pub keys_at : ℕ → List ℕ → List ℕ
keys_at key keys = filter (λ k. k == key) keys

pub record IsSide (keys : List ℕ) (count total : ℕ) : Type 0 where
  pub all : count ≡ length keys
  pub value : total ≡ sum keys

-- a side can be one of so many keys: there are few, and none is above 127
pub record AreOfKeys (count total : ℕ) : Type 0 where
  pub few : count ≤ MOST_NOTES
  pub low : total ≤ 127 * count

-- some of all keys, and none is above 127
pub record ArePart (count total n s : ℕ) : Type 0 where
  pub few : count ≤ n
  pub low : total ≤ 127 * count
  pub within : total ≤ s
  pub high : s - total ≤ 127 * (n - count)
