-- One leaf of a bar that begins at tick 0, and where an onset of the bar goes.
use Rattle.rhythm_base.specs.declared.limits.TheConstants.{LATEST_TICK, MOST_UNITS}
use Rattle.std.specs.Prelude.{ℕ, ◌+◌, ◌*◌, ◌<◌, ◌≤◌, IsTrue, ◌&&◌, not, None}
use Rattle.rhythm_base.specs.declared.rule.Ending.TheVariants.{Note}
use Rattle.rhythm_base.specs.Leaves.{Leaf, goes_left, lies_in}
use Rattle.interval.specs.declared.attachment.Attached.{Attached}
use Rattle.interval.specs.declared.attachment.Attached.TheVariants.{Before, Left, Right, After}

-- the leaf of w units from unit p on, in a bar of so many ticks. Its signature and its rule make no difference here
abbrev pub leaf_at : ℕ → ℕ → ℕ → Leaf
leaf_at length p w = record {
  bar = record { start = 0; length = length; num = 4; den = 4; symbol = 0; pin = None };
  part = record { ending = Note; place = p; width = w };
}

-- before the leaf, in it and attached to it, in it and attached to the next, or after it
abbrev pub IsSide : ℕ → ℕ → ℕ → ℕ → ℕ → Attached → Type 0
IsSide length r p w t Before = t * r < p * length
IsSide length r p w t Left = IsTrue (lies_in r (leaf_at length p w) t && goes_left r (leaf_at length p w) t)
IsSide length r p w t Right = IsTrue (lies_in r (leaf_at length p w) t && not (goes_left r (leaf_at length p w) t))
IsSide length r p w t After = (p + w) * length ≤ t * r

-- a bar of so many ticks and units
pub record IsBarOf (length r : ℕ) : Type 0 where
  pub some_tick : 1 ≤ length
  pub few_ticks : length ≤ LATEST_TICK
  pub some_unit : 1 ≤ r
  pub few_units : r ≤ MOST_UNITS

-- a leaf of units of such a bar
pub record IsLeafOf (length r p w : ℕ) : Type 0 where
  pub bar : IsBarOf length r
  pub wide : 1 ≤ w
  pub within : p + w ≤ r
