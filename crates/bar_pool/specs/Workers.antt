-- What the workers of a seat have drawn and built.
use Rattle.std.specs.Prelude.{◌≡◌, ℕ, ◌<◌, ◌≤◌, List, [], ◌++◌, All, Some, Vec, IfOk, Result, length, map, slice_get}
use Rattle.atomic_table.specs.Table.{Me}
use Rattle.bar_pool.specs.declared.draws.SeatView.{SeatView}

-- a seat of this share, of so many inputs, that drew nothing and holds no slot
pub record IsFresh (me : Me ℕ SeatView) (count part : ℕ) : Type 0 where
  pub share : me.0.share ≡ part
  pub drawn : me.0.drawn ≡ []
  pub past : me.0.past ≡ 0
  pub inputs : me.0.inputs ≡ count
  pub slots : me.1 ≡ []

-- a seat of this share, of so many inputs, that holds no slot
pub record HasShare (me : Me ℕ SeatView) (count part : ℕ) : Type 0 where
  pub share : me.0.share ≡ part
  pub inputs : me.0.inputs ≡ count
  pub slots : me.1 ≡ []

-- there are workers, and each has a room
abbrev pub HaveRooms : {R : Type 0} → ℕ → List R → Type 0
HaveRooms workers rooms = (0 < workers) × (workers ≤ length rooms)

-- a seat with a share may take over another, and neither holds a slot
abbrev pub MayTakeOver : Me ℕ SeatView → Me ℕ SeatView → Type 0
MayTakeOver first second = (0 < first.0.share) × (first.1 ≡ []) × (second.1 ≡ [])

-- the numbers of numbered things
abbrev pub numbers : {T : Type 0} → List (ℕ × T) → List ℕ
numbers things = map (λ p. p.0) things

-- the thing is that of the number which stands at this place among the searched ones
abbrev pub IsNumbered : {T : Type 0} → (ℕ → T → Type 0) → List ℕ → ℕ × T → Type 0
IsNumbered Built searched numbered =
    (number : ℕ) → slice_get searched numbered.0 ≡ Some number → Built number numbered.1

-- the seat drew past the searched numbers, and there is a thing for each place that it drew before
pub record AreBuilt {T : Type 0} (Built : ℕ → T → Type 0) (searched : List ℕ) (me : Me ℕ SeatView) (built : List (ℕ × T)) : Type 0 where
  pub past : 0 < me.0.past
  pub numbers : numbers built ≡ me.0.drawn
  pub things : All (IsNumbered Built searched) built

abbrev pub HaveBuilt : {T A : Type 0} → (ℕ → T → Type 0) → List ℕ → Me ℕ SeatView → Vec (ℕ × T) A → Type 0
HaveBuilt Built searched me things = AreBuilt Built searched me things.items

-- the things of both, one after another
abbrev pub AreThingsOfBoth : {T A E : Type 0} → Result (Vec (ℕ × T) A) E → Result (Vec (ℕ × T) A) E → Result (Vec (ℕ × T) A) E → Type 0
AreThingsOfBoth first second things = IfOk things (λ v. IfOk first (λ a. IfOk second (λ b. v.items ≡ a.items ++ b.items)))
