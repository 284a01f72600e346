-- Which inputs a map knows, and by which numbers.
use Rattle.std.specs.Prelude.{◌≡◌, ◌≢◌, ℕ, ◌<◌, List, Option, Some, None, slice_get}
use Rattle.std.specs.HashMap.{HashMap, get}
use Rattle.bar_pool.specs.Equal.{same_input}
use Rattle.bar_pool.specs.Sources.{IsBare}
use Rattle.bar_pool.specs.declared.input_key.InputKey.{InputKey}
use Rattle.rhythm_base.specs.BarInput.{BarInput}

-- the number that the map has for inputs that are equal to this one
abbrev pub number_of : {S : Type 0} → HashMap InputKey ℕ S → InputKey → Option ℕ
number_of m key = get (λ a b. same_input a.input.now b.input.now) m key

-- The map has numbers below n of inputs that are equal, and it has one for each input below n that is not bare.
pub record KnowsInputs {S : Type 0} (inputs : List BarInput) (n : ℕ) (m : HashMap InputKey ℕ S) : Type 0 where
  pub equal : (key : InputKey) (number : ℕ) → number_of m key ≡ Some number
      → (number < n) × (slice_get inputs number ≡ Some key.input.now)
  pub each : (key : InputKey) (number : ℕ) → number < n → slice_get inputs number ≡ Some key.input.now
      → ¬ (IsBare key.input.now) → number_of m key ≢ None
