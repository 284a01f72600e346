-- The cells of which the input is another one than that of their table.
use Rattle.std.specs.Prelude.{◌≡◌, ◌≢◌, ◌↔◌, ◌⊎◌, ℕ, ◌<◌, ◌≤◌, List, [], ◌∷◌, Contains, Some, length, map, max, slice_get}
use Rattle.edit_session.specs.declared.reached.CellPlace.{CellPlace}
use Rattle.rhythm_base.specs.BarInput.{BarInput}
use Rattle.rhythm_base.specs.BarTables.{BarTable}
use Rattle.rhythm_base.specs.Grammar.{Grammar}
use Rattle.rhythm_base.specs.Lists.{AreInOrder, Each}
use Rattle.rhythm_base.specs.Performance.{Performance}
use Rattle.edit_laws.specs.Reached.{AreReached, IsInputOf}

-- the voice and the bar of a cell
abbrev pub place_pair : CellPlace → ℕ × ℕ
place_pair c = (c.channel, c.bar)

-- all cells of which P holds, by voice and bar
pub record AreCellsWhere (P : ℕ → ℕ → Type 0) (cells : List (ℕ × ℕ)) : Type 0 where
  pub in_order : AreInOrder (λ c. c.0 ∷ c.1 ∷ []) cells
  pub exactly : (channel bar : ℕ) → Contains cells (channel, bar) ↔ P channel bar

-- there is no table for the bar, or it has another input
abbrev pub HasOtherInput : List BarTable → List BarInput → ℕ → Type 0
HasOtherInput tables inputs bar =
    (length tables ≤ bar) ⊎ ((x : BarTable) × (k : BarInput) × (slice_get tables bar ≡ Some x) × (slice_get inputs bar ≡ Some k) × (x.input ≢ k))

-- the cells of a voice, up to a bar, of which the input is another one than that of their table, and these inputs
pub record AreOtherInputs (channel : ℕ) (inputs : List BarInput) (tables : List BarTable) (bars : ℕ) (cells : List (ℕ × ℕ)) (others : List BarInput) : Type 0 where
  pub are : AreCellsWhere (λ c bar. (c ≡ channel) × (bar < bars) × HasOtherInput tables inputs bar) cells
  pub each : Each (λ c k. (c.0 ≡ channel) × (slice_get inputs c.1 ≡ Some k)) cells others

-- Where all inputs from one bar up to another are those of some list, and no bar before has another one than its table, the cells up
-- to there with another input are these.
abbrev pub AreOtherInputsWithin : ℕ → List BarInput → List BarTable → ℕ → ℕ → List (ℕ × ℕ) → List BarInput → Type 0
AreOtherInputsWithin channel some tables first end cells others =
    (inputs : List BarInput) → ((bar : ℕ) → first ≤ bar → bar < end → slice_get inputs bar ≡ slice_get some bar)
    → AreOtherInputs channel inputs tables first [] [] → AreOtherInputs channel inputs tables (max first end) cells others

-- the reached cells and their inputs
pub record AreReachedInputs (g : Grammar) (before after : Performance) (cells : List CellPlace) (inputs : List BarInput) : Type 0 where
  pub are : AreReached g before after (map place_pair cells)
  pub each : Each (λ c k. IsInputOf g after c.0 c.1 k) (map place_pair cells) inputs
