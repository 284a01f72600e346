-- The cells that a change of a performance reaches: those with another input than before.
use Rattle.std.specs.Prelude.{◌≡◌, ◌≢◌, ℕ, ◌<◌, ◌≤◌, ◌⊎◌, ◌↔◌, List, [], ◌∷◌, Contains, length, slice_get, Some, MatchResult}
use Rattle.rhythm_base.specs.declared.chord.Chord.{Chord}
use Rattle.rhythm_base.specs.declared.edit.Edit.{Edit}
use Rattle.rhythm_base.specs.BarInput.{BarInput}
use Rattle.rhythm_base.specs.Cells.{input}
use Rattle.edit_laws.specs.Edits.{edited}
use Rattle.rhythm_base.specs.Leaves.{VoiceBar, soundings}
use Rattle.rhythm_base.specs.Lists.{AreInOrder}
use Rattle.rhythm_base.specs.Performance.{Performance}
use Rattle.rhythm_base.specs.Grammar.{Grammar}
use Rattle.rhythm_base.specs.Voices.{AreChordsOf, voice_bars}

-- the input of the cell of that voice and bar
pub record IsInputOf (g : Grammar) (p : Performance) (channel bar : ℕ) (k : BarInput) : Type 0 where
  pub chords : List Chord
  pub are_chords : AreChordsOf g p channel chords
  pub cell_bar : VoiceBar
  pub there : slice_get (voice_bars g p channel) bar ≡ Some cell_bar
  pub is : k ≡ input g cell_bar (soundings chords)

-- the cell is new, or its input is another one
abbrev pub HasNewInput : Grammar → Performance → Performance → ℕ → ℕ → Type 0
HasNewInput g before after channel bar =
    (length before.bars ≤ bar)
    ⊎ ((k l : BarInput) × IsInputOf g before channel bar k × IsInputOf g after channel bar l × (k ≢ l))

-- the cell is one of the performance afterwards, and is new or has another input than before
abbrev pub IsReached : Grammar → Performance → Performance → ℕ → ℕ → Type 0
IsReached g before after channel bar =
    Contains after.channels channel × (bar < length after.bars) × HasNewInput g before after channel bar

-- all reached cells, by voice and bar
pub record AreReached (g : Grammar) (before after : Performance) (cells : List (ℕ × ℕ)) : Type 0 where
  pub in_order : AreInOrder (λ c. c.0 ∷ c.1 ∷ []) cells
  pub exactly : (channel bar : ℕ) → Contains cells (channel, bar) ↔ IsReached g before after channel bar

-- The cells that an edit reaches, or would have reached. Where it is refused only because some voice would have no derivation,
-- these are the cells that the performance whose voices were tested reaches. Where it is refused otherwise there are none.
abbrev pub WouldReach : Grammar → Performance → Edit → List (ℕ × ℕ) → Type 0
WouldReach g p edit cells = MatchResult (edited p edit) (λ q. AreReached g p q cells) (λ fault. cells ≡ [])
