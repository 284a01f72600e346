-- What the answers to edits rest on.
use Rattle.std.specs.Prelude.{◌≡◌, ℕ, List}
use Rattle.rhythm_base.specs.declared.chord.Chord.{Chord}
use Rattle.tree_laws.specs.Alternatives.{AreAlternatives}
use Rattle.rhythm_base.specs.Forest.{Tree}
use Rattle.rhythm_base.specs.Leaves.{soundings}
use Rattle.rhythm_base.specs.Performance.{IsWellFormed, Performance}
use Rattle.edit_laws.specs.Reached.{AreReached}
use Rattle.rhythm_base.specs.Grammar.{Grammar}
use Rattle.rhythm_base.specs.Voices.{AreChordsOf, HasDerivation, IsCostOf, IsDeadVoice, voice_bars}

-- by the grammar a well-formed performance has one dead voice and bar at most, and no derivation of that voice; one cost; one
-- list of cells that a change reaches; and one list of alternatives of a bar
pub record AnswersOfEditsAreOne (g : Grammar) : Type 0 where
  pub dead : (p : Performance) (channel bar channel' bar' : ℕ) → IsWellFormed p → IsDeadVoice g p channel bar → IsDeadVoice g p channel' bar'
      → (channel ≡ channel') × (bar ≡ bar')
  pub none : (p : Performance) (channel bar : ℕ) → IsWellFormed p → IsDeadVoice g p channel bar → HasDerivation g p channel → ⊥
  pub costs : (p : Performance) (sum sum' : ℕ) → IsWellFormed p → IsCostOf g p sum → IsCostOf g p sum' → sum ≡ sum'
  pub reached : (p q : Performance) (cells cells' : List (ℕ × ℕ)) → IsWellFormed p → IsWellFormed q → AreReached g p q cells → AreReached g p q cells'
      → cells ≡ cells'
  pub alternatives : (p : Performance) (channel bar count : ℕ) (chords : List Chord) (list list' : List (ℕ × Tree)) → IsWellFormed p
      → AreChordsOf g p channel chords → AreAlternatives g (voice_bars g p channel) (soundings chords) bar count list
      → AreAlternatives g (voice_bars g p channel) (soundings chords) bar count list' → list ≡ list'
