-- The alternatives of one bar of a voice: its best trees, with the bar's pin lifted and the others kept.
use Rattle.std.specs.Prelude.{◌≡◌, ℕ, ◌≤◌, ◌⊎◌, List, [], ◌∷◌, length, All, AllPairs, Contains, slice_get, Some, None}
use Rattle.std.proofs.Common.{zero, suc}
use Rattle.std.specs.declared.cmp.Ordering.TheVariants.{Less}
use Rattle.rhythm_base.specs.Cost.{cost}
use Rattle.rhythm_base.specs.Forest.{Tree, preorder_of}
use Rattle.rhythm_base.specs.Least.{rank_cmp}
use Rattle.rhythm_base.specs.Leaves.{FitsVoice, VoiceBar, soundings}
use Rattle.rhythm_base.specs.declared.inner.Inner.{Inner}
use Rattle.rhythm_base.specs.Grammar.{Grammar}
use Rattle.rhythm_base.specs.declared.chord.Chord.{Chord}
use Rattle.rhythm_base.specs.Performance.{Performance}
use Rattle.rhythm_base.specs.Voices.{AreChordsOf, voice_bars}

-- the bars with the pin of the bar of that number lifted
abbrev pub without_pin_at : ℕ → List VoiceBar → List VoiceBar
without_pin_at i [] = []
without_pin_at zero (bar ∷ bars) = record bar { pin = None } ∷ bars
without_pin_at (suc i) (bar ∷ bars) = bar ∷ without_pin_at i bars

-- a tree of the bar, with the least cost of a derivation of the voice that has it there
pub record IsAlternative (g : Grammar) (bars : List VoiceBar) (cs : List Inner) (i : ℕ) (a : ℕ × Tree) : Type 0 where
  pub trees : List Tree
  pub fits : FitsVoice g bars cs trees
  pub tree : slice_get trees i ≡ Some a.1
  pub total : a.0 ≡ cost g bars cs trees
  pub least : (us : List Tree) → FitsVoice g bars cs us → slice_get us i ≡ Some a.1 → a.0 ≤ cost g bars cs us

-- the lower total is earlier, and at equal totals the tree with the lower list of rule numbers
abbrev pub IsEarlier : ℕ × Tree → ℕ × Tree → Type 0
IsEarlier a b = rank_cmp (a.0, preorder_of a.1) (b.0, preorder_of b.1) ≡ Less

-- the first `count` trees of the bar that a derivation can have there; fewer where there are no more
pub record AreAlternatives (g : Grammar) (bars : List VoiceBar) (cs : List Inner) (i count : ℕ) (list : List (ℕ × Tree)) : Type 0 where
  pub are : All (IsAlternative g (without_pin_at i bars) cs i) list
  pub in_order : AllPairs IsEarlier list
  pub few : length list ≤ count
  pub first :
      (a : ℕ × Tree) → IsAlternative g (without_pin_at i bars) cs i a
      → Contains list a ⊎ ((length list ≡ count) × All (λ b. IsEarlier b a) list)

-- the best trees of one bar of a voice
pub record AreBestOfBar (g : Grammar) (p : Performance) (channel bar count : ℕ) (list : List (ℕ × Tree)) : Type 0 where
  pub chords : List Chord
  pub are_chords : AreChordsOf g p channel chords
  pub best : AreAlternatives g (voice_bars g p channel) (soundings chords) bar count list
