-- The laws, each as one statement over the definitions.
use Rattle.std.specs.Prelude.{◌≡◌, ℕ, ◌≤◌, List, Result}
use Rattle.rhythm_base.specs.declared.bar_fault.BarFault.{BarFault}
use Rattle.rhythm_base.specs.declared.chord.Chord.{Chord}
use Rattle.rhythm_base.specs.declared.event.Event.{Event}
use Rattle.rhythm_base.specs.declared.event.Signature.{Signature}
use Rattle.rhythm_base.specs.declared.event.Tempo.{Tempo}
use Rattle.rhythm_base.specs.declared.note.Bar.{Bar}
use Rattle.rhythm_base.specs.declared.note.Note.{Note}
use Rattle.rhythm_base.specs.Bars.{IsLaying}
use Rattle.rhythm_base.specs.Chords.{AreChords}
use Rattle.rhythm_base.specs.Events.{IsMerged}
use Rattle.rhythm_base.specs.Forest.{Tree}
use Rattle.rhythm_base.specs.Leaves.{soundings}
use Rattle.rhythm_base.specs.Performance.{IsWellFormed, Performance}
use Rattle.rhythm_base.specs.Grammar.{Grammar}
use Rattle.rhythm_base.specs.Voices.{AreChordsOf, IsCostOf, IsDeadVoice, IsLeastCost, IsLeastOf, voice_bars}
use Rattle.tree_laws.specs.Voices.{IsVoice}

-- what is loaded has one answer: the merged events, the bars or their fault, and the chords of a voice
pub record AnswersAreOne : Type 0 where
  pub events : (tracks : List (List Event)) (xs ys : List Event) → IsMerged tracks xs → IsMerged tracks ys → xs ≡ ys
  pub bars : (division : ℕ) (signatures : List Signature) (onset end : ℕ) (r s : Result (List Bar × ℕ) BarFault)
      → IsLaying division signatures onset end r → IsLaying division signatures onset end s → r ≡ s
  pub chords : (tempos : List Tempo) (division window : ℕ) (notes : List Note) (cs ds : List Chord)
      → AreChords tempos division window notes cs → AreChords tempos division window notes ds → cs ≡ ds

-- the chords of a voice of a well-formed performance rise and lie in its bars, which stand side by side from tick 0
abbrev pub PerformancesAreVoices : Type 0
PerformancesAreVoices =
    (g : Grammar) (p : Performance) (channel : ℕ) (cs : List Chord) → 1 ≤ g.resolution → IsWellFormed p → AreChordsOf g p channel cs
    → IsVoice g (voice_bars g p channel) (soundings cs)

-- What is asked of the voices of a performance has one answer: the least derivation of a voice and its cost, the cost of all
-- voices, and the dead voice and its bar.
pub record VoicesHaveOneAnswer : Type 0 where
  pub derivations : (g : Grammar) (p : Performance) (channel : ℕ) (ts us : List Tree) → IsLeastOf g p channel ts → IsLeastOf g p channel us → ts ≡ us
  pub costs : (g : Grammar) (p : Performance) (channel a b : ℕ) → IsLeastCost g p channel a → IsLeastCost g p channel b → a ≡ b
  pub sums : (g : Grammar) (p : Performance) (a b : ℕ) → IsCostOf g p a → IsCostOf g p b → a ≡ b
  pub dead : (g : Grammar) (p : Performance) (channel bar channel' bar' : ℕ) → 1 ≤ g.resolution → IsWellFormed p
      → IsDeadVoice g p channel bar → IsDeadVoice g p channel' bar' → (channel ≡ channel') × (bar ≡ bar')
