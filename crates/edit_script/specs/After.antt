-- What the words after a keyword say: the numbers that they are, and the command of these numbers.
use Rattle.std.specs.Prelude.{◌≡◌, ℕ, List, [], ◌∷◌, drop}
use Rattle.std.specs.List.{join_with_byte}
use Rattle.edit_script.specs.declared.command.Command.{Command}
use Rattle.edit_script.specs.declared.command.Command.TheVariants.{Change, Score, Alternatives, Quit}
use Rattle.rhythm_base.specs.declared.edit.Edit.TheVariants.{Add, Drop, Move, Barline, Pin, Unpin, AddBar, DropBar}
use Rattle.rhythm_base.specs.Shape.{Shape}
use Rattle.edit_script.specs.ScriptLines.{Are, IsBarWord, IsChannelWord, IsCountWord, IsKeyWord, IsTickWord}
use Rattle.rhythm_base.specs.ShapeText.{IsShapeText}
use Rattle.edit_script.specs.LineWords.{Begins}
use Rattle.edit_script.specs.declared.keyword.Keyword.{Keyword}
use Rattle.edit_script.specs.declared.keyword.Keyword.TheVariants as keyword

-- a channel, a key and two ticks
abbrev pub SaysNote : (ℕ → ℕ → ℕ → ℕ → Command) → List (List ℕ) → Command → Type 0
SaysNote of words command =
    (n : ℕ × ℕ × ℕ × ℕ) × (command ≡ of n.0 n.1 n.2 n.3) × Are (IsChannelWord n.0 ∷ IsKeyWord n.1 ∷ IsTickWord n.2 ∷ IsTickWord n.3 ∷ []) words

-- a channel, a bar and the text of a shape
abbrev pub SaysPin : List (List ℕ) → Command → Type 0
SaysPin words command =
    (channel bar : ℕ) × (shape : Shape) × (command ≡ Change (Pin channel bar shape))
    × Begins (IsChannelWord channel) words × Begins (IsBarWord bar) (drop 1 words) × IsShapeText (join_with_byte 32 (drop 2 words)) shape

-- a channel and a bar, whatever stands after them
abbrev pub BeginsPinned : List (List ℕ) → Type 0
BeginsPinned words = (channel : ℕ) × (bar : ℕ) × Begins (IsChannelWord channel) words × Begins (IsBarWord bar) (drop 1 words)

-- no word
abbrev pub SaysAlone : Command → List (List ℕ) → Command → Type 0
SaysAlone is words command = (command ≡ is) × Are [] words

abbrev pub SaysAfter : Keyword → List (List ℕ) → Command → Type 0
SaysAfter keyword.Add words command = SaysNote (λ channel key onset end. Change (Add channel key onset end)) words command
SaysAfter keyword.Drop words command =
    (n : ℕ × ℕ × ℕ) × (command ≡ Change (Drop n.0 n.1 n.2)) × Are (IsChannelWord n.0 ∷ IsKeyWord n.1 ∷ IsTickWord n.2 ∷ []) words
SaysAfter keyword.Move words command = SaysNote (λ channel key onset to. Change (Move channel key onset to)) words command
SaysAfter keyword.Barline words command = (n : ℕ × ℕ) × (command ≡ Change (Barline n.0 n.1)) × Are (IsBarWord n.0 ∷ IsTickWord n.1 ∷ []) words
SaysAfter keyword.Pin words command = SaysPin words command
SaysAfter keyword.Unpin words command = (n : ℕ × ℕ) × (command ≡ Change (Unpin n.0 n.1)) × Are (IsChannelWord n.0 ∷ IsBarWord n.1 ∷ []) words
SaysAfter keyword.AddBar words command = SaysAlone (Change AddBar) words command
SaysAfter keyword.DropBar words command = SaysAlone (Change DropBar) words command
SaysAfter keyword.Score words command = SaysAlone Score words command
SaysAfter keyword.Alt words command =
    (n : ℕ × ℕ × ℕ) × (command ≡ Alternatives n.0 n.1 n.2) × Are (IsChannelWord n.0 ∷ IsBarWord n.1 ∷ IsCountWord n.2 ∷ []) words
SaysAfter keyword.Quit words command = SaysAlone Quit words command
