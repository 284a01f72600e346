-- The lines of an edit script, and what each says.
use Rattle.rhythm_base.specs.declared.limits.TheConstants.{LATEST_TICK, MOST_BARS}
use Rattle.std.specs.Prelude.{◌≡◌, ℕ, ◌-◌, ◌<◌, ◌≤◌, ◌==◌, if◌then◌else◌, List, [], ◌∷◌, ◌++◌, length, take, codes, nat_eq, Option, Some, None, ⊤}
use Rattle.std.specs.List.{ends_with, join_with_byte, slice_split}
use Rattle.edit_script.specs.declared.command.Command.{Command}
use Rattle.edit_script.specs.declared.command.Command.TheVariants.{Change, Score, Alternatives, Quit}
use Rattle.rhythm_base.specs.declared.edit.Edit.{Edit}
use Rattle.rhythm_base.specs.declared.edit.Edit.TheVariants.{Add, Drop, Move, Barline, Pin, Unpin, AddBar, DropBar}
use Rattle.rhythm_base.specs.EditRanges.{IsEditInRange}
use Rattle.rhythm_base.specs.Shape.{Shape}
use Rattle.rhythm_base.specs.ShapeText.{IsShapeText}
use Rattle.rhythm_base.specs.Lists.{last_of}
use Rattle.rhythm_base.specs.Numerals.{IsNumber}

-- ---- lines

-- what stands between newlines
abbrev pub between_newlines : List ℕ → List (List ℕ)
between_newlines bytes = slice_split (λ b. b == 10) bytes

-- what stands after the last newline is a line where it is not empty
abbrev pub open_line : Option (List ℕ) → List (List ℕ)
open_line None = []
open_line (Some []) = []
open_line (Some (b ∷ bytes)) = (b ∷ bytes) ∷ []

-- the lines of a script: each newline ends one, and a line may stand after the last. A carriage return is left where it is
abbrev pub script_lines : List ℕ → List (List ℕ)
script_lines bytes =
    take (length (between_newlines bytes) - 1) (between_newlines bytes) ++ open_line (last_of (between_newlines bytes))

-- ---- what a line says

-- a line without one carriage return at its end
abbrev pub trimmed : List ℕ → List ℕ
trimmed line = if ends_with nat_eq line (13 ∷ []) then take (length line - 1) line else line

-- the words of a text, with exactly one space between two: a word is empty where two spaces meet or one stands at an end
abbrev pub words_of : List ℕ → List (List ℕ)
words_of text = slice_split (λ b. b == 32) text

abbrev pub script_words : List ℕ → List (List ℕ)
script_words line = words_of (trimmed line)

-- the word is a channel, 0 to 15; a key, 0 to 127; a bar, 0 to 4,096; a tick, 0 to 2,000,000,000; or a number of
-- alternatives, 1 to 16
abbrev pub IsChannelWord : ℕ → List ℕ → Type 0
IsChannelWord n word = IsNumber 15 n word

abbrev pub IsKeyWord : ℕ → List ℕ → Type 0
IsKeyWord n word = IsNumber 127 n word

abbrev pub IsBarWord : ℕ → List ℕ → Type 0
IsBarWord n word = IsNumber MOST_BARS n word

abbrev pub IsTickWord : ℕ → List ℕ → Type 0
IsTickWord n word = IsNumber LATEST_TICK n word

abbrev pub IsCountWord : ℕ → List ℕ → Type 0
IsCountWord n word = IsNumber 16 n word × (1 ≤ n)

abbrev pub Is : List ℕ → List ℕ → Type 0
Is name word = word ≡ name

-- as many words as are asked for, and each is what is asked of it
abbrev pub Are : List (List ℕ → Type 0) → List (List ℕ) → Type 0
Are [] [] = ⊤
Are [] (word ∷ words) = ⊥
Are (is ∷ more) [] = ⊥
Are (is ∷ more) (word ∷ words) = is word × Are more words

-- `pin`, a channel, a bar, and the text of a shape, which is the rest of the line
abbrev pub ArePin : ℕ → ℕ → Shape → List (List ℕ) → Type 0
ArePin channel bar shape (name ∷ first ∷ second ∷ rest) =
    Is (codes "pin") name × IsChannelWord channel first × IsBarWord bar second × IsShapeText (join_with_byte 32 rest) shape
ArePin channel bar shape _ = ⊥

abbrev pub AreEdit : Edit → List (List ℕ) → Type 0
AreEdit (Add channel key onset end) words = Are (Is (codes "add") ∷ IsChannelWord channel ∷ IsKeyWord key ∷ IsTickWord onset ∷ IsTickWord end ∷ []) words
AreEdit (Drop channel key onset) words = Are (Is (codes "drop") ∷ IsChannelWord channel ∷ IsKeyWord key ∷ IsTickWord onset ∷ []) words
AreEdit (Move channel key onset to) words = Are (Is (codes "move") ∷ IsChannelWord channel ∷ IsKeyWord key ∷ IsTickWord onset ∷ IsTickWord to ∷ []) words
AreEdit (Barline bar tick) words = Are (Is (codes "barline") ∷ IsBarWord bar ∷ IsTickWord tick ∷ []) words
AreEdit (Pin channel bar shape) words = ArePin channel bar shape words
AreEdit (Unpin channel bar) words = Are (Is (codes "unpin") ∷ IsChannelWord channel ∷ IsBarWord bar ∷ []) words
AreEdit AddBar words = Are (Is (codes "addbar") ∷ []) words
AreEdit DropBar words = Are (Is (codes "dropbar") ∷ []) words

abbrev pub AreCommand : Command → List (List ℕ) → Type 0
AreCommand (Change edit) words = AreEdit edit words
AreCommand Score words = Are (Is (codes "score") ∷ []) words
AreCommand (Alternatives channel bar count) words =
    Are (Is (codes "alt") ∷ IsChannelWord channel ∷ IsBarWord bar ∷ IsCountWord count ∷ []) words
AreCommand Quit words = Are (Is (codes "quit") ∷ []) words

-- the line says this command
abbrev pub SaysCommand : List ℕ → Command → Type 0
SaysCommand line command = AreCommand command (script_words line)

-- the numbers of a command are in the ranges of the lines, and the shape of a pin can be that of a tree
abbrev pub IsCommandInRange : Command → Type 0
IsCommandInRange (Change edit) = IsEditInRange edit
IsCommandInRange Score = ⊤
IsCommandInRange (Alternatives channel bar count) = (channel < 16) × (bar ≤ 4096) × (1 ≤ count) × (count ≤ 16)
IsCommandInRange Quit = ⊤

-- `pin`, a channel and a bar, whatever stands after them
abbrev pub ArePinWords : List (List ℕ) → Type 0
ArePinWords (name ∷ first ∷ second ∷ rest) = Is (codes "pin") name × ((channel : ℕ) × IsChannelWord channel first) × ((bar : ℕ) × IsBarWord bar second)
ArePinWords _ = ⊥

-- the line begins with the words that stand before the shape of a pin
abbrev pub BeginsPin : List ℕ → Type 0
BeginsPin line = ArePinWords (script_words line)

-- the line says no command
abbrev pub SaysNothing : List ℕ → Type 0
SaysNothing line = (command : Command) → SaysCommand line command → ⊥
