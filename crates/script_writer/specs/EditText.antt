-- The text of edits, as an edit script says them.
use Rattle.std.specs.Prelude.{ℕ, List, [], ◌∷◌, ◌++◌, codes, decimal, map}
use Rattle.std.specs.List.{flat_map, join_with_byte}
use Rattle.rhythm_base.specs.declared.edit.Edit.{Edit}
use Rattle.rhythm_base.specs.declared.edit.Edit.TheVariants.{Add, Drop, Move, Barline, Pin, Unpin, AddBar, DropBar}
use Rattle.rhythm_base.specs.Shape.{Shape}
use Rattle.rhythm_base.specs.ShapeText.{shape_text}

-- numbers in decimal digits, with a space before each
abbrev pub spaced_numbers : List ℕ → List ℕ
spaced_numbers numbers = flat_map (λ n. 32 ∷ decimal n) numbers

-- a name and numbers, with one space between two words
abbrev pub named_numbers : List ℕ → List ℕ → List ℕ
named_numbers name numbers = join_with_byte 32 (name ∷ map decimal numbers)

-- a name, a channel, a key of it and ticks
abbrev pub key_line : List ℕ → ℕ → ℕ → List ℕ → List ℕ
key_line name channel key ticks = named_numbers name (channel ∷ key ∷ ticks)

-- an edit in words: its name, and its numbers in decimal digits; last of a pin stands the text of its shape, which may have spaces
abbrev pub edit_words : Edit → List (List ℕ)
edit_words (Add channel key onset end) = codes "add" ∷ map decimal (channel ∷ key ∷ onset ∷ end ∷ [])
edit_words (Drop channel key onset) = codes "drop" ∷ map decimal (channel ∷ key ∷ onset ∷ [])
edit_words (Move channel key onset to) = codes "move" ∷ map decimal (channel ∷ key ∷ onset ∷ to ∷ [])
edit_words (Barline bar tick) = codes "barline" ∷ map decimal (bar ∷ tick ∷ [])
edit_words (Pin channel bar shape) = codes "pin" ∷ decimal channel ∷ decimal bar ∷ shape_text shape ∷ []
edit_words (Unpin channel bar) = codes "unpin" ∷ map decimal (channel ∷ bar ∷ [])
edit_words AddBar = codes "addbar" ∷ []
edit_words DropBar = codes "dropbar" ∷ []

-- its line: the words, with one space between two
abbrev pub edit_line : Edit → List ℕ
edit_line edit = join_with_byte 32 (edit_words edit)

abbrev pub pin_line : ℕ → ℕ → Shape → List ℕ
pin_line channel bar shape = edit_line (Pin channel bar shape)

-- the lines of edits, one after another, each with a newline at its end
abbrev pub script_text : List Edit → List ℕ
script_text edits = flat_map (λ edit. edit_line edit ++ codes "\n") edits
