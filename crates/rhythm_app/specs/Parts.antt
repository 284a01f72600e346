-- The texts of the pieces of a line, and the numbers of a fault.
use Rattle.std.specs.Prelude.{ℕ, List, [], ◌∷◌, map, decimal}
use Rattle.rhythm_app.specs.declared.line.Part.{Part}
use Rattle.rhythm_app.specs.declared.line.Part.TheVariants.{Text, Number}
use Rattle.rhythm_app.specs.declared.names.FaultNumbers.{FaultNumbers}
use Rattle.rhythm_app.specs.declared.names.FaultNumbers.TheVariants as numbers

abbrev pub part_text : Part → List ℕ
part_text (Text text) = text.now
part_text (Number number) = decimal number

abbrev pub part_texts : List Part → List (List ℕ)
part_texts parts = map part_text parts

-- the numbers of a fault of an edit
abbrev pub number_words : FaultNumbers → List (List ℕ)
number_words numbers.None = []
number_words (numbers.One number) = decimal number ∷ []
number_words (numbers.Two first second) = decimal first ∷ decimal second ∷ []
number_words (numbers.Limit what count) = what.now ∷ decimal count ∷ []
