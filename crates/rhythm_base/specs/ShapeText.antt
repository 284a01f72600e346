-- The text of a shape: `.` for a leaf; for a cut the number of its parts and, in brackets, their texts between spaces.
use Rattle.std.specs.Prelude.{◌≡◌, ℕ, ◌+◌, ◌<◌, ◌==◌, if◌then◌else◌, IsTrue, List, [], ◌++◌, length, take, codes, decimal, ⊤}
use Rattle.rhythm_base.specs.declared.shape_parse.ShapeFault.{ShapeFault}
use Rattle.rhythm_base.specs.declared.shape_parse.ShapeFault.TheVariants.{BadByte, Cut, Memory}
use Rattle.rhythm_base.specs.Shape.{Shape, end, part}
use Rattle.rhythm_base.specs.Shapes.{is_shape, parts_in}

-- a leaf, or the number of parts around their texts
abbrev pub around_parts : ℕ → List ℕ → List ℕ
around_parts n texts = if n == 0 then codes "." else decimal n ++ (codes "(" ++ (texts ++ codes ")"))

-- what stands after a part: nothing after the last, else a space and the texts of the others
abbrev pub after_part : ℕ → List ℕ → List ℕ
after_part n texts = if n == 0 then [] else codes " " ++ texts

-- the texts of the parts of a shape, with one space between them
abbrev pub texts_of_parts : Shape → List ℕ
texts_of_parts end = []
texts_of_parts (part x rest) = around_parts (parts_in x) (texts_of_parts x) ++ after_part (parts_in rest) (texts_of_parts rest)

unfoldable pub shape_text : Shape → List ℕ
shape_text x = around_parts (parts_in x) (texts_of_parts x)

-- the text is that of the shape
pub record IsShapeText (text : List ℕ) (x : Shape) : Type 0 where
  pub shape : IsTrue (is_shape x)
  pub is : text ≡ shape_text x

-- the text begins that of some shape
abbrev pub BeginsShape : List ℕ → Type 0
BeginsShape text = (x : Shape) × (more : List ℕ) × IsShapeText (text ++ more) x

-- what stands before this byte begins a shape's text, and with the byte it does not
pub record IsFirstBadByte (text : List ℕ) (at : ℕ) : Type 0 where
  pub inside : at < length text
  pub before : BeginsShape (take at text)
  pub bad : BeginsShape (take (at + 1) text) → ⊥

-- the text begins a shape's text, and is not the whole of one
pub record IsCutShort (text : List ℕ) : Type 0 where
  pub begins : BeginsShape text
  pub short : (x : Shape) → IsShapeText text x → ⊥

-- why a text is that of no shape. Want of memory is the one free answer
abbrev pub IsShapeFault : List ℕ → ShapeFault → Type 0
IsShapeFault text (BadByte at) = IsFirstBadByte text at
IsShapeFault text Cut = IsCutShort text
IsShapeFault text Memory = ⊤
