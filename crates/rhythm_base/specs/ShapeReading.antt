-- Reading the text of a shape from its beginning, and where that stops.
use Rattle.std.specs.Prelude.{◌≡◌, ℕ, ◌+◌, ◌≤◌, ◌==◌, if◌then◌else◌, IsTrue, List, [], ◌∷◌, ◌++◌, length, codes, decimal, ⊤}
use Rattle.rhythm_base.specs.declared.shape_parse.Stop.{Stop}
use Rattle.rhythm_base.specs.declared.shape_parse.Stop.TheVariants.{With, Memory}
use Rattle.rhythm_base.specs.Shape.{Shape}
use Rattle.rhythm_base.specs.ShapeText.{shape_text, texts_of_parts}
use Rattle.rhythm_base.specs.Shapes.{are_cut, can_have, depth, parts_in}

-- a leaf, or what stands before the parts of a cut: their number and a bracket
abbrev pub head_text : ℕ → List ℕ
head_text n = if n == 0 then codes "." else decimal n ++ codes "("

-- what stands after it
abbrev pub tail_text : ℕ → List ℕ → List ℕ
tail_text n texts = if n == 0 then [] else texts ++ codes ")"

-- the byte that comes next; 256 at the end of the text
abbrev pub next_byte : List ℕ → ℕ
next_byte [] = 256
next_byte (byte ∷ rest) = byte

-- reading texts of a set stops with so many bytes left: what stands before them begins a text of the set, and with the
-- next byte it begins no text of the set with whatever after it
pub record StopsWith (Texts : List ℕ → Type 0) (text : List ℕ) (left : ℕ) : Type 0 where
  pub read : List ℕ
  pub rest : List ℕ
  pub is : text ≡ read ++ rest
  pub many : length rest ≡ left
  pub more : List ℕ
  pub begins : Texts (read ++ more)
  pub stops : (whole other after : List ℕ) → Texts whole → read ++ (next_byte rest ∷ other) ≡ whole ++ after → ⊥

abbrev pub Stops : (List ℕ → Type 0) → List ℕ → Stop → Type 0
Stops Texts text (With left) = StopsWith Texts text left
Stops Texts text Memory = ⊤

-- ---- what is read

abbrev pub ByteText : ℕ → List ℕ → Type 0
ByteText byte text = text ≡ byte ∷ []

-- a leaf, or where levels are left below also a cut
pub record IsHead (levels n : ℕ) : Type 0 where
  pub can : IsTrue (can_have n)
  pub low : levels ≡ 0 → n ≡ 0

abbrev pub HeadText : ℕ → List ℕ → Type 0
HeadText levels text = (n : ℕ) × IsHead levels n × (text ≡ head_text n)

-- what stands after the first digit of a number of two digits
abbrev pub after_1 : ℕ → List ℕ
after_1 n = (38 + n) ∷ 40 ∷ []

abbrev pub HeadAfter1 : List ℕ → Type 0
HeadAfter1 text = (n : ℕ) × (10 ≤ n) × (n ≤ 16) × (text ≡ after_1 n)

-- a shape with so many levels below it at most
pub record IsPart (levels : ℕ) (x : Shape) : Type 0 where
  pub can : IsTrue (can_have (parts_in x))
  pub cut : IsTrue (are_cut x)
  pub low : depth x ≤ levels

abbrev pub PartText : ℕ → List ℕ → Type 0
PartText levels text = (x : Shape) × IsPart levels x × (text ≡ shape_text x)

-- so many parts, of a shape with so many levels below it at most
pub record AreParts (levels count : ℕ) (x : Shape) : Type 0 where
  pub many : parts_in x ≡ count
  pub cut : IsTrue (are_cut x)
  pub low : depth x ≤ levels

abbrev pub PartsText : ℕ → ℕ → List ℕ → Type 0
PartsText levels count text = (x : Shape) × AreParts levels count x × (text ≡ texts_of_parts x)
