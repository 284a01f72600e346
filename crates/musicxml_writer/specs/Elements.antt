-- Elements of XML, and lines of them.
use Rattle.std.specs.Prelude.{ℕ, Bool, if◌then◌else◌, List, [], ◌∷◌, ◌++◌, codes}

-- ---- tags

-- the tag that opens an element of this name, and the one that closes it
unfoldable pub opening : List ℕ → List ℕ
opening name = codes "<" ++ name ++ codes ">"

unfoldable pub closing : List ℕ → List ℕ
closing name = codes "</" ++ name ++ codes ">"

-- a tag up to the value of its attribute
unfoldable pub attribute_start : List ℕ → List ℕ → List ℕ
attribute_start name attribute = codes "<" ++ name ++ codes " " ++ attribute ++ codes "=\""

-- the tag that opens an element with an attribute of this value
unfoldable pub opening_with : List ℕ → List ℕ → List ℕ → List ℕ
opening_with name attribute value = attribute_start name attribute ++ value ++ codes "\">"

-- an empty element, and one with an attribute
unfoldable pub empty_element : List ℕ → List ℕ
empty_element name = codes "<" ++ name ++ codes "/>"

unfoldable pub empty_with : List ℕ → List ℕ → List ℕ → List ℕ
empty_with name attribute value = attribute_start name attribute ++ value ++ codes "\"/>"

-- ---- elements

unfoldable pub element : List ℕ → List ℕ → List ℕ
element name content = opening name ++ content ++ closing name

-- an element that is left out where nothing is in it
unfoldable pub some_element : List ℕ → List ℕ → List ℕ
some_element name [] = []
some_element name (c ∷ cs) = element name (c ∷ cs)

-- a text that stands where a test holds
abbrev pub text_if : Bool → List ℕ → List ℕ
text_if there text = if there then text else []

abbrev pub line : List ℕ → List ℕ
line text = text ++ codes "\n"
