-- Texts that are read within a part, one after another.
use Rattle.std.proofs.Common.{◌≡◌, ℕ, Bool, true, false, List, [], ◌∷◌, ◌++◌, Some, refl, ap, ◌∙◌, append_assoc}
use Rattle.std.specs.Prelude.{codes}
use Rattle.std.specs.Str.{bytes_eq}
use Rattle.text_words.specs.Steps.{◌>>=◌}
use Rattle.text_words.proofs.TextTests.{lacks}
use Rattle.musicxml_writer.specs.Elements.{closing, element, empty_with, line, opening, opening_with, some_element, text_if}
use Rattle.xml_laws.specs.Hearing.{HeardPart, hear_xml_word}
use Rattle.xml_laws.specs.Reading.{ends_part, read_parts}
use Rattle.xml_laws.specs.Words.{XmlWord, xml_words}
use Rattle.xml_laws.proofs.Cutting.{element_cut, empty_cut, is_plain_content, opening_cut, tag_with, word}

-- what follows a text is read as if there were so much known and no text before it
abbrev pub Reads : HeardPart → List ℕ → HeardPart → Type 0
Reads h text next = (more : List ℕ) → read_parts (Some h) (xml_words (text ++ more)) ≡ read_parts (Some next) (xml_words more)

pub reads_none : (h : HeardPart) → Reads h [] h
reads_none h more = refl

pub reads_both : (h mid next : HeardPart) (xs ys : List ℕ) → Reads h xs mid → Reads mid ys next → Reads h (xs ++ ys) next
reads_both h mid next xs ys first second more =
    ap (λ t. read_parts (Some h) (xml_words t)) (append_assoc xs ys more) ∙ first (ys ++ more) ∙ second more

pub reads_line : (h next : HeardPart) (text : List ℕ) → Reads h text next → Reads h (line text) next
reads_line h next text is more =
    ap (λ t. read_parts (Some h) (xml_words t)) (append_assoc text (codes "\n") more) ∙ is (codes "\n" ++ more)

pub reads_element : (h first last next : HeardPart) (name content : List ℕ) → Reads h (opening name) first → Reads first content last
    → Reads last (closing name) next → Reads h (element name content) next
unfolding element
reads_element h first last next name content opens is closes =
    reads_both h last next (opening name ++ content) (closing name) (reads_both h first last (opening name) content opens is) closes

-- an element that is left out where nothing is in it
pub reads_some : (h next : HeardPart) (name content : List ℕ) → Reads h (opening name) h → Reads h content next
    → Reads next (closing name) next → Reads h (some_element name content) next
unfolding some_element
reads_some h next name [] opens is closes = is
reads_some h next name (c ∷ content) opens is closes = reads_element h h next next name (c ∷ content) opens is closes

pub reads_if : (h : HeardPart) (there : Bool) (text : List ℕ) → Reads h text h → Reads h (text_if there text) h
reads_if h true text is = is
reads_if h false text is = reads_none h

-- ---- words

pub word_heard : (h next : HeardPart) (w : XmlWord) (ws : List XmlWord) → ends_part w ≡ false → hear_xml_word h w ≡ Some next
    → read_parts (Some h) (w ∷ ws) ≡ read_parts (Some next) ws
word_heard h next w ws end heard = rw end (ap (λ o. o >>= λ next. read_parts (Some next) ws) heard)

-- the name of an element that holds a text
pub record IsValueName (name : List ℕ) : Type 0 where
  pub angles : lacks 62 name ≡ true
  pub opens : bytes_eq name (codes "/part") ≡ false
  pub closes : bytes_eq (47 ∷ name) (codes "/part") ≡ false
  pub silent : (h : HeardPart) → hear_xml_word h (word [] name) ≡ Some h

pub reads_value : (h next : HeardPart) (name content : List ℕ) → IsValueName name → is_plain_content content ≡ true
    → hear_xml_word h (word content (47 ∷ name)) ≡ Some next → Reads h (element name content) next
reads_value h next name content is plain heard more =
    ap (read_parts (Some h)) (element_cut name content more is.angles plain)
    ∙ word_heard h h (word [] name) (word content (47 ∷ name) ∷ xml_words more) (rw is.opens refl) (is.silent h)
    ∙ word_heard h next (word content (47 ∷ name)) (xml_words more) (rw is.closes refl) heard

pub reads_opening : (h next : HeardPart) (name attribute value : List ℕ) → lacks 62 name ≡ true → lacks 62 attribute ≡ true
    → lacks 62 value ≡ true → ends_part (word [] (tag_with name attribute value [])) ≡ false
    → hear_xml_word h (word [] (tag_with name attribute value [])) ≡ Some next
    → Reads h (opening_with name attribute value) next
reads_opening h next name attribute value a b c end heard more =
    ap (read_parts (Some h)) (opening_cut name attribute value more a b c)
    ∙ word_heard h next (word [] (tag_with name attribute value [])) (xml_words more) end heard

pub reads_empty : (h next : HeardPart) (name attribute value : List ℕ) → lacks 62 name ≡ true → lacks 62 attribute ≡ true
    → lacks 62 value ≡ true → ends_part (word [] (tag_with name attribute value (47 ∷ []))) ≡ false
    → hear_xml_word h (word [] (tag_with name attribute value (47 ∷ []))) ≡ Some next
    → Reads h (empty_with name attribute value) next
reads_empty h next name attribute value a b c end heard more =
    ap (read_parts (Some h)) (empty_cut name attribute value more a b c)
    ∙ word_heard h next (word [] (tag_with name attribute value (47 ∷ []))) (xml_words more) end heard
