-- How a text is cut: what stands between two angles is kept whole.
use Rattle.std.proofs.Common.{◌≡◌, ℕ, ◌==◌, ◌&&◌, Bool, true, false, not, List, [], ◌∷◌, ◌++◌, refl, sym, ap, ◌∙◌, append_assoc, append-nil}
use Rattle.std.specs.List.{list_all}
use Rattle.std.proofs.lemmas.Bool.{and_parts}
use Rattle.text_words.proofs.TextTests.{lacks}
use Rattle.musicxml_writer.specs.Elements.{attribute_start, closing, element, empty_with, opening, opening_with}
use Rattle.xml_laws.specs.Words.{XmlWord, cut_content, in_content, in_tag, words_from, xml_words}
use Rattle.text_words.proofs.TextSplits.{false_of_not}

-- neither an angle nor a newline
abbrev pub is_content_byte : ℕ → Bool
is_content_byte b = not (b == 60) && not (b == 10)

abbrev pub is_plain_content : List ℕ → Bool
is_plain_content text = list_all is_content_byte text

cut_kept : (x : ℕ) (content : List ℕ) → (x == 60) ≡ false → (x == 10) ≡ false → cut_content content x ≡ in_content (content ++ x ∷ [])
cut_kept x content angle line = rw (angle, line) refl

content_kept : (xs more content : List ℕ) → is_plain_content xs ≡ true
    → words_from (xs ++ more) (in_content content) ≡ words_from more (in_content (content ++ xs))
content_kept [] more content h = ap (λ c. words_from more (in_content c)) (sym (append-nil content))
content_kept (x ∷ xs) more content h =
    let (own, rest) = and_parts (is_content_byte x) (is_plain_content xs) h in
    let (angle, line) = and_parts (not (x == 60)) (not (x == 10)) own in
    let no_angle = false_of_not (x == 60) angle in
    let no_line = false_of_not (x == 10) line in
    ap (words_from (xs ++ more)) (cut_kept x content no_angle no_line) ∙ content_kept xs more (content ++ x ∷ []) rest
    ∙ ap (λ c. words_from more (in_content c)) (append_assoc content (x ∷ []) xs)

tag_kept : (xs more content tag : List ℕ) → lacks 62 xs ≡ true
    → words_from (xs ++ more) (in_tag content tag) ≡ words_from more (in_tag content (tag ++ xs))
tag_kept [] more content tag h = ap (λ t. words_from more (in_tag content t)) (sym (append-nil tag))
tag_kept (x ∷ xs) more content tag h =
    let (own, rest) = and_parts (not (x == 62)) (lacks 62 xs) h in
    let no_angle = false_of_not (x == 62) own in
    let first : words_from (x ∷ (xs ++ more)) (in_tag content tag)
    ≡ words_from (xs ++ more) (in_tag content (tag ++ x ∷ [])) = rw no_angle refl in
    first ∙ tag_kept xs more content (tag ++ x ∷ []) rest ∙ ap (λ t. words_from more (in_tag content t)) (append_assoc tag (x ∷ []) xs)

abbrev pub word : List ℕ → List ℕ → XmlWord
word content tag = record { content = content; tag = tag }

-- an element that holds a text is two words
pub element_cut : (name content more : List ℕ) → lacks 62 name ≡ true → is_plain_content content ≡ true
    → xml_words (element name content ++ more) ≡ word [] name ∷ word content (47 ∷ name) ∷ xml_words more
unfolding element opening closing
element_cut name content more h k =
    let end : List ℕ = 60 ∷ 47 ∷ (name ++ 62 ∷ more) in
    let text : ((60 ∷ (name ++ 62 ∷ [])) ++ content ++ 60 ∷ 47 ∷ (name ++ 62 ∷ [])) ++ more
    ≡ 60 ∷ (name ++ 62 ∷ (content ++ end)) = simp append_assoc refl in
    ap xml_words text ∙ tag_kept name (62 ∷ (content ++ end)) [] [] h
    ∙ ap (λ ws. word [] name ∷ ws) (content_kept content end [] k ∙ tag_kept name (62 ∷ more) content (47 ∷ []) h)

-- what stands in a tag with an attribute
abbrev pub tag_with : List ℕ → List ℕ → List ℕ → List ℕ → List ℕ
tag_with name attribute value end = name ++ (32 ∷ attribute ++ (61 ∷ 34 ∷ value ++ 34 ∷ end))

pub opening_cut : (name attribute value more : List ℕ) → lacks 62 name ≡ true → lacks 62 attribute ≡ true → lacks 62 value ≡ true
    → xml_words (opening_with name attribute value ++ more) ≡ word [] (tag_with name attribute value []) ∷ xml_words more
unfolding opening_with attribute_start
opening_cut name attribute value more h k l =
    let text : opening_with name attribute value ++ more
    ≡ 60 ∷ (name ++ 32 ∷ (attribute ++ 61 ∷ 34 ∷ (value ++ 34 ∷ 62 ∷ more))) = simp append_assoc refl in
    let tag : (((name ++ 32 ∷ []) ++ attribute) ++ 61 ∷ 34 ∷ []) ++ value ++ 34 ∷ []
    ≡ tag_with name attribute value [] = simp append_assoc refl in
    ap xml_words text ∙ tag_kept name (32 ∷ (attribute ++ 61 ∷ 34 ∷ (value ++ 34 ∷ 62 ∷ more))) [] [] h
    ∙ tag_kept attribute (61 ∷ 34 ∷ (value ++ 34 ∷ 62 ∷ more)) [] (name ++ 32 ∷ []) k
    ∙ ap (λ t. words_from (value ++ 34 ∷ 62 ∷ more) (in_tag [] t)) (append_assoc ((name ++ 32 ∷ []) ++ attribute) (61 ∷ []) (34 ∷ []))
    ∙ tag_kept value (34 ∷ 62 ∷ more) [] (((name ++ 32 ∷ []) ++ attribute) ++ 61 ∷ 34 ∷ []) l
    ∙ ap (λ t. word [] t ∷ xml_words more) tag

pub empty_cut : (name attribute value more : List ℕ) → lacks 62 name ≡ true → lacks 62 attribute ≡ true → lacks 62 value ≡ true
    → xml_words (empty_with name attribute value ++ more) ≡ word [] (tag_with name attribute value (47 ∷ [])) ∷ xml_words more
unfolding empty_with attribute_start
empty_cut name attribute value more h k l =
    let text : empty_with name attribute value ++ more
    ≡ 60 ∷ (name ++ 32 ∷ (attribute ++ 61 ∷ 34 ∷ (value ++ 34 ∷ 47 ∷ 62 ∷ more))) = simp append_assoc refl in
    let tag : (((name ++ 32 ∷ []) ++ attribute) ++ 61 ∷ 34 ∷ []) ++ value ++ 34 ∷ 47 ∷ []
    ≡ tag_with name attribute value (47 ∷ []) = simp append_assoc refl in
    let part = ((name ++ 32 ∷ []) ++ attribute) ++ 61 ∷ 34 ∷ [] in
    ap xml_words text ∙ tag_kept name (32 ∷ (attribute ++ 61 ∷ 34 ∷ (value ++ 34 ∷ 47 ∷ 62 ∷ more))) [] [] h
    ∙ tag_kept attribute (61 ∷ 34 ∷ (value ++ 34 ∷ 47 ∷ 62 ∷ more)) [] (name ++ 32 ∷ []) k
    ∙ ap (λ t. words_from (value ++ 34 ∷ 47 ∷ 62 ∷ more) (in_tag [] t)) (append_assoc ((name ++ 32 ∷ []) ++ attribute) (61 ∷ []) (34 ∷ []))
    ∙ tag_kept value (34 ∷ 47 ∷ 62 ∷ more) [] part l
    ∙ ap (λ t. word [] t ∷ xml_words more) (append_assoc (part ++ value) (34 ∷ []) (47 ∷ []) ∙ tag)
