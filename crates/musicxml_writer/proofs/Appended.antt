-- What was appended to a text in steps, and an element of it.
use Rattle.std.proofs.Common.{◌≡◌, ℕ, List, [], ◌++◌, append_assoc, sym, ap, ◌∙◌}
use Rattle.std.specs.Prelude.{codes}
use Rattle.std.proofs.lemmas.List.{append-nil}
use Rattle.musicxml_writer.specs.Elements.{closing, element, line, opening}

pub two : (t t₁ t₂ a b : List ℕ) → t₁ ≡ t ++ a → t₂ ≡ t₁ ++ b → t₂ ≡ t ++ (a ++ b)
two t t₁ t₂ a b one next = next ∙ ap (λ x. x ++ b) one ∙ append_assoc t a b

pub three : (t t₁ t₂ t₃ a b c : List ℕ) → t₁ ≡ t ++ a → t₂ ≡ t₁ ++ b → t₃ ≡ t₂ ++ c → t₃ ≡ t ++ (a ++ b ++ c)
three t t₁ t₂ t₃ a b c one next last = two t t₂ t₃ (a ++ b) c (two t t₁ t₂ a b one next) last

pub four : (t t₁ t₂ t₃ t₄ a b c d : List ℕ) → t₁ ≡ t ++ a → t₂ ≡ t₁ ++ b → t₃ ≡ t₂ ++ c → t₄ ≡ t₃ ++ d
    → t₄ ≡ t ++ (a ++ b ++ c ++ d)
four t t₁ t₂ t₃ t₄ a b c d one next other last = two t t₃ t₄ (a ++ b ++ c) d (three t t₁ t₂ t₃ a b c one next other) last

pub six : (t t₁ t₂ t₃ t₄ t₅ t₆ a b c d e f : List ℕ) → t₁ ≡ t ++ a → t₂ ≡ t₁ ++ b → t₃ ≡ t₂ ++ c → t₄ ≡ t₃ ++ d
    → t₅ ≡ t₄ ++ e → t₆ ≡ t₅ ++ f → t₆ ≡ t ++ (a ++ b ++ c ++ d ++ e ++ f)
six t t₁ t₂ t₃ t₄ t₅ t₆ a b c d e f one next other more near last =
    three t t₄ t₅ t₆ (a ++ b ++ c ++ d) e f (four t t₁ t₂ t₃ t₄ a b c d one next other more) near last

pub none_after : (text whole : List ℕ) → whole ≡ [] → text ≡ text ++ whole
none_after text whole none = sym (append-nil text) ∙ ap (λ t. text ++ t) (sym none)

pub element_after : (name content text first second new : List ℕ) → first ≡ text ++ opening name → second ≡ first ++ content
    → new ≡ second ++ closing name → new ≡ text ++ element name content
unfolding element
element_after name content text first second new one next last = three text first second new (opening name) content (closing name) one next last

pub line_after : (name content text first second new : List ℕ) → first ≡ text ++ opening name → second ≡ first ++ content
    → new ≡ second ++ (closing name ++ codes "\n") → new ≡ text ++ line (element name content)
unfolding element
line_after name content text first second new one next last =
    three text first second new (opening name) content (closing name ++ codes "\n") one next last
    ∙ ap (λ t. text ++ t) (sym (append_assoc (opening name ++ content) (closing name) (codes "\n")))
