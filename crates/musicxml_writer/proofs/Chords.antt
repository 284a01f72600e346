-- The lines of one more key of a chord.
use Rattle.std.proofs.Common.{◌≡◌, ℕ, Bool, false, List, [], ◌∷◌, ◌++◌, append_assoc, sym, ap, ◌∙◌}
use Rattle.std.proofs.lemmas.List.{append-nil}
use Rattle.musicxml_writer.specs.Notes.{keys_text}

pub key_next : (one : Bool → ℕ → List ℕ) (lowest : Bool) (key : ℕ) (left rest text new whole : List ℕ) → left ≡ key ∷ rest
    → new ≡ text ++ one lowest key → text ++ keys_text one lowest left ≡ whole → new ++ keys_text one false rest ≡ whole
key_next one lowest key left rest text new whole next is all =
    ap (λ t. t ++ keys_text one false rest) is ∙ append_assoc text (one lowest key) (keys_text one false rest)
    ∙ ap (λ ks. text ++ keys_text one lowest ks) (sym next) ∙ all

pub keys_end : (one : Bool → ℕ → List ℕ) (lowest : Bool) (left text whole : List ℕ) → left ≡ []
    → text ++ keys_text one lowest left ≡ whole → text ≡ whole
keys_end one lowest left text whole none all =
    sym (append-nil text) ∙ ap (λ ks. text ++ keys_text one lowest ks) (sym none) ∙ all
