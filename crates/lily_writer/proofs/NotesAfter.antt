-- One more value of a chord after a text.
use Rattle.std.proofs.Common.{◌≡◌, ℕ, ◌≤◌, Bool, false, List, [], ◌∷◌, ◌++◌, append_assoc, drop, get_or, length, sym, ap, ◌∙◌, subst, arith}
use Rattle.std.specs.Prelude.{All, codes}
use Rattle.std.proofs.lemmas.List.Elements.{All-tail}
use Rattle.durations.specs.declared.value.Value.{Value}
use Rattle.lily_writer.specs.Elements.{element_text, elements_text, note_value}
use Rattle.lily_writer.specs.Pieces.{notes, tied_before}

pub notes_next : (flats : Bool) (keys : ℕ) (marked goes tied : Bool) (later more : List Value) (d : Value) (before new whole : List ℕ)
    → 1 ≤ length later
    → more ≡ drop 1 later → tied ≡ tied_before goes more → new ≡ before ++ (element_text flats
    (note_value keys (get_or later 0 d) marked tied) ++ codes " ")
    → before ++ elements_text flats (notes keys marked goes later) ≡ whole → new ++ elements_text flats (notes keys false goes more) ≡ whole
notes_next flats keys marked goes tied [] more d before new whole some rest last is all = absurd (omega (arith, some))
notes_next flats keys marked goes tied (v ∷ vs) more d before new whole some rest last is all =
    let note = element_text flats (note_value keys v marked (tied_before goes vs)) ++ codes " " in
    ap (λ t. t ++ elements_text flats (notes keys false goes more)) is
    ∙ ap (λ ws. (before ++ (element_text flats (note_value keys v marked tied) ++ codes " ")) ++ elements_text flats
    (notes keys false goes ws)) rest
    ∙ ap (λ b. (before ++ (element_text flats (note_value keys v marked b) ++ codes " ")) ++ elements_text flats
    (notes keys false goes vs)) (last ∙ ap (tied_before goes) rest)
    ∙ append_assoc before note (elements_text flats (notes keys false goes vs)) ∙ all

pub more_hold : (P : Value → Type 0) (later more : List Value) → 1 ≤ length later → more ≡ drop 1 later → All P later → All P more
more_hold P [] more some rest all = absurd (omega (arith, some))
more_hold P (v ∷ vs) more some rest all = subst (All P) (sym rest) (All-tail P v vs all)
