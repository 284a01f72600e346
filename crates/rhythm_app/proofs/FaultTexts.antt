-- The words of a refusal as the pieces of a line.
use Rattle.std.proofs.Common.{◌≡◌, ◌∙◌, ℕ, List, [], ◌∷◌, ◌++◌, append_assoc, ap, codes, drop, refl, slice_get, subst, sym, Some}
use Rattle.edit_script.specs.Replies.{reply_line}
use Rattle.rhythm_app.specs.Stops.{joined_words}

-- a name and two words
pub two_words : (words : List (List ℕ)) (name a b : List ℕ) → slice_get words 0 ≡ Some name → a ∷ b ∷ [] ≡ drop 1 words
    → joined_words (name ∷ codes " " ∷ a ∷ codes " " ∷ b ∷ codes "\n" ∷ []) ≡ reply_line words
two_words [] name a b first more = absurd (cc)
two_words (w ∷ ws) name a b first more =
    let same : name ≡ w = cc in
    ap (λ n. joined_words (n ∷ codes " " ∷ a ∷ codes " " ∷ b ∷ codes "\n" ∷ [])) same ∙ joined w ∙ ap (λ l. reply_line (w ∷ l)) more
  where
    joined : (w : List ℕ) → joined_words (w ∷ codes " " ∷ a ∷ codes " " ∷ b ∷ codes "\n" ∷ []) ≡ reply_line (w ∷ a ∷ b ∷ [])
    joined w = ap (λ l. w ++ 32 ∷ l) (sym (append_assoc a (32 ∷ b) (codes "\n"))) ∙ sym (append_assoc w (32 ∷ (a ++ 32 ∷ b)) (codes "\n"))
