-- Texts of lines, one after another.
use Rattle.std.proofs.Common.{◌≡◌, ℕ, List, [], ◌∷◌, ◌++◌, sym, ap, ◌∙◌}
use Rattle.std.proofs.lemmas.List.{append-nil}
use Rattle.std.proofs.lemmas.List.Concat.{flat_map-append}
use Rattle.score_words.specs.TextLines.{lines_text}

pub lines_append : (xs ys : List (List ℕ)) → lines_text (xs ++ ys) ≡ lines_text xs ++ lines_text ys
lines_append xs ys = flat_map-append (λ (line : List ℕ). line ++ 10 ∷ []) xs ys

-- a text with a line after it
pub line_after : (text line new : List ℕ) → new ≡ text ++ (line ++ 10 ∷ []) → new ≡ text ++ lines_text (line ∷ [])
line_after text line new is = is ∙ ap (λ t. text ++ t) (sym (append-nil (line ++ 10 ∷ [])))
