-- A line, its carriage return and its first word.
use Rattle.std.proofs.Common.{◌≡◌, ℕ, ◌-◌, Bool, true, false, if◌then◌else◌, IsTrue, List, ◌∷◌, ◌++◌, length, take, drop, sym, ap, ◌∙◌, take-append-drop}
use Rattle.std.proofs.lemmas.List.Splits.{join_with_byte-slice_split}
use Rattle.std.specs.List.{join_with_byte, starts_with}
use Rattle.std.specs.Prelude.{codes, nat_eq}
use Rattle.edit_script.specs.ScriptLines.{trimmed, script_words}

-- a text of `pin`, a space and more
abbrev BeginsPin : List ℕ → Type 0
BeginsPin text = (more : List ℕ) × (text ≡ codes "pin " ++ more)

whole : (line : List ℕ) (b : Bool) → BeginsPin (if b then take (length line - 1) line else line) → BeginsPin line
whole line true (more, is) =
    let n : ℕ = length line - 1 in
    (more ++ drop n line, sym (take-append-drop n line) ∙ ap (λ l. l ++ drop n line) is)
whole line false begins = begins

begun : (line : List ℕ) → BeginsPin line → IsTrue (starts_with nat_eq line (codes "pin "))
begun line (more, is) = ap (λ l. starts_with nat_eq l (codes "pin ")) is

-- the word `pin` with a word after it
pub begins_pin : (line : List ℕ) (second : List ℕ) (rest : List (List ℕ)) → script_words line ≡ codes "pin" ∷ second ∷ rest
    → IsTrue (starts_with nat_eq line (codes "pin "))
begins_pin line second rest are =
    let text : trimmed line ≡ codes "pin " ++ join_with_byte 32 (second ∷ rest) =
    sym (join_with_byte-slice_split 32 (trimmed line)) ∙ ap (join_with_byte 32) are in
    begun line (whole line _ (join_with_byte 32 (second ∷ rest), text))
