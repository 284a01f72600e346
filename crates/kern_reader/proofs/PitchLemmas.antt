-- Pitches.
use Rattle.std.proofs.Common.{◌≡◌, ℕ, ◌+◌, ◌-◌, ◌≤◌, ◌==◌, List, [], ◌∷◌, length, get_or, take, drop, ap, ◌∙◌, arith, add-one}
use Rattle.std.proofs.lemmas.List.{take_rest}
use Rattle.std.specs.List.{prefix_len}
use Rattle.kern_reader.specs.Tokens.{pitch_key, key_of_letters}

-- the first letter, those like it, and what stands after them
pub key_read : (text : List ℕ) (count : ℕ) (accidental : List ℕ) → 1 ≤ length text
    → count ≡ prefix_len (λ b. b == get_or text 0 0) (take (length text - 1) (drop 1 text))
    → accidental ≡ drop count (take (length text - 1) (drop 1 text))
    → key_of_letters (get_or text 0 0) (count + 1) accidental ≡ pitch_key text
unfolding pitch_key
key_read [] count accidental some counted rest = absurd (omega arith)
key_read (letter ∷ text) count accidental some counted rest =
    let all = take_rest (letter ∷ text) 1 in
    let same : count ≡ prefix_len (λ b. b == letter) text = counted ∙ ap (prefix_len (λ b. b == letter)) all in
    let after : accidental ≡ drop count text = rest ∙ ap (drop count) all in
    rw (after, same, add-one)
