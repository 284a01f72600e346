-- Words that are joined by spaces.
use Rattle.std.proofs.Common.{◌≡◌, ℕ, List, [], ◌∷◌, ◌++◌, map, ap, ◌∙◌, append-nil, append_assoc}
use Rattle.std.specs.Prelude.{Result, Ok, Err, OnOk, is_ok, if◌then◌else◌}
use Rattle.std.specs.List.{flat_map, join_with_byte}

-- a word, and later ones with a space before each
joined : {X : Type 0} (f : X → List ℕ) (w : List ℕ) (xs : List X) → w ++ flat_map (λ x. 32 ∷ f x) xs ≡ join_with_byte 32 (w ∷ map f xs)
joined f w [] = append-nil w
joined f w (x ∷ xs) = ap (λ l. w ++ (32 ∷ l)) (joined f (f x) xs)

-- a text after a word is written, the words after it, and a newline, if the newline is
pub line_after : {X T E : Type 0} (f : X → List ℕ) (w : List ℕ) (xs : List X) (r : Result T E) (old named worded new : List ℕ) → named ≡ old ++ w
    → worded ≡ named ++ flat_map (λ x. 32 ∷ f x) xs → new ≡ (if is_ok r then worded ++ (10 ∷ []) else worded)
    → OnOk r (new ≡ old ++ (join_with_byte 32 (w ∷ map f xs) ++ (10 ∷ [])))
line_after f w xs (Ok x) old named worded new a b c =
    c ∙ ap (λ t. t ++ (10 ∷ [])) (b ∙ ap (λ t. t ++ flat_map (λ x. 32 ∷ f x) xs) a ∙ append_assoc old w _ ∙ ap (λ t. old ++ t) (joined f w xs))
    ∙ append_assoc old (join_with_byte 32 (w ∷ map f xs)) (10 ∷ [])
line_after f w xs (Err e) old named worded new a b c = tt
