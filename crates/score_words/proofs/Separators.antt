-- Lists joined by a separator.
use Rattle.std.proofs.Common.{◌≡◌, ℕ, ◌+◌, ◌<◌, List, [], ◌∷◌, ◌++◌, length, get_or, map, take, refl, sym, ap, ◌∙◌, arith}
use Rattle.std.specs.Prelude.{replicate}
use Rattle.std.specs.List.{join_with_byte}
use Rattle.std.proofs.lemmas.List.{append_assoc, length-map, length-replicate, length-take-le, map_more, replicate_more}
use Rattle.score_words.specs.Separators.{separator_text}

pub join_push : (byte : ℕ) (xs : List (List ℕ)) (y : List ℕ) → join_with_byte byte (xs ++ y ∷ []) ≡ join_with_byte byte xs ++ separator_text byte (length xs) ++ y
join_push byte [] y = refl
join_push byte (x ∷ []) y = sym (append_assoc x (byte ∷ []) y)
join_push byte (x ∷ z ∷ xs) y =
    ap (λ t. x ++ (byte ∷ t)) (join_push byte (z ∷ xs) y)
    ∙ ap (λ t. x ++ (byte ∷ t)) (append_assoc (join_with_byte byte (z ∷ xs)) (byte ∷ []) y)
    ∙ sym (append_assoc x (byte ∷ join_with_byte byte (z ∷ xs)) (byte ∷ y))
    ∙ sym (append_assoc (x ++ (byte ∷ join_with_byte byte (z ∷ xs))) (byte ∷ []) y)

pub join_replicate : (byte n : ℕ) (x : List ℕ) → join_with_byte byte (replicate (n + 1) x) ≡ join_with_byte byte (replicate n x) ++ (separator_text byte n ++ x)
join_replicate byte n x =
    ap (join_with_byte byte) (sym (replicate_more n x)) ∙ join_push byte (replicate n x) x
    ∙ ap (λ k. join_with_byte byte (replicate n x) ++ separator_text byte k ++ x) (length-replicate n x)
    ∙ append_assoc (join_with_byte byte (replicate n x)) (separator_text byte n) x

pub join_map_more : {X : Type 0} (byte : ℕ) (f : X → List ℕ) (xs : List X) (i : ℕ) (d : X) → i < length xs
    → join_with_byte byte (map f (take (i + 1) xs)) ≡ join_with_byte byte (map f (take i xs)) ++ (separator_text byte i ++ f (get_or xs i d))
join_map_more byte f xs i d lt =
    let front = map f (take i xs) in
    let count : length front ≡ i = length-map (take i xs) f ∙ length-take-le i xs (omega arith) in
    ap (join_with_byte byte) (map_more f xs i d lt) ∙ join_push byte front (f (get_or xs i d))
    ∙ ap (λ n. join_with_byte byte front ++ separator_text byte n ++ f (get_or xs i d)) count
    ∙ append_assoc (join_with_byte byte front) (separator_text byte i) (f (get_or xs i d))
