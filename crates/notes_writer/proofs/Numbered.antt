-- Numbered elements of a list.
use Rattle.std.proofs.Common.{◌≡◌, ℕ, ◌+◌, ◌<◌, List, [], ◌∷◌, ◌++◌, length, get_or, take, ap, ◌∙◌, sym, append_assoc, append-nil, refl, arith}
use Rattle.std.specs.List.{enumerate_from, flat_map}
use Rattle.std.proofs.lemmas.Grind.{flat_map-append}
use Rattle.std.proofs.lemmas.List.{take_more, length-take-le}

numbered_append : {X : Type 0} (n : ℕ) (xs : List X) (x : X) → enumerate_from n (xs ++ x ∷ []) ≡ enumerate_from n xs ++ (n + length xs, x) ∷ []
numbered_append n [] x = let e : n ≡ n + 0 = omega arith in ap (λ m. (m, x) ∷ []) e
numbered_append n (y ∷ xs) x =
    let e : (n + 1) + length xs ≡ n + length (y ∷ xs) = omega arith in
    ap (λ l. (n, y) ∷ l) (numbered_append (n + 1) xs x ∙ ap (λ m. enumerate_from (n + 1) xs ++ (m, x) ∷ []) e)

-- the first elements with their numbers, and the next with its own
numbered_more : {X : Type 0} (xs : List X) (i : ℕ) (d : X) → i < length xs
    → enumerate_from 0 (take (i + 1) xs) ≡ enumerate_from 0 (take i xs) ++ (i, get_or xs i d) ∷ []
numbered_more xs i d within =
    let x = get_or xs i d in
    let few : 0 + length (take i xs) ≡ i = omega (arith, length-take-le i xs (omega arith)) in
    ap (enumerate_from 0) (take_more xs i d within) ∙ numbered_append 0 (take i xs) x ∙ ap (λ m. enumerate_from 0 (take i xs) ++ (m, x) ∷ []) few

-- what is written of the first elements with their numbers, and of the next
pub pieces_more : {X : Type 0} (f : ℕ × X → List ℕ) (xs : List X) (i : ℕ) (d : X) (old now new : List ℕ) → i < length xs
    → now ≡ old ++ flat_map f (enumerate_from 0 (take i xs)) → new ≡ now ++ f (i, get_or xs i d)
    → new ≡ old ++ flat_map f (enumerate_from 0 (take (i + 1) xs))
pieces_more f xs i d old now new within before after =
    let first = enumerate_from 0 (take i xs) in
    let next = f (i, get_or xs i d) in
    let more : flat_map f (enumerate_from 0 (take (i + 1) xs)) ≡ flat_map f first ++ next =
    ap (flat_map f) (numbered_more xs i d within) ∙ flat_map-append f first ((i, get_or xs i d) ∷ [])
    ∙ ap (λ t. flat_map f first ++ t) (append-nil next) in
    after ∙ ap (λ t. t ++ next) before ∙ append_assoc old (flat_map f first) next ∙ ap (λ t. old ++ t) (sym more)

-- numbered lists that are alike are of one list
pub unnumbered : {X : Type 0} (n : ℕ) (xs ys : List X) → enumerate_from n xs ≡ enumerate_from n ys → xs ≡ ys
unnumbered {X} n [] [] e = refl
unnumbered {X} n [] (y ∷ ys) e = absurd (cc)
unnumbered {X} n (x ∷ xs) [] e = absurd (cc)
unnumbered {X} n (x ∷ xs) (y ∷ ys) e =
    let pair : ◌≡◌ {A = ℕ × X} (n, x) (n, y) = cc in
    let first : x ≡ y = ap (λ (q : ℕ × X). q.1) pair in
    let later : enumerate_from (n + 1) xs ≡ enumerate_from (n + 1) ys = cc in
    let rest = unnumbered (n + 1) xs ys later in
    λ i. first i ∷ rest i
