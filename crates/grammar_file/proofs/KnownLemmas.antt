-- The left sides are among the names, and the first line that is not understood.
use Rattle.std.proofs.Common.{◌≡◌, ℕ, ◌+◌, ◌<◌, ◌||◌, Bool, true, false, not, cond, List, [], ◌∷◌, ◌++◌, length, get_or, take, drop, filter, zero, suc, refl, ap, ◌∙◌, subst, arith}
use Rattle.std.proofs.lemmas.Map.Views.{any-filter_same}
use Rattle.std.proofs.lemmas.Slice.Eq.{bytes_eq-Decides}
use Rattle.std.specs.List.{list_all}
use Rattle.std.specs.Str.{bytes_eq}
use Rattle.grammar_file.specs.Names.{first_appearances, is_known}
use Rattle.grammar_file.specs.Statements.{left_side, left_sides, names_of}
use Rattle.grammar_file.specs.declared.draft.Spoken.{Spoken}
use Rattle.grammar_file.specs.declared.said.Said.{Said}
use Rattle.grammar_file.specs.declared.said.Said.TheVariants.{Start, Rule}

-- a text of the list is among the first appearances
pub appears : (texts : List (List ℕ)) (x : List ℕ) → is_known texts x ≡ true → is_known (first_appearances texts) x ≡ true
appears [] x e = e
appears (text ∷ texts) x e = at (bytes_eq x text) refl e (appears texts x)
  where
    others : List ℕ → Bool
    others y = not (bytes_eq y text)

    at : (b : Bool) → bytes_eq x text ≡ b → (b || is_known texts x) ≡ true → (is_known texts x ≡ true → is_known (first_appearances texts) x ≡ true)
        → (bytes_eq x text || is_known (filter others (first_appearances texts)) x) ≡ true
    at true here e rest = rw here refl
    at false other e rest =
        rw other
        (any-filter_same (bytes_eq x) others true
        (λ y is. let P : List ℕ → Type 0 = λ z. others z ≡ true in
        subst P ((bytes_eq-Decides x y).0 is) (ap not other))
        (first_appearances texts) ∙ rest e)

-- each element's texts are among all
known_among : (texts others : List (List ℕ)) (x : List ℕ) → is_known others x ≡ true → is_known (texts ++ others) x ≡ true
known_among [] others x e = e
known_among (text ∷ texts) others x e = at (bytes_eq x text) (known_among texts others x e)
  where
    at : (b : Bool) → is_known (texts ++ others) x ≡ true → (b || is_known (texts ++ others) x) ≡ true
    at true rest = refl
    at false rest = rest

left_side_known : (spoken : List Spoken) (i : ℕ) (d : Spoken) (known : List ℕ → Bool) → i < length spoken
    → ((x : List ℕ) → is_known (left_sides spoken) x ≡ true → known x ≡ true) → list_all known (left_side (get_or spoken i d)) ≡ true
left_side_known [] i d known within all = absurd (omega arith)
left_side_known (first ∷ spoken) zero d known within all = at first.said all
  where
    at : (said : Said) → ((x : List ℕ) → is_known (left_side (record { line = first.line; said = said }) ++ left_sides spoken) x ≡ true → known x ≡ true)
        → list_all known (left_side (record { line = first.line; said = said })) ≡ true
    at (Start num den name) all = refl
    at (Rule name weight body) all = rw (all name (rw ((bytes_eq-Decides name name).1 refl) refl)) refl
left_side_known (first ∷ spoken) (suc i) d known within all = left_side_known spoken i d known (omega arith) (λ x e. all x (known_among (left_side first) (left_sides spoken) x e))

pub left_sides_known : (spoken : List Spoken) (i : ℕ) (d : Spoken) → i < length spoken → list_all (is_known (names_of spoken)) (left_side (get_or spoken i d)) ≡ true
left_sides_known spoken i d within = left_side_known spoken i d (is_known (names_of spoken)) within (λ x e. appears (left_sides spoken) x e)

-- the first element that passes
pub filter_first : {X : Type 0} (p : X → Bool) (xs : List X) (i : ℕ) (d : X) → i < length xs → filter p (take i xs) ≡ [] → p (get_or xs i d) ≡ true
    → filter p xs ≡ get_or xs i d ∷ filter p (drop (i + 1) xs)
filter_first p [] i d within none here = absurd (omega arith)
filter_first p (x ∷ xs) zero d within none here = rw here refl
filter_first {X} p (x ∷ xs) (suc i) d within none here =
    at (p x) none (λ e. filter_first p xs i d (omega arith) e here)
  where
    at : (b : Bool) → cond b (x ∷ filter p (take i xs)) (filter p (take i xs)) ≡ []
        → (filter p (take i xs) ≡ [] → filter p xs ≡ get_or xs i d ∷ filter p (drop (i + 1) xs))
        → cond b (x ∷ filter p xs) (filter p xs) ≡ get_or xs i d ∷ filter p (drop (suc i + 1) (x ∷ xs))
    at true e rest = absurd (cc)
    at false e rest = let next : suc i + 1 ≡ suc (i + 1) = omega arith in rw next (rest e)
