-- Names among names.
use Rattle.std.proofs.Common.{◌≡◌, ℕ, ◌+◌, ◌<◌, ◌≤◌, ◌||◌, Bool, true, false, not, cond, nat_lt, List, [], ◌∷◌, ◌++◌, length, get_or, take, map, position, Some, None, Ok, Err, refl, sym, ap, ◌∙◌, arith}
use Rattle.std.proofs.lemmas.Bool.Decides.{nat_tests}
use Rattle.std.proofs.lemmas.List.{map-append, take_all, take_more}
use Rattle.std.proofs.lemmas.List.Folds.{list_all-map, list_all_at, list_all_more}
use Rattle.std.specs.List.{list_all, list_any, position_or_len}
use Rattle.rhythm_base.proofs.Positions.{list_any-map, position_or_len-map}
use Rattle.std.specs.Str.{bytes_eq}
use Rattle.grammar_file.specs.Names.{is_known, symbol_of}
use Rattle.grammar_file.specs.Symbols.{where_known}
use Rattle.grammar_file.specs.declared.fault.GrammarWhat.{GrammarWhat}
use Rattle.grammar_file.specs.declared.fault.GrammarWhat.TheVariants.{UnknownName}

-- an element passes where the first place that does is a place of the list
pub any-place : {X : Type 0} (p : X → Bool) (xs : List X) → list_any p xs ≡ nat_lt (position_or_len p xs) (length xs)
any-place p [] = refl
any-place p (x ∷ xs) = at (p x) (any-place p xs)
  where
    at : (b : Bool) → list_any p xs ≡ nat_lt (position_or_len p xs) (length xs)
        → (b || list_any p xs) ≡ nat_lt (cond (not b) (1 + position_or_len p xs) 0) (length (x ∷ xs))
    at true rest = grind (arith, nat_tests)
    at false rest = rest ∙ grind (arith, nat_tests)

-- whether and where a name is among borrowed names
known-map : {X : Type 0} (text : X → List ℕ) (keys : List X) (name : List ℕ)
    → is_known (map text keys) name ≡ nat_lt (position_or_len (λ k. bytes_eq name (text k)) keys) (length keys)
known-map text keys name = list_any-map (bytes_eq name) text keys ∙ any-place (λ k. bytes_eq name (text k)) keys

pub symbol_of-found : {X : Type 0} (text : X → List ℕ) (keys : List X) (name : List ℕ) (i : ℕ) → position (λ k. bytes_eq name (text k)) keys ≡ Some i
    → Ok i ≡ where_known (is_known (map text keys) name) (symbol_of (map text keys) name)
symbol_of-found {X} text keys name i found = rw (known-map text keys name, position_or_len-map (bytes_eq name) text keys) (at (nat_lt (position_or_len test keys) (length keys)) found)
  where
    test : X → Bool
    test = λ k. bytes_eq name (text k)

    at : (b : Bool) → cond b (Some (position_or_len test keys)) None ≡ Some i → Ok i ≡ where_known b (position_or_len test keys)
    at true e = ap Ok (cc)
    at false e = cc

pub symbol_of-missing : {X : Type 0} (text : X → List ℕ) (keys : List X) (name : List ℕ) → position (λ k. bytes_eq name (text k)) keys ≡ None
    → Err UnknownName ≡ where_known (is_known (map text keys) name) (symbol_of (map text keys) name)
symbol_of-missing {X} text keys name missing = rw (known-map text keys name) (at (nat_lt (position_or_len test keys) (length keys)) missing)
  where
    test : X → Bool
    test = λ k. bytes_eq name (text k)

    at : (b : Bool) → cond b (Some (position_or_len test keys)) None ≡ None → Err UnknownName ≡ where_known b (symbol_of (map text keys) name)
    at true e = cc
    at false e = refl

-- what a symbol's outcome says
pub known-ok : {A : Type 0} (b : Bool) (x y : A) → where_known b x ≡ Ok y → (b ≡ true) × (x ≡ y)
known-ok true x y e = (refl, (cc))
known-ok false x y e = absurd (cc)

pub known-err : {A : Type 0} (b : Bool) (x : A) (what : GrammarWhat) → where_known b x ≡ Err what → (b ≡ false) × (what ≡ UnknownName)
known-err true x what e = absurd (cc)
known-err false x what e = (refl, (cc))

-- known names in a loop over their users
module _ {X Y : Type 0} (known : X → Bool) (symbol : X → Y) (xs : List X) (i : ℕ) (d : X) (within : i < length xs) where
  pub known_more : list_all known (take i xs) ≡ true → known (get_or xs i d) ≡ true → list_all known (take (i + 1) xs) ≡ true
  known_more before here = list_all_more known xs i d within ∙ rw (before, here) refl

  pub symbols_more : (ys : List Y) (y : Y) → ys ≡ map symbol (take i xs) → symbol (get_or xs i d) ≡ y → ys ++ y ∷ [] ≡ map symbol (take (i + 1) xs)
  symbols_more ys y before here = rw (take_more xs i d within, map-append symbol (take i xs) (get_or xs i d ∷ []), before, here) refl

map_twice : {X Y Z : Type 0} (f : Y → Z) (g : X → Y) (xs : List X) → map f (map g xs) ≡ map (λ x. f (g x)) xs
map_twice f g [] = refl
map_twice f g (x ∷ xs) = ap (λ ys. f (g x) ∷ ys) (map_twice f g xs)

-- of the images
pub where_known-map : {X Y Z : Type 0} (known : Y → Bool) (symbol : Y → Z) (text : X → Y) (xs : List X)
    → where_known (list_all known (map text xs)) (map symbol (map text xs)) ≡ where_known (list_all (λ x. known (text x)) xs) (map (λ x. symbol (text x)) xs)
where_known-map known symbol text xs = rw (list_all-map known text xs, map_twice symbol text xs) refl

pub where_known-parts : {X Y Z : Type 0} (known : Y → Bool) (symbol : ℕ × Y → Z) (text : X → ℕ × Y) (xs : List X)
    → where_known (list_all known (map (λ part. part.1) (map text xs))) (map symbol (map text xs))
    ≡ where_known (list_all (λ x. known (text x).1) xs) (map (λ x. symbol (text x)) xs)
where_known-parts known symbol text xs =
    rw (map_twice (λ part. part.1) text xs, list_all-map known (λ x. (text x).1) xs, map_twice symbol text xs) refl

-- all are known, or one is not
module _ {X Y : Type 0} (known : X → Bool) (symbol : X → Y) (xs : List X) where
  pub all_known : (i : ℕ) (ys : List Y) → length xs ≤ i → list_all known (take i xs) ≡ true → ys ≡ map symbol (take i xs)
      → where_known (list_all known xs) (map symbol xs) ≡ Ok ys
  all_known i ys all known-all is =
      let whole = take_all i xs all in
      rw (ap (list_all known) (sym whole) ∙ known-all) (ap Ok (ap (map symbol) (sym whole) ∙ sym is))

  pub one_unknown : (i : ℕ) (d : X) → i < length xs → known (get_or xs i d) ≡ false → where_known (list_all known xs) (map symbol xs) ≡ Err UnknownName
  one_unknown i d within not-known = rw (list_all_at known xs i d within not-known) refl
