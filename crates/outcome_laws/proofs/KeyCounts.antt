-- How many keys sets have, and sums over lists.
use Rattle.std.proofs.Common.{◌≡◌, ◌+◌, ◌*◌, ◌^◌, ◌<◌, ◌≤◌, ◌==◌, ◌⊎◌, ℕ, zero, suc, inl, inr, Bool, true, false, List, [], ◌∷◌, ◌++◌, length, map, reverse, ap, refl, arith, bit_or}
use Rattle.std.specs.Prelude.{filter, fold, if◌then◌else◌}
use Rattle.std.specs.Int.{bit_at}
use Rattle.std.specs.List.{flat_map, range_with_len}
use Rattle.std.proofs.lemmas.Bool.{cases_eq}
use Rattle.std.proofs.lemmas.List.{length-append, length-map}
use Rattle.std.proofs.lemmas.Nat.Bits.{bit_at-pow_other}
use Rattle.rhythm_base.proofs.ListParts.{reverse_cons}
use Rattle.score_words.specs.Keys.{rising_keys}
use Rattle.smf_writer.proofs.KeyBits.{no_bit, of_either, one_bit}

-- ---- sums

abbrev pub total : {X : Type 0} → (X → ℕ) → List X → ℕ
total f [] = 0
total f (x ∷ xs) = f x + total f xs

pub total_append : {X : Type 0} (f : X → ℕ) (xs ys : List X) → total f (xs ++ ys) ≡ total f xs + total f ys
total_append f [] ys = omega arith
total_append f (x ∷ xs) ys = let rest = total_append f xs ys in omega (arith, rest)

pub total_map : {X Y : Type 0} (f : Y → ℕ) (h : X → Y) (xs : List X) → total f (map h xs) ≡ total (λ x. f (h x)) xs
total_map f h [] = refl
total_map f h (x ∷ xs) = let rest = total_map f h xs in omega (arith, rest)

pub total_reverse : {X : Type 0} (f : X → ℕ) (xs : List X) → total f (reverse xs) ≡ total f xs
total_reverse f [] = refl
total_reverse f (x ∷ xs) =
    let turned = ap (total f) (reverse_cons x xs) in
    let both = total_append f (reverse xs) (x ∷ []) in
    let rest = total_reverse f xs in
    omega (arith, turned, both, rest)

-- where each gives at most twice its number, all give at most twice the sum
pub flat_few : {X Y : Type 0} (f : X → List Y) (n : X → ℕ) → ((x : X) → length (f x) ≤ 2 * n x) → (xs : List X) → length (flat_map f xs) ≤ 2 * total n xs
flat_few f n few [] = omega arith
flat_few f n few (x ∷ xs) =
    let own = few x in
    let rest = flat_few f n few xs in
    let both = length-append (f x) (flat_map f xs) in
    omega (arith, own, rest, both)

pub length_flat : {X Y : Type 0} (f : X → List Y) (xs : List X) → length (flat_map f xs) ≡ total (λ x. length (f x)) xs
length_flat f [] = refl
length_flat f (x ∷ xs) = let rest = length_flat f xs in let both = length-append (f x) (flat_map f xs) in omega (arith, rest, both)

-- ---- the keys of a set

-- (shut, so that no list of 128 keys is computed where one is counted)
pub key_count : ℕ → ℕ
key_count keys = length (rising_keys keys)

pub mapped_count : {X : Type 0} (f : ℕ → X) (keys : ℕ) → length (map f (rising_keys keys)) ≡ key_count keys
unfolding key_count rising_keys
mapped_count f keys = length-map (rising_keys keys) f

-- what passes one test passes one of two others
either_passes : (p q r : ℕ → Bool) → ((k : ℕ) → p k ≡ true → (q k ≡ true) ⊎ (r k ≡ true)) → (xs : List ℕ) → length (filter p xs) ≤ length (filter q xs) + length (filter r xs)
either_passes p q r one [] = omega arith
either_passes p q r one (x ∷ xs) = go (p x) (q x) (r x) refl refl refl (either_passes p q r one xs)
  where
    go : (a b c : Bool) → p x ≡ a → q x ≡ b → r x ≡ c → length (filter p xs) ≤ length (filter q xs) + length (filter r xs)
        → length (if a then x ∷ filter p xs else filter p xs) ≤ length (if b then x ∷ filter q xs else filter q xs) + length (if c then x ∷ filter r xs else filter r xs)
    go true true true h k m rest = omega (arith, rest)
    go true true false h k m rest = omega (arith, rest)
    go true false true h k m rest = omega (arith, rest)
    go true false false h k m rest = elim (one x h) [ inl passes ↦ absurd (cc) | inr passes ↦ absurd (cc) ]
    go false true true h k m rest = omega (arith, rest)
    go false true false h k m rest = omega (arith, rest)
    go false false true h k m rest = omega (arith, rest)
    go false false false h k m rest = rest

none_passes : (p : ℕ → Bool) → (xs : List ℕ) → ((k : ℕ) → p k ≡ true → ⊥) → filter p xs ≡ []
none_passes p [] never = refl
none_passes p (x ∷ xs) never = go (p x) refl (none_passes p xs never)
  where
    go : (a : Bool) → p x ≡ a → filter p xs ≡ [] → (if a then x ∷ filter p xs else filter p xs) ≡ []
    go true h rest = absurd (never x h)
    go false h rest = rest

pub joined_count : (a b : ℕ) → key_count (bit_or a b) ≤ key_count a + key_count b
unfolding key_count rising_keys
joined_count a b =
    either_passes (λ k. bit_at (bit_or a b) k == 1) (λ k. bit_at a k == 1) (λ k. bit_at b k == 1)
    (λ k h. elim (of_either a b k (one_bit (bit_at (bit_or a b) k) h)) [ inl own ↦ inl (rw own refl) | inr own ↦ inr (rw own refl) ]) (range_with_len 0 128)

pub no_keys : key_count 0 ≡ 0
unfolding key_count rising_keys
no_keys = ap length (none_passes (λ k. bit_at 0 k == 1) (range_with_len 0 128) (λ k h. no_bit k (one_bit (bit_at 0 k) h)))

-- the only bit of a power of two
own_bit : (key k : ℕ) → (bit_at (2 ^ key) k == 1) ≡ true → k ≡ key
own_bit key k h = elim (cases_eq k key) [
  | inl same ↦ same
  | inr other ↦ let set = one_bit (bit_at (2 ^ key) k) h in let clear = bit_at-pow_other key k other in absurd (omega (arith, set, clear))
]

none_after : (key a n : ℕ) → key < a → filter (λ k. bit_at (2 ^ key) k == 1) (range_with_len a n) ≡ []
none_after key a zero less = refl
none_after key a (suc n) less = go (bit_at (2 ^ key) a == 1) refl (none_after key (a + 1) n (omega (arith, less)))
  where
    rest : List ℕ
    rest = filter (λ k. bit_at (2 ^ key) k == 1) (range_with_len (a + 1) n)

    go : (b : Bool) → (bit_at (2 ^ key) a == 1) ≡ b → rest ≡ [] → (if b then a ∷ rest else rest) ≡ []
    go true h none = let same = own_bit key a h in absurd (omega (arith, same, less))
    go false h none = none

-- from a number on
once_after : (key a n : ℕ) → length (filter (λ k. bit_at (2 ^ key) k == 1) (range_with_len a n)) ≤ 1
once_after key a zero = omega arith
once_after key a (suc n) = go (bit_at (2 ^ key) a == 1) refl (once_after key (a + 1) n)
  where
    rest : List ℕ
    rest = filter (λ k. bit_at (2 ^ key) k == 1) (range_with_len (a + 1) n)

    go : (b : Bool) → (bit_at (2 ^ key) a == 1) ≡ b → length rest ≤ 1 → length (if b then a ∷ rest else rest) ≤ 1
    go true h few =
        let same = own_bit key a h in
        let none : length rest ≡ 0 = ap length (none_after key (a + 1) n (omega (arith, same))) in
        omega (arith, none)
    go false h few = few

pub one_key : (key : ℕ) → key_count (2 ^ key) ≤ 1
unfolding key_count rising_keys
one_key key = once_after key 0 128

-- joined sets have no more keys than all together
pub fold_count : {X : Type 0} (keys_of : X → ℕ) (first : ℕ) (xs : List X) → key_count (fold (λ keys x. bit_or keys (keys_of x)) first xs) ≤ key_count first + total (λ x. key_count (keys_of x)) xs
fold_count keys_of first [] = omega arith
fold_count keys_of first (x ∷ xs) =
    let own = joined_count first (keys_of x) in
    let rest = fold_count keys_of (bit_or first (keys_of x)) xs in
    omega (arith, own, rest)
