-- The first keys of a set, in order; and a list of keys in order that others are offered to.
use Rattle.std.specs.Prelude.{◌≡◌, ◌<◌, ◌≤◌, ◌^◌, ◌⊎◌, ℕ, true, drop, Bool, List, [], ◌∷◌, ◌++◌, IsFalse, length, map, take, All, AllPairs, Contains, Option, Some, None, MatchOption, if◌then◌else◌}
use Rattle.rhythm_base.specs.Ranked.{Key, is_before, plus}

abbrev pub IsBefore : Key → Key → Type 0
IsBefore x y = is_before x y ≡ true

-- the first `count` keys of the set, each once and in order; fewer where there are no more
pub record AreFirstKeys (S : Key → Type 0) (count : ℕ) (keys : List Key) : Type 0 where
  pub are : All S keys
  pub in_order : AllPairs IsBefore keys
  pub few : length keys ≤ count
  pub first : (k : Key) → S k → Contains keys k ⊎ ((length keys ≡ count) × All (λ x. IsBefore x k) keys)

-- the first of a list, where there is one
abbrev pub first_key : List Key → Option Key
first_key [] = None
first_key (k ∷ ks) = Some k

-- ---- offers

-- the keys with one more at its place; one that is there stays alone
abbrev pub with_key : Key → List Key → List Key
with_key k [] = k ∷ []
with_key k (x ∷ xs) = if is_before k x then k ∷ x ∷ xs else (if is_before x k then x ∷ with_key k xs else x ∷ xs)

-- the keys after another was offered: the first `count` with it
abbrev pub offered : ℕ → Key → List Key → List Key
offered count k xs = take count (with_key k xs)

-- after each of these was offered
abbrev pub all_offered : ℕ → List Key → List Key → List Key
all_offered count [] xs = xs
all_offered count (k ∷ ks) xs = all_offered count ks (offered count k xs)

-- after each sum of a key on the left and one on the right was offered
abbrev pub sums_offered : ℕ → List Key → List Key → List Key → List Key
sums_offered count [] right xs = xs
sums_offered count (x ∷ left) right xs = sums_offered count left right (all_offered count (map (plus x) right) xs)

-- the key of trees of this cost, whose rules are those of the three lists
abbrev pub key_of : ℕ → List ℕ → List ℕ → List ℕ → Key
key_of cost top first last = (cost, (top ++ first) ++ last)

-- each of the others was offered, with a key before it
abbrev pub HasOffers : ℕ → Key → List Key → List Key → List Key → Type 0
HasOffers count k others old new = new ≡ all_offered count (map (plus k) others) old

-- each sum of a key on the left and one on the right was offered, with a key before it
abbrev pub HasSums : ℕ → Key → List Key → List Key → List Key → List Key → Type 0
HasSums count k left right old new = new ≡ sums_offered count (map (plus k) left) right old

-- ---- lists that are offered to

-- keys in order, and no more than so many
pub record AreKeptKeys (count : ℕ) (keys : List Key) : Type 0 where
  pub in_order : AllPairs IsBefore keys
  pub few : length keys ≤ count

-- so many of the keys, the first ones, are before the key, and the others after it
pub record IsPlace (keys : List Key) (k : Key) (n : ℕ) : Type 0 where
  pub within : n ≤ length keys
  pub low : All (λ x. IsBefore x k) (take n keys)
  pub high : All (IsBefore k) (drop n keys)

-- that place, none where the key is there already
abbrev pub IsPlaceFor : List Key → Key → Option ℕ → Type 0
IsPlaceFor keys k place = MatchOption place (Contains keys k) (IsPlace keys k)

-- keys in order, of costs that can be added
pub record AreAddable (keys : List Key) : Type 0 where
  pub in_order : AllPairs IsBefore keys
  pub low : All (λ k. k.0 < 2 ^ 62) keys

-- there are as many keys as may be, and all are before the key
pub record IsPast (count : ℕ) (k : Key) (keys : List Key) : Type 0 where
  pub full : length keys ≡ count
  pub before : All (λ x. IsBefore x k) keys

-- all keys that may be are before the key, unless it is said that others may be near
abbrev pub IsPastUnless : ℕ → Key → List Key → Bool → Type 0
IsPastUnless count k keys near = IsFalse near → IsPast count k keys

-- there are as many keys as may be, and each costs less
pub record AreCheaper (count c : ℕ) (keys : List Key) : Type 0 where
  pub full : length keys ≡ count
  pub low : All (λ k. k.0 < c) keys
