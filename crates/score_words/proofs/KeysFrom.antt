-- The keys of a set, one key after another.
use Rattle.std.proofs.Common.{◌≡◌, ℕ, zero, suc, ◌+◌, ◌==◌, Bool, true, false, List, [], ◌∷◌, ◌++◌, refl, ap, ◌∙◌, add-one}
use Rattle.std.specs.Prelude.{filter, if◌then◌else◌}
use Rattle.std.specs.Int.{bit_at}
use Rattle.std.specs.List.{range_with_len}
use Rattle.score_words.specs.Keys.{rising_keys}

-- those of so many keys from one on
abbrev pub keys_from : ℕ → ℕ → ℕ → List ℕ
keys_from keys k zero = []
keys_from keys k (suc n) = (if bit_at keys k == 1 then k ∷ [] else []) ++ keys_from keys (suc k) n

from_is : (keys k n : ℕ) → filter (λ j. bit_at keys j == 1) (range_with_len k n) ≡ keys_from keys k n
from_is keys k zero = refl
from_is keys k (suc n) = go (bit_at keys k == 1) (ap (λ j. filter (λ j. bit_at keys j == 1) (range_with_len j n)) (add-one k) ∙ from_is keys (suc k) n)
  where
    go : (b : Bool) → filter (λ j. bit_at keys j == 1) (range_with_len (k + 1) n) ≡ keys_from keys (suc k) n
        → (if b then k ∷ filter (λ j. bit_at keys j == 1) (range_with_len (k + 1) n) else filter (λ j. bit_at keys j == 1) (range_with_len (k + 1) n))
        ≡ (if b then k ∷ [] else []) ++ keys_from keys (suc k) n
    go true rest = ap (λ ks. k ∷ ks) rest
    go false rest = rest

pub rising_is : (keys : ℕ) → rising_keys keys ≡ keys_from keys 0 128
unfolding rising_keys
rising_is keys = from_is keys 0 128
