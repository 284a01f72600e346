-- Rule lists one after another, by the numbers of chords carried in and out.
use Rattle.std.specs.Prelude.{◌≡◌, ℕ, zero, suc, ◌+◌, ◌*◌, ◌<◌, ◌≤◌, List, length, slice_index_or, Option, Some, None, ⊤}
use Rattle.rhythm_base.specs.Ranked.{Key, Keys}
use Rattle.grammar_plan.specs.Plans.{between}

-- the number of the list for a chords carried in and b carried out
abbrev pub list_number : ℕ → ℕ → ℕ
list_number a b = 5 * a + b

-- where the list of a number ends, and where it begins
abbrev pub list_end : List ℕ → ℕ → ℕ
list_end ends n = slice_index_or ends n 0

abbrev pub list_start : List ℕ → ℕ → ℕ
list_start ends zero = 0
list_start ends (suc n) = list_end ends n

-- the list of a number
abbrev pub list_of : List ℕ → List ℕ → ℕ → List ℕ
list_of rules ends n = between rules (list_start ends n) (list_end ends n)

-- it lies in the rules
abbrev pub IsPlaced : List ℕ → List ℕ → ℕ → Type 0
IsPlaced rules ends n = (list_start ends n ≤ list_end ends n) × (list_end ends n ≤ length rules)

-- the first n lists stand one after another, and each is the list of its number
pub record AreListsWritten (IsList : ℕ → List ℕ → Type 0) (rules ends : List ℕ) (n : ℕ) : Type 0 where
  pub long : length ends ≡ 25
  pub last : list_start ends n ≡ length rules
  pub placed : (i : ℕ) → i < n → IsPlaced rules ends i
  pub lists : (i : ℕ) → i < n → IsList i (list_of rules ends i)

-- the rule list of a key, where that is there
abbrev pub IsListOf : Option Key → List ℕ → Type 0
IsListOf None xs = ⊤
IsListOf (Some k) xs = xs ≡ k.1

-- the list of a number is that of the key for the same numbers carried in and out
abbrev pub IsListAt : Keys → ℕ → List ℕ → Type 0
IsListAt keys n xs = (a b : ℕ) → b < 5 → n ≡ list_number a b → IsListOf (keys a b) xs
