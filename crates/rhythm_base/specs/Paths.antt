-- Paths over a list of ranked matrices: one count of carried chords for each barline.
use Rattle.std.specs.Prelude.{◌≡◌, ℕ, ◌+◌, ◌<◌, ◌≤◌, ◌^◌, false, List, [], ◌∷◌, length, take, Option, Some, None, IsSome}
use Rattle.rhythm_base.specs.declared.best.Best.{Best}
use Rattle.rhythm_base.specs.Lists.{last_end}
use Rattle.rhythm_base.specs.Ranked.{CarryMatrix, at, grid, Key, is_before, one, key_sum, count_under}

-- the key of the path that begins at the count a and goes on along the counts p, where its entries are there: the sum of
-- their costs and the list of their ranks
abbrev pub path_key : List CarryMatrix → ℕ → List ℕ → Option Key
path_key [] a [] = Some (0, [])
path_key [] a (m ∷ p) = None
path_key (e ∷ es) a [] = None
path_key (e ∷ es) a (m ∷ p) = key_sum (one e a m) (path_key es m p)

-- numbers of chords carried: 0 to 4 each
abbrev pub AreCarried : List ℕ → Type 0
AreCarried [] = Unit {0}
AreCarried (m ∷ p) = (m < 5) × AreCarried p

-- k is the key of a path from a to b
abbrev pub IsPathKey : List CarryMatrix → ℕ → ℕ → Key → Type 0
IsPathKey es a b k = (p : List ℕ) × AreCarried p × (last_end a p ≡ b) × (path_key es a p ≡ Some k)

-- p is a path from a to b with the key k, and no path from a to b has an earlier key
pub record IsLeastPath (es : List CarryMatrix) (a b : ℕ) (p : List ℕ) (k : Key) : Type 0 where
  pub counts : AreCarried p
  pub ends : last_end a p ≡ b
  pub key : path_key es a p ≡ Some k
  pub least : (x : Key) → IsPathKey es a b x → is_before x k ≡ false

-- ---- dead cells

-- counts from 0 on lead over the cells 0 to i, and to 0 where i is the last cell
pub record HasWay (es : List CarryMatrix) (i : ℕ) : Type 0 where
  pub counts : List ℕ
  pub carried : AreCarried counts
  pub there : IsSome (path_key (take (i + 1) es) 0 counts)
  pub none_last : i + 1 ≡ length es → last_end 0 counts ≡ 0

-- the least cell over which no counts lead
pub record IsDeadCell (es : List CarryMatrix) (i : ℕ) : Type 0 where
  pub cell : i < length es
  pub dead : HasWay es i → ⊥
  pub first : (j : ℕ) → j < i → HasWay es j

-- ---- well-formed matrices

-- five by five entries; the rank of each is the number of entries of its row with a lower rank, and no two have the same
pub record IsRanked (m : CarryMatrix) : Type 0 where
  pub shape : m ≡ grid (at m)
  pub counts : (a b : ℕ) → a < 5 → b < 5 → (e : Best) → at m a b ≡ Some e → e.rank ≡ count_under (one m a) (e.rank ∷ []) 5
  pub apart : (a b c : ℕ) → a < 5 → b < 5 → c < 5 → (e f : Best) → at m a b ≡ Some e → at m a c ≡ Some f → e.rank ≡ f.rank → b ≡ c

-- a cost below 2 ^ 62, where there is one
abbrev pub IsLow : Option Best → Type 0
IsLow o = (e : Best) → o ≡ Some e → e.cost < 2 ^ 62

abbrev pub AreLow : CarryMatrix → Type 0
AreLow m = (i j : ℕ) → IsLow (at m i j)

-- every cost is at most c
abbrev pub IsCheap : ℕ → CarryMatrix → Type 0
IsCheap c m = (i j : ℕ) (e : Best) → at m i j ≡ Some e → e.cost ≤ c

abbrev pub AreCheap : ℕ → List CarryMatrix → Type 0
AreCheap c [] = Unit {0}
AreCheap c (m ∷ es) = IsCheap c m × AreCheap c es
