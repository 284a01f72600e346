-- Ranked matrices: the least paths over a list of them, their table, and the product of two.
use Rattle.std.specs.Prelude.{ℕ, ◌+◌, Bool, false, ◌||◌, ◌&&◌, ◌==◌, nat_lt, List, [], ◌∷◌, ◌++◌, slice_index_or, Option, Some, None, if◌then◌else◌}
use Rattle.std.proofs.Common.{zero, suc}
use Rattle.std.specs.Ordering.{nat_cmp, ordering_then, is_lt}
use Rattle.std.specs.Cmp.Lexicographic.{slice_cmp}
use Rattle.std.specs.declared.cmp.Ordering.{Ordering}
use Rattle.rhythm_base.specs.declared.best.Best.{Best}

abbrev pub CarryMatrix : Type 0
CarryMatrix = List (List (Option Best))

abbrev pub at : CarryMatrix → ℕ → ℕ → Option Best
at m from to = slice_index_or (slice_index_or m from []) to None

abbrev pub five : {A : Type 0} → (ℕ → A) → List A
five f = f 0 ∷ f 1 ∷ f 2 ∷ f 3 ∷ f 4 ∷ []

abbrev pub grid : (ℕ → ℕ → Option Best) → CarryMatrix
grid f = five (λ a. five (f a))

-- ---- keys: a cost, and a list of ranks that decides between equal costs

abbrev pub Key : Type 0
Key = ℕ × List ℕ

abbrev pub Keys : Type 0
Keys = ℕ → ℕ → Option Key

abbrev pub list_cmp : List ℕ → List ℕ → Ordering
list_cmp x y = slice_cmp nat_cmp x y

abbrev pub key_cmp : Key → Key → Ordering
key_cmp x y = ordering_then (nat_cmp x.0 y.0) (list_cmp x.1 y.1)

abbrev pub is_before : Key → Key → Bool
is_before x y = is_lt (key_cmp x y)

-- one after the other
abbrev pub plus : Key → Key → Key
plus x y = (x.0 + y.0, x.1 ++ y.1)

abbrev pub key_sum : Option Key → Option Key → Option Key
key_sum None b = None
key_sum (Some x) None = None
key_sum (Some x) (Some y) = Some (plus x y)

abbrev pub key_of : Option Best → Option Key
key_of None = None
key_of (Some e) = Some (e.cost, e.rank ∷ [])

abbrev pub one : CarryMatrix → Keys
one m a b = key_of (at m a b)

-- ---- the first of the lowest among those that are there, with its number

module _ {X : Type 0} where
  abbrev pub better : (X → X → Bool) → Option (ℕ × X) → ℕ → Option X → Option (ℕ × X)
  better lt o n None = o
  better lt None n (Some x) = Some (n, x)
  better lt (Some y) n (Some x) = if lt x y.1 then Some (n, x) else Some y

  abbrev pub pick : (X → X → Bool) → (ℕ → Option X) → ℕ → Option (ℕ × X)
  pick lt c zero = None
  pick lt c (suc n) = better lt (pick lt c n) n (c n)

  abbrev pub number_of : Option (ℕ × X) → Option ℕ
  number_of None = None
  number_of (Some x) = Some x.0

  abbrev pub value_of : Option (ℕ × X) → Option X
  value_of None = None
  value_of (Some x) = Some x.1

-- ---- least paths

abbrev pub times : Keys → Keys → Keys
times k l a b = value_of (pick is_before (λ m. key_sum (k a m) (l m b)) 5)

-- the key of the least path from a count to a count
abbrev pub least_key : List CarryMatrix → Keys
least_key [] a b = if a == b then Some (0, []) else None
least_key (m ∷ ms) a b = times (one m) (least_key ms) a b

-- ---- tables: costs, and the places of the lists of ranks in their row

abbrev pub is_under : Option Key → List ℕ → Bool
is_under None x = false
is_under (Some k) x = is_lt (list_cmp k.1 x)

abbrev pub count_under : (ℕ → Option Key) → List ℕ → ℕ → ℕ
count_under row x zero = 0
count_under row x (suc n) = (if is_under (row n) x then 1 else 0) + count_under row x n

abbrev pub ranked : (ℕ → Option Key) → Option Key → Option Best
ranked row None = None
ranked row (Some k) = Some (record { cost = k.0; rank = count_under row k.1 5 })

abbrev pub table_of : Keys → CarryMatrix
table_of k = grid (λ a b. ranked (k a) (k a b))

-- the table of a list of matrices
unfoldable pub table : List CarryMatrix → CarryMatrix
table ms = table_of (least_key ms)

-- ---- the product of two

abbrev pub Sum : Type 0
Sum = ℕ × ℕ × ℕ

-- the cost, the left rank and the right rank
abbrev pub summed : Option Best → Option Best → Option Sum
summed None b = None
summed (Some x) None = None
summed (Some x) (Some y) = Some (x.cost + y.cost, x.rank, y.rank)

-- the lesser cost, and at equal costs the lower left rank
abbrev pub sum_before : Sum → Sum → Bool
sum_before x y = nat_lt x.0 y.0 || ((x.0 == y.0) && nat_lt x.1 y.1)

-- the count in the middle that is taken, and its sum
unfoldable pub choice : CarryMatrix → CarryMatrix → ℕ → ℕ → Option (ℕ × Sum)
choice a b from to = pick sum_before (λ m. summed (at a from m) (at b m to)) 5

unfoldable pub middle_of : CarryMatrix → CarryMatrix → ℕ → ℕ → Option ℕ
middle_of a b from to = number_of (choice a b from to)

abbrev pub sum_key : Option (ℕ × Sum) → Option Key
sum_key None = None
sum_key (Some x) = Some (x.1.0, x.1.1 ∷ x.1.2 ∷ [])

unfoldable pub product_of : CarryMatrix → CarryMatrix → CarryMatrix
product_of a b = table_of (λ from to. sum_key (choice a b from to))

unfoldable pub identity_entries : CarryMatrix
identity_entries = grid (λ a b. if a == b then Some (record { cost = 0; rank = 0 }) else None)
