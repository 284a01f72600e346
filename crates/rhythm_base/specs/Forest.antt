-- Trees as plain data: a list of trees, each by the number of its rule and its children.
use Rattle.std.specs.Prelude.{ℕ, ◌+◌, ◌≤◌, List, [], ◌∷◌, ◌++◌}
use Rattle.std.proofs.Common.{arith}
use denote.Param.Weighed.{most}

-- nothing, or a tree by its rule and its children, and the trees after it
pub data Forest : Type 0 where
  none : Forest
  more : ℕ → Forest → Forest → Forest

-- one tree
pub record Tree : Type 0 where
  pub rule : ℕ
  pub kids : Forest

-- the trees of a list
abbrev pub forest_of : List Tree → Forest
forest_of [] = none
forest_of (t ∷ ts) = more t.rule t.kids (forest_of ts)

-- the rules in preorder: each before those of its children
abbrev pub preorder : Forest → List ℕ
preorder none = []
preorder (more r kids rest) = (r ∷ preorder kids) ++ preorder rest

-- how many nodes
abbrev pub count : Forest → ℕ
count none = 0
count (more r kids rest) = count kids + count rest + 1

abbrev pub preorder_of : Tree → List ℕ
preorder_of t = t.rule ∷ preorder t.kids

abbrev pub size_of : Tree → ℕ
size_of t = count t.kids + 1

pub most_le-count : (kids : List Tree) → most (λ k. size_of k + 1) kids ≤ count (forest_of kids) + 1
most_le-count [] = omega arith
most_le-count (k ∷ ks) = omega (arith, most_le-count ks)
