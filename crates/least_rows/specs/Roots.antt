-- The rows of a bar's root symbol over the whole bar.
use Rattle.std.specs.Prelude.{◌≡◌, Bool, true, false, replicate, ℕ, zero, suc, ◌<◌, ◌==◌, List, [], ◌∷◌, ◌++◌, length, position, slice_index_or, Option, Some, None}
use Rattle.rhythm_base.specs.BarInput.{BarInput}
use Rattle.rhythm_base.specs.Grammar.{Grammar}
use Rattle.rhythm_base.specs.Ranked.{Key, five, ranked}
use Rattle.rhythm_base.specs.declared.best.Best.{Best}
use Rattle.row_laws.specs.Grounds.{ground_of}
use Rattle.row_laws.specs.Rows.{AreLeastRow}
use Rattle.bar_trees.specs.WrittenLists.{AreListsWritten, IsListOf, list_number}
use Rattle.bar_trees.specs.declared.trees.BarBests.{BarBests}
use Rattle.bar_trees.specs.declared.written_lists.WrittenLists.{WrittenLists}
use Rattle.least_rows.specs.Places.{IsRoot}
use Rattle.least_rows.specs.declared.entry.Entry.{Entry}
use Rattle.least_rows.specs.declared.quiet_trees.OnlyTree.{OnlyTree}
use Rattle.least_rows.specs.declared.search.Search.{Search}
use Rattle.least_rows.specs.declared.tree_at.TreeAt.{TreeAt}

-- the cost of the first entry of a row for the number carried out, and its place
abbrev pub IsBestIn : List Entry → ℕ → Option Best → Type 0
IsBestIn row b None = position (λ e. e.to == b) row ≡ None
IsBestIn row b (Some x) = (e : Entry) × (position (λ e. e.to == b) row ≡ Some x.rank) × (e ≡ slice_index_or row x.rank e) × (x.cost ≡ e.cost)

-- these are the least keys of the root over the whole bar, with a chords carried in
abbrev pub AreRootKeys : Grammar → BarInput → ℕ → (ℕ → Option Key) → Type 0
AreRootKeys g k a keys = AreLeastRow (ground_of g k) 0 ((k.resolution, k.symbol) ∷ []) a keys

-- the cost and the rank of one of them
abbrev pub IsRootBest : Grammar → BarInput → ℕ → ℕ → Option Best → Type 0
IsRootBest g k a b best = (keys : ℕ → Option Key) × AreRootKeys g k a keys × (best ≡ ranked keys (keys b))

-- the costs and the ranks of all of them
pub record AreRootBests (g : Grammar) (k : BarInput) (a : ℕ) (bests : List (Option Best)) : Type 0 where
  pub keys : ℕ → Option Key
  pub least : AreRootKeys g k a keys
  pub each : bests ≡ five (λ b. ranked keys (keys b))

-- those of the first n numbers carried in
abbrev pub AreRootRows : Grammar → BarInput → ℕ → List (List (Option Best)) → Type 0
AreRootRows g k n bests = (a : ℕ) → a < n → AreRootBests g k a (slice_index_or bests a [])

-- the costs and the ranks for a number carried in where they are asked for, and else none
abbrev pub IsAskedRow : Grammar → BarInput → ℕ → Bool → List (Option Best) → Type 0
IsAskedRow g k a true bests = AreRootBests g k a bests
IsAskedRow g k a false bests = bests ≡ replicate 5 None

-- those of the first n numbers carried in, for the numbers that are asked for
abbrev pub AreAskedRows : Grammar → BarInput → List Bool → ℕ → List (List (Option Best)) → Type 0
AreAskedRows g k asked n bests = (a : ℕ) → a < n → IsAskedRow g k a (slice_index_or asked a false) (slice_index_or bests a [])

-- the rule list of one of them, where it is there
abbrev pub IsRootList : Grammar → BarInput → ℕ → ℕ → List ℕ → Type 0
IsRootList g k a b xs = (keys : ℕ → Option Key) → AreRootKeys g k a keys → IsListOf (keys b) xs

-- the list of a number is that for the same numbers carried in and out
abbrev pub IsRootListAt : Grammar → BarInput → ℕ → List ℕ → Type 0
IsRootListAt g k n xs = (a b : ℕ) → b < 5 → n ≡ list_number a b → IsRootList g k a b xs

-- the first n lists of the bar's root stand one after another
abbrev pub AreRootLists : Grammar → BarInput → (rules ends : List ℕ) → ℕ → Type 0
AreRootLists g k rules ends n = AreListsWritten (IsRootListAt g k) rules ends n

-- ---- a bar that is searched

-- the costs and the ranks for the numbers carried in that are asked for
abbrev pub HasAskedRows : Search → List Bool → BarBests → Type 0
HasAskedRows bar asked bests = AreAskedRows bar.grammar.now bar.input.now asked 5 bests.rows

-- the first n lists
abbrev pub HasRootLists : Search → WrittenLists → ℕ → Type 0
HasRootLists bar lists n = AreRootLists bar.grammar.now bar.input.now lists.rules.items lists.ends n

-- a tree of the root over the whole bar, with few chords carried in and out
pub record IsRootTree (bar : Search) (tree : TreeAt) : Type 0 where
  pub root : IsRoot bar tree.seat
  pub place : tree.place ≡ 0
  pub from : tree.from < 5
  pub to : tree.to < 5

-- the list of a tree of the root was written after the others
abbrev pub WritesRootList : Search → TreeAt → (old new : List ℕ) → Type 0
WritesRootList bar tree old new = (more : List ℕ) × (new ≡ old ++ more) × IsRootList bar.grammar.now bar.input.now tree.from tree.to more

-- ---- a bar that is quiet as a whole

-- one key for none carried out, and none for more
abbrev pub only_key : Option Key → ℕ → Option Key
only_key o zero = o
only_key o (suc b) = None

-- its cost, with the lowest rank
abbrev pub only_best : Option Key → Option Best
only_best None = None
only_best (Some key) = Some (record { cost = key.0; rank = 0 })

abbrev pub only_list : Option Key → List ℕ
only_list None = []
only_list (Some key) = key.1

-- the one tree of the root, and its rule list after the others
abbrev pub IsOnlyTree : Grammar → BarInput → ℕ → (old new : List ℕ) → Option Best → Type 0
IsOnlyTree g k a old new best = (o : Option Key) × AreRootKeys g k a (only_key o) × (best ≡ only_best o) × (new ≡ old ++ only_list o)

-- and where its list ends
pub record IsOnlyEnded (g : Grammar) (k : BarInput) (a : ℕ) (old new : List ℕ) (x : OnlyTree) : Type 0 where
  pub tree : IsOnlyTree g k a old new x.best
  pub end : x.end ≡ length new
