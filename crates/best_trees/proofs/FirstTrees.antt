-- The first trees of a bar are its least.
use Rattle.std.proofs.Common.{◌≡◌, inl, inr, false, List, [], ◌∷◌, subst, arith}
use Rattle.std.specs.Prelude.{Option}
use Rattle.rhythm_base.specs.BarInput.{BarInput}
use Rattle.rhythm_base.specs.Grammar.{Grammar}
use Rattle.rhythm_base.specs.Ranked.{Key, is_before, table_of}
use Rattle.rhythm_base.specs.Shape.{Shape}
use Rattle.tree_laws.specs.Forests.{IsForestKey, one_shape}
use Rattle.path_laws.specs.Tables.{IsLeastKey}
use Rattle.rhythm_base.proofs.FirstLists.{contains_split}
use Rattle.rhythm_base.proofs.TotalOrders.{before_above, itself}
use Rattle.path_laws.proofs.KeyOrders.{keys_total}
use Rattle.rhythm_base.proofs.OrderedLists.{all_head}
use Rattle.row_laws.specs.Grounds.{ground_of}
use Rattle.bar_trees.specs.WrittenLists.{AreListsWritten, IsListAt}
use Rattle.bar_trees.specs.declared.trees.BarTrees.{BarTrees}
use Rattle.best_trees.specs.BarTrees.{AreBestBarTrees, ArePinnedTrees}
use Rattle.best_trees.specs.Firsts.{AreFirstKeys, IsBefore, first_key}
use Rattle.best_trees.specs.Grids.{first_keys, ranking_at}

-- the first one of a set is its least
pub first-least : (S : Key → Type 0) (xs : List Key) → AreFirstKeys S 1 xs → IsLeastKey S (first_key xs)
first-least S [] h = none
  where
    none : (k : Key) → S k → ⊥
    none k s = elim (h.first k s) [ inl there ↦ (let low = there.1 in omega (arith, low)) | inr full ↦ (let long = full.0 in omega (arith, long)) ]
first-least S (x ∷ xs) h = (h.are 0 x (omega arith), first)
  where
    first : (k : Key) → S k → is_before k x ≡ false
    first k s = elim (h.first k s) [
      | inl there ↦ elim (contains_split k x xs there) [
        | inl same ↦ subst (λ y. is_before y x ≡ false) same (itself keys_total x)
        | inr later ↦ absurd (let few = h.few in let low = later.1 in omega (arith, few, low))
      ]
      | inr full ↦ before_above keys_total x k (all_head (λ y. IsBefore y k) x xs full.1)
    ]

pub least-trees : (g : Grammar) (k : BarInput) (shape : Option Shape) (grid : List (List Key)) (trees : BarTrees) → shape ≡ k.pin → AreBestBarTrees g k shape 1 grid → trees.bests.rows ≡ table_of (first_keys grid)
    → AreListsWritten (IsListAt (first_keys grid)) trees.lists.rules.items trees.lists.ends 25 → ArePinnedTrees g k trees
least-trees g k shape grid trees is best bests lists =
    let P : Option Shape → Type 0 = λ s. AreBestBarTrees g k s 1 grid in
    let own = subst P is best in
    record {
      keys = first_keys grid;
      least = λ a b la lb. first-least (IsForestKey (ground_of g k) (one_shape k.pin) 0 ((k.resolution, k.symbol) ∷ []) a b) (ranking_at grid a b) (own a b la lb);
      bests = bests;
      lists = lists;
    }
