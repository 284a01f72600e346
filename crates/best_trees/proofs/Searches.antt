-- What the search has at each of its steps.
use Rattle.std.proofs.Common.{◌≡◌, ◌⊎◌, ℕ, ◌<◌, ◌≤◌, ◌+◌, ◌-◌, ◌&&◌, ◌==◌, Bool, true, false, List, [], ◌∷◌, length, refl, sym, ap, ap₂, ◌∙◌, subst, arith}
use Rattle.std.specs.Prelude.{Option, None, Some, slice_get, if◌then◌else◌}
use Rattle.std.proofs.lemmas.Bool.Decides.{nat_tests}
use Rattle.bar_view.specs.declared.leaf.Leaf.{Leaf}
use Rattle.best_trees.specs.Suited.{NoneSuit}
use Rattle.rhythm_base.specs.declared.rule.Ending.{Ending}
use Rattle.rhythm_base.specs.declared.rule.Rule.{Rule}
use Rattle.rhythm_base.specs.BarInput.{BarInput}
use Rattle.rhythm_base.specs.Bodies.{children, ending_of, sizes}
use Rattle.rhythm_base.specs.Cells.{bar_of}
use Rattle.rhythm_base.specs.Cost.{charges}
use Rattle.rhythm_base.specs.Forest.{none}
use Rattle.rhythm_base.specs.Grammar.{Grammar}
use Rattle.rhythm_base.specs.Leaves.{in_bar}
use Rattle.rhythm_base.specs.Line.{agrees}
use Rattle.rhythm_base.specs.Ranked.{Key}
use Rattle.rhythm_base.specs.Shape.{Shape, end, part}
use Rattle.rhythm_base.specs.Trees.{BarLeaf, suits}
use Rattle.tree_laws.specs.Forests.{IsForestKey, first_shape, has_shapes, one_shape, other_shapes}
use Rattle.tree_laws.specs.Places.{FitsAt}
use Rattle.path_laws.specs.Rows.{IsOneBelow}
use Rattle.tree_laws.specs.Shares.{AreBelow}
use Rattle.tree_laws.proofs.Ranks.{both}
use Rattle.tree_laws.proofs.ShapesOfTrees.{one_shape_of}
use Rattle.tree_laws.proofs.Shares.{below-wide}
use Rattle.row_laws.specs.Grounds.{IsReady, ground_of}
use Rattle.row_laws.proofs.Grounds.{bounds, grounded}
use Rattle.row_laws.proofs.LeafKeys.{leaf_body}
use Rattle.row_laws.proofs.RuleKeys.{cut-key}
use Rattle.best_trees.specs.declared.memo.Asked.{Asked}
use Rattle.best_trees.specs.declared.search.SearchedBar.{SearchedBar}
use Rattle.best_trees.specs.Firsts.{AreFirstKeys, AreKeptKeys, offered}
use Rattle.best_trees.specs.Grids.{AreAllAddable, HasLists, joined_row, ranking_at}
use Rattle.best_trees.specs.Nodes.{AreBestBelow, AreBestForests, HasNoLeaf, AreDemanded, IsAskedKey, IsLeafHere, ground_in, shapes_in}
use Rattle.best_trees.specs.Leaves.{HasLeafOffered, is_leaf_at}
use Rattle.best_trees.specs.Pins.{NoneFit}
use Rattle.best_trees.proofs.Firsts.{IsTopped}
use Rattle.best_trees.proofs.LeafFits.{agrees-fits, fits-agrees}
use Rattle.best_trees.proofs.Parts.{cut_body}
use Rattle.best_trees.proofs.Rules.{leaf_back, leaf_there, unsuited_none}
use Rattle.best_trees.proofs.Steps.{below-jump, below-none, below-skip, cut-next, first-kept, forests-addable, forests-joined, forests-none, forests-topped, one-next, rules-all}

module _ (bar : SearchedBar) (asked : Asked) where
  -- ---- before any rule, and after all

  pub best-none : (grid : List (List Key)) → HasLists (λ a b. []) grid → AreBestBelow bar asked 0 grid
  best-none grid is a b la lb = subst (AreFirstKeys (IsOneBelow (IsAskedKey bar asked a b) 0) bar.count) (sym (is a b la lb)) (below-none (IsAskedKey bar asked a b) bar.count)

  pub best-all : (grid : List (List Key)) → AreBestBelow bar asked (length bar.grammar.now.rules) grid → AreDemanded bar asked grid
  best-all grid h a b la lb = rules-all (ground_in bar) (shapes_in bar asked.demand) asked.place (asked.width, asked.symbol) bar.count 0 a b (ranking_at grid a b) (h a b la lb)

  pub best-kept : (i : ℕ) (grid : List (List Key)) → AreBestBelow bar asked i grid → (a b : ℕ) → a < 5 → b < 5 → AreKeptKeys bar.count (ranking_at grid a b)
  best-kept i grid h a b la lb = first-kept (IsOneBelow (IsAskedKey bar asked a b) i) bar.count (ranking_at grid a b) (h a b la lb)

  -- ---- rules without trees

  best-skip : (i : ℕ) (grid : List (List Key)) → ((a b : ℕ) (key : Key) → IsAskedKey bar asked a b i key → ⊥) → AreBestBelow bar asked i grid → AreBestBelow bar asked (i + 1) grid
  best-skip i grid bare h a b la lb = below-skip (IsAskedKey bar asked a b) bar.count i (ranking_at grid a b) (bare a b) (h a b la lb)

  -- none of the next rules suits
  pub best-jump : (from to : ℕ) (grid : List (List Key)) → from ≤ to → NoneSuit bar.grammar.now.rules (asked.width, asked.symbol) from to → AreBestBelow bar asked from grid → AreBestBelow bar asked to grid
  best-jump from to grid order apart h a b la lb =
      let whole : (to - from) + from ≡ to = omega (arith, order) in
      subst (λ n. AreFirstKeys (IsOneBelow (IsAskedKey bar asked a b) n) bar.count (ranking_at grid a b)) whole
      (below-jump (IsAskedKey bar asked a b) bar.count (to - from) from (ranking_at grid a b)
      (λ j low high. unsuited_none (ground_in bar) (shapes_in bar asked.demand) asked.place (asked.width, asked.symbol) j a b (apart j low (omega (arith, high, whole)))) (h a b la lb))

  -- ---- one rule

  module _ (ready : IsReady bar.grammar.now bar.input.now) (i : ℕ) (rule : Rule) (at : slice_get bar.grammar.now.rules i ≡ Some rule) (suit : suits (Some rule) (asked.width, asked.symbol) ≡ true) where
    -- ---- a leaf

    module _ (ending : Ending) (ends : ending_of rule.body ≡ Some ending) where
      abbrev x : BarLeaf
      x = record { ending = ending; place = asked.place; width = asked.width }

      abbrev Fits : ℕ → ℕ → Type 0
      Fits a b = FitsAt bar.grammar.now.resolution (bar_of bar.input.now) bar.input.now.chords bar.input.now.before asked.place (x ∷ []) a b

      own_fits : (a b : ℕ) (key : Key) → IsAskedKey bar asked a b i key
          → (has_shapes (shapes_in bar asked.demand) none ≡ true) × Fits a b × (key ≡ (rule.weight + charges bar.grammar.now (in_bar (bar_of bar.input.now) (x ∷ [])) bar.input.now.chords, i ∷ []))
      own_fits a b key w =
          let body = leaf_body rule.body ending asked.place asked.width ends in
          leaf_there (ground_in bar) (shapes_in bar asked.demand) asked.place (asked.width, asked.symbol) i a b rule at suit x body.0 body.1 key w

      -- no leaf fits
      pub best-bare : (grid : List (List Key)) → HasNoLeaf bar asked → AreBestBelow bar asked i grid → AreBestBelow bar asked (i + 1) grid
      best-bare grid bare h = best-skip i grid (λ a b key w. let own = own_fits a b key w in bare.none_fits ending a b own.0 own.1) h

      pub best-leaf : (l : Leaf) → IsLeafHere bar asked l → (old new : List (List Key))
          → HasLeafOffered bar.count ending l rule.weight i old new
          → AreBestBelow bar asked i old → AreBestBelow bar asked (i + 1) new
      best-leaf l here old new is h a b la lb =
          subst (AreFirstKeys (IsOneBelow W (i + 1)) bar.count) (sym (is a b la lb)) (go (is_leaf_at ending l a b) refl)
        where
          W : ℕ → Key → Type 0
          W = IsAskedKey bar asked a b

          cost : rule.weight + charges bar.grammar.now (in_bar (bar_of bar.input.now) (x ∷ [])) bar.input.now.chords ≡ rule.weight + l.charges
          cost = ap (λ n. rule.weight + n) (sym here.leaf.charged)

          own : is_leaf_at ending l a b ≡ true → Fits a b
          own e =
              let t = both (agrees ending (a + l.own) l.sounds) _ e in
              agrees-fits bar.input.now asked.place asked.width ending bar.grammar.now ready.units l.own l.next l.charges l.sounds here.leaf a b la lb t.0 (let out = t.1 in grind (arith, nat_tests))

          apart : is_leaf_at ending l a b ≡ false → Fits a b → ⊥
          apart e fits =
              let t = fits-agrees bar.input.now asked.place asked.width ending bar.grammar.now ready.units l.own l.next l.charges l.sounds here.leaf a b fits in
              let on : (l.next == b) ≡ true = let out : l.next ≡ b = t.1 in grind (arith, nat_tests) in
              let yes_fit : is_leaf_at ending l a b ≡ true = ap₂ ◌&&◌ t.0 on in
              absurd (cc)

          go : (t : Bool) → is_leaf_at ending l a b ≡ t → AreFirstKeys (IsOneBelow W (i + 1)) bar.count (if t then offered bar.count (rule.weight + l.charges, i ∷ []) (ranking_at old a b) else ranking_at old a b)
          go true e =
              one-next (ground_in bar) (shapes_in bar asked.demand) asked.place (asked.width, asked.symbol) bar.count i a b (rule.weight + l.charges, i ∷ []) (ranking_at old a b)
              (λ key w. (own_fits a b key w).2 ∙ (λ j. (cost j, i ∷ [])))
              (let body = leaf_body rule.body ending asked.place asked.width ends in
              leaf_back (ground_in bar) (shapes_in bar asked.demand) asked.place (asked.width, asked.symbol) i a b rule at suit x body.0 body.1 (rule.weight + l.charges, i ∷ []) here.allowed (own e) (λ j. (sym cost j, i ∷ [])))
              (h a b la lb)
          go false e = below-skip W bar.count i (ranking_at old a b) (λ key w. apart e (own_fits a b key w).1) (h a b la lb)

    -- ---- a cut

    module _ (cuts : ending_of rule.body ≡ None) where
      -- the parts are not as demanded
      pub best-roomless : NoneFit (children rule.body asked.width) (shapes_in bar asked.demand) → (grid : List (List Key)) → AreBestBelow bar asked i grid → AreBestBelow bar asked (i + 1) grid
      best-roomless bare grid h =
          best-skip i grid
          (λ a b key w. let own = cut-key (ground_in bar) (shapes_in bar asked.demand) asked.place (asked.width, asked.symbol) i a b rule at suit (cut_body rule.body asked.place asked.width cuts) key w in
          bare bar.grammar.now.rules own.1.0 own.1.1.trees own.1.1.shaped)
          h

      pub best-cut : (q : ℕ × ℕ) (qs : List (ℕ × ℕ)) (one rest : Option Shape) → first_shape (shapes_in bar asked.demand) ≡ one_shape one → other_shapes (shapes_in bar asked.demand) ≡ rest
          → children rule.body asked.width ≡ q ∷ qs → AreBelow asked.width (q ∷ qs) → (left right old new : List (List Key))
          → AreBestForests (ground_in bar) (one_shape one) bar.count asked.place (q ∷ []) left → AreBestForests (ground_in bar) rest bar.count (asked.place + q.0) qs right
          → HasLists (λ a b. joined_row bar.count (rule.weight, i ∷ []) left right a b (ranking_at old a b)) new → AreBestBelow bar asked i old → AreBestBelow bar asked (i + 1) new
      best-cut q qs one rest first others kids below left right old new own after is h a b la lb =
          let d = ground_in bar in
          let s = shapes_in bar asked.demand in
          let Below : Key → Type 0 = IsOneBelow (IsAskedKey bar asked a b) i in
          let all = joined_row bar.count (rule.weight, i ∷ []) left right a b (ranking_at old a b) in
          let P : Option Shape → Type 0 = λ s. AreBestForests d s bar.count asked.place (q ∷ []) left in
          let Q : Option Shape → Type 0 = λ s. AreBestForests d s bar.count (asked.place + q.0) qs right in
          subst (AreFirstKeys (IsOneBelow (IsAskedKey bar asked a b) (i + 1)) bar.count) (sym (is a b la lb))
          (cut-next d s asked.place (asked.width, asked.symbol) bar.count i a b rule at suit (cut_body rule.body asked.place asked.width cuts) all
          (subst (λ qs. AreFirstKeys (λ key. Below key ⊎ IsTopped (IsForestKey d s asked.place qs a b) (rule.weight, i ∷ []) key) bar.count all) (sym kids)
          (forests-topped d (grounded bar.grammar.now bar.input.now ready) bar.count asked.place q qs (below-wide asked.width (q ∷ qs) below) left right s (subst P (sym first) own) (subst Q (sym others) after) (rule.weight, i ∷ []) Below (ranking_at old a b)
          (h a b la lb) a b la lb)))

-- ---- the parts of a cut

-- where nothing may follow the first, its shape is all
alone : (s : Option Shape) → has_shapes (other_shapes s) none ≡ true → first_shape s ≡ s
alone None h = refl
alone (Some end) h = refl
alone (Some (part x xs)) h = ap (λ o. Some (part x o)) (sym ((one_shape_of xs none).0 h))

module _ (g : Grammar) (k : BarInput) (ready : IsReady g k) (s : Option Shape) (count p : ℕ) where
  pub beside-addable : (w : ℕ) (qs : List (ℕ × ℕ)) (grid : List (List Key)) → AreBelow w qs → p + sizes qs ≤ k.resolution → AreBestForests (ground_of g k) s count p qs grid → AreAllAddable grid
  beside-addable w qs grid below within h =
      forests-addable (ground_of g k) (grounded g k ready) (bounds g k ready) s count p qs grid (below-wide w qs below) (let units : g.resolution ≡ k.resolution = ready.units in omega (arith, units, within)) h

  pub beside-joined : (w : ℕ) (q : ℕ × ℕ) (qs : List (ℕ × ℕ)) (one rest : Option Shape) → first_shape s ≡ one_shape one → other_shapes s ≡ rest → (left right all : List (List Key)) → AreBelow w (q ∷ qs)
      → AreBestForests (ground_of g k) (one_shape one) count p (q ∷ []) left → AreBestForests (ground_of g k) rest count (p + q.0) qs right
      → HasLists (λ a b. joined_row count (0, []) left right a b []) all → AreBestForests (ground_of g k) s count p (q ∷ qs) all
  beside-joined w q qs one rest first others left right all below own after is =
      let d = ground_of g k in
      let P : Option Shape → Type 0 = λ s. AreBestForests d s count p (q ∷ []) left in
      let Q : Option Shape → Type 0 = λ s. AreBestForests d s count (p + q.0) qs right in
      forests-joined d (grounded g k ready) count p q qs (below-wide w (q ∷ qs) below) left right s (subst P (sym first) own) (subst Q (sym others) after) all is

  -- one tree alone
  pub beside-one : (q : ℕ × ℕ) (one rest : Option Shape) → first_shape s ≡ one_shape one → other_shapes s ≡ rest → has_shapes rest none ≡ true → (grid : List (List Key))
      → AreBestForests (ground_of g k) (one_shape one) count p (q ∷ []) grid → AreBestForests (ground_of g k) s count p (q ∷ []) grid
  beside-one q one rest first others free grid own =
      let P : Option Shape → Type 0 = λ s. AreBestForests (ground_of g k) s count p (q ∷ []) grid in
      subst P (sym first ∙ alone s (ap (λ o. has_shapes o none) others ∙ free)) own

  pub beside-none : (qs : List (ℕ × ℕ)) (grid : List (List Key)) → NoneFit qs s → HasLists (λ a b. []) grid → AreBestForests (ground_of g k) s count p qs grid
  beside-none qs grid bare is = forests-none (ground_of g k) s count p qs grid (bare g.rules) is
