-- The best trees of a bar over an interval of its units, and when all that was found of them is right.
use Rattle.std.specs.Prelude.{◌≡◌, ℕ, ◌+◌, true, ◌<◌, ◌≤◌, List, [], ◌∷◌, All, Some, None, slice_get, map, Option}
use Rattle.rhythm_base.specs.BarInput.{BarInput}
use Rattle.rhythm_base.specs.Bodies.{ending_of}
use Rattle.rhythm_base.specs.Cells.{bar_of}
use Rattle.rhythm_base.specs.Forest.{none}
use Rattle.rhythm_base.specs.Ranked.{Key}
use Rattle.rhythm_base.specs.Shape.{Shape}
use Rattle.rhythm_base.specs.declared.rule.Ending.{Ending}
use Rattle.rhythm_base.specs.declared.rule.Rule.{Rule}
use Rattle.tree_laws.specs.Forests.{Ground, IsForestKey, has_shapes, one_shape}
use Rattle.tree_laws.specs.Places.{FitsAt}
use Rattle.path_laws.specs.Rows.{IsOneBelow}
use Rattle.bar_view.specs.declared.leaf.Leaf.{Leaf}
use Rattle.row_laws.specs.Grounds.{ground_of}
use Rattle.row_laws.specs.Leaves.{HasLeaf}
use Rattle.row_laws.specs.RuleKeys.{IsRuleKey}
use Rattle.best_trees.specs.declared.cut.Piece.{Piece}
use Rattle.best_trees.specs.declared.memo.Asked.{Asked}
use Rattle.best_trees.specs.declared.memo.Family.{Family}
use Rattle.best_trees.specs.declared.memo.Found.{Found}
use Rattle.best_trees.specs.declared.memo.LastParts.{LastParts}
use Rattle.best_trees.specs.declared.memo.LastParts.TheVariants.{One, Several}
use Rattle.best_trees.specs.declared.pins.Demand.{Demand}
use Rattle.best_trees.specs.declared.search.SearchedBar.{SearchedBar}
use Rattle.best_trees.specs.Firsts.{AreFirstKeys}
use Rattle.best_trees.specs.Grids.{ranking_at}
use Rattle.best_trees.specs.Memos.{LiesAt}
use Rattle.best_trees.specs.Pieces.{piece_pair}
use Rattle.best_trees.specs.Pins.{demanded}

-- an interval of the bar's units
pub record IsInBar (k : BarInput) (asked : Asked) : Type 0 where
  pub wide : 1 ≤ asked.width
  pub within : asked.place + asked.width ≤ k.resolution

-- for each pair of counts, the first `count` of the trees side by side of these shapes, widths and symbols from the unit p on
abbrev pub AreBestForests : Ground → Option Shape → ℕ → ℕ → List (ℕ × ℕ) → List (List Key) → Type 0
AreBestForests d shapes count p qs grid = (a b : ℕ) → a < 5 → b < 5 → AreFirstKeys (IsForestKey d shapes p qs a b) count (ranking_at grid a b)

-- where the trees of the bar that is searched stand, and the shapes that its pin demands
abbrev pub ground_in : SearchedBar → Ground
ground_in bar = ground_of bar.grammar.now bar.input.now

abbrev pub shapes_in : SearchedBar → Demand → Option Shape
shapes_in bar demand = demanded bar.pins.now demand

-- the first of the trees that are asked for, as many as the search wants
abbrev pub AreDemanded : SearchedBar → Asked → List (List Key) → Type 0
AreDemanded bar asked grid = AreBestForests (ground_in bar) (one_shape (shapes_in bar asked.demand)) bar.count asked.place ((asked.width, asked.symbol) ∷ []) grid

-- the key of one of them with the rule r on top
abbrev pub IsAskedKey : SearchedBar → Asked → ℕ → ℕ → ℕ → Key → Type 0
IsAskedKey bar asked a b r = IsRuleKey (ground_in bar) (shapes_in bar asked.demand) asked.place (asked.width, asked.symbol) r a b

-- the first of those with a rule before i on top
abbrev pub AreBestBelow : SearchedBar → Asked → ℕ → List (List Key) → Type 0
AreBestBelow bar asked i grid = (a b : ℕ) → a < 5 → b < 5 → AreFirstKeys (IsOneBelow (IsAskedKey bar asked a b) i) bar.count (ranking_at grid a b)

-- how a rule ends its interval, none where it cuts it
abbrev pub rule_ending : Option Rule → Option Ending
rule_ending None = None
rule_ending (Some rule) = ending_of rule.body

-- how the rule of this number ends its interval
abbrev pub ending_at : List Rule → ℕ → Option Ending
ending_at rules r = rule_ending (slice_get rules r)

-- ---- leaves

-- no leaf is allowed over the interval, or fits it, with whatever rule
pub record HasNoLeaf (bar : SearchedBar) (asked : Asked) : Type 0 where
  pub none_fits : (ending : Ending) (a b : ℕ) → has_shapes (shapes_in bar asked.demand) none ≡ true
      → FitsAt bar.grammar.now.resolution (bar_of bar.input.now) bar.input.now.chords bar.input.now.before asked.place (record { ending = ending; place = asked.place; width = asked.width } ∷ []) a b → ⊥

-- a leaf is allowed over the interval, and this is the one
pub record IsLeafHere (bar : SearchedBar) (asked : Asked) (l : Leaf) : Type 0 where
  pub allowed : has_shapes (shapes_in bar asked.demand) none ≡ true
  pub leaf : HasLeaf bar.grammar.now bar.input.now asked.place asked.width l.own l.next l.sounds l.charges

-- ---- what was found

-- what was found under this number is that
abbrev pub IsAnswerAt : SearchedBar → List Found → Asked → ℕ → Type 0
IsAnswerAt bar xs asked n = (x : Found) × (slice_get xs n ≡ Some x) × AreDemanded bar asked x.grid

-- the best trees over these parts, the last of a cut
abbrev pub AreBestLast : Ground → Option Shape → ℕ → List Found → ℕ → List (ℕ × ℕ) → LastParts → Type 0
AreBestLast d shapes count xs p qs (One n) = (x : Found) × (slice_get xs n ≡ Some x) × AreBestForests d shapes count p qs x.grid
AreBestLast d shapes count xs p qs (Several grid) = AreBestForests d shapes count p qs grid

-- those over these pieces from the unit p on, of the shapes that are demanded
abbrev pub AreBestBeside : SearchedBar → List Found → Demand → ℕ → List Piece → LastParts → Type 0
AreBestBeside bar xs demand p pieces parts = AreBestLast (ground_in bar) (shapes_in bar demand) bar.count xs p (map piece_pair pieces) parts

-- the trees that are asked for are of this family
pub record IsOf (bar : SearchedBar) (family : Family) (asked : Asked) : Type 0 where
  pub site : LiesAt (ground_in bar) family.site asked.place asked.width
  pub width : family.width ≡ asked.width
  pub symbol : family.symbol ≡ asked.symbol
  pub demand : family.demand ≡ asked.demand

-- the first of the trees of the family over each of its intervals
abbrev pub IsAnswerOf : SearchedBar → Family → List (List Key) → Type 0
IsAnswerOf bar family grid =
    (p : ℕ) → LiesAt (ground_in bar) family.site p family.width
    → AreBestForests (ground_in bar) (one_shape (shapes_in bar family.demand)) bar.count p ((family.width, family.symbol) ∷ []) grid

-- all that was found is right
pub record AreFound (bar : SearchedBar) (xs : List Found) : Type 0 where
  pub each : All (λ x. IsAnswerOf bar x.family x.grid) xs
