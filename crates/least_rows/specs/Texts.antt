-- Rule lists that were written already, and where they stand.
use Rattle.std.specs.Prelude.{◌≡◌, ◌⊎◌, ℕ, ◌<◌, ◌≤◌, List, [], ◌∷◌, ◌++◌, length, slice_get, Some, None}
use Rattle.rhythm_base.specs.Ranked.{Key}
use Rattle.tree_laws.specs.Forests.{IsForestKey}
use Rattle.path_laws.specs.Tables.{IsLeastKey}
use Rattle.grammar_plan.specs.Plans.{between, pair_of}
use Rattle.grammar_plan.specs.declared.seat.Seat.{Seat}
use Rattle.least_rows.specs.Searches.{ground_in}
use Rattle.least_rows.specs.declared.search.Search.{Search}
use Rattle.least_rows.specs.Places.{IsSeatPlace}
use Rattle.least_rows.specs.declared.texts.Text.{Text}
use Rattle.least_rows.specs.declared.texts.Texts.{Texts}
use Rattle.least_rows.specs.declared.tree_at.TreeAt.{TreeAt}

-- the tree's seat is there, its interval lies in the bar, and few chords are carried into it
pub record IsTreePlace (bar : Search) (tree : TreeAt) : Type 0 where
  pub place : IsSeatPlace bar tree.seat tree.place
  pub from : tree.from < 5

-- it is one of them
abbrev pub HasKept : Texts → Text → Type 0
HasKept texts t = (i : ℕ) × (slice_get texts.texts.items i ≡ Some t)

abbrev pub HasKeptNone : Texts → Type 0
HasKeptNone texts = (t : Text) → HasKept texts t → ⊥

-- the list of this tree, from the first place on, and before the end
abbrev pub StandsAt : TreeAt → (first end : ℕ) → Text → Type 0
StandsAt tree first end t = (t.tree ≡ tree) × (t.first ≡ first) × (t.end ≡ end)

-- nothing stands that did not stand before, but for that list
abbrev pub KeepsText : (old new : Texts) → TreeAt → (first end : ℕ) → Type 0
KeepsText old new tree first end = (t : Text) → HasKept new t → HasKept old t ⊎ StandsAt tree first end t

-- the rule list of a tree is that of its least key, where there is one
abbrev pub IsListOfTree : Search → TreeAt → List ℕ → Type 0
IsListOfTree bar tree xs = (s : Seat) (key : Key) → slice_get bar.plan.now.seats.items tree.seat ≡ Some s
    → IsLeastKey (IsForestKey (ground_in bar) None tree.place (pair_of s ∷ []) tree.from tree.to) (Some key) → xs ≡ key.1

-- it was written after the others
abbrev pub WritesTree : Search → TreeAt → (old new : List ℕ) → Type 0
WritesTree bar tree old new = (s : Seat) (key : Key) → slice_get bar.plan.now.seats.items tree.seat ≡ Some s
    → IsLeastKey (IsForestKey (ground_in bar) None tree.place (pair_of s ∷ []) tree.from tree.to) (Some key) → new ≡ old ++ key.1

-- the rules have that list there
pub record IsText (bar : Search) (rules : List ℕ) (t : Text) : Type 0 where
  pub order : t.first ≤ t.end
  pub within : t.end ≤ length rules
  pub list : IsListOfTree bar t.tree (between rules t.first t.end)

-- and so for each
abbrev pub AreTexts : Search → List ℕ → Texts → Type 0
AreTexts bar rules texts = (t : Text) → HasKept texts t → IsText bar rules t
