-- What one step of the search finds, of the seat of a number.
use Rattle.std.specs.Prelude.{⊤, ◌≡◌, ℕ, ◌+◌, ◌<◌, ◌≤◌, ◌^◌, ◌==◌, if◌then◌else◌, List, [], ◌∷◌, slice_get, slice_set, MatchOption, Option, Some, None}
use Rattle.rhythm_base.specs.BarInput.{BarInput}
use Rattle.rhythm_base.specs.Grammar.{Grammar}
use Rattle.rhythm_base.specs.Ranked.{Key}
use Rattle.tree_laws.specs.Forests.{IsForestKey}
use Rattle.row_laws.specs.LeafRules.{EndsInterval}
use Rattle.row_laws.specs.Leaves.{HasLeaf, IsCrowded}
use Rattle.row_laws.specs.QuietTrees.{IsQuiet}
use Rattle.row_laws.specs.declared.quiet.Quiet.{Quiet}
use Rattle.bar_view.specs.declared.leaf.Leaf.{Leaf}
use Rattle.grammar_plan.specs.Plans.{pair_of}
use Rattle.grammar_plan.specs.declared.seat.Seat.{Seat}
use Rattle.least_rows.specs.Searches.{ground_in}
use Rattle.least_rows.specs.declared.search.Search.{Search}
use Rattle.least_rows.specs.Choices.{AreBestChoices, AreSettled, RulesBefore}
use Rattle.least_rows.specs.Ways.{AreWaysBelow, AreWaysOn, one_way, way_in}
use Rattle.least_rows.specs.States.{IsRowAt}
use Rattle.least_rows.specs.declared.choice.Choice.{Choice}
use Rattle.least_rows.specs.declared.lead.Lead.{Lead}
use Rattle.least_rows.specs.declared.lead.Lead.TheVariants.{Nowhere, One, Several}
use Rattle.least_rows.specs.declared.rows.Rows.{Rows}
use Rattle.least_rows.specs.declared.state.RowSpan.{RowSpan}
use Rattle.least_rows.specs.declared.state.State.{State}
use Rattle.least_rows.specs.declared.way.Way.{Way}

-- the span is a row of the seat
abbrev pub IsRowOf : Search → Rows → (seat place from : ℕ) → RowSpan → Type 0
IsRowOf bar rows seat place from span = (s : Seat) → slice_get bar.plan.now.seats.items seat ≡ Some s → IsRowAt bar rows.entries.items place (pair_of s) from span

-- the leaf over the interval, none where too many chords are attached to it or to the next
abbrev pub IsLeafAt : Grammar → BarInput → ℕ → ℕ → Option Leaf → Type 0
IsLeafAt g k place width leaf = MatchOption leaf (IsCrowded k place width) (λ l. HasLeaf g k place width l.own l.next l.sounds l.charges × (l.charges < 2 ^ 60))

-- how many chords may be carried out of the leaf's interval: those that lie in it and are attached to the next leaf
abbrev pub most_out : Option Leaf → ℕ
most_out None = 4
most_out (Some l) = l.next

-- no more chords than this are carried out of a tree of the seat
abbrev pub CarriesAtMost : Search → (seat place most : ℕ) → Type 0
CarriesAtMost bar seat place most =
    (s : Seat) (a b : ℕ) (key : Key) → slice_get bar.plan.now.seats.items seat ≡ Some s → IsForestKey (ground_in bar) None place (pair_of s ∷ []) a b key → b ≤ most

-- these choices stand for the trees of the seat with a rule of the set on top
abbrev pub AreChoicesOf : Search → (seat place from : ℕ) → (Seat → ℕ → Type 0) → List (Option Choice) → Type 0
AreChoicesOf bar seat place from rules choices =
    (s : Seat) → slice_get bar.plan.now.seats.items seat ≡ Some s → AreBestChoices (ground_in bar) bar.plan.now place (pair_of s) from (rules s) choices

-- for those that are a leaf
abbrev pub AreLeafChoices : Search → (seat place from : ℕ) → List (Option Choice) → Type 0
AreLeafChoices bar seat place from choices = AreChoicesOf bar seat place from (λ s. EndsInterval bar.grammar.now) choices

-- for those that are a leaf or have one of the seat's cuts before this number on top
abbrev pub AreChoicesBefore : Search → (seat place from : ℕ) → ℕ → List (Option Choice) → Type 0
AreChoicesBefore bar seat place from n choices = AreChoicesOf bar seat place from (λ s. RulesBefore bar.grammar.now bar.plan.now s n) choices

-- for all of them
abbrev pub AreAllChoices : Search → (seat place from : ℕ) → List (Option Choice) → Type 0
AreAllChoices bar seat place from choices = AreChoicesOf bar seat place from (λ s. RulesBefore bar.grammar.now bar.plan.now s s.end) choices

-- for those of a seat that are this leaf, where the leaf is that over the seat's interval
abbrev pub OffersLeaf : Search → Seat → Option Leaf → (from : ℕ) → List (Option Choice) → Type 0
OffersLeaf bar s leaf from choices =
    (place : ℕ) → 1 ≤ s.width → place + s.width ≤ bar.input.now.resolution → IsLeafAt bar.grammar.now bar.input.now place s.width leaf
    → AreBestChoices (ground_in bar) bar.plan.now place (pair_of s) from (EndsInterval bar.grammar.now) choices

-- the ways with the tree of the seat after them
abbrev pub AreWaysOver : Search → (seat place : ℕ) → (ℕ → Option Way) → (ℕ → Option Way) → Type 0
AreWaysOver bar seat place ways next = (s : Seat) → slice_get bar.plan.now.seats.items seat ≡ Some s → AreWaysOn (ground_in bar) place (pair_of s) ways next

abbrev pub AreWaysOverBelow : Search → (seat place : ℕ) → (ℕ → Option Way) → ℕ → (ℕ → Option Way) → Type 0
AreWaysOverBelow bar seat place ways n next = (s : Seat) → slice_get bar.plan.now.seats.items seat ≡ Some s → AreWaysBelow (ground_in bar) place (pair_of s) ways n next

-- one way leads on so over the tree of the seat
abbrev pub LeadsOver : Search → (seat place : ℕ) → Way → ℕ → Lead → Type 0
LeadsOver bar seat place way count Nowhere = AreWaysOver bar seat place (one_way way count) (λ b. None)
LeadsOver bar seat place way count (One next to) = (to < 5) × AreWaysOver bar seat place (one_way way count) (one_way next to)
LeadsOver bar seat place way count Several = ⊤

-- a way out of which no chord is carried, where there is one
abbrev pub way_to_none : Option Way → ℕ → Option Way
way_to_none None b = None
way_to_none (Some way) b = if 0 == b then Some way else None

-- these are the nearest ways with the tree of the seat after them, over an interval that is quiet so: none carries a chord out
abbrev pub AreQuietWays : Search → Quiet → (seat : ℕ) → (ways : List (Option Way)) → (next : Option Way) → Type 0
AreQuietWays bar quiet seat ways next =
    (place : ℕ) (s : Seat) → slice_get bar.plan.now.seats.items seat ≡ Some s → IsQuiet quiet (ground_in bar) place s.width → AreWaysOn (ground_in bar) place (pair_of s) (way_in ways) (way_to_none next)

-- the same for the first n of the counts that are carried out of the ways
abbrev pub AreQuietWaysBelow : Search → Quiet → (seat : ℕ) → (ways : List (Option Way)) → ℕ → (next : Option Way) → Type 0
AreQuietWaysBelow bar quiet seat ways n next =
    (place : ℕ) (s : Seat) → slice_get bar.plan.now.seats.items seat ≡ Some s → IsQuiet quiet (ground_in bar) place s.width → AreWaysBelow (ground_in bar) place (pair_of s) (way_in ways) n (way_to_none next)

-- the entries were added as the row of a state
abbrev pub KeepsRow : Rows → Rows → (number from : ℕ) → List (Option Choice) → RowSpan → Type 0
KeepsRow old new number from best span =
    (x : State) × (slice_get old.states.items number ≡ Some x)
    × (new.states.items ≡ slice_set old.states.items number (record { seat = x.seat; place = x.place; leaf = x.leaf; rows = slice_set x.rows from (Some span) }))
    × AreSettled best old.entries.items new.entries.items span
