-- The least trees over quiet intervals while they are made, from the narrowest seats on.
use Rattle.std.specs.Prelude.{◌≡◌, ℕ, ◌+◌, ◌<◌, ◌≤◌, ◌⊎◌, if◌then◌else◌, Bool, true, false, List, [], ◌∷◌, slice_get, slice_index_or, length, Option, Some, None}
use Rattle.rhythm_base.specs.Grammar.{Grammar}
use Rattle.rhythm_base.specs.Ranked.{five}
use Rattle.row_laws.specs.BestRules.{is_nearer}
use Rattle.row_laws.specs.declared.quiet.Quiet.{Quiet}
use Rattle.grammar_plan.specs.Plans.{HasQuietTree, IsQuietTree, pair_of, place_of_leaf}
use Rattle.grammar_plan.specs.declared.cut.Cut.{Cut}
use Rattle.grammar_plan.specs.declared.leaf_rule.LeafRule.{LeafRule}
use Rattle.grammar_plan.specs.declared.plan.Plan.{Plan}
use Rattle.grammar_plan.specs.declared.quiet_tree.QuietTree.{QuietTree}
use Rattle.grammar_plan.specs.declared.seat.Seat.{Seat}

abbrev pub entry : List (List (Option QuietTree)) → ℕ → ℕ → Option QuietTree
entry rows n from = slice_index_or (slice_index_or rows n []) from None

-- ---- costs of trees side by side

abbrev pub added : Option QuietTree → Option ℕ → Option ℕ
added None o = None
added (Some t) None = None
added (Some t) (Some cost) = Some (t.cost + cost)

-- no chords are carried in
abbrev pub others_cost : List (List (Option QuietTree)) → List ℕ → Option ℕ
others_cost rows [] = Some 0
others_cost rows (n ∷ ns) = added (entry rows n 0) (others_cost rows ns)

-- so many chords are carried into the first
abbrev pub parts_cost : List (List (Option QuietTree)) → ℕ → List ℕ → Option ℕ
parts_cost rows from [] = None
parts_cost rows from (n ∷ ns) = added (entry rows n from) (others_cost rows ns)

-- ---- trees

abbrev pub leaf_tree : Option LeafRule → Option QuietTree
leaf_tree None = None
leaf_tree (Some l) = Some (record { cost = l.weight; rule = l.rule; cut = None })

-- the cut of this number on top
abbrev pub cut_tree : Cut → ℕ → Option ℕ → Option QuietTree
cut_tree c n None = None
cut_tree c n (Some cost) = Some (record { cost = c.weight + cost; rule = c.rule; cut = Some n })

abbrev pub nearer_tree : Option QuietTree → Option QuietTree → Option QuietTree
nearer_tree o None = o
nearer_tree None (Some y) = Some y
nearer_tree (Some x) (Some y) = if is_nearer (y.cost, y.rule) (x.cost, x.rule) then Some y else Some x

-- ---- rows

-- the leaves with these rules, by the number of chords carried in
abbrev pub leaf_row : List (Option LeafRule) → Bool → List (Option QuietTree)
leaf_row rules sounds = five (λ from. leaf_tree (slice_index_or rules (place_of_leaf from sounds) None))

-- the trees of a row and those with the cut on top, whichever are nearer
abbrev pub cut_row : List (Option QuietTree) → Cut → ℕ → List ℕ → List (List (Option QuietTree)) → List (Option QuietTree)
cut_row row cut number parts rows = five (λ from. nearer_tree (slice_index_or row from None) (cut_tree cut number (parts_cost rows from parts)))

-- the least trees of a width and symbol, by the number of chords carried in
abbrev pub IsQuietRow : Grammar → Plan → Quiet → ℕ × ℕ → List (Option QuietTree) → Type 0
IsQuietRow g plan quiet q row = (from : ℕ) → from < 5 → IsQuietTree g plan quiet q from (slice_index_or row from None)

-- the same of each seat
abbrev pub AreAllQuiet : Grammar → Plan → Quiet → List (List (Option QuietTree)) → Type 0
AreAllQuiet g plan quiet rows = (n from : ℕ) → n < length plan.seats.items → from < 5 → HasQuietTree g plan n quiet from (entry rows n from)

abbrev pub AreCheapRows : List (List (Option QuietTree)) → Type 0
AreCheapRows rows = (n from : ℕ) (t : QuietTree) → entry rows n from ≡ Some t → t.cost ≤ 3000000000

-- narrower than w, or as wide and before the number m
abbrev pub IsSeatBefore : ℕ → ℕ → ℕ → Seat → Type 0
IsSeatBefore w m n s = (s.width < w) ⊎ ((s.width ≡ w) × (n < m))

pub record AreQuietRows (g : Grammar) (plan : Plan) (quiet : Quiet) (rows : List (List (Option QuietTree))) (w m : ℕ) : Type 0 where
  pub long : length rows ≡ length plan.seats.items
  pub cheap : AreCheapRows rows
  pub least : (n : ℕ) (s : Seat) (from : ℕ) → slice_get plan.seats.items n ≡ Some s → IsSeatBefore w m n s → from < 5 → IsQuietTree g plan quiet (pair_of s) from (entry rows n from)

-- the rows of all seats up to this width
abbrev pub AreRowsUpTo : Grammar → Plan → Quiet → List (List (Option QuietTree)) → ℕ → Type 0
AreRowsUpTo g plan quiet rows w = AreQuietRows g plan quiet rows w (length plan.seats.items)

-- the widths of the seats before n are marked
abbrev pub AreMarked : List Seat → ℕ → List Bool → Type 0
AreMarked seats n widths = (i : ℕ) (s : Seat) → i < n → slice_get seats i ≡ Some s → s.width < length widths → slice_index_or widths s.width false ≡ true

-- those of all seats are
abbrev pub AreAllMarked : Plan → List Bool → Type 0
AreAllMarked plan widths = AreMarked plan.seats.items (length plan.seats.items) widths
