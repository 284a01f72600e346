-- When a plan is that of a grammar.
use Rattle.std.specs.Prelude.{⊤, ◌≡◌, ℕ, ◌+◌, ◌-◌, ◌<◌, ◌≤◌, All, Bool, Contains, true, false, zero, suc, List, [], ◌∷◌, length, map, take, drop, slice_get, slice_index_or, Option, Some, None}
use Rattle.rhythm_base.specs.Bodies.{children}
use Rattle.rhythm_base.specs.Grammar.{Grammar}
use Rattle.rhythm_base.specs.Ranked.{Key}
use Rattle.rhythm_base.specs.declared.grammar.Start.{Start}
use Rattle.rhythm_base.specs.declared.rule.Rule.{Rule}
use Rattle.row_laws.specs.LeafRules.{HasNoLeafRule, IsFirstLeafRule}
use Rattle.row_laws.specs.QuietTrees.{IsQuietLeast, IsQuietList}
use Rattle.row_laws.specs.RuleKeys.{IsCutRule}
use Rattle.row_laws.specs.declared.quiet.Quiet.{Quiet}
use Rattle.row_laws.specs.declared.quiet.Quiet.TheVariants.{Sounding, Silent}
use Rattle.grammar_plan.specs.declared.cut.Cut.{Cut}
use Rattle.grammar_plan.specs.declared.leaf_rule.LeafRule.{LeafRule}
use Rattle.grammar_plan.specs.declared.plan.Plan.{Plan}
use Rattle.grammar_plan.specs.declared.quiet_tree.QuietTree.{QuietTree}
use Rattle.grammar_plan.specs.declared.seat.Seat.{Seat}

-- the things of a list from a place on, and before an end
abbrev pub between : {X : Type 0} → List X → ℕ → ℕ → List X
between xs first end = take (end - first) (drop first xs)

-- ---- seats and cuts

abbrev pub pair_of : Seat → ℕ × ℕ
pair_of s = (s.width, s.symbol)

-- the seat of this number has this width and symbol
abbrev pub HasSeat : Plan → ℕ → ℕ × ℕ → Type 0
HasSeat plan n q = (s : Seat) × (slice_get plan.seats.items n ≡ Some s) × (pair_of s ≡ q)

-- these are the numbers of seats of these widths and symbols
abbrev pub HaveSeats : Plan → List ℕ → List (ℕ × ℕ) → Type 0
HaveSeats plan [] [] = ⊤
HaveSeats plan [] (q ∷ qs) = ⊥
HaveSeats plan (n ∷ ns) [] = ⊥
HaveSeats plan (n ∷ ns) (q ∷ qs) = HasSeat plan n q × HaveSeats plan ns qs

-- a rule that cuts a seat, with its weight and the seats of its parts
pub record IsCutOf (g : Grammar) (plan : Plan) (q : ℕ × ℕ) (c : Cut) : Type 0 where
  pub rule : Rule
  pub is : IsCutRule g q c.rule rule
  pub weighs : c.weight ≡ rule.weight
  pub order : c.first ≤ c.end
  pub within : c.end ≤ length plan.parts.items
  pub parts : HaveSeats plan (between plan.parts.items c.first c.end) (children rule.body q.0)

-- a seat, with all rules that cut it, by rising rule
pub record IsSeat (g : Grammar) (plan : Plan) (s : Seat) : Type 0 where
  pub wide : 1 ≤ s.width
  pub within : s.width ≤ g.resolution
  pub symbol : s.symbol < length plan.leaves.items
  pub order : s.first ≤ s.end
  pub inside : s.end ≤ length plan.cuts.items
  pub cuts : (i : ℕ) (c : Cut) → s.first ≤ i → i < s.end → slice_get plan.cuts.items i ≡ Some c → IsCutOf g plan (pair_of s) c
  pub rise : (i j : ℕ) (c d : Cut) → s.first ≤ i → i < j → j < s.end → slice_get plan.cuts.items i ≡ Some c → slice_get plan.cuts.items j ≡ Some d → c.rule < d.rule
  pub whole : (r : ℕ) (rule : Rule) → IsCutRule g (pair_of s) r rule → (i : ℕ) × (c : Cut) × (s.first ≤ i) × (i < s.end) × (slice_get plan.cuts.items i ≡ Some c) × (c.rule ≡ r)

-- ---- leaves

-- the rule that ends such a leaf of the symbol, where there is one
abbrev pub HasLeafRule : Grammar → ℕ → ℕ → Bool → Option LeafRule → Type 0
HasLeafRule g symbol n sounds None = HasNoLeafRule g symbol n sounds
HasLeafRule g symbol n sounds (Some l) = IsFirstLeafRule g symbol n sounds l.rule l.weight

-- ---- quiet intervals

-- how the list of a least tree is made: a leaf's rule alone, or a cut's rule and the lists of its parts
abbrev pub IsQuietMade : Grammar → Plan → Quiet → ℕ × ℕ → ℕ → ℕ → Option ℕ → List ℕ → Type 0
IsQuietMade g plan quiet q from rule None list = list ≡ rule ∷ []
IsQuietMade g plan quiet q from rule (Some n) list =
    (c : Cut) × (body : Rule) × (xs : List ℕ) × (slice_get plan.cuts.items n ≡ Some c) × (c.rule ≡ rule) × IsCutOf g plan q c × IsCutRule g q c.rule body
    × IsQuietList g quiet (children body.body q.0) from xs × (list ≡ rule ∷ xs)

-- the least tree of the width and symbol over an interval that is quiet so, with so many chords carried in
abbrev pub IsQuietTree : Grammar → Plan → Quiet → ℕ × ℕ → ℕ → Option QuietTree → Type 0
IsQuietTree g plan quiet q from None = IsQuietLeast g quiet q from None
IsQuietTree g plan quiet q from (Some t) =
    (k : Key) × IsQuietLeast g quiet q from (Some k) × (t.cost ≡ k.0) × (t.cost ≤ 3000000000) × IsQuietMade g plan quiet q from t.rule t.cut k.1

abbrev pub HasQuietTree : Grammar → Plan → ℕ → Quiet → ℕ → Option QuietTree → Type 0
HasQuietTree g plan n quiet from t = (s : Seat) → slice_get plan.seats.items n ≡ Some s → IsQuietTree g plan quiet (pair_of s) from t

abbrev pub quiet_rows_of : Plan → Quiet → List (List (Option QuietTree))
quiet_rows_of plan Sounding = plan.sounding.items
quiet_rows_of plan Silent = plan.silent.items

-- ---- roots

-- the symbol is the root of a start of the grammar
abbrev pub IsRoot : Grammar → ℕ → Type 0
IsRoot g symbol = Contains (map (λ start. start.symbol) g.starts) symbol

-- the root of each of the starts has a seat
abbrev pub HaveSeatsOverBars : List (Option ℕ) → List Start → Type 0
HaveSeatsOverBars roots starts = All (λ start. (n : ℕ) × (slice_get roots start.symbol ≡ Some (Some n))) starts

-- ---- the plan

-- the place of a leaf that asks so among the rules of a symbol: note, short, tie, rest, and then with 1 to 3 grace chords
abbrev pub place_of_leaf : ℕ → Bool → ℕ
place_of_leaf zero true = 2
place_of_leaf zero false = 3
place_of_leaf (suc zero) true = 0
place_of_leaf (suc zero) false = 1
place_of_leaf (suc (suc n)) sounds = n + 4

pub record IsPlan (g : Grammar) (plan : Plan) : Type 0 where
  pub seats : All (IsSeat g plan) plan.seats.items
  pub roots : (symbol n : ℕ) → slice_get plan.roots.items symbol ≡ Some (Some n) → HasSeat plan n (g.resolution, symbol)
  pub starts : HaveSeatsOverBars plan.roots.items g.starts
  pub leaves : (symbol n : ℕ) (sounds : Bool) → symbol < length plan.leaves.items → n ≤ 4
      → HasLeafRule g symbol n sounds (slice_index_or (slice_index_or plan.leaves.items symbol []) (place_of_leaf n sounds) None)
  pub rows_long : (quiet : Quiet) → length (quiet_rows_of plan quiet) ≡ length plan.seats.items
  pub quiet : (n from : ℕ) (quiet : Quiet) → n < length plan.seats.items → from < 5
      → HasQuietTree g plan n quiet from (slice_index_or (slice_index_or (quiet_rows_of plan quiet) n []) from None)
