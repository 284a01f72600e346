-- What the entries of a row may become: the nearest choice for each number of chords carried out.
use Rattle.std.specs.Prelude.{⊤, ◌≡◌, ◌≢◌, ◌⊎◌, ℕ, zero, suc, ◌+◌, ◌-◌, ◌*◌, ◌/◌, ◌<◌, ◌≤◌, ◌^◌, nat_le, nat_lt, max, if◌then◌else◌, List, [], ◌∷◌, ◌++◌, length, slice_get, slice_index_or, slice_set, Option, Some, None}
use Rattle.rhythm_base.specs.Grammar.{Grammar}
use Rattle.rhythm_base.specs.Ranked.{Key}
use Rattle.tree_laws.specs.Forests.{Ground}
use Rattle.row_laws.specs.BestRules.{AreBestOf, is_nearer}
use Rattle.row_laws.specs.BestRules as best
use Rattle.row_laws.specs.LeafRules.{EndsInterval}
use Rattle.grammar_plan.specs.declared.cut.Cut.{Cut}
use Rattle.grammar_plan.specs.declared.leaf_rule.LeafRule.{LeafRule}
use Rattle.grammar_plan.specs.declared.plan.Plan.{Plan}
use Rattle.grammar_plan.specs.declared.seat.Seat.{Seat}
use Rattle.least_rows.specs.Entries.{IsListMade}
use Rattle.least_rows.specs.Ways.{rank_in, way_on}
use Rattle.least_rows.specs.declared.choice.Choice.{Choice}
use Rattle.least_rows.specs.declared.entry.Entry.{Entry}
use Rattle.least_rows.specs.declared.state.RowSpan.{RowSpan}
use Rattle.least_rows.specs.declared.way.Way.{Way}

abbrev pub choice_in : List (Option Choice) → ℕ → Option Choice
choice_in choices to = slice_index_or choices to None

-- the cost and the order of a choice
abbrev pub sum_of_choice : Option Choice → Option best.Choice
sum_of_choice None = None
sum_of_choice (Some c) = Some (c.cost, c.order)

-- the second where it is nearer than the first
abbrev pub nearer_choice : Option Choice → Option Choice → Option Choice
nearer_choice o None = o
nearer_choice None (Some x) = Some x
nearer_choice (Some y) (Some x) = if is_nearer (x.cost, x.order) (y.cost, y.order) then Some x else Some y

-- the cut of this number, with its weight and rule, on top of a way over its parts
abbrev pub topped_choice : Cut → ℕ → Option Way → Option Choice
topped_choice cut number None = None
topped_choice cut number (Some w) = Some (record { cost = cut.weight + w.cost; order = cut.rule * 2 ^ 48 + w.order; cut = Some number; way = w.way })

-- each choice with the nearest of those that the way gives with the entries of a row after it, under the cut
abbrev pub OffersEntries : Cut → (number : ℕ) → Way → (count : ℕ) → List Entry → (old new : List (Option Choice)) → Type 0
OffersEntries cut number way count entries old new =
    (b : ℕ) → b < 5 → choice_in new b ≡ nearer_choice (choice_in old b) (topped_choice cut number (way_on (Some way) count (rank_in entries 0 b)))

-- the choice of a leaf that the rule ends
abbrev pub choice_of_leaf : LeafRule → (charges : ℕ) → Choice
choice_of_leaf rule charges = record { cost = rule.weight + charges; order = rule.rule * 2 ^ 48; cut = None; way = 0 }

-- one where the choice comes before each way under the cut that costs as much: its rule is lower
abbrev pub tie_of : Choice → Cut → ℕ
tie_of c cut = if nat_lt c.order (cut.rule * 2 ^ 48) then 1 else 0

-- what the ways under the cut may cost at most to come before the choice, where some may; without a choice, more than any way costs
abbrev pub left_of : Option Choice → Cut → Option ℕ
left_of None cut = Some (2 ^ 64 - 1)
left_of (Some c) cut = if nat_le (cut.weight + tie_of c cut) c.cost then Some (c.cost - (cut.weight + tie_of c cut)) else None

abbrev pub greater : Option ℕ → Option ℕ → Option ℕ
greater None o = o
greater (Some x) None = Some x
greater (Some x) (Some y) = Some (max x y)

-- the greatest of these for the first n choices
abbrev pub left_below : List (Option Choice) → ℕ → Cut → Option ℕ
left_below choices zero cut = None
left_below choices (suc n) cut = greater (left_below choices n cut) (left_of (choice_in choices n) cut)

-- what the ways over the parts of a cut may cost at most for the cut to be offered: a limit where fewer than four chords are
-- carried out of any tree
unfoldable pub limit_below : List (Option Choice) → (most : ℕ) → Cut → Option ℕ
limit_below choices most cut = if nat_lt most 4 then left_below choices (most + 1) cut else Some (2 ^ 64 - 1)

-- the list of the key is made as the choice says
abbrev pub IsChoiceMade : Ground → Plan → ℕ → ℕ × ℕ → ℕ → ℕ → Option Choice → Option Key → Type 0
IsChoiceMade d plan p q a b None k = ⊤
IsChoiceMade d plan p q a b (Some c) None = ⊤
IsChoiceMade d plan p q a b (Some c) (Some k) =
    (r : ℕ) × (low : ℕ) × (low < 2 ^ 48) × (c.order ≡ r * 2 ^ 48 + low) × IsListMade d plan p q a r c.cut c.way b k.1

-- these choices stand for the least trees with a rule of the set on top
pub record AreBestChoices (d : Ground) (plan : Plan) (p : ℕ) (q : ℕ × ℕ) (a : ℕ) (rules : ℕ → Type 0) (choices : List (Option Choice)) : Type 0 where
  pub keys : ℕ → Option Key
  pub best_of : AreBestOf d p q a rules keys (λ b. sum_of_choice (choice_in choices b))
  pub made : (b : ℕ) → b < 5 → IsChoiceMade d plan p q a b (choice_in choices b) (keys b)

-- a rule that ends its interval, or one of the cuts of the seat before the number i
abbrev pub RulesBefore : Grammar → Plan → Seat → ℕ → ℕ → Type 0
RulesBefore g plan s i r = EndsInterval g r ⊎ ((j : ℕ) × (c : Cut) × (s.first ≤ j) × (j < i) × (slice_get plan.cuts.items j ≡ Some c) × (c.rule ≡ r))

-- ---- entries are made of choices, by their order

-- none of the first n is there, or the one of this number has the lowest order
abbrev pub IsFirst : List (Option Choice) → ℕ → Option ℕ → Type 0
IsFirst choices n None = (b : ℕ) → b < n → choice_in choices b ≡ None
IsFirst choices n (Some to) =
    (to < n) × (c : Choice) × (choice_in choices to ≡ Some c) × ((b : ℕ) (x : Choice) → b < n → choice_in choices b ≡ Some x → c.order ≤ x.order)

abbrev pub IsEntryOf : Choice → ℕ → Entry → Type 0
IsEntryOf c to e = (e.to ≡ to) × (e.cost ≡ c.cost) × (e.rule ≡ c.order / 2 ^ 48) × (e.cut ≡ c.cut) × (e.way ≡ c.way)

-- the entry of the choice by which none are carried out, where there is no other
abbrev pub IsAlone : List (Option Choice) → Entry → Type 0
IsAlone choices e = (c : Choice) × (choice_in choices 0 ≡ Some c) × IsEntryOf c 0 e × ((b : ℕ) → b < 5 → b ≢ 0 → choice_in choices b ≡ None)

-- the choice of the lowest order is taken out, as an entry, where there is one
abbrev pub TakesFirst : (old new : List (Option Choice)) → Option Entry → Type 0
TakesFirst old new None = (new ≡ old) × ((b : ℕ) → b < 5 → choice_in old b ≡ None)
TakesFirst old new (Some e) =
    IsFirst old 5 (Some e.to) × ((c : Choice) → choice_in old e.to ≡ Some c → IsEntryOf c e.to e) × (new ≡ slice_set old e.to None)

abbrev pub count_some : List (Option Choice) → ℕ
count_some [] = 0
count_some (None ∷ xs) = count_some xs
count_some (Some x ∷ xs) = suc (count_some xs)

-- some of the choices are entries already, those of the lowest orders, and the others are left
pub record IsSplit (choices left : List (Option Choice)) (es : List Entry) : Type 0 where
  pub kept : (b : ℕ) (c : Choice) → b < 5 → choice_in left b ≡ Some c → choice_in choices b ≡ Some c
  pub made : (i : ℕ) (e : Entry) → slice_get es i ≡ Some e → (e.to < 5) × (c : Choice) × (choice_in choices e.to ≡ Some c) × IsEntryOf c e.to e × (choice_in left e.to ≡ None)
  pub all : (b : ℕ) (c : Choice) → b < 5 → choice_in choices b ≡ Some c → choice_in left b ≡ None → (i : ℕ) × (e : Entry) × (slice_get es i ≡ Some e) × (e.to ≡ b)
  pub low : (i b : ℕ) (e : Entry) (c x : Choice) → b < 5 → slice_get es i ≡ Some e → choice_in choices e.to ≡ Some c → choice_in left b ≡ Some x → c.order ≤ x.order
  pub rise : (i j : ℕ) (e f : Entry) (c x : Choice) → i < j → slice_get es i ≡ Some e → slice_get es j ≡ Some f → choice_in choices e.to ≡ Some c → choice_in choices f.to ≡ Some x → (c.order ≤ x.order) × (e.to ≢ f.to)
  pub few : length es + count_some left ≤ 5
  pub long : length left ≡ 5

-- the entries of all choices were added, and stand in the span
pub record AreSettled (choices : List (Option Choice)) (old new : List Entry) (span : RowSpan) : Type 0 where
  pub es : List Entry
  pub added : new ≡ old ++ es
  pub first : span.first ≡ length old
  pub count : span.count ≡ length es
  pub left : List (Option Choice)
  pub split : IsSplit choices left es
  pub none : (b : ℕ) → b < 5 → choice_in left b ≡ None
