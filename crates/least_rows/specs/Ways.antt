-- The least ways over the first parts of a cut, by the number of chords carried out of them.
use Rattle.std.specs.Prelude.{⊤, ◌≡◌, ◌≢◌, ℕ, zero, suc, ◌+◌, ◌*◌, ◌<◌, ◌≤◌, ◌^◌, ◌==◌, if◌then◌else◌, List, [], ◌∷◌, take, length, slice_get, slice_index_or, Option, Some, None}
use Rattle.rhythm_base.specs.Ranked.{Key, Keys}
use Rattle.tree_laws.specs.Forests.{Ground}
use Rattle.path_laws.specs.Rows.{AreAlike}
use Rattle.row_laws.specs.BestRules.{Choice, choice_key, is_nearer}
use Rattle.row_laws.specs.Rows.{AreLeastRow}
use Rattle.row_laws.specs.Ways.{IsWayList}
use Rattle.grammar_plan.specs.declared.quiet_tree.QuietTree.{QuietTree}
use Rattle.least_rows.specs.declared.entry.Entry.{Entry}
use Rattle.least_rows.specs.declared.lead.Lead.{Lead}
use Rattle.least_rows.specs.declared.lead.Lead.TheVariants.{Nowhere, One, Several}
use Rattle.least_rows.specs.declared.way.Way.{Way}

-- ---- ways

abbrev pub way_in : List (Option Way) → ℕ → Option Way
way_in ways count = slice_index_or ways count None

-- the cost and the order of a way
abbrev pub sum_of_way : Option Way → Option Choice
sum_of_way None = None
sum_of_way (Some w) = Some (w.cost, w.order)

-- the second where it is nearer than the first
abbrev pub nearer_way : Option Way → Option Way → Option Way
nearer_way o None = o
nearer_way None (Some x) = Some x
nearer_way (Some y) (Some x) = if is_nearer (x.cost, x.order) (y.cost, y.order) then Some x else Some y

-- one part more, into which so many chords are carried, with the cost and the rank of its entry
abbrev pub way_then : Way → (count cost rank : ℕ) → Way
way_then w count cost rank = record { cost = w.cost + cost; order = w.order * 8 + rank; way = w.way * 8 + count }

abbrev pub way_on : Option Way → ℕ → Option Choice → Option Way
way_on None count r = None
way_on (Some w) count None = None
way_on (Some w) count (Some r) = Some (way_then w count r.0 r.1)

-- what a part adds: its entry's cost, and the entry's rank in its row
abbrev pub IsPartSum : (cost rank : ℕ) → Type 0
IsPartSum cost rank = (cost ≤ 3000000000) × (rank < 8)

-- each way with the nearest of those that one way gives with a part of these costs and ranks after it
abbrev pub Joins : Way → (count : ℕ) → (ranks : ℕ → Option Choice) → (old new : ℕ → Option Way) → Type 0
Joins way count ranks old new = (b : ℕ) → b < 5 → new b ≡ nearer_way (old b) (way_on (Some way) count (ranks b))

-- the nearest of those over the first n counts between
abbrev pub nearest_below : (ℕ → Option Way) → (ℕ → ℕ → Option Choice) → ℕ → ℕ → Option Way
nearest_below ways ranks b zero = None
nearest_below ways ranks b (suc n) = nearer_way (nearest_below ways ranks b n) (way_on (ways n) n (ranks n b))

unfoldable pub nearest_way : (ℕ → Option Way) → (ℕ → ℕ → Option Choice) → ℕ → Option Way
nearest_way ways ranks b = nearest_below ways ranks b 5

-- ---- the entries of a row

-- the cost and the rank, from i on, of the entry for a number carried out
abbrev pub rank_in : List Entry → ℕ → ℕ → Option Choice
rank_in [] i b = None
rank_in (e ∷ es) i b = if e.to == b then Some (e.cost, i) else rank_in es (suc i) b

-- few entries for different counts, of trees that do not cost much
pub record AreEntries (entries : List Entry) : Type 0 where
  pub few : length entries ≤ 5
  pub each : (i : ℕ) (e : Entry) → slice_get entries i ≡ Some e → (e.to < 5) × (e.cost ≤ 3000000000)
  pub apart : (i j : ℕ) (e f : Entry) → i < j → slice_get entries i ≡ Some e → slice_get entries j ≡ Some f → e.to ≢ f.to

-- ---- where a way leads

-- one way alone, out of which so many chords are carried
abbrev pub one_way : Way → ℕ → ℕ → Option Way
one_way way count b = if count == b then Some way else None

-- one way leads on so over a part whose entries have these costs and ranks: to none, to one, or to what its row tells
abbrev pub IsLead : (ℕ → Option Choice) → Way → ℕ → Lead → Type 0
IsLead ranks way count Nowhere = (b : ℕ) → b < 5 → None ≡ way_on (Some way) count (ranks b)
IsLead ranks way count (One next to) = (to < 5) × ((b : ℕ) → b < 5 → one_way next to b ≡ way_on (Some way) count (ranks b))
IsLead ranks way count Several = ⊤

-- ---- the ways over the first parts

-- the way is by the counts between the trees of the key's list
abbrev pub IsWayMade : Ground → ℕ → List (ℕ × ℕ) → ℕ → ℕ → ℕ → Option Way → Option Key → Type 0
IsWayMade d p qs a n m None k = ⊤
IsWayMade d p qs a n m (Some w) None = ⊤
IsWayMade d p qs a n m (Some w) (Some k) = IsWayList d p qs a n w.way m k.1

-- these are the least ways over the first n of the trees of these widths and symbols from unit p on, with a chords carried in,
-- by the number carried out
pub record AreWays (d : Ground) (p : ℕ) (qs : List (ℕ × ℕ)) (a n : ℕ) (ways : ℕ → Option Way) : Type 0 where
  pub row : ℕ → Option Key
  pub least : AreLeastRow d p (take n qs) a row
  pub alike : AreAlike row (λ m. choice_key (sum_of_way (ways m)))
  pub made : (m : ℕ) → m < 5 → IsWayMade d p qs a n m (ways m) (row m)
  pub short : (m : ℕ) (w : Way) → m < 5 → ways m ≡ Some w → (w.order < 8 ^ n) × (w.way < 8 ^ n)

-- so that one part more does not overflow
abbrev pub IsShort : Way → Type 0
IsShort w = (w.cost ≤ 3000000000) × (w.order < 2 ^ 48) × (w.way < 2 ^ 48)

abbrev pub AreShort : (ℕ → Option Way) → Type 0
AreShort ways = (m : ℕ) (w : Way) → m < 5 → ways m ≡ Some w → IsShort w

-- so that the way with one part more does not overflow under a cut
abbrev pub IsSmallWay : Way → Type 0
IsSmallWay w = (w.cost ≤ 3000000000) × (w.order < 2 ^ 45) × (w.way < 2 ^ 45)

-- ---- one part more

-- the nearest ways with the tree of this width and symbol after them, from unit p on: by its rows for the counts that are
-- carried out of them
pub record AreWaysOn (d : Ground) (p : ℕ) (q : ℕ × ℕ) (ways next : ℕ → Option Way) : Type 0 where
  pub keys : Keys
  pub ranks : ℕ → ℕ → Option Choice
  pub least : (m : ℕ) (w : Way) → m < 5 → ways m ≡ Some w → AreLeastRow d p (q ∷ []) m (keys m)
  pub alike : (m : ℕ) (w : Way) → m < 5 → ways m ≡ Some w → AreAlike (keys m) (λ b. choice_key (ranks m b))
  pub digits : (m b : ℕ) (c : Choice) → ranks m b ≡ Some c → c.1 < 8
  pub nearest : (b : ℕ) → b < 5 → next b ≡ nearest_way ways ranks b

-- the cost and the rank of the tree over a quiet interval: none is carried out of it, and there is no other
abbrev pub quiet_rank : Option QuietTree → ℕ → Option Choice
quiet_rank None b = None
quiet_rank (Some t) b = if 0 == b then Some (t.cost, 0) else None

-- the same for the first n of the counts that are carried out
pub record AreWaysBelow (d : Ground) (p : ℕ) (q : ℕ × ℕ) (ways : ℕ → Option Way) (n : ℕ) (next : ℕ → Option Way) : Type 0 where
  pub keys : Keys
  pub ranks : ℕ → ℕ → Option Choice
  pub least : (m : ℕ) (w : Way) → m < n → ways m ≡ Some w → AreLeastRow d p (q ∷ []) m (keys m)
  pub alike : (m : ℕ) (w : Way) → m < n → ways m ≡ Some w → AreAlike (keys m) (λ b. choice_key (ranks m b))
  pub digits : (m b : ℕ) (c : Choice) → ranks m b ≡ Some c → c.1 < 8
  pub nearest : (b : ℕ) → b < 5 → next b ≡ nearest_below ways ranks b n

-- these costs and ranks stand for the row of the width and symbol from unit p on, with a chords carried in
pub record IsRankedRow (d : Ground) (p : ℕ) (q : ℕ × ℕ) (a : ℕ) (ranks : ℕ → Option Choice) : Type 0 where
  pub keys : ℕ → Option Key
  pub least : AreLeastRow d p (q ∷ []) a keys
  pub alike : AreAlike keys (λ b. choice_key (ranks b))
  pub digits : (b : ℕ) (c : Choice) → ranks b ≡ Some c → c.1 < 8
