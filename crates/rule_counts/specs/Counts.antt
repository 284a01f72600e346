-- How often rules stand in rule lists.
use Rattle.std.specs.Prelude.{◌≡◌, ℕ, ◌+◌, ◌<◌, ◌≤◌, ◌==◌, All, List, length, min, slice_index}
use Rattle.std.specs.List.{count_by, sum_by}
use Rattle.rule_counts.specs.declared.rule_counts.TheConstants.{MOST_USES}

-- no count is above MOST_USES
abbrev pub AreCapped : List ℕ → Type 0
AreCapped counts = All (λ n. n ≤ MOST_USES) counts

-- how often a rule stands in a list
abbrev pub uses : ℕ → List ℕ → ℕ
uses rule list = count_by (λ r. r == rule) list

-- how often it stands in lists together
abbrev pub uses_in_all : ℕ → List (List ℕ) → ℕ
uses_in_all rule lists = sum_by (uses rule) lists

-- the counts of so many rules in these lists: for each how often it stands in them, and MOST_USES where it stands oftener
pub record AreRuleCounts (rules : ℕ) (lists : List (List ℕ)) (counts : List ℕ) : Type 0 where
  pub of_each : length counts ≡ rules
  pub are : (rule : ℕ) → rule < rules → slice_index counts rule ≡ min (uses_in_all rule lists) MOST_USES

-- each count rises by how often its rule stands in the list, to MOST_USES at most
pub record AreRaised (old list new : List ℕ) : Type 0 where
  pub of_each : length new ≡ length old
  pub are : (rule : ℕ) → rule < length old → slice_index new rule ≡ min (slice_index old rule + uses rule list) MOST_USES
