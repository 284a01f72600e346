-- Rows of keys that are alike, and a key of one of several sets.
use Rattle.std.specs.Prelude.{◌≡◌, ℕ, ◌<◌, Option, Some, None}
use Rattle.std.specs.declared.cmp.Ordering.{Ordering}
use Rattle.std.specs.declared.cmp.Ordering.TheVariants.{Equal}
use Rattle.rhythm_base.specs.Ranked.{Key, list_cmp}

-- both there, with one cost, or neither
abbrev pub same : Option Key → Option Key → Type 0
same None None = Unit {0}
same None (Some y) = ⊥
same (Some x) None = ⊥
same (Some x) (Some y) = x.0 ≡ y.0

abbrev pub lists_cmp : Option Key → Option Key → Ordering
lists_cmp None q = Equal
lists_cmp (Some x) None = Equal
lists_cmp (Some x) (Some y) = list_cmp x.1 y.1

-- entry by entry the costs agree, and the lists of each two entries compare alike
pub record AreAlike (r s : ℕ → Option Key) : Type 0 where
  pub costs : (b : ℕ) → b < 5 → same (r b) (s b)
  pub order : (b c : ℕ) → b < 5 → c < 5 → lists_cmp (r b) (r c) ≡ lists_cmp (s b) (s c)

-- one of the sets before n
abbrev pub IsOneBelow : (ℕ → Key → Type 0) → ℕ → Key → Type 0
IsOneBelow S n k = (m : ℕ) × (m < n) × S m k
