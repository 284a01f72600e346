-- The choice between rules. A choice is a cost and a number that orders its rule list: the rule's number, and after it 48
-- bits for what stands below.
use Rattle.std.specs.Prelude.{⊤, ◌≡◌, ℕ, ◌+◌, ◌*◌, ◌<◌, ◌^◌, ◌==◌, ◌||◌, ◌&&◌, Bool, nat_lt, if◌then◌else◌, List, [], ◌∷◌, Option, Some, None}
use Rattle.rhythm_base.specs.Ranked.{Key}
use Rattle.tree_laws.specs.Forests.{Ground}
use Rattle.path_laws.specs.Rows.{AreAlike}
use Rattle.path_laws.specs.Tables.{IsLeastKey}
use Rattle.row_laws.specs.RuleKeys.{IsRuleKey}

-- a choice: its cost, and its order
abbrev pub Choice : Type 0
Choice = ℕ × ℕ

-- a choice as a key, whose list is the order alone
abbrev pub choice_key : Option Choice → Option Key
choice_key None = None
choice_key (Some c) = Some (c.0, c.1 ∷ [])

-- it costs less, or the same and its order is lower
abbrev pub is_nearer : Choice → Choice → Bool
is_nearer x y = nat_lt x.0 y.0 || ((x.0 == y.0) && nat_lt x.1 y.1)

-- the second where it is nearer than the first
abbrev pub nearer_of : Option Choice → Option Choice → Option Choice
nearer_of o None = o
nearer_of None (Some x) = Some x
nearer_of (Some y) (Some x) = if is_nearer x y then Some x else Some y

-- a rule of this weight and number on top
abbrev pub topped_of : ℕ → ℕ → Option Choice → Option Choice
topped_of weight r None = None
topped_of weight r (Some c) = Some (weight + c.0, r * 2 ^ 48 + c.1)

-- the choice of a leaf with its rule and the rule's weight: the next number of chords is carried out of it, and its onsets cost so much
abbrev pub leaf_choice : Option (ℕ × ℕ) → ℕ → ℕ → ℕ → Option Choice
leaf_choice None next cost b = None
leaf_choice (Some x) next cost b = if next == b then Some (x.1 + cost, x.0 * 2 ^ 48) else None

-- a rule of the set is on top
abbrev pub IsKeyOfRules : Ground → ℕ → ℕ × ℕ → (ℕ → Type 0) → ℕ → ℕ → Key → Type 0
IsKeyOfRules d p q rules a b k = (r : ℕ) × rules r × IsRuleKey d None p q r a b k

-- the list begins with a rule of the set, and so does the order
abbrev pub IsMarked : (ℕ → Type 0) → Option Choice → Option Key → Type 0
IsMarked rules None u = ⊤
IsMarked rules (Some c) None = ⊤
IsMarked rules (Some c) (Some k) = (r : ℕ) × (low : ℕ) × (list : List ℕ) × rules r × (low < 2 ^ 48) × (c.1 ≡ r * 2 ^ 48 + low) × (k.1 ≡ r ∷ list)

-- These are the keys of the least trees with a rule of the set on top, by the number carried out, where a chords are carried
-- in; and the choices stand for them: their costs are the same, and they are ordered alike.
pub record AreBestOf (d : Ground) (p : ℕ) (q : ℕ × ℕ) (a : ℕ) (rules : ℕ → Type 0) (keys : ℕ → Option Key) (choices : ℕ → Option Choice) : Type 0 where
  pub least : (b : ℕ) → b < 5 → IsLeastKey (IsKeyOfRules d p q rules a b) (keys b)
  pub alike : AreAlike keys (λ b. choice_key (choices b))
  pub marked : (b : ℕ) → b < 5 → IsMarked rules (choices b) (keys b)
