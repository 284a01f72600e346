-- Seats and cuts while a plan is made: what stands stays, and what comes is put after it.
use Rattle.std.specs.Prelude.{⊤, ◌≡◌, ℕ, ◌<◌, ◌≤◌, ◌⊎◌, List, [], ◌∷◌, ◌++◌, ◌&&◌, Bool, true, false, length, slice_get, Option, Some, None}
use Rattle.rhythm_base.specs.Bodies.{children, ending_of}
use Rattle.rhythm_base.specs.Grammar.{Grammar}
use Rattle.rhythm_base.specs.Trees.{suits}
use Rattle.rhythm_base.specs.declared.rule.Body.{Body}
use Rattle.rhythm_base.specs.declared.rule.Ending.{Ending}
use Rattle.rhythm_base.specs.declared.rule.Rule.{Rule}
use Rattle.row_laws.specs.RuleKeys.{IsCutRule}
use Rattle.grammar_plan.specs.Plans.{between, pair_of}
use Rattle.grammar_plan.specs.declared.cut.Cut.{Cut}
use Rattle.grammar_plan.specs.declared.draft.Draft.{Draft}
use Rattle.grammar_plan.specs.declared.pairs.Pairs.{Pairs}
use Rattle.grammar_plan.specs.declared.seat.Seat.{Seat}

-- more after it
abbrev pub IsLonger : {X : Type 0} → List X → List X → Type 0
IsLonger {X} xs ys = (more : List X) × (ys ≡ xs ++ more)

-- the pair has this number
abbrev pub HasPair : List (ℕ × ℕ) → ℕ → ℕ × ℕ → Type 0
HasPair pairs n q = slice_get pairs n ≡ Some q

abbrev pub HavePairs : List (ℕ × ℕ) → List ℕ → List (ℕ × ℕ) → Type 0
HavePairs pairs [] [] = ⊤
HavePairs pairs [] (q ∷ qs) = ⊥
HavePairs pairs (n ∷ ns) [] = ⊥
HavePairs pairs (n ∷ ns) (q ∷ qs) = HasPair pairs n q × HavePairs pairs ns qs

-- widths of some units, and not too many, and symbols that are names
abbrev pub ArePairs : ℕ → ℕ → List (ℕ × ℕ) → Type 0
ArePairs most names pairs = (n : ℕ) (q : ℕ × ℕ) → HasPair pairs n q → (1 ≤ q.0) × (q.0 ≤ most) × (q.1 < names)

-- so are those that were found for the grammar
abbrev pub ArePairsOf : Grammar → Pairs → Type 0
ArePairsOf g pairs = ArePairs g.resolution (length g.names) pairs.found.items

-- the pair is there: it was put after the others, or nothing changed
abbrev pub HasAdded : ℕ × ℕ → Pairs → Pairs → Type 0
HasAdded q old new = (new.found.items ≡ old.found.items) ⊎ (new.found.items ≡ old.found.items ++ q ∷ [])

-- where a symbol has a number, that is of its pair over the whole bar
abbrev pub HaveRootPairs : Grammar → Pairs → List (Option ℕ) → Type 0
HaveRootPairs g pairs roots = (symbol n : ℕ) → slice_get roots symbol ≡ Some (Some n) → HasPair pairs.found.items n (g.resolution, symbol)

-- the numbers of these widths and symbols were put after the parts
pub record ArePushed (old new : List (ℕ × ℕ)) (parts more : List ℕ) (qs : List (ℕ × ℕ)) : Type 0 where
  pub longer : IsLonger old new
  pub numbers : List ℕ
  pub parts_longer : more ≡ parts ++ numbers
  pub have : HavePairs new numbers qs
  pub lawful : (most names : ℕ) → ArePairs most names old → ArePairs most names qs → ArePairs most names new

-- the parts of a node of this width with this body were put after those of the draft, and no cut
pub record HasPartsOf (body : Body) (width : ℕ) (old new : Draft) : Type 0 where
  pub pushed : ArePushed old.pairs.found.items new.pairs.found.items old.parts.items new.parts.items (children body width)
  pub cuts : new.cuts ≡ old.cuts

-- a rule that cuts, with its weight and the numbers of its parts
pub record IsCutIn (g : Grammar) (pairs : List (ℕ × ℕ)) (parts : List ℕ) (q : ℕ × ℕ) (c : Cut) : Type 0 where
  pub rule : Rule
  pub is : IsCutRule g q c.rule rule
  pub weighs : c.weight ≡ rule.weight
  pub order : c.first ≤ c.end
  pub within : c.end ≤ length parts
  pub have : HavePairs pairs (between parts c.first c.end) (children rule.body q.0)

-- the cuts from a number on are those by the rules before n, by rising rule
pub record AreCutsFrom (g : Grammar) (pairs : List (ℕ × ℕ)) (parts : List ℕ) (cuts : List Cut) (q : ℕ × ℕ) (from n : ℕ) : Type 0 where
  pub each : (i : ℕ) (c : Cut) → from ≤ i → slice_get cuts i ≡ Some c → IsCutIn g pairs parts q c
  pub below : (i : ℕ) (c : Cut) → from ≤ i → slice_get cuts i ≡ Some c → c.rule < n
  pub rise : (i j : ℕ) (c d : Cut) → from ≤ i → i < j → slice_get cuts i ≡ Some c → slice_get cuts j ≡ Some d → c.rule < d.rule
  pub whole : (r : ℕ) (rule : Rule) → r < n → IsCutRule g q r rule → (i : ℕ) × (c : Cut) × (from ≤ i) × (slice_get cuts i ≡ Some c) × (c.rule ≡ r)

-- a seat, with all rules that cut it, by rising rule
pub record IsSeatIn (g : Grammar) (pairs : List (ℕ × ℕ)) (parts : List ℕ) (cuts : List Cut) (s : Seat) : Type 0 where
  pub order : s.first ≤ s.end
  pub inside : s.end ≤ length cuts
  pub each : (i : ℕ) (c : Cut) → s.first ≤ i → i < s.end → slice_get cuts i ≡ Some c → IsCutIn g pairs parts (pair_of s) c
  pub rise : (i j : ℕ) (c d : Cut) → s.first ≤ i → i < j → j < s.end → slice_get cuts i ≡ Some c → slice_get cuts j ≡ Some d → c.rule < d.rule
  pub whole : (r : ℕ) (rule : Rule) → IsCutRule g (pair_of s) r rule → (i : ℕ) × (c : Cut) × (s.first ≤ i) × (i < s.end) × (slice_get cuts i ≡ Some c) × (c.rule ≡ r)

-- the seats so far are those of the first pairs
abbrev pub AreSeatsIn : Grammar → List (ℕ × ℕ) → List ℕ → List Cut → List Seat → Type 0
AreSeatsIn g pairs parts cuts seats = (n : ℕ) (s : Seat) → slice_get seats n ≡ Some s → HasPair pairs n (pair_of s) × IsSeatIn g pairs parts cuts s

abbrev pub is_no_ending : Option Ending → Bool
is_no_ending None = true
is_no_ending (Some ending) = false

-- the rule cuts the width for the symbol
abbrev pub cuts_pair : Rule → ℕ × ℕ → Bool
cuts_pair rule q = is_no_ending (ending_of rule.body) && suits (Some rule) q

-- the cuts of the width and symbol by the rules before n were put after the cuts
pub record HasMoreCuts (g : Grammar) (q : ℕ × ℕ) (old pairs : List (ℕ × ℕ)) (before parts : List ℕ) (was cuts : List Cut) (n : ℕ) : Type 0 where
  pub pairs_longer : IsLonger old pairs
  pub parts_longer : IsLonger before parts
  pub cuts_longer : IsLonger was cuts
  pub own : AreCutsFrom g pairs parts cuts q (length was) n
  pub lawful : ArePairs g.resolution (length g.names) old → 1 ≤ q.0 → q.0 ≤ g.resolution → ArePairs g.resolution (length g.names) pairs

-- all cuts of the width and symbol were put after those of the draft
abbrev pub HasAllCuts : Grammar → ℕ × ℕ → Draft → Draft → Type 0
HasAllCuts g q old new = HasMoreCuts g q old.pairs.found.items new.pairs.found.items old.parts.items new.parts.items old.cuts.items new.cuts.items (length g.rules)

-- the rule of this number was put after them as a cut, with the parts that were put there
pub record HasCutOf (rule : Rule) (number width : ℕ) (old new : Draft) : Type 0 where
  pub parts : ArePushed old.pairs.found.items new.pairs.found.items old.parts.items new.parts.items (children rule.body width)
  pub cut : new.cuts.items ≡ old.cuts.items ++ record { rule = number; weight = rule.weight; first = length old.parts.items; end = length new.parts.items } ∷ []

-- what was found is lawful, and the seats so far are those of the first of it
pub record IsDraft (g : Grammar) (pairs : List (ℕ × ℕ)) (parts : List ℕ) (cuts : List Cut) (seats : List Seat) : Type 0 where
  pub lawful : ArePairs g.resolution (length g.names) pairs
  pub each : AreSeatsIn g pairs parts cuts seats

abbrev pub IsDraftOf : Grammar → Draft → List Seat → Type 0
IsDraftOf g draft seats = IsDraft g draft.pairs.found.items draft.parts.items draft.cuts.items seats
