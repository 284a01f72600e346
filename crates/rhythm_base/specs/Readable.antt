-- What holds of the grammars that a grammar file can say, besides how their names are spelled.
use Rattle.rhythm_base.specs.declared.limits.TheConstants.{MOST_UNITS, MOST_UNEQUAL_UNITS, MOST_NAMES, MOST_RULES, MOST_PARTS, WIDEST_WINDOW, HEAVIEST_RULE, HEAVIEST_ONSET}
use Rattle.std.specs.Prelude.{Option, Some, None, ◌≡◌, ◌≢◌, ◌⊎◌, ℕ, ◌+◌, ◌<◌, ◌≤◌, ◌==◌, if◌then◌else◌, List, [], ◌∷◌, length, map, All, AllPairs}
use Rattle.rhythm_base.specs.declared.grammar.Start.{Start}
use Rattle.rhythm_base.specs.declared.rule.Body.{Body}
use Rattle.rhythm_base.specs.declared.rule.Ending.{Ending}
use Rattle.rhythm_base.specs.Bodies.{Cut, IsLeafEnding, cut_of, ending_of, equal, unequal}
use Rattle.rhythm_base.specs.Grammar.{Grammar}
use Rattle.rhythm_base.specs.Signatures.{IsSignature}

-- the numbers of a grammar are in the ranges of the file
pub record IsInRange (g : Grammar) : Type 0 where
  pub some_unit : 1 ≤ g.resolution
  pub few_units : g.resolution ≤ MOST_UNITS
  pub window : g.window ≤ WIDEST_WINDOW
  pub early : g.early ≤ HEAVIEST_ONSET
  pub late : g.late ≤ HEAVIEST_ONSET
  pub weights : All (λ r. r.weight ≤ HEAVIEST_RULE) g.rules

-- a cut has 2 to 16 parts of these symbols, unequal ones of sizes 1 to 96 and in version 2 alone
abbrev pub IsCut : ℕ → ℕ → Cut → Type 0
IsCut version names (equal symbols) = (2 ≤ length symbols) × (length symbols ≤ MOST_PARTS) × All (λ s. s < names) symbols
IsCut version names (unequal parts) =
    (version ≡ 2) × (2 ≤ length parts) × (length parts ≤ MOST_PARTS) × All (λ q. (1 ≤ q.0) × (q.0 ≤ MOST_UNEQUAL_UNITS) × (q.1 < names)) parts

-- a body cuts so, or ends so
abbrev pub IsBodyOf : ℕ → ℕ → Option Cut → Option Ending → Type 0
IsBodyOf version names (Some cut) ending = IsCut version names cut
IsBodyOf version names None (Some ending) = IsLeafEnding ending
IsBodyOf version names None None = ⊥

abbrev pub IsBody : ℕ → ℕ → Body → Type 0
IsBody version names body = IsBodyOf version names (cut_of body) (ending_of body)

-- the symbols, numbered from k on, appear in the order of their numbers: each next one is the next number, or was there before
abbrev pub AppearInOrder : ℕ → List ℕ → ℕ → Type 0
AppearInOrder k [] names = k ≡ names
AppearInOrder k (symbol ∷ symbols) names = (symbol ≤ k) × AppearInOrder (if symbol == k then k + 1 else k) symbols names

-- one root symbol for a signature
pub record IsStartOf (names : ℕ) (s : Start) : Type 0 where
  pub signature : IsSignature s.num s.den
  pub symbol : s.symbol < names

pub record IsReadable (g : Grammar) : Type 0 where
  pub version : (g.version ≡ 1) ⊎ (g.version ≡ 2)
  pub ranges : IsInRange g
  pub unequal_units : g.version ≡ 2 → g.resolution ≤ MOST_UNEQUAL_UNITS
  pub one_weight : g.version ≡ 1 → g.early ≡ g.late
  pub few_names : length g.names ≤ MOST_NAMES
  pub names_differ : AllPairs (λ x y. x ≢ y) g.names
  pub starts : All (IsStartOf (length g.names)) g.starts
  pub starts_differ : AllPairs (λ s t. s.num ≡ t.num → s.den ≡ t.den → ⊥) g.starts
  pub few_rules : length g.rules ≤ MOST_RULES
  pub bodies : All (λ r. IsBody g.version (length g.names) r.body) g.rules
  pub left_sides : AppearInOrder 0 (map (λ r. r.lhs) g.rules) (length g.names)
