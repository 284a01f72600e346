-- The entries of a row.
use Rattle.std.specs.Prelude.{◌≡◌, ℕ, ◌<◌, ◌==◌, All, List, [], ◌∷◌, length, position, slice_get, slice_index_or, Option, Some, None}
use Rattle.std.specs.declared.cmp.Ordering.TheVariants.{Less}
use Rattle.rhythm_base.specs.Bodies.{children}
use Rattle.rhythm_base.specs.Ranked.{Key}
use Rattle.rhythm_base.specs.declared.rule.Rule.{Rule}
use Rattle.tree_laws.specs.Forests.{Ground}
use Rattle.path_laws.specs.Rows.{lists_cmp}
use Rattle.row_laws.specs.Rows.{AreLeastRow}
use Rattle.row_laws.specs.Ways.{IsWayList}
use Rattle.row_laws.specs.RuleKeys.{IsCutRule}
use Rattle.grammar_plan.specs.Plans.{IsCutOf}
use Rattle.grammar_plan.specs.declared.cut.Cut.{Cut}
use Rattle.grammar_plan.specs.declared.plan.Plan.{Plan}
use Rattle.least_rows.specs.declared.entry.Entry.{Entry}
use Rattle.least_rows.specs.declared.write.Found.{Found}

-- how a rule list is made: a leaf's rule alone, or a cut's rule and the lists of the least trees of its parts along a way
abbrev pub IsListMade : Ground → Plan → ℕ → ℕ × ℕ → ℕ → (rule : ℕ) → Option ℕ → (way to : ℕ) → List ℕ → Type 0
IsListMade d plan p q a rule None way to list = list ≡ rule ∷ []
IsListMade d plan p q a rule (Some n) way to list =
    (c : Cut) × (body : Rule) × (xs : List ℕ) × (slice_get plan.cuts.items n ≡ Some c) × (c.rule ≡ rule) × IsCutOf d.book plan q c × IsCutRule d.book q c.rule body
    × IsWayList d p (children body.body q.0) a (length (children body.body q.0)) way to xs × (list ≡ rule ∷ xs)

-- an entry has the key for its number carried out
abbrev pub IsRowEntry : Ground → Plan → ℕ → ℕ × ℕ → ℕ → (ℕ → Option Key) → Entry → Type 0
IsRowEntry d plan p q a keys e = (e.to < 5) × (k : Key) × (keys e.to ≡ Some k) × (e.cost ≡ k.0) × IsListMade d plan p q a e.rule e.cut e.way e.to k.1

-- these are the least trees of the width and symbol from unit p on with a chords carried in, those that are there, in the order
-- of their rule lists
pub record IsRow (d : Ground) (plan : Plan) (p : ℕ) (q : ℕ × ℕ) (a : ℕ) (entries : List Entry) : Type 0 where
  pub keys : ℕ → Option Key
  pub least : AreLeastRow d p (q ∷ []) a keys
  pub each : All (IsRowEntry d plan p q a keys) entries
  pub all : (b : ℕ) (k : Key) → b < 5 → keys b ≡ Some k → (i : ℕ) × (e : Entry) × (slice_get entries i ≡ Some e) × (e.to ≡ b)
  pub rise : (i j : ℕ) (e f : Entry) → i < j → slice_get entries i ≡ Some e → slice_get entries j ≡ Some f → lists_cmp (keys e.to) (keys f.to) ≡ Less

-- the first entry of a row for a number carried out, and its place
abbrev pub IsFoundIn : List Entry → ℕ → Option Found → Type 0
IsFoundIn row to None = position (λ e. e.to == to) row ≡ None
IsFoundIn row to (Some x) = (position (λ e. e.to == to) row ≡ Some x.place) × (x.entry ≡ slice_index_or row x.place x.entry)
