-- A voice has a least derivation or none, and where it has none, a dead bar: by the tables of its bars.
use Rattle.std.proofs.Common.{◌≡◌, ℕ, ◌⊎◌, inl, inr, List, [], ◌∷◌, refl}
use Rattle.std.specs.Prelude.{All, Option, Some, None}
use Rattle.rhythm_base.specs.BarTables.{BarTable}
use Rattle.rhythm_base.specs.Cells.{input}
use Rattle.rhythm_base.specs.DeadBars.{IsDead}
use Rattle.rhythm_base.specs.Forest.{Tree}
use Rattle.rhythm_base.specs.Grammar.{Grammar}
use Rattle.rhythm_base.specs.Least.{HasNone, IsLeast}
use Rattle.rhythm_base.specs.Leaves.{VoiceBar}
use Rattle.rhythm_base.specs.Ranked.{Key, least_key}
use Rattle.rhythm_base.specs.declared.inner.Inner.{Inner}
use Rattle.rhythm_base.proofs.OrderedLists.{all_head, all_tail}
use Rattle.row_laws.specs.Grounds.{IsReady}
use Rattle.tree_laws.specs.Voices.{IsVoice}
use Rattle.chain_bars.specs.Laws.{AreTables, matrices}
use Rattle.chain_bars.proofs.Voices.{dead_bar, key_derivation, path_none}
use Rattle.table_laws.proofs.SomeDead.{some_dead}
use Rattle.least_cost.proofs.Tables.{some_table}

-- each bar has a table
some_tables : (g : Grammar) (cs : List Inner) (bars : List VoiceBar) → All (λ bar. IsReady g (input g bar cs)) bars → (tables : List BarTable) × AreTables g cs bars tables
some_tables g cs [] ready = ([], tt)
some_tables g cs (bar ∷ bars) ready =
    let one = some_table g (input g bar cs) (all_head (λ bar. IsReady g (input g bar cs)) bar bars ready) in
    let rest = some_tables g cs bars (all_tail (λ bar. IsReady g (input g bar cs)) bar bars ready) in
    (one.0 ∷ rest.0, (one.1, one.2, rest.1))

module _ (g : Grammar) (bars : List VoiceBar) (cs : List Inner) (voice : IsVoice g bars cs) where
  by_least_key : (tables : List BarTable) → AreTables g cs bars tables → (o : Option Key) → least_key (matrices tables) 0 0 ≡ o → ((ts : List Tree) × IsLeast g bars cs ts) ⊎ HasNone g bars cs
  by_least_key tables are None e = inr ((path_none g bars cs tables voice are).0 e)
  by_least_key tables are (Some k) e = let found = key_derivation g bars cs tables k voice are e in inl (found.0, found.1)

  pub some_derivation : All (λ bar. IsReady g (input g bar cs)) bars → ((ts : List Tree) × IsLeast g bars cs ts) ⊎ HasNone g bars cs
  some_derivation ready = let tables = some_tables g cs bars ready in by_least_key tables.0 tables.1 (least_key (matrices tables.0) 0 0) refl

  pub some_dead_bar : All (λ bar. IsReady g (input g bar cs)) bars → HasNone g bars cs → (i : ℕ) × IsDead g bars cs i
  some_dead_bar ready none =
      let tables = some_tables g cs bars ready in
      let dead = some_dead (matrices tables.0) ((path_none g bars cs tables.0 voice tables.1).1 none) in
      (dead.0, (dead_bar g bars cs tables.0 dead.0 voice tables.1).0 dead.1)
