-- The tables that stand in the voices of a session are tables of its grammar.
use Rattle.std.proofs.Common.{◌≡◌, ℕ, List, [], ◌∷◌, length, map, sym, subst, ◌∙◌, Bor, Vec, Global, Some}
use Rattle.std.specs.Prelude.{All, IfSome, Option}
use Rattle.std.proofs.lemmas.List.{length-map}
use Rattle.std.proofs.lemmas.List.Elements.{All-nil}
use Rattle.bar_pool.specs.Pool.{AreTablesOf, IsTableOf}
use Rattle.rhythm_base.proofs.OrderedLists.{all_cons}
use Rattle.rhythm_base.specs.BarInput.{BarInput}
use Rattle.rhythm_base.specs.BarTables.{BarTable}
use Rattle.rhythm_base.specs.Grammar.{Grammar}
use Rattle.rhythm_base.specs.Lists.{Each}
use Rattle.rhythm_base.specs.Performance.{Performance}
use Rattle.edit_session.specs.Kept.{IsKeptVoice}
use Rattle.edit_session.specs.Standing.{StandBy}
use Rattle.edit_session.specs.VoiceTables.{VoiceTables}
use Rattle.edit_session.proofs.EachRuns.{Each-length}
use Rattle.edit_session.proofs.LeastSounds.{tables_in}

abbrev pub now_of : Bor BarTable → BarTable
now_of t = t.now

module _ (g : Grammar) (p : Performance) (room : ℕ) where
  stand_by : (channels : List ℕ) (voices : List VoiceTables) → Each (IsKeptVoice g p room) channels voices → All (StandBy g) voices
  stand_by [] voices h = subst (All (StandBy g)) (sym h) (All-nil (StandBy g))
  stand_by (c ∷ channels) [] h = absurd h
  stand_by (c ∷ channels) (v ∷ voices) h =
      all_cons (StandBy g) v voices (λ k d lt. (tables_in g p c v.tables h.0.tables k d lt).is) (stand_by channels voices h.1)

  -- those that are found are the tables of the inputs
  pub found_tables : (voices slice : List VoiceTables) → Each (IsKeptVoice g p room) p.channels voices → slice ≡ voices
      → (inputs : List BarInput) (o : Option (Vec (Bor BarTable) Global)) (found : Vec (Bor BarTable) Global) → o ≡ Some found
      → ((h : Grammar) → All (StandBy h) slice → IfSome o (λ v. AreTablesOf h inputs (map now_of v.items))) → AreTablesOf g inputs (map now_of found.items)
  found_tables voices slice each same inputs o found is told =
      subst (λ (q : Option (Vec (Bor BarTable) Global)). IfSome q (λ v. AreTablesOf g inputs (map now_of v.items))) is
      (told g (subst (All (StandBy g)) (sym same) (stand_by p.channels voices each)))

pub found_long : (g : Grammar) (inputs : List BarInput) (found : List (Bor BarTable)) → AreTablesOf g inputs (map now_of found) → length found ≡ length inputs
found_long g inputs found h = sym (length-map found now_of) ∙ sym (Each-length (IsTableOf g) inputs (map now_of found) h)
