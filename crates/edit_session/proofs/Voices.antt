-- Paths over the tables of the voices of a performance, and derivations of the voices.
use Rattle.std.proofs.Common.{◌≡◌, ℕ, ◌<◌, List, [], ◌∷◌, length, get_or, take, refl, sym, ap, subst, arith}
use Rattle.std.specs.Prelude.{All, Option, Some, None, IsSome, sum_by, unwrap_or}
use Rattle.std.proofs.lemmas.List.{get_or-take, length-take-le}
use Rattle.std.proofs.lemmas.List.Elements.{All-nil, Contains-get_or}
use Rattle.std.proofs.lemmas.List.Sums.{sum_by-cons}
use Rattle.std.proofs.lemmas.Option.{slice_get_within, get_or_from_slice_get}
use Rattle.chain_bars.proofs.Voices.{dead_bar, key_derivation}
use Rattle.chain_bars.specs.Laws.{matrices}
use Rattle.chain_bars.specs.Tower.{cost_of}
use Rattle.rhythm_base.specs.BarTables.{BarTable}
use Rattle.rhythm_base.specs.Grammar.{Grammar}
use Rattle.rhythm_base.specs.Leaves.{soundings}
use Rattle.rhythm_base.specs.Lists.{Each}
use Rattle.rhythm_base.specs.Performance.{IsWellFormed, Performance}
use Rattle.rhythm_base.specs.Ranked.{Key, least_key}
use Rattle.rhythm_base.specs.Readable.{IsReadable}
use Rattle.rhythm_base.specs.Voices.{HasDerivation, HasStarts, IsDeadVoice, IsLeastCost, IsSumOfCosts, voice_bars}
use Rattle.rhythm_base.proofs.OrderedLists.{all_cons, all_head, all_tail}
use Rattle.performance_laws.proofs.PerformedVoices.{performed_voice}
use Rattle.tree_laws.specs.Voices.{IsVoice}
use Rattle.derivation.proofs.Pairs.{each_length}
use Rattle.edit_session.specs.Kept.{AreTablesOfVoice, IsKeptVoice}
use Rattle.edit_session.specs.VoiceTables.{HasPath, HasTables, IsFirstDead, VoiceTables, voice_cost}
use Rattle.edit_session.proofs.Channels.{place_before}
use Rattle.edit_session.proofs.EachRuns.{Each-at}

-- ---- one voice

-- what a path over the tables gives: the least derivation, which costs the same
pub record IsLeastVoice (g : Grammar) (p : Performance) (channel sum : ℕ) : Type 0 where
  pub derivation : HasDerivation g p channel
  pub least : IsLeastCost g p channel sum

module _ (g : Grammar) (p : Performance) (readable : IsReadable g) (formed : IsWellFormed p) (starts : HasStarts g p.bars) where
  voice_is : (channel : ℕ) (tables : List BarTable) (h : AreTablesOfVoice g p channel tables) → IsVoice g (voice_bars g p channel) (soundings h.chords)
  voice_is channel tables h = performed_voice g p channel h.chords formed h.are_chords readable.ranges.some_unit

  from_key : (channel : ℕ) (tables : List BarTable) (h : AreTablesOfVoice g p channel tables) (o : Option Key) → least_key (matrices tables) 0 0 ≡ o → IsSome (cost_of o)
      → IsLeastVoice g p channel (unwrap_or (cost_of o) 0)
  from_key channel tables h None e some = absurd (cc)
  from_key channel tables h (Some k) e some =
      let found = key_derivation g (voice_bars g p channel) (soundings h.chords) tables k (voice_is channel tables h) h.each e in
      record {
        derivation = (h.chords, found.0, starts, h.are_chords, found.1.fits);
        least = record { starts = starts; chords = h.chords; are_chords = h.are_chords; trees = found.0; least = found.1; is = sym found.2 };
      }

  pub path_voice : (channel : ℕ) (voice : VoiceTables) → AreTablesOfVoice g p channel voice.tables → HasPath voice → IsLeastVoice g p channel (voice_cost voice)
  path_voice channel voice h path = from_key channel voice.tables h (least_key (matrices voice.tables) 0 0) refl path

  -- ---- all voices

  pub all_derivations : (room : ℕ) (channels : List ℕ) (voices : List VoiceTables) → Each (IsKeptVoice g p room) channels voices → All (HasDerivation g p) channels
  all_derivations room channels voices h k d lt =
      let voice : VoiceTables = get_or voices k none in
      let kept = Each-at (IsKeptVoice g p room) channels voices k d none lt h in
      (path_voice (get_or channels k d) voice kept.tables kept.path).derivation
    where
      none : VoiceTables
      none = record { tables = []; room = 0 }

  pub all_costs : (room : ℕ) (channels : List ℕ) (voices : List VoiceTables) → Each (IsKeptVoice g p room) channels voices → IsSumOfCosts g p channels (sum_by voice_cost voices)
  all_costs room [] voices h = ap (sum_by voice_cost) h
  all_costs room (c ∷ channels) [] h = absurd h
  all_costs room (c ∷ channels) (v ∷ voices) h =
      (voice_cost v, sum_by voice_cost voices, (path_voice c v h.0.tables h.0.path).least, all_costs room channels voices h.1, sum_by-cons voice_cost v voices)

  -- the first voice without a path is the dead voice
  pub dead_voice : (voices : List VoiceTables) (k bar d : ℕ) → Each (λ c v. AreTablesOfVoice g p c v.tables) p.channels voices → IsFirstDead voices k bar → IsDeadVoice g p (get_or p.channels k d) bar
  dead_voice voices k bar d h dead =
      let lt : k < length voices = slice_get_within voices k dead.it dead.there in
      let long : length p.channels ≡ length voices = each_length (λ c (v : VoiceTables). AreTablesOfVoice g p c v.tables) p.channels voices h in
      let here : AreTablesOfVoice g p (get_or p.channels k d) dead.it.tables =
      subst (λ (v : VoiceTables). AreTablesOfVoice g p (get_or p.channels k d) v.tables) (get_or_from_slice_get voices k dead.it dead.it dead.there)
      (Each-at (λ c (v : VoiceTables). AreTablesOfVoice g p c v.tables) p.channels voices k d dead.it (omega (arith, lt, long)) h) in
      record {
        starts = starts;
        voice = Contains-get_or p.channels k d (omega (arith, lt, long));
        chords = here.chords;
        are_chords = here.are_chords;
        dead = (dead_bar g (voice_bars g p (get_or p.channels k d)) (soundings here.chords) dead.it.tables bar (voice_is (get_or p.channels k d) dead.it.tables here) here.each).0 dead.dead;
        first = λ c at low. before c at.0 at.1 at.2 (omega (arith, lt, long)) low;
      }
    where
      before : (c j : ℕ) → j < length p.channels → get_or p.channels j c ≡ c → k < length p.channels → c < get_or p.channels k d → HasDerivation g p c
      before c j lj at lk low =
          let early : j < k = place_before p.channels j k c d formed.voices_rise lj lk (omega (arith, at, low)) in
          let long : length p.channels ≡ length voices = each_length (λ c (v : VoiceTables). AreTablesOfVoice g p c v.tables) p.channels voices h in
          let voice : VoiceTables = get_or voices j dead.it in
          let tables = Each-at (λ c (v : VoiceTables). AreTablesOfVoice g p c v.tables) p.channels voices j c dead.it lj h in
          let front : length (take k voices) ≡ k = length-take-le k voices (omega (arith, lk, long)) in
          let path : HasPath voice = subst HasPath (get_or-take k voices j dead.it early) (dead.first j dead.it (omega (arith, front, early))) in
          subst (HasDerivation g p) at (path_voice (get_or p.channels j c) voice tables path).derivation

-- tables over which paths lead are kept
pub are_kept : (g : Grammar) (p : Performance) (room : ℕ) (channels : List ℕ) (voices : List VoiceTables) → Each (λ c v. AreTablesOfVoice g p c v.tables) channels voices
    → All HasPath voices → All (HasTables room) voices → Each (IsKeptVoice g p room) channels voices
are_kept g p room [] voices h paths has = h
are_kept g p room (c ∷ channels) [] h paths has = absurd h
are_kept g p room (c ∷ channels) (v ∷ voices) h paths has = (
  record { tables = h.0; path = all_head HasPath v voices paths; memory = (all_head (HasTables room) v voices has).memory },
  are_kept g p room channels voices h.1 (all_tail HasPath v voices paths) (all_tail (HasTables room) v voices has),
)

pub all_paths : (g : Grammar) (p : Performance) (room : ℕ) (channels : List ℕ) (voices : List VoiceTables) → Each (IsKeptVoice g p room) channels voices → All HasPath voices
all_paths g p room [] voices h = subst (All HasPath) (sym h) (All-nil HasPath)
all_paths g p room (c ∷ channels) [] h = absurd h
all_paths g p room (c ∷ channels) (v ∷ voices) h = all_cons HasPath v voices h.0.path (all_paths g p room channels voices h.1)

pub all_tables : (g : Grammar) (p : Performance) (room : ℕ) (channels : List ℕ) (voices : List VoiceTables) → Each (IsKeptVoice g p room) channels voices → Each (λ c v. AreTablesOfVoice g p c v.tables) channels voices
all_tables g p room [] voices h = h
all_tables g p room (c ∷ channels) [] h = absurd h
all_tables g p room (c ∷ channels) (v ∷ voices) h = (h.0.tables, all_tables g p room channels voices h.1)
