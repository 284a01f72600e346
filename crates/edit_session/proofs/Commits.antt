-- What is prepared suits a session, and so what is exchanged for it.
use Rattle.std.proofs.Common.{◌≡◌, ℕ, ◌+◌, ◌-◌, ◌*◌, ◌≤◌, List, [], ◌∷◌, length, get_or, refl, sym, ap, ◌∙◌, subst, arith}
use Rattle.std.specs.Prelude.{All, IsSome, Option, Some, None}
use Rattle.std.proofs.lemmas.List.Elements.{All-nil}
use Rattle.chain_bars.proofs.Voices.{path_none}
use Rattle.chain_bars.specs.Laws.{matrices}
use Rattle.chain_bars.specs.Tower.{cost_of}
use Rattle.rhythm_base.specs.declared.limits.TheConstants.{MOST_CELLS, MOST_NOTES}
use Rattle.rhythm_base.specs.Grammar.{Grammar}
use Rattle.rhythm_base.specs.Leaves.{FitsVoice, soundings}
use Rattle.rhythm_base.specs.Least.{HasNone}
use Rattle.rhythm_base.specs.Lists.{Each}
use Rattle.rhythm_base.specs.Performance.{IsWellFormed, Performance}
use Rattle.rhythm_base.specs.Ranked.{Key, least_key}
use Rattle.rhythm_base.specs.Readable.{IsReadable}
use Rattle.rhythm_base.specs.Voices.{HasDerivation, HasStarts, IsDeadVoice, notes_of_voice, voice_bars}
use Rattle.tree_laws.proofs.CheapTables.{table_cheap}
use Rattle.rhythm_base.proofs.OrderedLists.{all_cons, all_head, all_tail}
use Rattle.performance_laws.proofs.PerformedVoices.{performed_voice}
use Rattle.performance_laws.proofs.OneChords.{one_chords}
use Rattle.derivation.proofs.Pairs.{each_length}
use Rattle.edit_session.specs.Exchange.{AreVoicesAfter, AreVoicesBefore, Change, HasPlace, IsChange, IsCheapTable, tables_below}
use Rattle.grammar_plan.specs.declared.plan.Plan.{Plan}
use Rattle.edit_session.specs.Kept.{AreTablesOfVoice, AreTablesOfVoices, IsKeptVoice, IsSession}
use Rattle.edit_session.specs.Opening.{cells_of}
use Rattle.edit_session.specs.Prepared.{CellTable, IsCellTable, Prepared, Suits}
use Rattle.edit_session.specs.Session.{Session}
use Rattle.edit_session.specs.VoiceTables.{HasPath, IsFirstDead, VoiceTables}
use Rattle.edit_session.proofs.Tables.{voice_long}
use Rattle.edit_session.proofs.Voices.{all_derivations, all_tables, dead_voice}

-- ---- paths from derivations

module _ (g : Grammar) (p : Performance) (readable : IsReadable g) (formed : IsWellFormed p) where
  path_of : (channel : ℕ) (voice : VoiceTables) → AreTablesOfVoice g p channel voice.tables → HasDerivation g p channel → HasPath voice
  path_of channel voice h (cs, ts, starts, are, fits) = at (least_key (matrices voice.tables) 0 0) refl
    where
      none : HasNone g (voice_bars g p channel) (soundings h.chords) → ⊥
      none not =
          let same = one_chords p.tempos p.division g.window (notes_of_voice p channel) cs h.chords are h.are_chords in
          not ts (subst (λ ds. FitsVoice g (voice_bars g p channel) (soundings ds) ts) same fits)

      at : (o : Option Key) → least_key (matrices voice.tables) 0 0 ≡ o → IsSome (cost_of o)
      at (Some k) e = refl
      at None e = absurd (none ((path_none g (voice_bars g p channel) (soundings h.chords) voice.tables (performed_voice g p channel h.chords formed h.are_chords readable.ranges.some_unit) h.each).0 e))

  pub paths_of : (channels : List ℕ) (voices : List VoiceTables) → Each (λ c v. AreTablesOfVoice g p c v.tables) channels voices → All (HasDerivation g p) channels → All HasPath voices
  paths_of [] voices h all = subst (All HasPath) (sym h) (All-nil HasPath)
  paths_of (c ∷ channels) [] h all = absurd h
  paths_of (c ∷ channels) (v ∷ voices) h all =
      all_cons HasPath v voices (path_of c v h.0 (all_head (HasDerivation g p) c channels all)) (paths_of channels voices h.1 (all_tail (HasDerivation g p) c channels all))

pub all_kept : (g : Grammar) (p : Performance) (room : ℕ) (channels : List ℕ) (voices : List VoiceTables) → Each (λ c v. AreTablesOfVoice g p c v.tables) channels voices
    → All HasPath voices → All (λ v. room ≤ v.room) voices → Each (IsKeptVoice g p room) channels voices
all_kept g p room [] voices h paths rooms = h
all_kept g p room (c ∷ channels) [] h paths rooms = absurd h
all_kept g p room (c ∷ channels) (v ∷ voices) h paths rooms = (
  record { tables = h.0; path = all_head HasPath v voices paths; memory = all_head (λ (v : VoiceTables). room ≤ v.room) v voices rooms },
  all_kept g p room channels voices h.1 (all_tail HasPath v voices paths) (all_tail (λ (v : VoiceTables). room ≤ v.room) v voices rooms),
)

pub all_rooms : (g : Grammar) (p : Performance) (room n : ℕ) (channels : List ℕ) (voices : List VoiceTables) → n ≤ room → Each (IsKeptVoice g p room) channels voices → All (λ v. n ≤ v.room) voices
all_rooms g p room n [] voices le h = subst (All (λ v. n ≤ v.room)) (sym h) (All-nil (λ (v : VoiceTables). n ≤ v.room))
all_rooms g p room n (c ∷ channels) [] le h = absurd h
all_rooms g p room n (c ∷ channels) (v ∷ voices) le h =
    all_cons (λ (v : VoiceTables). n ≤ v.room) v voices (omega (arith, le, h.0.memory)) (all_rooms g p room n channels voices le h.1)

-- ---- what the exchange asks for

pub all_cheap : (g : Grammar) (p : Performance) (tables : List CellTable) → All (IsCellTable g p) tables → All IsCheapTable tables
all_cheap g p tables h = λ k d lt. table_cheap g (get_or tables k d).table (h k d lt).is

pub all_long : (g : Grammar) (p : Performance) (channels : List ℕ) (voices : List VoiceTables) → Each (λ c v. AreTablesOfVoice g p c v.tables) channels voices
    → All (λ v. length v.tables ≡ length p.bars) voices
all_long g p [] voices h = subst (All (λ v. length v.tables ≡ length p.bars)) (sym h) (All-nil (λ (v : VoiceTables). length v.tables ≡ length p.bars))
all_long g p (c ∷ channels) [] h = absurd h
all_long g p (c ∷ channels) (v ∷ voices) h =
    all_cons (λ (v : VoiceTables). length v.tables ≡ length p.bars) v voices (voice_long g p c v.tables h.0) (all_long g p channels voices h.1)

pub has_place : (g : Grammar) (p : Performance) (voices : List VoiceTables) (bars : ℕ) (tables : List CellTable) (place : ℕ) → IsWellFormed p → AreTablesOfVoices g p voices
    → tables_below (length p.bars) tables + length p.channels * (length p.bars - bars) ≤ place → HasPlace voices bars tables place
has_place g p voices bars tables place formed h enough = record {
  count = length p.bars;
  few = formed.few_bars;
  each = all_long g p p.channels voices h;
  enough = subst (λ n. tables_below (length p.bars) tables + n * (length p.bars - bars) ≤ place) (each_length (λ c (v : VoiceTables). AreTablesOfVoice g p c v.tables) p.channels voices h) enough;
}

abbrev pub change : Grammar → Performance → Performance → Change
change g p q = record { grammar = g; before = p; after = q }

pub suited : (g : Grammar) (p : Performance) (x : Prepared) (voices : List VoiceTables) → IsWellFormed p → IsWellFormed x.next → AreTablesOfVoices g p voices → Suits g p x
    → AreVoicesBefore (change g p x.next) voices x.tables
suited g p x voices formed formed_after h s = record {
  is = record { formed = formed; formed_after = formed_after; channels = s.channels };
  tables = h;
  reached = s.reached;
  tables_coming = s.tables;
}

-- the way back
pub turned : (g : Grammar) (p q : Performance) (voices : List VoiceTables) (gone : List CellTable) (place : ℕ) → IsChange (change g p q) → AreVoicesAfter (change g p q) voices gone place
    → AreVoicesBefore (change g q p) voices gone
turned g p q voices gone place is h = record {
  is = record { formed = is.formed_after; formed_after = is.formed; channels = sym is.channels };
  tables = h.tables;
  reached = h.reached;
  tables_coming = h.tables_gone;
}

pub suits_back : (g : Grammar) (p q : Performance) (voices : List VoiceTables) (gone : List CellTable) (place : ℕ) → IsChange (change g p q) → AreVoicesAfter (change g p q) voices gone place
    → HasStarts g p.bars → cells_of p ≤ MOST_CELLS → length p.notes ≤ MOST_NOTES → Suits g q (record { next = p; tables = gone; place = place })
suits_back g p q voices gone place is h starts few_cells few_notes = record {
  channels = sym is.channels;
  starts = starts;
  few_cells = few_cells;
  few_notes = few_notes;
  reached = h.reached;
  tables = h.tables_gone;
  place = subst (λ (cs : List ℕ). tables_below (length q.bars) gone + length cs * (length q.bars - length p.bars) ≤ place) (sym is.channels) h.enough;
}

-- ---- before the exchange

-- it suits what the session keeps
pub suits_kept : (g : Grammar) (p : Performance) (workers room : ℕ) (s : Session) (x : Prepared) (next : Performance) (tables : List CellTable) (place : ℕ)
    → record { grammar = g; performance = p; workers = workers; room = room } ≡ s → next ≡ x.next → tables ≡ x.tables → place ≡ x.place → Suits s.grammar s.performance x
    → Suits g p (record { next = next; tables = tables; place = place })
suits_kept g p workers room s x next tables place view next_is tables_is place_is suiting =
    subst (λ (t : Session). Suits t.grammar t.performance (record { next = next; tables = tables; place = place })) (sym view)
    (subst (Suits s.grammar s.performance) (λ i. record { next = sym next_is i; tables = sym tables_is i; place = sym place_is i }) suiting)

-- there is place for what goes out
pub place_for_next : {plan : Plan} (g : Grammar) (p : Performance) (workers room : ℕ) (voices slice : List VoiceTables) (x : Prepared) (bars : ℕ)
    → IsSession g plan p workers voices room → Suits g p x → slice ≡ voices
    → bars ≡ length x.next.bars → HasPlace slice bars x.tables x.place
place_for_next g p workers room voices slice x bars session suits slice_is bars_is =
    subst (λ vs. HasPlace vs bars x.tables x.place) (sym slice_is)
    (subst (λ n. HasPlace voices n x.tables x.place) (sym bars_is)
    (has_place g p voices (length x.next.bars) x.tables x.place session.formed (all_tables g p room p.channels voices session.each) suits.place))

-- ---- after the exchange

-- what is known of the voices after the exchange of a session's voices for what suits it
pub record IsExchanged (g : Grammar) (p q : Performance) (room : ℕ) (voices now : List VoiceTables) (gone : List CellTable) (place : ℕ) : Type 0 where
  pub is : IsChange (change g p q)
  pub starts : HasStarts g q.bars
  pub few_cells : cells_of q ≤ MOST_CELLS
  pub few_notes : length q.notes ≤ MOST_NOTES
  pub after : AreVoicesAfter (change g p q) now gone place
  pub long : length now ≡ length voices
  pub number : length now ≡ length q.channels
  pub rooms : (n : ℕ) → n ≤ room → All (λ v. n ≤ v.room) now

pub exchanged_for : {plan : Plan} (g : Grammar) (p : Performance) (workers room : ℕ) (voices : List VoiceTables) (s : Session) (x : Prepared) (next : Performance) (tables : List CellTable) (place : ℕ)
    → IsSession g plan p workers voices room → record { grammar = g; performance = p; workers = workers; room = room } ≡ s → next ≡ x.next → tables ≡ x.tables → place ≡ x.place → Suits s.grammar s.performance x → IsWellFormed next
    → (slice now : List VoiceTables) (channels : List ℕ) (bars : ℕ) (gone : List CellTable) (capacity : ℕ) → slice ≡ voices → channels ≡ next.channels → bars ≡ length next.bars
    → ((y : Change) → AreVoicesBefore y slice tables → channels ≡ y.before.channels → bars ≡ length y.after.bars → AreVoicesAfter y now gone capacity)
    → length now ≡ length slice → ((n : ℕ) → All (λ v. n ≤ v.room) slice → All (λ v. n ≤ v.room) now)
    → IsExchanged g p next room voices now gone capacity
exchanged_for g p workers room voices s x next tables place session view next_is tables_is place_is suiting formed slice now channels bars gone capacity slice_is channels_is bars_is exchange same rooms =
    let is : IsChange (change g p next) = record { formed = session.formed; formed_after = formed; channels = suits.channels } in
    let kept = all_tables g p room p.channels voices session.each in
    let before = subst (λ vs. AreVoicesBefore (change g p next) vs tables) (sym slice_is) (suited g p (record { next = next; tables = tables; place = place }) voices session.formed formed kept suits) in
    let long : length now ≡ length voices = same ∙ ap length slice_is in
    record {
      is = is;
      starts = suits.starts;
      few_cells = suits.few_cells;
      few_notes = suits.few_notes;
      after = exchange (change g p next) before (channels_is ∙ suits.channels) bars_is;
      long = long;
      number = long ∙ sym (each_length (IsKeptVoice g p room) p.channels voices session.each) ∙ sym (ap length suits.channels);
      rooms = λ n le. rooms n (subst (All (λ v. n ≤ v.room)) (sym slice_is) (all_rooms g p room n p.channels voices le session.each));
    }
  where
    suits : Suits g p (record { next = next; tables = tables; place = place })
    suits = suits_kept g p workers room s x next tables place view next_is tables_is place_is suiting

module _ {plan : Plan} (g : Grammar) (p q : Performance) (workers room : ℕ) (voices now : List VoiceTables) (gone : List CellTable) (place : ℕ)
    (session : IsSession g plan p workers voices room)
    (h : IsExchanged g p q room voices now gone place) where
  -- what the way back asks for
  pub place_back : HasPlace now (length p.bars) gone place
  place_back =
      has_place g q now (length p.bars) gone place h.is.formed_after h.after.tables
      (subst (λ (cs : List ℕ). tables_below (length q.bars) gone + length cs * (length q.bars - length p.bars) ≤ place) (sym h.is.channels) h.after.enough)

  -- where no path leads over the tables of a voice, it is the dead voice
  pub dead_after : (k bar d : ℕ) → IsFirstDead now k bar → IsDeadVoice g q (get_or q.channels k d) bar
  dead_after k bar d dead = dead_voice g q session.readable h.is.formed_after h.starts now k bar d h.after.tables dead

  -- the session after the way back
  pub session_back : (slice back : List VoiceTables) (channels : List ℕ) (bars : ℕ) (out : List CellTable) (capacity : ℕ) → slice ≡ now → channels ≡ q.channels → bars ≡ length p.bars
      → ((y : Change) → AreVoicesBefore y slice gone → channels ≡ y.before.channels → bars ≡ length y.after.bars → AreVoicesAfter y back out capacity)
      → ((n : ℕ) → All (λ v. n ≤ v.room) slice → All (λ v. n ≤ v.room) back) → IsSession g plan p workers back room
  session_back slice back channels bars out capacity slice_is channels_is bars_is exchange rooms =
      let before = subst (λ vs. AreVoicesBefore (change g q p) vs gone) (sym slice_is) (turned g p q now gone place h.is h.after) in
      let after = exchange (change g q p) before channels_is bars_is in
      let derivations = all_derivations g p session.readable session.formed session.starts room p.channels voices session.each in
      let paths = paths_of g p session.readable session.formed p.channels back after.tables derivations in
      let memory = rooms room (subst (All (λ v. room ≤ v.room)) (sym slice_is) (h.rooms room (omega arith))) in
      record {
        readable = session.readable;
        planned = session.planned;
        formed = session.formed;
        few_notes = session.few_notes;
        few_cells = session.few_cells;
        starts = session.starts;
        some_worker = session.some_worker;
        few_workers = session.few_workers;
        each = all_kept g p room p.channels back after.tables paths memory;
        memory = session.memory;
      }

  -- the session where a path leads over the tables of each voice
  pub session_next : length q.bars ≤ room → All HasPath now → IsSession g plan q workers now room
  session_next few paths = record {
    readable = session.readable;
    planned = session.planned;
    formed = h.is.formed_after;
    few_notes = h.few_notes;
    few_cells = h.few_cells;
    starts = h.starts;
    some_worker = session.some_worker;
    few_workers = session.few_workers;
    each = all_kept g q room q.channels now h.after.tables paths (h.rooms room (omega arith));
    memory = few;
  }

  pub suits_next : Suits g q (record { next = p; tables = gone; place = place })
  suits_next = suits_back g p q now gone place h.is h.after session.starts session.few_cells session.few_notes
