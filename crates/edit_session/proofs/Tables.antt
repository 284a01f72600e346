-- From the inputs of all cells to the tables of each voice.
use Rattle.std.proofs.Common.{◌≡◌, ℕ, ◌*◌, List, [], ◌∷◌, length, map, refl, sym, ap, ◌∙◌, subst, arith}
use Rattle.std.specs.Prelude.{All}
use Rattle.std.specs.List.{flat_map}
use Rattle.std.proofs.lemmas.List.{length-append, length-map}
use Rattle.std.proofs.lemmas.List.Elements.{All-append, All-nil, All-map}
use Rattle.bar_pool.specs.Pool.{IsTableOf, AreTablesOf}
use Rattle.chain_bars.specs.Laws.{AreTables, matrices}
use Rattle.chain_bars.proofs.Voices.{tables_long}
use Rattle.rhythm_base.specs.declared.inner.Inner.{Inner}
use Rattle.rhythm_base.specs.declared.limits.TheConstants.{DEAREST_CELL}
use Rattle.rhythm_base.specs.BarInput.{BarInput}
use Rattle.rhythm_base.specs.BarTables.{BarTable}
use Rattle.rhythm_base.specs.Cells.{input}
use Rattle.rhythm_base.specs.Grammar.{Grammar}
use Rattle.rhythm_base.specs.Leaves.{VoiceBar, soundings}
use Rattle.rhythm_base.specs.Lists.{Each}
use Rattle.rhythm_base.specs.Paths.{AreCheap}
use Rattle.rhythm_base.specs.Performance.{Performance}
use Rattle.rhythm_base.specs.Voices.{voice_bars}
use Rattle.derivation.proofs.OneScore.{bars_length}
use Rattle.derivation.proofs.Pairs.{each_length}
use Rattle.tree_laws.proofs.CheapTables.{table_cheap}
use Rattle.rhythm_base.proofs.OrderedLists.{all_head, all_tail}
use Rattle.edit_session.specs.Inputs.{AreCellTables, AreInputsOf, AreInputsOfVoice}
use Rattle.edit_session.specs.Kept.{AreTablesOfVoice}
use Rattle.edit_session.specs.VoiceTables.{HasTables, VoiceTables}
use Rattle.edit_session.proofs.EachRuns.{Each-runs, Each-through, parts_are_one}

-- ---- how many there are

inputs_long : (g : Grammar) (p : Performance) (channel : ℕ) (own : List BarInput) → AreInputsOfVoice g p channel own → length own ≡ length p.bars
inputs_long g p channel own h =
    ap length h.are ∙ length-map (voice_bars g p channel) (λ bar. input g bar (soundings h.chords)) ∙ bars_length g p.pins channel p.last 0 p.bars

all_long : (g : Grammar) (p : Performance) (channels : List ℕ) (voices : List (List BarInput)) → Each (AreInputsOfVoice g p) channels voices
    → length (flat_map (λ (own : List BarInput). own) voices) ≡ length channels * length p.bars
all_long g p [] voices h =
    let none : length (flat_map (λ (own : List BarInput). own) voices) ≡ 0 = ap (λ vs. length (flat_map (λ (own : List BarInput). own) vs)) h in
    omega (arith, none)
all_long g p (c ∷ channels) [] h = absurd h
all_long g p (c ∷ channels) (own ∷ voices) h =
    let long = length-append own (flat_map (λ (own : List BarInput). own) voices) in
    omega (arith, long, inputs_long g p c own h.0, all_long g p channels voices h.1)

pub cells_long : (g : Grammar) (p : Performance) (inputs : List BarInput) → AreInputsOf g p p.channels inputs → length inputs ≡ length p.channels * length p.bars
cells_long g p inputs h = ap length h.are ∙ all_long g p p.channels h.voices h.each

pub tables_count : (g : Grammar) (p : Performance) (inputs : List BarInput) (tables : List BarTable) → AreInputsOf g p p.channels inputs → AreTablesOf g inputs tables
    → length tables ≡ length p.channels * length p.bars
tables_count g p inputs tables h of = sym (each_length (IsTableOf g) inputs tables of) ∙ cells_long g p inputs h

pub voice_long : (g : Grammar) (p : Performance) (channel : ℕ) (tables : List BarTable) → AreTablesOfVoice g p channel tables → length tables ≡ length p.bars
voice_long g p channel tables h =
    sym (length-map tables (λ (x : BarTable). x.matrix)) ∙ tables_long g (soundings h.chords) (voice_bars g p channel) tables h.each ∙ bars_length g p.pins channel p.last 0 p.bars

-- ---- what `build_cells` asks

abbrev HasUnits : Grammar → BarInput → Type 0
HasUnits g k = k.resolution ≡ g.resolution

inputs_units : (g : Grammar) (p : Performance) (channel : ℕ) (own : List BarInput) → AreInputsOfVoice g p channel own → All (HasUnits g) own
inputs_units g p channel own h =
    subst (All (HasUnits g)) (sym h.are) (All-map (HasUnits g) (λ bar. input g bar (soundings h.chords)) (voice_bars g p channel) (λ k d lt. refl))

all_units : (g : Grammar) (p : Performance) (channels : List ℕ) (voices : List (List BarInput)) → Each (AreInputsOfVoice g p) channels voices → All (HasUnits g) (flat_map (λ (own : List BarInput). own) voices)
all_units g p [] voices h = subst (λ vs. All (HasUnits g) (flat_map (λ (own : List BarInput). own) vs)) (sym h) (All-nil (HasUnits g))
all_units g p (c ∷ channels) [] h = absurd h
all_units g p (c ∷ channels) (own ∷ voices) h =
    All-append (HasUnits g) own (flat_map (λ (own : List BarInput). own) voices) (inputs_units g p c own h.0) (all_units g p channels voices h.1)

pub cells_units : (g : Grammar) (p : Performance) (inputs : List BarInput) → AreInputsOf g p p.channels inputs → All (λ k. k.resolution ≡ g.resolution) inputs
cells_units g p inputs h = subst (All (HasUnits g)) (sym h.are) (all_units g p p.channels h.voices h.each)

-- ---- the tables

pub tables_cheap : (g : Grammar) (inputs : List BarInput) (tables : List BarTable) → AreTablesOf g inputs tables → AreCheap DEAREST_CELL (matrices tables)
tables_cheap g [] tables h = subst (λ ts. AreCheap DEAREST_CELL (matrices ts)) (sym h) tt
tables_cheap g (k ∷ inputs) [] h = absurd h
tables_cheap g (k ∷ inputs) (x ∷ tables) h = (table_cheap g x h.0.is, tables_cheap g inputs tables h.1)

cells_tables : (g : Grammar) (cs : List Inner) (bars : List VoiceBar) (tables : List BarTable) → AreTablesOf g (map (λ bar. input g bar cs) bars) tables → AreTables g cs bars tables
cells_tables g cs [] [] h = tt
cells_tables g cs [] (x ∷ tables) h = absurd (cc)
cells_tables g cs (bar ∷ bars) [] h = absurd h
cells_tables g cs (bar ∷ bars) (x ∷ tables) h = (h.0.is, h.0.of_input, cells_tables g cs bars tables h.1)

voice_tables : (g : Grammar) (p : Performance) (channel : ℕ) (own : List BarInput) (tables : List BarTable) → AreInputsOfVoice g p channel own → AreTablesOf g own tables → AreTablesOfVoice g p channel tables
voice_tables g p channel own tables h of = record {
  chords = h.chords;
  are_chords = h.are_chords;
  each = cells_tables g (soundings h.chords) (voice_bars g p channel) tables (subst (λ ks. AreTablesOf g ks tables) h.are of);
}

-- ---- the tables in runs of a bar count are those of the voices

runs_tables : (g : Grammar) (p : Performance) (channels : List ℕ) (runs : List (List BarTable)) (voices : List VoiceTables) → Each (AreTablesOfVoice g p) channels runs
    → length voices ≡ length channels → All (HasTables (length p.bars)) voices
    → flat_map (λ (v : VoiceTables). v.tables) voices ≡ flat_map (λ (us : List BarTable). us) runs → Each (λ c v. AreTablesOfVoice g p c v.tables) channels voices
runs_tables g p [] runs [] h long has same = refl
runs_tables g p [] runs (v ∷ voices) h long has same = absurd (omega (arith, long))
runs_tables g p (c ∷ channels) [] voices h long has same = absurd h
runs_tables g p (c ∷ channels) (own ∷ runs) [] h long has same = absurd (omega (arith, long))
runs_tables g p (c ∷ channels) (own ∷ runs) (v ∷ voices) h long has same =
    let here = all_head (HasTables (length p.bars)) v voices has in
    let parts = parts_are_one v.tables own (flat_map (λ (v : VoiceTables). v.tables) voices) (flat_map (λ (us : List BarTable). us) runs) (here.each ∙ sym (voice_long g p c own h.0)) same in (
      subst (AreTablesOfVoice g p c) (sym parts.0) h.0,
      runs_tables g p channels runs voices h.1 (omega (arith, long)) (all_tail (HasTables (length p.bars)) v voices has) parts.1,
    )

pub voices_tables : (g : Grammar) (p : Performance) (inputs : List BarInput) (tables : List BarTable) (voices : List VoiceTables) → AreInputsOf g p p.channels inputs → AreTablesOf g inputs tables
    → length voices ≡ length p.channels → All (HasTables (length p.bars)) voices → flat_map (λ (v : VoiceTables). v.tables) voices ≡ tables
    → Each (λ c v. AreTablesOfVoice g p c v.tables) p.channels voices
voices_tables g p inputs tables voices h of long has same =
    let cut = Each-runs (IsTableOf g) h.voices tables (subst (λ ks. AreTablesOf g ks tables) h.are of) in
    let runs = Each-through (AreInputsOfVoice g p) (AreTablesOf g) (AreTablesOfVoice g p) (voice_tables g p) p.channels h.voices cut.0 h.each cut.1 in
    runs_tables g p p.channels cut.0 voices runs long has (same ∙ cut.2)

pub opened : (g : Grammar) (p : Performance) (tables : List BarTable) (voices : List VoiceTables) (count bars : ℕ) → AreCellTables g p tables → count ≡ length p.channels → bars ≡ length p.bars
    → length voices ≡ count → All (HasTables bars) voices → flat_map (λ (v : VoiceTables). v.tables) voices ≡ tables
    → Each (λ c v. AreTablesOfVoice g p c v.tables) p.channels voices
opened g p tables voices count bars h channels size long has same =
    voices_tables g p h.inputs tables voices h.are_inputs h.are (long ∙ channels) (subst (λ n. All (HasTables n) voices) size has) same
