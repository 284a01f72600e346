-- A path over the tables of so many bars costs at most so many times what the dearest cell costs.
use Rattle.std.proofs.Common.{◌≡◌, ℕ, ◌*◌, ◌^◌, ◌<◌, ◌≤◌, List, [], ◌∷◌, length, refl, sym, ap, ◌∙◌, subst, arith}
use Rattle.std.specs.Prelude.{Option, Some, None, sum_by, unwrap_or}
use Rattle.std.proofs.Math.Nat.{mul-le-mul_right, mul_assoc}
use Rattle.std.proofs.lemmas.List.{length-map}
use Rattle.std.proofs.lemmas.List.Sums.{sum_by-cons}
use Rattle.chain_bars.proofs.Descents.{key_parts}
use Rattle.chain_bars.specs.Laws.{AreTables, matrices}
use Rattle.chain_bars.specs.Tower.{cost_of}
use Rattle.rhythm_base.specs.declared.inner.Inner.{Inner}
use Rattle.rhythm_base.specs.declared.limits.TheConstants.{DEAREST_CELL, MOST_CELLS}
use Rattle.rhythm_base.specs.BarTables.{BarTable}
use Rattle.rhythm_base.specs.Grammar.{Grammar}
use Rattle.rhythm_base.specs.Leaves.{VoiceBar, soundings}
use Rattle.rhythm_base.specs.Lists.{Each}
use Rattle.rhythm_base.specs.Paths.{AreCheap, IsPathKey, path_key}
use Rattle.rhythm_base.specs.Performance.{Performance}
use Rattle.rhythm_base.specs.Ranked.{CarryMatrix, Key, at, least_key, one}
use Rattle.rhythm_base.specs.Voices.{voice_bars}
use Rattle.tree_laws.proofs.CheapTables.{table_cheap}
use Rattle.path_laws.proofs.PathTables.{joined_parts, keys-least_path}
use Rattle.path_laws.specs.Tables.{IsLeastKey}
use Rattle.edit_session.specs.Kept.{AreTablesOfVoice, IsKeptVoice}
use Rattle.edit_session.specs.Opening.{cells_of}
use Rattle.edit_session.specs.VoiceTables.{VoiceTables, voice_cost}
use Rattle.edit_session.proofs.Tables.{voice_long}

path_cheap : (c : ℕ) (es : List CarryMatrix) (a : ℕ) (p : List ℕ) (k : Key) → AreCheap c es → path_key es a p ≡ Some k → k.0 ≤ length es * c
path_cheap c [] a [] k h e = let same : (0, []) ≡ k = cc in omega (arith, ap (λ (q : Key). q.0) same)
path_cheap c [] a (m ∷ p) k h e = absurd (cc)
path_cheap c (x ∷ es) a [] k h e = absurd (cc)
path_cheap c (x ∷ es) a (m ∷ p) k h e =
    let parts = joined_parts (one x a m) (path_key es m p) k e in
    let best = key_parts (at x a m) parts.0 parts.2 in
    let low = h.0 a m best.0 best.1 in
    let rest = path_cheap c es m p parts.1 h.1 parts.3 in
    omega (arith, low, rest, ap (λ (q : Key). q.0) parts.4, ap (λ (q : Key). q.0) best.2)

pub least_cheap : (c : ℕ) (es : List CarryMatrix) (a b : ℕ) (k : Key) → AreCheap c es → least_key es a b ≡ Some k → k.0 ≤ length es * c
least_cheap c es a b k h e =
    let least = subst (IsLeastKey (IsPathKey es a b)) e (keys-least_path es a b) in
    path_cheap c es a least.0.0 k h least.0.3

key_cheap : (c : ℕ) (es : List CarryMatrix) (o : Option Key) → AreCheap c es → least_key es 0 0 ≡ o → unwrap_or (cost_of o) 0 ≤ length es * c
key_cheap c es None h e = omega arith
key_cheap c es (Some k) h e = least_cheap c es 0 0 k h e

pub cheap : (g : Grammar) (cs : List Inner) (bars : List VoiceBar) (tables : List BarTable) → AreTables g cs bars tables → AreCheap DEAREST_CELL (matrices tables)
cheap g cs [] [] h = tt
cheap g cs [] (x ∷ tables) h = absurd h
cheap g cs (bar ∷ bars) [] h = absurd h
cheap g cs (bar ∷ bars) (x ∷ tables) h = (table_cheap g x h.0, cheap g cs bars tables h.2)

voice_cheap : (g : Grammar) (p : Performance) (channel : ℕ) (voice : VoiceTables) → AreTablesOfVoice g p channel voice.tables → voice_cost voice ≤ length p.bars * DEAREST_CELL
voice_cheap g p channel voice h =
    let low = key_cheap DEAREST_CELL (matrices voice.tables) (least_key (matrices voice.tables) 0 0) (cheap g (soundings h.chords) (voice_bars g p channel) voice.tables h.each) refl in
    let long : length (matrices voice.tables) ≡ length p.bars = length-map voice.tables (λ (x : BarTable). x.matrix) ∙ voice_long g p channel voice.tables h in
    subst (λ n. voice_cost voice ≤ n * DEAREST_CELL) long low

voices_cheap : (g : Grammar) (p : Performance) (room : ℕ) (channels : List ℕ) (voices : List VoiceTables) → Each (IsKeptVoice g p room) channels voices
    → sum_by voice_cost voices ≤ length channels * (length p.bars * DEAREST_CELL)
voices_cheap g p room [] voices h = let none : sum_by voice_cost voices ≡ 0 = ap (sum_by voice_cost) h in omega (arith, none)
voices_cheap g p room (c ∷ channels) [] h = absurd h
voices_cheap g p room (c ∷ channels) (v ∷ voices) h =
    omega (arith, sum_by-cons voice_cost v voices, voice_cheap g p c v h.0.tables, voices_cheap g p room channels voices h.1)

-- what all voices cost together is a number of 64 bits
pub costs_fit : (g : Grammar) (p : Performance) (room : ℕ) (voices : List VoiceTables) → Each (IsKeptVoice g p room) p.channels voices → cells_of p ≤ MOST_CELLS → sum_by voice_cost voices < 2 ^ 64
costs_fit g p room voices h few =
    let low = voices_cheap g p room p.channels voices h in
    let product : length p.channels * (length p.bars * DEAREST_CELL) ≡ cells_of p * DEAREST_CELL = sym (mul_assoc (length p.channels) (length p.bars) DEAREST_CELL) in
    let most : cells_of p * DEAREST_CELL ≤ MOST_CELLS * DEAREST_CELL = mul-le-mul_right DEAREST_CELL few in
    omega (arith, low, product, most)
