-- The bars of a voice of a well-formed performance are cells of the grammar.
use Rattle.std.proofs.Common.{◌≡◌, ℕ, suc, ◌+◌, ◌<◌, ◌≤◌, Bool, true, false, cond, List, [], ◌∷◌, filter, map, refl, arith}
use Rattle.std.specs.Prelude.{All, nat_le}
use Rattle.std.specs.List.Sorted.{IsStrictlyIncreasing}
use Rattle.std.proofs.lemmas.Bool.Decides.{nat_tests}
use Rattle.std.proofs.lemmas.List.Elements.{All-nil}
use Rattle.rhythm_base.specs.declared.limits.TheConstants.{LATEST_TICK}
use Rattle.rhythm_base.specs.declared.chord.Chord.{Chord}
use Rattle.rhythm_base.specs.declared.inner.Inner.{Inner}
use Rattle.rhythm_base.specs.declared.note.Bar.{Bar}
use Rattle.rhythm_base.specs.declared.pin.Pin.{Pin}
use Rattle.rhythm_base.specs.BarInput.{IsInner}
use Rattle.rhythm_base.specs.Barlines.{barline}
use Rattle.rhythm_base.specs.Cells.{has_onset, input, within_bar}
use Rattle.rhythm_base.specs.Grammar.{Grammar}
use Rattle.rhythm_base.specs.Leaves.{VoiceBar, soundings}
use Rattle.rhythm_base.specs.Line.{Rising}
use Rattle.rhythm_base.specs.Performance.{IsWellFormed, Performance}
use Rattle.rhythm_base.specs.Readable.{IsReadable}
use Rattle.rhythm_base.specs.Signatures.{IsSignature}
use Rattle.rhythm_base.specs.Voices.{AreChordsOf, voice_bar, voice_bars, voice_bars_from}
use Rattle.rhythm_base.proofs.Booleans.{and_left, and_right}
use Rattle.rhythm_base.proofs.OrderedLists.{all_cons, all_head, all_tail, rise_later}
use Rattle.performance_laws.proofs.EditedBars.{barlines_rise, starts}
use Rattle.performance_laws.proofs.PerformedVoices.{ends_after, rising}
use Rattle.row_laws.specs.Grounds.{IsReady}
use Rattle.tree_laws.proofs.Cells.{input-cell}

-- ---- one bar

inner_chords : (bar : VoiceBar) (cs : List Inner) → All (λ c. c.onset ≤ c.end) cs → All (IsInner bar.length) (map (within_bar bar) (filter (λ c. has_onset bar c.onset) cs))
inner_chords bar [] after = All-nil (IsInner bar.length)
inner_chords bar (c ∷ cs) after = go (has_onset bar c.onset) refl (inner_chords bar cs (all_tail (λ c. c.onset ≤ c.end) c cs after))
  where
    rest : List Inner
    rest = filter (λ c. has_onset bar c.onset) cs

    go : (b : Bool) → has_onset bar c.onset ≡ b → All (IsInner bar.length) (map (within_bar bar) rest) → All (IsInner bar.length) (map (within_bar bar) (cond b (c ∷ rest) rest))
    go true e ih =
        let reached = and_left (nat_le bar.start c.onset) _ e in
        let left = and_right (nat_le bar.start c.onset) _ e in
        let low : bar.start ≤ c.onset = grind (arith, nat_tests) in
        let high : c.onset < bar.start + bar.length = grind (arith, nat_tests) in
        let own : c.onset ≤ c.end = all_head (λ c. c.onset ≤ c.end) c cs after in
        all_cons (IsInner bar.length) (within_bar bar c) (map (within_bar bar) rest)
        (record { onset = omega (arith, low, high); after = omega (arith, low, high, own); end = omega arith }) ih
    go false e ih = ih

module _ (g : Grammar) (cs : List Inner) (readable : IsReadable g) (rise : Rising 0 cs) (after : All (λ c. c.onset ≤ c.end) cs) where
  pub ready_cell : (bar : VoiceBar) → IsSignature bar.num bar.den → 1 ≤ bar.length → bar.length ≤ LATEST_TICK → IsReady g (input g bar cs)
  ready_cell bar signature long short =
      let holds = input-cell g bar 0 cs long rise in
      record {
        readable = readable;
        cell = record {
          some_unit = readable.ranges.some_unit;
          few_units = readable.ranges.few_units;
          signature = signature;
          some_tick = long;
          few_ticks = short;
          rising = holds.rise;
          chords = inner_chords bar cs after;
          before = omega arith;
        };
        units = refl;
      }

  -- ---- all bars

  ready_cells : (pins : List Pin) (channel last i : ℕ) (bars : List Bar) → last ≤ LATEST_TICK → IsStrictlyIncreasing (starts bars) → All (λ b. b.start < last) bars
      → All (λ b. IsSignature b.num b.den) bars → All (λ bar. IsReady g (input g bar cs)) (voice_bars_from g pins channel last i bars)
  ready_cells pins channel last i [] late up before signed = All-nil (λ bar. IsReady g (input g bar cs))
  ready_cells pins channel last i (b ∷ bars) late up before signed =
      let span : (b.start < barline bars last 0) × (barline bars last 0 ≤ last) = barlines_rise (b ∷ bars) last 0 up before (omega arith) in
      all_cons (λ bar. IsReady g (input g bar cs)) (voice_bar g pins channel i b (barline bars last 0)) (voice_bars_from g pins channel last (suc i) bars)
      (ready_cell (voice_bar g pins channel i b (barline bars last 0)) (all_head (λ b. IsSignature b.num b.den) b bars signed) (omega (arith, span.0)) (omega (arith, span.1, late)))
      (ready_cells pins channel last (suc i) bars late (rise_later b.start (starts bars) up) (all_tail (λ b. b.start < last) b bars before) (all_tail (λ b. IsSignature b.num b.den) b bars signed))

-- ---- a voice of a performance

pub sound_after : (cs : List Chord) → All (λ c. c.onset ≤ c.end) cs → All (λ c. c.onset ≤ c.end) (soundings cs)
sound_after [] h = All-nil (λ (c : Inner). c.onset ≤ c.end)
sound_after (c ∷ cs) h =
    all_cons (λ (c : Inner). c.onset ≤ c.end) (record { onset = c.onset; end = c.end }) (soundings cs) (all_head (λ (c : Chord). c.onset ≤ c.end) c cs h)
    (sound_after cs (all_tail (λ (c : Chord). c.onset ≤ c.end) c cs h))

pub ready_voice : (g : Grammar) (p : Performance) (channel : ℕ) (cs : List Chord) → IsReadable g → IsWellFormed p → AreChordsOf g p channel cs
    → All (λ bar. IsReady g (input g bar (soundings cs))) (voice_bars g p channel)
ready_voice g p channel cs readable formed are =
    ready_cells g (soundings cs) readable (rising g p channel cs formed are) (sound_after cs (ends_after g p channel cs formed are)) p.pins channel p.last 0 p.bars
    formed.last_barline formed.bars_rise (λ k d lt. (formed.bars k d lt).start) (λ k d lt. (formed.bars k d lt).signature)
