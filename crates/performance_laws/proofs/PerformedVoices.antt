-- The voices of a well-formed performance: their bars stand side by side to the last barline, and their chords rise below it.
use Rattle.std.proofs.Common.{◌≡◌, ℕ, suc, ◌+◌, ◌-◌, ◌<◌, ◌≤◌, true, List, [], ◌∷◌, refl, sym, ap, ◌∙◌, subst, ap₂, arith, zero}
use Rattle.std.specs.Prelude.{All, nat_lt, ◌&&◌}
use Rattle.std.specs.List.{list_all}
use Rattle.std.specs.List.Sorted.{IsStrictlyIncreasing}
use Rattle.std.proofs.lemmas.Bool.Decides.{nat_tests}
use Rattle.std.proofs.lemmas.List.Elements.{All-filter}
use Rattle.rhythm_base.specs.declared.chord.Chord.{Chord}
use Rattle.rhythm_base.specs.declared.note.Bar.{Bar}
use Rattle.rhythm_base.specs.declared.pin.Pin.{Pin}
use Rattle.rhythm_base.specs.DeadBars.{end_of_bars}
use Rattle.rhythm_base.specs.Barlines.{barline}
use Rattle.rhythm_base.specs.Leaves.{VoiceBar, soundings}
use Rattle.rhythm_base.specs.Line.{Rising}
use Rattle.rhythm_base.specs.Performance.{IsNoteOf, IsWellFormed, Performance, IsBarOf}
use Rattle.rhythm_base.specs.Grammar.{Grammar}
use Rattle.rhythm_base.specs.Voices.{AreChordsOf, voice_bars, voice_bars_from, notes_of_voice}
use Rattle.performance_laws.proofs.ChordLemmas.{chords_end_after, onsets_keep, onsets_rise, soundings_rise}
use Rattle.performance_laws.proofs.EditedBars.{barline_is, barlines_rise, starts}
use Rattle.rhythm_base.proofs.OrderedLists.{all_head, all_tail, rise_later}
use Rattle.tree_laws.specs.Voices.{Adjacent, IsVoice}

-- ---- bars

-- the bars of a voice stand side by side, from the first start to the last barline
measures_adjacent : (g : Grammar) (pins : List Pin) (channel last i b : ℕ) (bars : List Bar) → IsStrictlyIncreasing (starts bars)
    → All (λ x. x.start < last) bars → barline bars last 0 ≡ b → Adjacent b (voice_bars_from g pins channel last i bars) last
measures_adjacent g pins channel last i b [] up before here = sym here
measures_adjacent g pins channel last i b (bar ∷ bars) up before here =
    let rise : (bar.start < barline bars last 0) × (barline bars last 0 ≤ last) = barlines_rise (bar ∷ bars) last 0 up before (omega arith) in
    let next : barline bars last 0 ≡ b + (barline bars last 0 - bar.start) = omega (arith, rise.0, here) in (
      here,
      omega (arith, rise.0),
      measures_adjacent g pins channel last (suc i) (b + (barline bars last 0 - bar.start)) bars (rise_later bar.start (starts bars) up) (all_tail (λ x. x.start < last) bar bars before) next,
    )

-- bars side by side end where they end
pub adjacent_ends : (bars : List VoiceBar) (b e : ℕ) → Adjacent b bars e → end_of_bars b bars ≡ e
adjacent_ends [] b e near = near
adjacent_ends (bar ∷ bars) b e near = ap (λ s. end_of_bars (s + bar.length) bars) near.0 ∙ adjacent_ends bars (b + bar.length) e near.2

-- ---- chords

all_below : (e : ℕ) (cs : List Chord) → All (λ c. c.onset < e) cs → list_all (λ c. nat_lt c.onset e) (soundings cs) ≡ true
all_below e [] h = refl
all_below e (c ∷ cs) h =
    let low : c.onset < e = all_head (λ c. c.onset < e) c cs h in
    let is : nat_lt c.onset e ≡ true = grind (arith, nat_tests, low) in
    ap₂ ◌&&◌ is (all_below e cs (all_tail (λ c. c.onset < e) c cs h))

module _ (g : Grammar) (p : Performance) (channel : ℕ) (cs : List Chord) (w : IsWellFormed p) (are : AreChordsOf g p channel cs) where
  notes_are : All (IsNoteOf p.channels p.last) (notes_of_voice p channel)
  notes_are = All-filter _ (IsNoteOf p.channels p.last) p.notes w.notes

  pub rising : Rising 0 (soundings cs)
  rising = soundings_rise cs (onsets_rise p.tempos p.division g.window (notes_of_voice p channel) cs are)

  -- no chord ends before its onset
  pub ends_after : All (λ c. c.onset ≤ c.end) cs
  ends_after k d lt = (chords_end_after p.tempos p.division g.window p.last (notes_of_voice p channel) cs are (λ i n below. ((notes_are i n below).after, (notes_are i n below).end)) k d lt).0

  near : Adjacent 0 (voice_bars g p channel) p.last
  near =
      let first : barline p.bars p.last 0 ≡ 0 = barline_is p.bars p.last 0 (omega (arith, w.some_bar)) ∙ w.first_bar in
      measures_adjacent g p.pins channel p.last 0 0 p.bars w.bars_rise (λ k d lt. (w.bars k d lt).start) first

  pub performed_voice : 1 ≤ g.resolution → IsVoice g (voice_bars g p channel) (soundings cs)
  performed_voice some =
      let end : end_of_bars 0 (voice_bars g p channel) ≡ p.last = adjacent_ends (voice_bars g p channel) 0 p.last near in
      let low = onsets_keep (λ t. t < p.last) p.tempos p.division g.window (notes_of_voice p channel) cs are (λ k d lt. (notes_are k d lt).onset) in
      record {
        some = some;
        near = subst (Adjacent 0 (voice_bars g p channel)) (sym end) near;
        rise = rising;
        below = ap (λ e. list_all (λ c. nat_lt c.onset e) (soundings cs)) end ∙ all_below p.last cs low;
      }

-- no barline is after the last one
pub by_last : (division last : ℕ) (bars : List Bar) (k : ℕ) → All (IsBarOf division last) bars → barline bars last k ≤ last
by_last division last [] k all = omega arith
by_last division last (b ∷ bars) zero all = let head = all_head (IsBarOf division last) b bars all in omega (arith, head.start)
by_last division last (b ∷ bars) (suc k) all = by_last division last bars k (all_tail (IsBarOf division last) b bars all)
