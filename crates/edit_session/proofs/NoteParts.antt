-- Some of the notes of a voice, one after another, are such notes too, and their chords can be cut.
use Rattle.std.proofs.Common.{◌≡◌, ℕ, ◌+◌, ◌<◌, ◌≤◌, List, length, get_or, sym, ap, ◌∙◌, subst, arith}
use Rattle.std.specs.Prelude.{◌==◌, All}
use Rattle.std.specs.List.{between}
use Rattle.std.specs.Cmp.Lexicographic.{slice_cmp}
use Rattle.std.specs.Ordering.{nat_cmp}
use Rattle.std.proofs.lemmas.List.Edits.{get_or-between, length-between}
use Rattle.std.proofs.lemmas.List.Elements.{All-filter}
use Rattle.rhythm_base.specs.declared.chord.Chord.{Chord}
use Rattle.rhythm_base.specs.declared.note.Note.{Note}
use Rattle.rhythm_base.specs.Chords.{AreChords}
use Rattle.rhythm_base.specs.Performance.{IsNoteOf, IsWellFormed, Performance, place_of_note}
use Rattle.rhythm_base.specs.Voices.{notes_of_voice}
use Rattle.performance_laws.proofs.ChordLemmas.{chords_end_after, onsets_rise, soundings_rise}
use Rattle.voices.specs.Voice.{AreNotesOfVoice, IsSounded}
use Rattle.bar_cut.specs.Cuts.{AreBarsAndChords}

module _ (notes : List Note) (first end : ℕ) (few : end ≤ length notes) where
  there : (k : ℕ) → k < length (between first end notes) → first + k < end
  there k lt = omega (arith, lt, length-between notes first end few)

  at : (k : ℕ) (d : Note) → k < length (between first end notes) → get_or (between first end notes) k d ≡ get_or notes (first + k) d
  at k d lt = get_or-between notes first end k d (there k lt)

  -- what holds of all holds of these
  pub all_between : (P : Note → Type 0) → All P notes → All P (between first end notes)
  all_between P all k d lt = subst P (sym (at k d lt)) (all (first + k) d (omega (arith, there k lt, few)))

  pub between_of_voice : AreNotesOfVoice notes → AreNotesOfVoice (between first end notes)
  between_of_voice v = record {
    channel = λ i j d lt within.
        let before : i < length (between first end notes) = omega (arith, lt, within) in
        ap (λ (n : Note). n.channel) (at i d before) ∙ v.channel (first + i) (first + j) d (omega (arith, lt)) (omega (arith, there j within, few))
        ∙ ap (λ (n : Note). n.channel) (sym (at j d within));
    in_order = λ i j d lt within.
        let before : i < length (between first end notes) = omega (arith, lt, within) in
        (λ k. slice_cmp nat_cmp (place_of_note (at i d before k)) (place_of_note (at j d within k)))
        ∙ v.in_order (first + i) (first + j) d (omega (arith, lt)) (omega (arith, there j within, few));
    each = all_between IsSounded v.each;
  }

-- their chords can be cut at the barlines
pub part_can_be_cut : (q : Performance) (channel window first end : ℕ) (cs : List Chord) → IsWellFormed q → end ≤ length (notes_of_voice q channel)
    → AreChords q.tempos q.division window (between first end (notes_of_voice q channel)) cs → AreBarsAndChords q.bars q.last cs
part_can_be_cut q channel window first end cs w few are = record {
  some_bar = w.some_bar;
  few_bars = w.few_bars;
  are_before = λ k d lt. record { start = (w.bars k d lt).start; signature = (w.bars k d lt).signature };
  first_bar = w.first_bar;
  bars_rise = w.bars_rise;
  last_barline = w.last_barline;
  chords_rise = soundings_rise cs (onsets_rise q.tempos q.division window part cs are);
  chords = λ k d lt. (chords_end_after q.tempos q.division window q.last part cs are (λ i n below. ((notes i n below).after, (notes i n below).end)) k d lt).0;
}
  where
    part : List Note
    part = between first end (notes_of_voice q channel)

    notes : All (IsNoteOf q.channels q.last) part
    notes = all_between (notes_of_voice q channel) first end few (IsNoteOf q.channels q.last) (All-filter (λ n. n.channel == channel) (IsNoteOf q.channels q.last) q.notes w.notes)
