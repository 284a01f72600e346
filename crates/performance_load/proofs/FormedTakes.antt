-- The performance of a well-formed take is well formed.
use Rattle.std.proofs.Common.{◌≡◌, ℕ, zero, suc, ◌<◌, ◌≤◌, List, [], ◌∷◌, length, get_or, subst, refl, sym, ap, ◌∙◌, arith, Err}
use Rattle.std.specs.Prelude.{All}
use Rattle.std.proofs.lemmas.List.Elements.{All-nil}
use Rattle.rhythm_base.specs.declared.bar_fault.BarFault.{BarFault}
use Rattle.rhythm_base.specs.declared.bar_fault.BarFault.TheVariants as laying
use Rattle.rhythm_base.specs.declared.note.Bar.{Bar}
use Rattle.rhythm_base.specs.declared.note.Note.{Note}
use Rattle.rhythm_base.specs.Bars.{AreEnough}
use Rattle.rhythm_base.specs.Performance.{IsNoteOf, IsPinOf, IsWellFormed, Performance}
use Rattle.tempo_map.specs.Laying.{AreBars, Lays}
use Rattle.performance_load.specs.Loading.{AreVoicesOf, bar_fault_gives, greatest_end, greatest_onset}
use Rattle.performance_load.specs.Take.{Take}
use Rattle.performance_load.specs.Taking.{IsLoadedOf, IsTakeFormed, LoadsTake}
use Rattle.performance_load.proofs.EventLemmas.{below_greatest, greatest_low}
use Rattle.performance_load.proofs.LaidBars.{laid_are_bars}

again : {X : Type 0} (xs : List X) (k : ℕ) (d : X) → k < length xs → get_or xs k (get_or xs k d) ≡ get_or xs k d
again [] k d lt = absurd (omega (arith, lt))
again (x ∷ xs) zero d lt = refl
again (x ∷ xs) (suc k) d lt = again xs k d (omega (arith, lt))

-- a performance of these parts
abbrev pub laid_take : Take → List Bar → ℕ → List ℕ → Performance
laid_take t bars last channels = record {
  division = t.division;
  tempos = t.tempos;
  key_marks = t.key_marks;
  bars = bars;
  last = last;
  channels = channels;
  notes = t.notes;
  pins = [];
}

module _ (t : Take) (h : IsTakeFormed t) where
  pub onsets_early : greatest_onset t.notes ≤ greatest_end t.notes
  onsets_early =
      greatest_low (λ n. n.onset) t.notes (greatest_end t.notes) (λ k d lt.
      let n = h.notes k d lt in
      let most = below_greatest (λ n. n.end) t.notes k d lt in
      omega (arith, n.after, most))

  pub ends_near : greatest_end t.notes ≤ 1000000000
  ends_near = greatest_low (λ n. n.end) t.notes 1000000000 (λ k d lt. (h.notes k d lt).within)

  module _ (bars : List Bar) (last : ℕ) (channels : List ℕ) (laid : AreBars t.division bars last) (enough : AreEnough (greatest_onset t.notes) (greatest_end t.notes) bars last)
      (voices : AreVoicesOf t.notes channels) where
    is_note : All (IsNoteOf channels last) t.notes
    is_note k d lt =
        let n = h.notes k d lt in
        let onset = below_greatest (λ n. n.onset) t.notes k d lt in
        let end = below_greatest (λ n. n.end) t.notes k d lt in
        record {
          voice = (voices.exactly (get_or t.notes k d).channel).1 (k, get_or t.notes k d, lt, again t.notes k d lt, refl);
          key = n.key;
          onset = omega (arith, onset, enough.begins);
          after = n.after;
          end = omega (arith, end, enough.ends);
        }

    is_channel : All (λ c. c < 16) channels
    is_channel k d lt =
        let one = (voices.exactly (get_or channels k d)).0 (k, lt, again channels k d lt) in
        let n = h.notes one.0 one.1 one.2 in
        let same : (get_or t.notes one.0 one.1).channel ≡ get_or channels k d = ap (λ n. n.channel) one.3 ∙ one.4 in
        omega (arith, n.channel, same)

    some_channel : 1 ≤ length channels
    some_channel =
        let n : Note = get_or t.notes 0 (record { channel = 0; key = 0; onset = 0; end = 0 }) in
        let there = (is_note 0 n h.some_note).voice in
        omega (arith, there.1)

    pub well_formed : IsWellFormed (laid_take t bars last channels)
    well_formed = record {
      division_low = h.division_low;
      division_high = h.division_high;
      tempos = h.tempos;
      tempos_in_order = h.tempos_in_order;
      key_marks = h.key_marks;
      key_marks_in_order = h.key_marks_in_order;
      some_bar = laid.some;
      few_bars = laid.few;
      bars = laid.each;
      first_bar = laid.first;
      bars_rise = laid.rise;
      last_barline = laid.last_barline;
      some_voice = some_channel;
      voices_rise = voices.rise;
      voices = is_channel;
      notes = is_note;
      notes_in_order = h.notes_in_order;
      pins = All-nil (IsPinOf channels (length bars));
      pins_in_order = λ i j d less within. absurd (omega (arith, within));
    }

  -- so is any that is loaded of the take
  pub loaded_well : (p : Performance) → IsLoadedOf t p → IsWellFormed p
  loaded_well p l =
      let laid = laid_are_bars t.division t.signatures (greatest_onset t.notes) (greatest_end t.notes) h.division_high onsets_early ends_near p.bars p.last h.division_low l.bars in
      let well = well_formed p.bars p.last p.channels laid l.bars.1 l.voices in
      let same : laid_take t p.bars p.last p.channels ≡ p = λ i. record {
        division = sym l.division i;
        tempos = sym l.tempos i;
        key_marks = sym l.key_marks i;
        bars = p.bars;
        last = p.last;
        channels = p.channels;
        notes = sym l.notes i;
        pins = sym l.pins i;
      } in
      subst IsWellFormed same well

-- a fault of the bars is one of loading
pub bars_at_fault : (t : Take) (fault : BarFault) → Lays t.division t.signatures (greatest_onset t.notes) (greatest_end t.notes) (Err fault) → LoadsTake t (Err (bar_fault_gives fault))
bars_at_fault t laying.Memory h = tt
bars_at_fault t (laying.TooManyBars start) h = h
bars_at_fault t (laying.BadSignature num dd) h = h
bars_at_fault t (laying.UnevenBar number num den) h = h
