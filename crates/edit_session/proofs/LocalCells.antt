-- Outside of a span the inputs of a voice are as before, and inside they are those by a part of its notes.
use Rattle.std.proofs.Common.{◌≡◌, ◌⊎◌, ℕ, zero, suc, ◌+◌, ◌-◌, ◌<◌, ◌≤◌, List, [], length, get_or, max, refl, sym, ap, ◌∙◌, subst, inl, inr, arith}
use Rattle.std.specs.Prelude.{Some, slice_get, option_map, unwrap_or}
use Rattle.std.specs.List.{between}
use Rattle.std.proofs.lemmas.Option.{same_Some, slice_get-map}
use Rattle.rhythm_base.specs.declared.chord.Chord.{Chord}
use Rattle.rhythm_base.specs.declared.note.Bar.{Bar}
use Rattle.rhythm_base.specs.Barlines.{barline}
use Rattle.rhythm_base.specs.BarInput.{BarInput}
use Rattle.rhythm_base.specs.BarTables.{BarTable}
use Rattle.rhythm_base.specs.Cells.{input}
use Rattle.rhythm_base.specs.Chords.{AreChords}
use Rattle.rhythm_base.specs.Grammar.{Grammar, root_of}
use Rattle.rhythm_base.specs.Leaves.{VoiceBar, soundings}
use Rattle.rhythm_base.specs.Performance.{IsWellFormed, Performance}
use Rattle.rhythm_base.specs.Voices.{AreChordsOf, notes_of_voice, voice_bar, voice_bars, voice_bars_from}
use Rattle.performance_laws.proofs.EditedBars.{barlines_rise}
use Rattle.edit_laws.specs.Reached.{IsInputOf}
use Rattle.bar_cut.specs.Cuts.{inputs}
use Rattle.bar_cut.proofs.Barlines.{bar_at, starts_at}
use Rattle.edit_session.specs.declared.span.Span.{Span}
use Rattle.edit_session.specs.Inputs.{AreInputsOfVoice}
use Rattle.edit_session.specs.Kept.{AreTablesOfVoice}
use Rattle.edit_session.specs.ReachedCells.{AreOtherInputs, AreOtherInputsWithin, HasOtherInput}
use Rattle.edit_session.specs.Spans.{AreSameFrom, IsKnown, IsSameBar, IsNoteSpan}
use Rattle.edit_session.proofs.InputParts.{same_before, same_from, same_in_part}
use Rattle.edit_session.proofs.OtherInputs.{cell_input, inputs_long, kept_cell, none_below, same_more}
use Rattle.performance_laws.proofs.SomeChords.{some_chords}
use Rattle.edit_session.proofs.Tables.{voice_long}

abbrev no_bar : Bar
no_bar = record { start = 0; num = 0; den = 0 }

module _ (g : Grammar) (q : Performance) (channel : ℕ) (formed : IsWellFormed q) where
  -- the bar of a number
  abbrev bar_of : ℕ → VoiceBar
  bar_of i = voice_bar g q.pins channel i (get_or q.bars i no_bar) (barline q.bars q.last (i + 1))

  there : (i : ℕ) → i < length q.bars → slice_get (voice_bars g q channel) i ≡ Some (bar_of i)
  there i lt = bar_at g q.pins channel q.last i q.bars no_bar lt

  rise : (i : ℕ) → i < length q.bars → (barline q.bars q.last i < barline q.bars q.last (i + 1)) × (barline q.bars q.last (i + 1) ≤ q.last)
  rise i lt = barlines_rise q.bars q.last i formed.bars_rise (λ k d l. (formed.bars k d l).start) lt

  start_is : (i : ℕ) → i < length q.bars → barline q.bars q.last i ≡ (bar_of i).start
  start_is i lt = starts_at q.bars q.last i no_bar lt

  end_is : (i : ℕ) → i < length q.bars → (bar_of i).start + (bar_of i).length ≡ barline q.bars q.last (i + 1)
  end_is i lt = omega (arith, (rise i lt).0, start_is i lt)

  -- barlines do not fall
  later_barline : (i k : ℕ) → i + k ≤ length q.bars → barline q.bars q.last i ≤ barline q.bars q.last (i + k)
  later_barline i zero le = let same : i + 0 ≡ i = omega arith in omega (arith, ap (barline q.bars q.last) same)
  later_barline i (suc k) le =
      let next : i + suc k ≡ i + k + 1 = omega arith in
      omega (arith, later_barline i k (omega (arith, le)), (rise (i + k) (omega (arith, le))).0, ap (barline q.bars q.last) next)

  barlines_order : (i k : ℕ) → i ≤ k → k ≤ length q.bars → barline q.bars q.last i ≤ barline q.bars q.last k
  barlines_order i k le within =
      let whole : i + (k - i) ≡ k = omega (arith, le) in
      omega (arith, later_barline i (k - i) (omega (arith, whole, within)), ap (barline q.bars q.last) whole)

  module _ (p : Performance) (span : Span) (early_tick late_tick first_bar bar_end : ℕ) (others : IsKnown p q early_tick late_tick first_bar bar_end)
      (is : IsNoteSpan q.tempos q.division g.window (notes_of_voice p channel) (notes_of_voice q channel) q.bars q.last first_bar bar_end span) where
    beyond : (i : ℕ) → (i < span.first_bar) ⊎ (span.bar_end ≤ i) → (i < first_bar) ⊎ (bar_end ≤ i)
    beyond i (inl early) = inl (omega (arith, early, is.from))
    beyond i (inr late) = inr (omega (arith, late, is.up_to))

    known_bar : (i : ℕ) → i < length q.bars → (i < span.first_bar) ⊎ (span.bar_end ≤ i) → IsSameBar p q i
    known_bar i lt out = others.bars i lt (beyond i out)

    there_before : (i : ℕ) → i < length q.bars → (i < span.first_bar) ⊎ (span.bar_end ≤ i) → slice_get (voice_bars g p channel) i ≡ Some (bar_of i)
    there_before i lt out =
        let same = known_bar i lt out in
        let pin = others.pins channel i lt (beyond i out) in
        bar_at g p.pins channel p.last i p.bars no_bar same.there
        ∙ sym (λ k. Some record {
          start = (same.bar no_bar k).start;
          length = same.end k - (same.bar no_bar k).start;
          num = (same.bar no_bar k).num;
          den = (same.bar no_bar k).den;
          symbol = unwrap_or (root_of g.starts (same.bar no_bar k).num (same.bar no_bar k).den) 0;
          pin = pin k;
        })

    outside_chords : (i : ℕ) (cs ds : List Chord) → i < length q.bars → (i < span.first_bar) ⊎ (span.bar_end ≤ i)
        → AreChords q.tempos q.division g.window (notes_of_voice p channel) cs → AreChordsOf g q channel ds
        → input g (bar_of i) (soundings cs) ≡ input g (bar_of i) (soundings ds)
    outside_chords i cs ds lt (inl early) h k =
        same_before g q.tempos q.division (bar_of i) (notes_of_voice p channel) (notes_of_voice q channel) is.first.place is.first.tick cs ds is.first.same
        (omega (arith, is.first.bars_end i early, end_is i lt)) h k
    outside_chords i cs ds lt (inr late) h k = by is.end.is
      where
        by : (length q.bars ≤ span.bar_end) ⊎ ((place tick : ℕ) × AreSameFrom q.tempos q.division g.window (notes_of_voice p channel) (notes_of_voice q channel) place tick
            × ((bar : ℕ) → span.bar_end ≤ bar → bar < length q.bars → tick < barline q.bars q.last bar)) → input g (bar_of i) (soundings cs) ≡ input g (bar_of i) (soundings ds)
        by (inl all) = absurd (omega (arith, all, late, lt))
        by (inr (place, tick, same, after)) =
            same_from g q.tempos q.division (bar_of i) (notes_of_voice p channel) (notes_of_voice q channel) place tick cs ds same
            (omega (arith, after i late lt, start_is i lt)) h k

    -- outside of the span a cell has the input that it had
    pub same_outside : (i : ℕ) (k l : BarInput) → i < length q.bars → (i < span.first_bar) ⊎ (span.bar_end ≤ i) → IsInputOf g p channel i k → IsInputOf g q channel i l → k ≡ l
    same_outside i k l lt out h m =
        let bar : h.cell_bar ≡ bar_of i = same_Some h.cell_bar (bar_of i) (sym h.there ∙ there_before i lt out) in
        let bar_after : m.cell_bar ≡ bar_of i = same_Some m.cell_bar (bar_of i) (sym m.there ∙ there i lt) in
        let chords : AreChords q.tempos q.division g.window (notes_of_voice p channel) h.chords =
        subst (λ ts. AreChords ts q.division g.window (notes_of_voice p channel) h.chords) (sym others.tempos)
        (subst (λ d. AreChords p.tempos d g.window (notes_of_voice p channel) h.chords) (sym others.division) h.are_chords) in
        h.is ∙ ap (λ b. input g b (soundings h.chords)) bar ∙ outside_chords i h.chords m.chords lt out chords m.are_chords
        ∙ sym (m.is ∙ ap (λ b. input g b (soundings m.chords)) bar_after)

    -- inside of it a cell has the input by the chords of the part
    pub same_inside : (i : ℕ) (cs ds : List Chord) → i < length q.bars → span.first_bar ≤ i → i < span.bar_end → AreChordsOf g q channel cs
        → AreChords q.tempos q.division g.window (between span.first_note span.note_end (notes_of_voice q channel)) ds
        → slice_get (inputs g q.pins channel q.last q.bars cs) i ≡ slice_get (inputs g q.pins channel q.last q.bars ds) i
    same_inside i cs ds lt from up_to h k =
        let low = barlines_order span.first_bar i from (omega (arith, lt)) in
        let high = barlines_order (i + 1) span.bar_end (omega (arith, up_to)) is.end.within in
        let same = same_in_part g q.tempos q.division (bar_of i) (notes_of_voice q channel) (barline q.bars q.last span.first_bar) (barline q.bars q.last span.bar_end) span.first_note span.note_end cs ds
        is.part (omega (arith, low, start_is i lt)) (omega (arith, high, end_is i lt)) h k in
        at cs ∙ ap Some same ∙ sym (at ds)
      where
        at : (cs : List Chord) → slice_get (inputs g q.pins channel q.last q.bars cs) i ≡ Some (input g (bar_of i) (soundings cs))
        at cs =
            let F : VoiceBar → BarInput = λ m. input g m (soundings cs) in
            slice_get-map F (voice_bars_from g q.pins channel q.last 0 q.bars) i ∙ ap (option_map F) (there i lt)

    -- and so no cell outside of it has another input than its table
    none_outside : (inputs : List BarInput) (tables : List BarTable) (i : ℕ) → AreTablesOfVoice g p channel tables → AreInputsOfVoice g q channel inputs → i < length q.bars
        → (i < span.first_bar) ⊎ (span.bar_end ≤ i) → HasOtherInput tables inputs i → ⊥
    none_outside inputs tables i h of lt out (inl le) = omega (arith, le, (known_bar i lt out).there, voice_long g p channel tables h)
    none_outside inputs tables i h of lt out (inr (x, k, at, here, differ)) =
        differ (same_outside i x.input k lt out (kept_cell g p channel i tables x h at).of_input (cell_input g q channel i inputs k of here))

    -- all cells with another input are those found in the span
    pub all_within : (ds : List Chord) (tables : List BarTable) (cells : List (ℕ × ℕ)) (found : List BarInput) → AreTablesOfVoice g p channel tables
        → AreChords q.tempos q.division g.window (between span.first_note span.note_end (notes_of_voice q channel)) ds
        → AreOtherInputsWithin channel (inputs g q.pins channel q.last q.bars ds) tables span.first_bar span.bar_end cells found
        → (inputs : List BarInput) × AreInputsOfVoice g q channel inputs × AreOtherInputs channel inputs tables (length inputs) cells found
    all_within ds tables cells found h own within = (all, of, up_to_end)
      where
        whole : (cs : List Chord) × AreChordsOf g q channel cs
        whole = some_chords g q channel

        all : List BarInput
        all = inputs g q.pins channel q.last q.bars whole.0

        of : AreInputsOfVoice g q channel all
        of = record { chords = whole.0; are_chords = whole.1; are = refl }

        long : length all ≡ length q.bars
        long = inputs_long g q channel all of

        until : (first : ℕ) (k : ℕ) (cs : List (ℕ × ℕ)) (ks : List BarInput) → ((i : ℕ) → first ≤ i → i < first + k → HasOtherInput tables all i → ⊥)
            → AreOtherInputs channel all tables first cs ks → AreOtherInputs channel all tables (first + k) cs ks
        until first zero cs ks none so_far = let same : first ≡ first + 0 = omega arith in subst (λ n. AreOtherInputs channel all tables n cs ks) same so_far
        until first (suc k) cs ks none so_far =
            let next : first + k + 1 ≡ first + suc k = omega arith in
            subst (λ n. AreOtherInputs channel all tables n cs ks) next
            (same_more channel all tables (first + k) cs ks (none (first + k) (omega arith) (omega arith)) (until first k cs ks (λ i le lt. none i le (omega (arith, lt))) so_far))

        until_at : (first end : ℕ) (cs : List (ℕ × ℕ)) (ks : List BarInput) → first ≤ end → ((i : ℕ) → first ≤ i → i < end → HasOtherInput tables all i → ⊥)
            → AreOtherInputs channel all tables first cs ks → AreOtherInputs channel all tables end cs ks
        until_at first end cs ks le none so_far =
            let whole : first + (end - first) ≡ end = omega (arith, le) in
            subst (λ n. AreOtherInputs channel all tables n cs ks) whole (until first (end - first) cs ks (λ i from lt. none i from (omega (arith, lt, whole))) so_far)

        from_start : AreOtherInputs channel all tables span.first_bar [] []
        from_start = until_at 0 span.first_bar [] [] (omega arith) (λ i from lt. none_outside all tables i h of (omega (arith, lt, is.first.within)) (inl lt)) (none_below channel all tables)

        in_span : AreOtherInputs channel all tables (max span.first_bar span.bar_end) cells found
        in_span = within all (λ i from lt. same_inside i whole.0 ds (omega (arith, lt, is.end.within)) from lt whole.1 own) from_start

        up_to_end : AreOtherInputs channel all tables (length all) cells found
        up_to_end = until_at (max span.first_bar span.bar_end) (length all) cells found (omega (arith, long, is.first.within, is.end.within))
            (λ i from lt. none_outside all tables i h of (omega (arith, lt, long)) (inr (omega (arith, from)))) in_span
