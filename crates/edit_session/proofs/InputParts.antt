-- The input of a bar by a part of the notes of its voice.
use Rattle.std.proofs.Common.{◌≡◌, ◌⊎◌, ℕ, ◌+◌, ◌<◌, ◌≤◌, List, [], ◌∷◌, ◌++◌, length, get_or, take, drop, refl, sym, ap, ◌∙◌, subst, inl, inr, arith, append-nil}
use Rattle.std.specs.Prelude.{All}
use Rattle.std.specs.List.{between}
use Rattle.std.proofs.lemmas.List.{drop_at, get_or-take, length-take-le, take-append-drop}
use Rattle.std.proofs.lemmas.List.Edits.{get_or-between, length-between, split_between}
use Rattle.rhythm_base.specs.declared.chord.Chord.{Chord}
use Rattle.rhythm_base.specs.declared.event.Tempo.{Tempo}
use Rattle.rhythm_base.specs.declared.note.Note.{Note}
use Rattle.rhythm_base.specs.Cells.{input}
use Rattle.rhythm_base.specs.Chords.{AreChords, StandsApart}
use Rattle.rhythm_base.specs.Grammar.{Grammar}
use Rattle.rhythm_base.specs.Leaves.{VoiceBar, soundings}
use Rattle.performance_laws.proofs.ChordLemmas.{onsets_keep}
use Rattle.performance_laws.proofs.OneChords.{one_chords}
use Rattle.voices.proofs.ChordParts.{chords_joined, first_chord}
use Rattle.bar_cut.proofs.LocalInputs.{IsBegun, input_local}
use Rattle.edit_session.specs.Spans.{AreSameBefore, AreSameFrom, IsNotePart}
use Rattle.performance_laws.proofs.SomeChords.{chords_of_notes}

module _ (g : Grammar) (tempos : List Tempo) (division : ℕ) (bar : VoiceBar) where
  abbrev Chords : List Note → List Chord → Type 0
  Chords notes cs = AreChords tempos division g.window notes cs

  abbrev Apart : List Note → List Note → Type 0
  Apart notes later = All (λ n. StandsApart tempos division g.window n later) notes

  -- there are no earlier notes, or one of these begins before the bar
  abbrev BeginsEarly : List Note → List Note → Type 0
  BeginsEarly earlier part = (earlier ≡ []) ⊎ ((n : Note) × (others : List Note) × (part ≡ n ∷ others) × (n.onset < bar.start))

  begun : (earlier part : List Note) (cs ds : List Chord) → Chords earlier cs → Chords part ds → BeginsEarly earlier part → IsBegun bar.start cs ds
  begun earlier part cs ds h k (inl none) = inl (one_chords tempos division g.window [] cs [] (subst (λ l. Chords l cs) none h) refl)
  begun earlier part cs ds h k (inr (n, others, is, early)) =
      let first = first_chord tempos division g.window n others ds (subst (λ l. Chords l ds) is k) in
      inr (first.0, first.1, first.2, omega (arith, first.3, early))

  input_part : (earlier part later : List Note) (cs ds : List Chord) → Chords (earlier ++ (part ++ later)) cs → Chords part ds → Apart earlier (part ++ later) → Apart part later
      → All (λ n. n.onset < bar.start) earlier → All (λ n. bar.start + bar.length ≤ n.onset) later → BeginsEarly earlier part
      → input g bar (soundings cs) ≡ input g bar (soundings ds)
  input_part earlier part later cs ds whole own apart apart_later before after early =
      let front = chords_of_notes tempos division g.window earlier in
      let back = chords_of_notes tempos division g.window later in
      let joined = chords_joined tempos division g.window earlier (part ++ later) front.0 (ds ++ back.0) front.1
      (chords_joined tempos division g.window part later ds back.0 own back.1 apart_later) apart in
      let same = one_chords tempos division g.window (earlier ++ (part ++ later)) cs (front.0 ++ (ds ++ back.0)) whole joined in
      ap (λ l. input g bar (soundings l)) same
      ∙ input_local g bar front.0 ds back.0 (onsets_keep (λ t. t < bar.start) tempos division g.window earlier front.0 front.1 before)
      (onsets_keep (λ t. bar.start + bar.length ≤ t) tempos division g.window later back.0 back.1 after)
      (begun earlier part front.0 ds front.1 own early)

  -- a bar before which nothing differs
  front_input : (notes : List Note) (place tick : ℕ) (cs ds : List Chord) → Chords notes cs → Chords (take place notes) ds → Apart (take place notes) (drop place notes)
      → All (λ n. tick ≤ n.onset) (drop place notes) → bar.start + bar.length ≤ tick → input g bar (soundings cs) ≡ input g bar (soundings ds)
  front_input notes place tick cs ds whole own apart low le =
      input_part [] (take place notes) (drop place notes) cs ds (subst (λ l. Chords l cs) (sym (take-append-drop place notes)) whole) own
      (λ k d lt. absurd (omega (arith, lt))) apart (λ k d lt. absurd (omega (arith, lt))) (λ k d lt. let from = low k d lt in omega (arith, from, le)) (inl refl)

  pub same_before : (before after : List Note) (place tick : ℕ) (cs ds : List Chord) → AreSameBefore tempos division g.window before after place tick
      → bar.start + bar.length ≤ tick → Chords before cs → Chords after ds → input g bar (soundings cs) ≡ input g bar (soundings ds)
  same_before before after place tick cs ds h le k l =
      let part = chords_of_notes tempos division g.window (take place before) in
      front_input before place tick cs part.0 k part.1 h.break h.low le
      ∙ sym (front_input after place tick ds part.0 l (subst (λ ns. Chords ns part.0) h.same part.1) h.break_after h.low_after le)

  -- a bar after all that differs
  back_input : (notes part : List Note) (place tick : ℕ) (cs ds : List Chord) → Chords notes cs → Chords part ds → drop place notes ≡ part → Apart (take place notes) (drop place notes)
      → All (λ n. n.onset ≤ tick) (take place notes) → tick < bar.start → ((n : Note) × (others : List Note) × (part ≡ n ∷ others) × (n.onset ≡ tick))
      → input g bar (soundings cs) ≡ input g bar (soundings ds)
  back_input notes part place tick cs ds whole own is apart high lt first =
      let all : part ++ [] ≡ drop place notes = append-nil part ∙ sym is in
      let at = first.3 in
      input_part (take place notes) part [] cs ds
      (subst (λ l. Chords l cs) (sym (take-append-drop place notes) ∙ ap (λ l. take place notes ++ l) (sym all)) whole) own
      (subst (Apart (take place notes)) (sym all) apart) (λ k d l. tt)
      (λ k d l. let most = high k d l in omega (arith, most, lt)) (λ k d l. absurd (omega (arith, l))) (inr (first.0, first.1, first.2, omega (arith, at, lt)))

  pub same_from : (before after : List Note) (place tick : ℕ) (cs ds : List Chord) → AreSameFrom tempos division g.window before after place tick
      → tick < bar.start → Chords before cs → Chords after ds → input g bar (soundings cs) ≡ input g bar (soundings ds)
  same_from before after place tick cs ds h lt k l =
      let part = chords_of_notes tempos division g.window (drop place after) in
      back_input before (drop place after) h.place_before tick cs part.0 k part.1 h.same h.break h.high lt h.first
      ∙ sym (back_input after (drop place after) place tick ds part.0 l part.1 refl h.break_after h.high_after lt h.first)

  -- a bar between the two ticks of a part
  pub same_in_part : (notes : List Note) (low high first end : ℕ) (cs ds : List Chord) → IsNotePart tempos division g.window notes low high first end
      → low ≤ bar.start → bar.start + bar.length ≤ high → Chords notes cs → Chords (between first end notes) ds → input g bar (soundings cs) ≡ input g bar (soundings ds)
  same_in_part notes low high first end cs ds h le most whole own =
      input_part (take first notes) part (drop end notes) cs ds (subst (λ l. Chords l cs) split whole) own
      (subst (Apart (take first notes)) rest h.break) apart
      (λ k d lt. let early = h.earlier k d lt in omega (arith, early, le)) (λ k d lt. let late = h.later k d lt in omega (arith, late, most)) (early h.begun)
    where
      part : List Note
      part = between first end notes

      split : notes ≡ take first notes ++ (part ++ drop end notes)
      split = split_between notes first end h.order

      few : first ≤ length notes
      few = omega (arith, h.order, h.within)

      rest : drop first notes ≡ part ++ drop end notes
      rest = ap (drop first) split ∙ drop_at (take first notes) (part ++ drop end notes) first (length-take-le first notes few)

      apart : Apart part (drop end notes)
      apart k d lt =
          let less : first + k < end = omega (arith, lt, length-between notes first end h.within, h.order) in
          let same : get_or part k d ≡ get_or (take end notes) (first + k) d = get_or-between notes first end k d less ∙ sym (get_or-take end notes (first + k) d less) in
          subst (λ n. StandsApart tempos division g.window n (drop end notes)) (sym same)
          (h.break_end (first + k) d (omega (arith, less, length-take-le end notes h.within)))

      early : (first ≡ 0) ⊎ ((n : Note) × (others : List Note) × (part ≡ n ∷ others) × (n.onset < low)) → BeginsEarly (take first notes) part
      early (inl none) = inl (ap (λ k. take k notes) none)
      early (inr (n, others, is, lt)) = inr (n, others, is, omega (arith, lt, le))
