-- Where the notes of a voice are as before: up to a break among them, and from one on.
use Rattle.std.proofs.Common.{◌≡◌, ◌⊎◌, ℕ, suc, ◌+◌, ◌-◌, ◌<◌, ◌≤◌, List, ◌∷◌, length, get_or, take, drop, max, refl, sym, ap, ◌∙◌, subst, inl, inr, arith}
use Rattle.std.specs.Prelude.{All}
use Rattle.std.specs.List.{AllWithin, between}
use Rattle.std.proofs.lemmas.Bool.{cases_lt}
use Rattle.std.proofs.lemmas.List.{drop_more, get_or-drop, get_or-take, get_or_default, length-drop, length-take-le}
use Rattle.std.proofs.lemmas.List.Edits.{get_or-between, length-between}
use Rattle.std.proofs.lemmas.Slice.{first_rest}
use Rattle.rhythm_base.specs.declared.event.Tempo.{Tempo}
use Rattle.rhythm_base.specs.declared.note.Note.{Note}
use Rattle.rhythm_base.specs.Time.{time}
use Rattle.voices.specs.Breaks.{IsBreak, IsLastBreak, IsNextBreak}
use Rattle.voices.specs.Voice.{AreNotesOfVoice}
use Rattle.voices.proofs.NoteBreaks.{HasGap, break_first, break_there, gap_there, notes_rise}
use Rattle.edit_session.specs.Spans.{AreSameBefore, AreSameFrom, IsNotePart}
use Rattle.edit_session.proofs.SameNotes.{fewer_same, later_same, same_at, same_later}

abbrev no_note : Note
no_note = record { channel = 0; key = 0; onset = 0; end = 0 }

-- no note from a place on begins before that there, and none before it begins later
rises_after : (notes : List Note) (place : ℕ) (d : Note) → AreNotesOfVoice notes → place < length notes → All (λ n. (get_or notes place d).onset ≤ n.onset) (drop place notes)
rises_after notes place d v within k e lt =
    let there : place + k < length notes = omega (arith, lt, length-drop place notes, within) in
    let rise = notes_rise notes place (place + k) e v (omega arith) there in
    omega (arith, rise, ap (λ (n : Note). n.onset) (get_or-drop place notes k e), ap (λ (n : Note). n.onset) (get_or_default notes place d e within))

rises_up_to : (notes : List Note) (place : ℕ) (d : Note) → AreNotesOfVoice notes → place < length notes → All (λ n. n.onset ≤ (get_or notes place d).onset) (take place notes)
rises_up_to notes place d v within k e lt =
    let few : k < place = omega (arith, lt, length-take-le place notes (omega (arith, within))) in
    let rise = notes_rise notes k place e v (omega (arith, few)) within in
    omega (arith, rise, ap (λ (n : Note). n.onset) (get_or-take place notes k e few), ap (λ (n : Note). n.onset) (get_or_default notes place d e within))

-- a gap is one between the same notes elsewhere
gap_same : (tempos : List Tempo) (division window : ℕ) (xs ys : List Note) (i j : ℕ) (d : Note) → get_or xs i d ≡ get_or ys j d → get_or xs (i + 1) d ≡ get_or ys (j + 1) d
    → HasGap tempos division window ys j d → HasGap tempos division window xs i d
gap_same tempos division window xs ys i j d first next gap = omega (arith, gap, ap (λ (n : Note). time tempos n.onset) first, ap (λ (n : Note). time tempos n.onset) next)

module _ (tempos : List Tempo) (division window : ℕ) (before after : List Note) where
  pub edge_first : AreSameBefore tempos division window before after 0 0
  edge_first = record {
    same = refl;
    break = break_first tempos division window before;
    break_after = break_first tempos division window after;
    low = λ k d lt. omega arith;
    low_after = λ k d lt. omega arith;
  }

  module _ (v : AreNotesOfVoice before) (w : AreNotesOfVoice after) where
    pub edge_later : (place same : ℕ) → take same before ≡ take same after → same ≤ length before → same ≤ length after → place ≤ same - 1 → (place ≡ 0 → ⊥)
        → IsBreak tempos division window after place → AreSameBefore tempos division window before after place (get_or after place no_note).onset
    edge_later place same is few few_after le some break = record {
      same = fewer_same before after same place (omega (arith, le)) is;
      break = subst (IsBreak tempos division window before) at (break_there tempos division window before i no_note v (omega (arith, at, le, few, some)) gap);
      break_after = break;
      low = λ k d lt. let rise = rises_after before place no_note v (omega (arith, le, few, some)) k d lt in omega (arith, rise, ap (λ (n : Note). n.onset) here);
      low_after = rises_after after place no_note w (omega (arith, le, few_after, some));
    }
      where
        i : ℕ
        i = place - 1

        at : i + 1 ≡ place
        at = omega (arith, some)

        here : get_or before place no_note ≡ get_or after place no_note
        here = same_at before after same place no_note (omega (arith, le, some)) is

        gap : HasGap tempos division window before i no_note
        gap =
            gap_same tempos division window before after i i no_note (same_at before after same i no_note (omega (arith, at, le, some)) is) (same_at before after same (i + 1) no_note (omega (arith, at, le, some)) is)
            (gap_there tempos division window after i no_note (omega (arith, at, le, few_after, some)) (subst (IsBreak tempos division window after) (sym at) break))

    pub edge_last : (place same : ℕ) (n : Note) → drop (length before - same) before ≡ drop (length after - same) after → same ≤ length before → same ≤ length after
        → length after - (same - 1) ≤ place → place < length after → n ≡ get_or after place n → IsBreak tempos division window after place
        → AreSameFrom tempos division window before after place n.onset
    edge_last place same n is few few_after le lt note break = record {
      place_before = m + suc x;
      same = later_same before after m j (suc x) is ∙ ap (λ k. drop k after) (sym at);
      break = subst (IsBreak tempos division window before) next (break_there tempos division window before (m + x) no_note v (omega (arith, next, within)) gap);
      break_after = break;
      high = λ k d l. let rise = rises_up_to before (m + suc x) no_note v within k d l in omega (arith, rise, ap (λ (n : Note). n.onset) here);
      high_after = λ k d l. let rise = rises_up_to after place no_note w lt k d l in omega (arith, rise, ap (λ (n : Note). n.onset) there);
      first = (get_or after place n, drop (place + 1) after, drop_more after place n lt, ap (λ (n : Note). n.onset) (sym note));
    }
      where
        m : ℕ
        m = length before - same

        j : ℕ
        j = length after - same

        x : ℕ
        x = place - j - 1

        at : place ≡ j + suc x
        at = omega (arith, le, lt, few_after)

        next : m + x + 1 ≡ m + suc x
        next = omega arith

        within : m + suc x < length before
        within = omega (arith, at, lt, few, few_after)

        there : get_or after place no_note ≡ n
        there = get_or_default after place no_note n lt ∙ sym note

        here : get_or before (m + suc x) no_note ≡ n
        here = same_later before after m j (suc x) no_note is ∙ ap (λ k. get_or after k no_note) (sym at) ∙ there

        gap : HasGap tempos division window before (m + x) no_note
        gap =
            let last : j + x + 1 ≡ place = omega (arith, at) in
            let more : get_or before (m + x + 1) no_note ≡ get_or after (j + x + 1) no_note =
            ap (λ k. get_or before k no_note) next ∙ same_later before after m j (suc x) no_note is ∙ ap (λ k. get_or after k no_note) (sym at ∙ sym last) in
            gap_same tempos division window before after (m + x) (j + x) no_note (same_later before after m j x no_note is) more
            (gap_there tempos division window after (j + x) no_note (omega (arith, last, lt)) (subst (IsBreak tempos division window after) (sym last) break))

-- the notes between two breaks
pub part_is : (tempos : List Tempo) (division window : ℕ) (notes : List Note) (low high earlier up_to first end : ℕ) → earlier ≤ length notes
    → AllWithin (λ n. n.onset < low) notes 0 earlier → AllWithin (λ n. high ≤ n.onset) notes up_to (length notes)
    → IsLastBreak tempos division window notes (earlier - 1) first → IsNextBreak tempos division window notes (max up_to earlier) end → IsNotePart tempos division window notes low high first end
part_is tempos division window notes low high earlier up_to first end within front back last next = record {
  order = omega (arith, last.within, next.from);
  within = next.within;
  break = last.break;
  break_end = next.break;
  earlier = λ k d lt.
      let few : k < first = omega (arith, lt, length-take-le first notes (omega (arith, last.within, within))) in
      let early = front k d (omega arith) (omega (arith, few, last.within)) in
      omega (arith, early, ap (λ (n : Note). n.onset) (get_or-take first notes k d few));
  later = λ k d lt.
      let late = back (end + k) d (omega (arith, next.from)) (omega (arith, lt, length-drop end notes, next.within)) in
      omega (arith, late, ap (λ (n : Note). n.onset) (get_or-drop end notes k d));
  begun = begun (cases_lt 0 first);
}
  where
    part : List Note
    part = between first end notes

    begun : (0 < first) ⊎ (first ≤ 0) → (first ≡ 0) ⊎ ((n : Note) × (others : List Note) × (part ≡ n ∷ others) × (n.onset < low))
    begun (inr none) = inl (omega (arith, none))
    begun (inl some) =
        let less : first < end = omega (arith, some, last.within, next.from) in
        let long : 0 < length part = omega (arith, length-between notes first end next.within, less) in
        let none : first + 0 ≡ first = omega arith in
        let early = front first no_note (omega arith) (omega (arith, some, last.within)) in
        let at : get_or part 0 no_note ≡ get_or notes first no_note = get_or-between notes first end 0 no_note (omega (arith, less)) ∙ ap (λ k. get_or notes k no_note) none in
        inr (get_or part 0 no_note, between 1 (length part) part, first_rest part no_note long, omega (arith, early, ap (λ (n : Note). n.onset) at))
