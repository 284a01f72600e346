-- A break is where a note begins more than the window after the note before it.
use Rattle.std.proofs.Common.{◌≡◌, ℕ, ◌+◌, ◌*◌, ◌<◌, ◌≤◌, ◌-◌, ◌↔◌, IsTrue, nat_lt, List, length, get_or, take, sym, ap, ◌∙◌, subst, inl, inr, arith}
use Rattle.std.proofs.lemmas.Bool.{cases_lt}
use Rattle.std.proofs.lemmas.Bool.Decides.{nat_tests}
use Rattle.std.proofs.lemmas.List.{drop_all, drop_more, get_or-take, get_or_default, length-take-le}
use Rattle.rhythm_base.specs.declared.event.Tempo.{Tempo}
use Rattle.rhythm_base.specs.declared.note.Note.{Note}
use Rattle.rhythm_base.specs.Chords.{StandsApart}
use Rattle.rhythm_base.specs.Time.{time}
use Rattle.performance_laws.proofs.ChordLemmas.{time_rises}
use Rattle.voices.specs.Breaks.{IsBreak}
use Rattle.voices.specs.Voice.{AreNotesOfVoice}
use Rattle.voices.proofs.Gathered.{comes}

-- the notes of a voice do not fall
pub notes_rise : (notes : List Note) (i k : ℕ) (d : Note) → AreNotesOfVoice notes → i ≤ k → k < length notes → (get_or notes i d).onset ≤ (get_or notes k d).onset
notes_rise notes i k d v le within = elim (cases_lt i k) [
  | inl lt ↦ comes (get_or notes i d) (get_or notes k d) (v.channel i k d lt within) (v.in_order i k d lt within)
  | inr ge ↦ let same : i ≡ k = omega (arith, le, ge) in omega (arith, ap (λ j. (get_or notes j d).onset) same)
]

module _ (tempos : List Tempo) (division window : ℕ) (notes : List Note) where
  pub break_first : IsBreak tempos division window notes 0
  break_first k d lt = absurd (omega (arith, lt))

  pub break_end : (place : ℕ) → length notes ≤ place → IsBreak tempos division window notes place
  break_end place le k d lt = subst (StandsApart tempos division window (get_or (take place notes) k d)) (sym (drop_all place notes le)) tt

  -- notes so far apart
  abbrev pub HasGap : ℕ → Note → Type 0
  HasGap i d = time tempos (get_or notes i d).onset + window * division < time tempos (get_or notes (i + 1) d).onset

  pub break_there : (i : ℕ) (d : Note) → AreNotesOfVoice notes → i + 1 < length notes → HasGap i d → IsBreak tempos division window notes (i + 1)
  break_there i d v within gap k e lt =
      let few : k < i + 1 = omega (arith, lt, length-take-le (i + 1) notes (omega (arith, within))) in
      let same : get_or (take (i + 1) notes) k e ≡ get_or notes k e = get_or-take (i + 1) notes k e few in
      let at : get_or notes k e ≡ get_or notes k d = get_or_default notes k e d (omega (arith, few, within)) in
      let rise = time_rises tempos (get_or notes k d).onset (get_or notes i d).onset (notes_rise notes k i d v (omega (arith, few)) (omega (arith, within))) in
      let before : time tempos (get_or notes k d).onset + window * division < time tempos (get_or notes (i + 1) d).onset = omega (arith, rise, gap) in
      subst (λ l. StandsApart tempos division window (get_or (take (i + 1) notes) k e) l) (sym (drop_more notes (i + 1) d within))
      (subst (λ (n : Note). time tempos n.onset + window * division < time tempos (get_or notes (i + 1) d).onset) (sym (same ∙ at)) before)

  pub gap_there : (i : ℕ) (d : Note) → i + 1 < length notes → IsBreak tempos division window notes (i + 1) → HasGap i d
  gap_there i d within break =
      let here = break i d (omega (arith, length-take-le (i + 1) notes (omega (arith, within)))) in
      let apart = subst (λ l. StandsApart tempos division window (get_or (take (i + 1) notes) i d) l) (drop_more notes (i + 1) d within) here in
      subst (λ (n : Note). time tempos n.onset + window * division < time tempos (get_or notes (i + 1) d).onset) (get_or-take (i + 1) notes i d (omega arith)) apart

  -- the test of a place between two notes, by their times
  pub break_test : (place : ℕ) (d : Note) (first next wide : ℕ) → AreNotesOfVoice notes → (place ≡ 0 → ⊥) → place < length notes
      → first ≡ time tempos (get_or notes (place - 1) d).onset → next ≡ time tempos (get_or notes place d).onset → wide ≡ window * division
      → IsTrue (nat_lt wide (next - first)) ↔ IsBreak tempos division window notes place
  break_test place d first next wide v some within first_is next_is wide_is = (there, back)
    where
      i : ℕ
      i = place - 1

      at : i + 1 ≡ place
      at = omega (arith, some)

      next_at : next ≡ time tempos (get_or notes (i + 1) d).onset
      next_at = next_is ∙ ap (λ k. time tempos (get_or notes k d).onset) (sym at)

      there : IsTrue (nat_lt wide (next - first)) → IsBreak tempos division window notes place
      there h =
          let far : wide < next - first = grind (arith, nat_tests, h) in
          subst (IsBreak tempos division window notes) at (break_there i d v (omega (arith, at, within)) (omega (arith, far, first_is, next_at, wide_is)))

      back : IsBreak tempos division window notes place → IsTrue (nat_lt wide (next - first))
      back h =
          let gap = gap_there i d (omega (arith, at, within)) (subst (IsBreak tempos division window notes) (sym at) h) in
          let far : wide < next - first = omega (arith, gap, first_is, next_at, wide_is) in
          grind (arith, nat_tests, far)
