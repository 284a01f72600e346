-- What the text of a performance tells of it.
use Rattle.std.proofs.Common.{◌≡◌, ℕ, ◌<◌, List, sym, ◌∙◌, subst, arith}
use Rattle.std.specs.Prelude.{Any, Contains}
use Rattle.std.specs.List.Sorted.{IsPermutation}
use Rattle.std.proofs.lemmas.List.Kept.{AllPairs-from_increasing}
use Rattle.std.proofs.lemmas.List.Sorted.{IsPermutation-sym, IsPermutation-trans}
use Rattle.rhythm_base.specs.declared.note.Note.{Note}
use Rattle.rhythm_base.specs.Performance.{IsNoteOf, IsWellFormed, Performance, place_of_note}
use Rattle.rhythm_base.proofs.FirstLists.{all_contained, one_order}
use Rattle.notes_writer.specs.Laws.{TextsTellPerformances}
use Rattle.notes_writer.specs.Told.{HasNoteOfEachVoice}
use Rattle.notes_writer.proofs.Numbered.{unnumbered}
use Rattle.notes_writer.proofs.OneDivision.{same_division}
use Rattle.notes_writer.proofs.OneOrder.{one_in_order}
use Rattle.notes_writer.proofs.SmallNumbers.{small_numbers}
use Rattle.notes_writer.proofs.TextsApart.{AreAlike, texts_apart}

-- a voice with a note has it in any performance with the same notes
voice_of : (p q : Performance) → IsWellFormed q → p.notes ≡ q.notes → HasNoteOfEachVoice p → (c : ℕ) → Contains p.channels c → Contains q.channels c
voice_of p q formed same heard c there =
    let note : Any (λ n. n.channel ≡ c) p.notes = all_contained (λ c. Any (λ n. n.channel ≡ c) p.notes) p.channels c heard there in
    let heard_too : Contains q.notes note.1 = subst (λ l. Contains l note.1) same (note.0, note.2, note.3) in
    let of_q : IsNoteOf q.channels q.last note.1 = all_contained (IsNoteOf q.channels q.last) q.notes note.1 formed.notes heard_too in
    subst (Contains q.channels) note.4 of_q.voice

same_channels : (p q : Performance) → IsWellFormed p → IsWellFormed q → p.notes ≡ q.notes → HasNoteOfEachVoice p → HasNoteOfEachVoice q
    → p.channels ≡ q.channels
same_channels p q formed other same h k =
    one_order (λ (c : ℕ) d. c < d) (λ c d a b. omega (arith, a, b)) p.channels q.channels (AllPairs-from_increasing p.channels formed.voices_rise)
    (AllPairs-from_increasing q.channels other.voices_rise) (voice_of p q other same h) (voice_of q p formed (sym same) k)

-- the same notes are listed alike
same_notes : (p q : Performance) (some other : List Note) → IsWellFormed p → IsWellFormed q → IsPermutation p.notes some → IsPermutation q.notes other
    → some ≡ other → p.notes ≡ q.notes
same_notes p q some other formed and_other h k same =
    let P : List Note → Type 0 = λ l. IsPermutation p.notes l in
    one_in_order place_of_note p.notes q.notes formed.notes_in_order and_other.notes_in_order
    (IsPermutation-trans p.notes other q.notes (subst P same h) (IsPermutation-sym q.notes other k))

pub told_alike : TextsTellPerformances
told_alike p q text formed other ticks and_ticks (some, h, a) (list, k, b) =
    let first = small_numbers p some formed ticks h.same in
    let second = small_numbers q list other and_ticks k.same in
    let alike : AreAlike p q some list = texts_apart p q some list first second (sym a ∙ b) in
    let bars : p.bars ≡ q.bars = unnumbered 0 p.bars q.bars alike.bars in
    let notes = same_notes p q some list formed other h.same k.same alike.notes in
    record {
      bars = bars;
      last = alike.last;
      tempos = alike.tempos;
      key_marks = alike.key_marks;
      notes = notes;
      channels = same_channels p q formed other notes;
      division = same_division p q formed other bars alike.last;
    }
