-- The notes of a voice are the notes of one channel, in their order.
use Rattle.std.proofs.Common.{◌≡◌, ℕ, ◌<◌, ◌∙◌, sym, true, get_or, length, arith}
use Rattle.std.specs.Prelude.{◌==◌, All}
use Rattle.std.proofs.lemmas.Bool.Decides.{nat_tests}
use Rattle.std.proofs.lemmas.List.Elements.{All-filter, filter_passes}
use Rattle.std.proofs.lemmas.List.Kept.{AllPairs-filter}
use Rattle.rhythm_base.specs.declared.note.Note.{Note}
use Rattle.rhythm_base.specs.Performance.{IsNoteOf, IsWellFormed, Performance, place_of_note}
use Rattle.rhythm_base.specs.Voices.{notes_of_voice}
use Rattle.std.specs.Cmp.Lexicographic.{slice_cmp}
use Rattle.std.specs.Ordering.{nat_cmp}
use Rattle.std.specs.declared.cmp.Ordering.TheVariants.{Less}
use Rattle.voices.specs.Voice.{AreNotesOfVoice}

equal : (a b : ℕ) → (a == b) ≡ true → a ≡ b
equal a b h = grind (arith, nat_tests, h)

pub notes_are_voice : (p : Performance) (channel : ℕ) → IsWellFormed p → AreNotesOfVoice (notes_of_voice p channel)
notes_are_voice p channel w = record {
  channel = λ i j d lt within. same i d (omega (arith, lt, within)) ∙ sym (same j d within);
  in_order = AllPairs-filter (λ x y. slice_cmp nat_cmp (place_of_note x) (place_of_note y) ≡ Less) (λ n. n.channel == channel) p.notes w.notes_in_order;
  each = λ k d lt. let note = notes k d lt in record {
    key = note.key;
    onset = omega (arith, note.onset, w.last_barline);
    end = omega (arith, note.end, w.last_barline);
  };
}
  where
    notes : All (IsNoteOf p.channels p.last) (notes_of_voice p channel)
    notes = All-filter (λ n. n.channel == channel) (IsNoteOf p.channels p.last) p.notes w.notes

    same : (k : ℕ) (d : Note) → k < length (notes_of_voice p channel) → (get_or (notes_of_voice p channel) k d).channel ≡ channel
    same k d lt = equal (get_or (notes_of_voice p channel) k d).channel channel (filter_passes (λ n. n.channel == channel) p.notes k d lt)
