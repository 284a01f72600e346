-- The numbers of a well formed performance have 64 bits.
use Rattle.std.proofs.Common.{ℕ, ◌+◌, ◌<◌, ◌^◌, List, [], ◌∷◌, length, get_or, arith}
use Rattle.std.specs.Prelude.{All, IsTrue}
use Rattle.std.specs.List.{enumerate_from}
use Rattle.std.specs.List.Sorted.{IsPermutation}
use Rattle.std.proofs.lemmas.Bool.Decides.{nat_tests}
use Rattle.std.proofs.lemmas.List.Elements.{All-nil}
use Rattle.std.proofs.lemmas.List.Sorted.{All-permutation}
use Rattle.rhythm_base.specs.declared.note.Bar.{Bar}
use Rattle.rhythm_base.specs.declared.note.Note.{Note}
use Rattle.rhythm_base.specs.Performance.{IsBarOf, IsNoteOf, IsWellFormed, Performance}
use Rattle.rhythm_base.specs.Signatures.{is_den}
use Rattle.rhythm_base.proofs.FirstLists.{all_contained}
use Rattle.rhythm_base.proofs.OrderedLists.{all_cons, all_head, all_tail}
use Rattle.notes_writer.specs.Told.{HasTicksInRange}
use Rattle.notes_writer.proofs.Graphic.{few_sharps}
use Rattle.notes_writer.proofs.LineKinds.{IsSmallBar, IsSmallNote}
use Rattle.notes_writer.proofs.TextsApart.{AreSmall}

small_den : (den : ℕ) → IsTrue (is_den den) → den < 2 ^ 64
small_den den h = grind (arith, nat_tests)

small_bars : (division last : ℕ) → last < 2 ^ 64 → (i : ℕ) (bars : List Bar) → i + length bars < 2 ^ 64 → All (IsBarOf division last) bars
    → All IsSmallBar (enumerate_from i bars)
small_bars division last low i [] few h = All-nil IsSmallBar
small_bars division last low i (b ∷ bars) few h =
    let here : IsBarOf division last b = all_head (IsBarOf division last) b bars h in
    all_cons IsSmallBar (i, b) (enumerate_from (i + 1) bars) record {
      number = omega (arith, few);
      start = omega (arith, here.start, low);
      num = omega (arith, here.signature.few);
      den = small_den b.den here.signature.power;
    }
    (small_bars division last low (i + 1) bars (omega (arith, few)) (all_tail (IsBarOf division last) b bars h))

small_note : (channels : List ℕ) (last : ℕ) (n : Note) → last < 2 ^ 64 → All (λ c. c < 16) channels → IsNoteOf channels last n → IsSmallNote n
small_note channels last n low voices h =
    let channel : n.channel < 16 = all_contained (λ c. c < 16) channels n.channel voices h.voice in
    record {
      channel = omega (arith, channel);
      key = omega (arith, h.key);
      onset = omega (arith, h.onset, low);
      end = omega (arith, h.end, low);
    }

pub small_numbers : (p : Performance) (list : List Note) → IsWellFormed p → HasTicksInRange p → IsPermutation p.notes list → AreSmall p list
small_numbers p list formed ticks same =
    let low : p.last < 2 ^ 64 = omega (arith, formed.last_barline) in
    let notes : All (IsNoteOf p.channels p.last) list = All-permutation (IsNoteOf p.channels p.last) p.notes list same formed.notes in
    record {
      bars = small_bars p.division p.last low 0 p.bars (omega (arith, formed.few_bars)) formed.bars;
      tempos = λ k d within. record { tick = ticks.tempos k d within; micros = omega (arith, (formed.tempos k d within).few) };
      key_marks = λ k d within. record {
        tick = ticks.key_marks k d within;
        sf = few_sharps (get_or p.key_marks k d).sf (formed.key_marks k d within).low (formed.key_marks k d within).high;
      };
      notes = λ k d within. small_note p.channels p.last (get_or list k d) low formed.voices (notes k d within);
      last = low;
    }
