-- The text of a performance of two bars and two voices, computed by the definition.
use Rattle.std.proofs.Common.{lit<}
use Rattle.std.specs.Prelude.{◌≡◌, ℕ, negsuc, pos, List, [], ◌∷◌, ◌++◌, codes, refl}
use Rattle.std.specs.Cmp.Lexicographic.{slice_cmp}
use Rattle.std.specs.Fmt.{digits}
use Rattle.std.specs.Ordering.{nat_cmp}
use Rattle.std.specs.declared.cmp.Ordering.TheVariants.{Less}
use Rattle.std.proofs.lemmas.List.Elements.{All-cons, All-nil}
use Rattle.std.proofs.lemmas.List.Kept.{AllPairs-cons}
use Rattle.rhythm_base.specs.declared.note.Note.{Note}
use Rattle.rhythm_base.specs.Performance.{Performance}
use Rattle.rhythm_base.proofs.OrderedLists.{pairs_nil}
use Rattle.notes_writer.specs.ByOnset.{AreByOnset, place_in_text}
use Rattle.notes_writer.specs.NotesText.{IsNotesText}

abbrev first : Note
first = record { channel = 0; key = 60; onset = 0; end = 480 }

abbrev second : Note
second = record { channel = 0; key = 64; onset = 480; end = 960 }

abbrev bass : Note
bass = record { channel = 1; key = 48; onset = 0; end = 1920 }

abbrev piece : Performance
piece = record {
  division = 480;
  tempos = record { tick = 0; micros = 500000 } ∷ [];
  key_marks = record { tick = 0; sf = negsuc 2 } ∷ record { tick = 1920; sf = pos 1 } ∷ [];
  bars = record { start = 0; num = 4; den = 4 } ∷ record { start = 1920; num = 3; den = 4 } ∷ [];
  last = 3360;
  channels = 0 ∷ 1 ∷ [];
  notes = first ∷ second ∷ bass ∷ [];
  pins = [];
}

abbrev IsBefore : Note → Note → Type 0
IsBefore m n = slice_cmp nat_cmp (place_in_text m) (place_in_text n) ≡ Less

-- the bass begins with the first note, so it is written before the second
sorted : AreByOnset piece.notes (first ∷ bass ∷ second ∷ [])
sorted =
    let of_first = All-cons (IsBefore first) bass (second ∷ []) refl (All-cons (IsBefore first) second [] refl (All-nil (IsBefore first))) in
    let of_bass = All-cons (IsBefore bass) second [] refl (All-nil (IsBefore bass)) in
    let last = AllPairs-cons IsBefore second [] (All-nil (IsBefore second)) (pairs_nil IsBefore) in
    let later = AllPairs-cons IsBefore bass (second ∷ []) of_bass last in
    record {
      same = record { moves = (1, 2) ∷ []; below = (lit< tt, lit< tt, tt); is = refl };
      in_order = AllPairs-cons IsBefore first (bass ∷ second ∷ []) of_first later;
    }

-- the numbers of the bars, the sign of three flats, and the order of the notes are seen here
abbrev text : List ℕ
text =
    codes "bar 0 0 4/4\nbar 1 1920 3/4\ntempo 0 500000\nkey 0 -3\nkey 1920 1\n"
    ++ codes "note 0 60 0 480\nnote 1 48 0 1920\nnote 0 64 480 960\nend 3360\n"

computed : IsNotesText piece text
unfolding digits
computed = (first ∷ bass ∷ second ∷ [], sorted, refl)
