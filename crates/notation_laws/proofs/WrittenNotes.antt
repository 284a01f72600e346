-- The notes of a voice can be written.
use Rattle.std.proofs.Common.{◌≡◌, ℕ, ◌*◌, List, [], ◌∷◌, ◌++◌}
use Rattle.std.specs.Prelude.{All}
use Rattle.std.proofs.lemmas.List.Elements.{All-cons, All-head, All-nil, All-tail}
use Rattle.durations.specs.Value.{parts, value_grid}
use Rattle.notation.specs.declared.note.Ratio.{Ratio}
use Rattle.notation.specs.Notes.{Group, Note}
use Rattle.notation.specs.Places.{whole_of}
use Rattle.notation_laws.specs.Laws.{NotesCanBeWritten}
use Rattle.notation_laws.specs.NotesHeard.{group_notes}
use Rattle.notation_laws.specs.Written.{IsWrittenGroup, IsWrittenNote}
use Rattle.notation_laws.proofs.SpelledNotes.{IsOfValue, IsSpelled, voice_spelled}
use Rattle.notation_laws.proofs.SungNotes.{AreSung, IsSungNote, voice_sung}
use Rattle.notation_laws.proofs.VoiceHeard.{all_front}

all_back : {X : Type 0} (P : X → Type 0) (xs ys : List X) → All P (xs ++ ys) → All P ys
all_back P [] ys all = all
all_back P (x ∷ xs) ys all = all_back P xs ys (All-tail P x (xs ++ ys) all)

module _ (r : ℕ) where
  abbrev IsLong : Ratio → Note → Type 0
  IsLong ratio n = n.duration * (value_grid n.value * ratio.actual) ≡ parts n.value * (whole_of r * ratio.normal)

  notes_written : (ratio : Ratio) (notes : List Note) → All IsOfValue notes → All (IsLong ratio) notes → All IsSungNote notes
      → All (IsWrittenNote r ratio) notes
  notes_written ratio [] values long sung = All-nil (IsWrittenNote r ratio)
  notes_written ratio (n ∷ notes) values long sung =
      let own = All-head IsSungNote n notes sung in
      All-cons (IsWrittenNote r ratio) n notes
      (record {
        value = All-head IsOfValue n notes values;
        long = All-head
            (IsLong ratio) n notes long;
        keys = own.keys;
        graces = own.graces;
      })
      (notes_written ratio notes (All-tail IsOfValue n notes values) (All-tail (IsLong ratio) n notes long)
      (All-tail IsSungNote n notes sung))

  groups_written : (groups : List Group) → All (IsSpelled r) groups → AreSung groups → All (IsWrittenGroup r) groups
  groups_written [] spelled sung = All-nil (IsWrittenGroup r)
  groups_written (g ∷ groups) spelled sung =
      let own = All-head (IsSpelled r) g groups spelled in
      All-cons (IsWrittenGroup r) g groups
      (record {
        some_actual = own.some_actual;
        few_actual = own.few_actual;
        some_normal = own.some_normal;
        few_normal = own.few_normal;
        notes = notes_written g.ratio g.notes own.values own.long (all_front IsSungNote g.notes (group_notes groups) sung);
      })
      (groups_written groups (All-tail (IsSpelled r) g groups spelled) (all_back IsSungNote g.notes (group_notes groups) sung))

  bars_written : (all : List (List Group)) → All (All (IsSpelled r)) all → All AreSung all → All (All (IsWrittenGroup r)) all
  bars_written [] spelled sung = All-nil (All (IsWrittenGroup r))
  bars_written (groups ∷ all) spelled sung =
      All-cons (All (IsWrittenGroup r)) groups all
      (groups_written groups (All-head (All (IsSpelled r)) groups all spelled) (All-head AreSung groups all sung))
      (bars_written all (All-tail (All (IsSpelled r)) groups all spelled) (All-tail AreSung groups all sung))

pub notes_can_be_written : NotesCanBeWritten
notes_can_be_written r bars sounds all voice groups =
    bars_written r all (voice_spelled r 0 bars sounds all voice.some_unit voice.few_units groups)
    (voice_sung r bars sounds all voice groups)
