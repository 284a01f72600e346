-- Each list of notes has chords.
use Rattle.std.proofs.Common.{◌≡◌, ℕ, zero, suc, ◌+◌, ◌*◌, ◌≤◌, List, [], ◌∷◌, ◌++◌, length, refl, ap, inl, inr, arith}
use Rattle.std.specs.Prelude.{All}
use Rattle.std.proofs.lemmas.Bool.{cases_lt}
use Rattle.std.proofs.lemmas.List.{length-append}
use Rattle.std.proofs.lemmas.List.Elements.{All-nil}
use Rattle.rhythm_base.specs.declared.chord.Chord.{Chord}
use Rattle.rhythm_base.specs.declared.event.Tempo.{Tempo}
use Rattle.rhythm_base.specs.declared.note.Note.{Note}
use Rattle.rhythm_base.specs.Chords.{AreChords, Joins, StandsApart, chord_of}
use Rattle.rhythm_base.specs.Grammar.{Grammar}
use Rattle.rhythm_base.specs.Performance.{Performance}
use Rattle.rhythm_base.specs.Time.{time}
use Rattle.rhythm_base.specs.Voices.{AreChordsOf, notes_of_voice}
use Rattle.rhythm_base.proofs.OrderedLists.{all_cons}

module _ (tempos : List Tempo) (division window : ℕ) where
  -- the notes that join the chord of a first note, up to one that does not
  joining : (first : Note) (notes : List Note)
      → (others : List Note) × (rest : List Note) × (notes ≡ others ++ rest) × All (Joins tempos division window first) others × StandsApart tempos division window first rest
  joining first [] = ([], [], refl, All-nil (Joins tempos division window first), tt)
  joining first (n ∷ notes) = elim (cases_lt (time tempos first.onset + window * division) (time tempos n.onset)) [
    | inl apart ↦ ([], n ∷ notes, refl, All-nil (Joins tempos division window first), apart)
    | inr joins ↦
        let more = joining first notes in
        (n ∷ more.0, more.1, ap (λ l. n ∷ l) more.2, all_cons (Joins tempos division window first) n more.0 joins more.3, more.4)
  ]

  -- as many notes as this at most have chords
  chords_within : (most : ℕ) (notes : List Note) → length notes ≤ most → (cs : List Chord) × AreChords tempos division window notes cs
  chords_within most [] few = ([], refl)
  chords_within zero (n ∷ notes) few = absurd (omega (arith, few))
  chords_within (suc most) (n ∷ notes) few =
      let own = joining n notes in
      let rest = chords_within most own.1 (omega (arith, few, ap length own.2, length-append own.0 own.1)) in
      (chord_of n own.0 ∷ rest.0, (n, own.0, own.1, ap (λ l. n ∷ l) own.2, own.3, own.4, refl, rest.1))

-- so does each list of notes, and each voice
pub chords_of_notes : (tempos : List Tempo) (division window : ℕ) (notes : List Note) → (cs : List Chord) × AreChords tempos division window notes cs
chords_of_notes tempos division window notes = chords_within tempos division window (length notes) notes (omega arith)

pub some_chords : (g : Grammar) (p : Performance) (channel : ℕ) → (cs : List Chord) × AreChordsOf g p channel cs
some_chords g p channel = chords_of_notes p.tempos p.division g.window (notes_of_voice p channel)
