-- The chords of notes that are cut at a break are the chords of each part.
use Rattle.std.proofs.Common.{◌≡◌, ℕ, List, [], ◌∷◌, ◌++◌, append_assoc, refl, sym, ap, ◌∙◌, subst}
use Rattle.std.specs.Prelude.{All}
use Rattle.rhythm_base.specs.declared.chord.Chord.{Chord}
use Rattle.rhythm_base.specs.declared.event.Tempo.{Tempo}
use Rattle.rhythm_base.specs.declared.note.Note.{Note}
use Rattle.rhythm_base.specs.Chords.{AreChords, StandsApart}
use Rattle.performance_laws.proofs.ChordLemmas.{all_right}
use Rattle.rhythm_base.proofs.OrderedLists.{all_head, all_tail}

module _ (tempos : List Tempo) (division window : ℕ) where
  -- the second notes stand apart from each of the first
  abbrev pub AreApart : List Note → List Note → Type 0
  AreApart notes later = All (λ n. StandsApart tempos division window n later) notes

  stands_on : (f : Note) (notes later : List Note) → StandsApart tempos division window f notes → StandsApart tempos division window f later
      → StandsApart tempos division window f (notes ++ later)
  stands_on f [] later near far = far
  stands_on f (n ∷ notes) later near far = near

  pub chords_joined : (notes later : List Note) (cs ds : List Chord) → AreChords tempos division window notes cs → AreChords tempos division window later ds
      → AreApart notes later → AreChords tempos division window (notes ++ later) (cs ++ ds)
  chords_joined notes later [] ds h k apart = subst (λ l. AreChords tempos division window (l ++ later) ds) (sym h) k
  chords_joined notes later (c ∷ cs) ds (f, xs, us, e, p, a, m, h) k apart =
      let P : Note → Type 0 = λ n. StandsApart tempos division window n later in
      let parts : All P (f ∷ (xs ++ us)) = subst (All P) e apart in
      let rest : All P us = all_right P xs us (all_tail P f (xs ++ us) parts) in
      (f, xs, us ++ later, ap (λ l. l ++ later) e ∙ ap (λ l. f ∷ l) (append_assoc xs us later), p, stands_on f us later a (all_head P f (xs ++ us) parts), m, chords_joined us later cs ds h k rest)

  -- the first chord begins with the first note
  pub first_chord : (n : Note) (notes : List Note) (cs : List Chord) → AreChords tempos division window (n ∷ notes) cs
      → (c : Chord) × (others : List Chord) × (cs ≡ c ∷ others) × (c.onset ≡ n.onset)
  first_chord n notes [] h = absurd (cc)
  first_chord n notes (c ∷ cs) (f, xs, us, e, p, a, m, h) =
      let same : n ≡ f = cc in
      (c, cs, refl, ap (λ (x : Chord). x.onset) m ∙ ap (λ (x : Note). x.onset) (sym same))
