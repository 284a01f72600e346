-- The notes of a voice are those of one list of chords.
use Rattle.std.proofs.Common.{◌≡◌, ℕ, List, [], ◌∷◌, ◌++◌, subst, refl, sym, ◌∙◌, arith}
use Rattle.std.specs.Prelude.{All}
use Rattle.rhythm_base.specs.declared.chord.Chord.{Chord}
use Rattle.rhythm_base.specs.declared.event.Tempo.{Tempo}
use Rattle.rhythm_base.specs.declared.note.Note.{Note}
use Rattle.rhythm_base.specs.Chords.{AreChords, Joins, StandsApart, chord_of}
use Rattle.rhythm_base.specs.Forest.{more}
use Rattle.rhythm_base.proofs.OrderedLists.{all_head, all_tail}

-- where the notes of a first chord end is told by which of them join
one_split : (tempos : List Tempo) (division window : ℕ) (first : Note) (others others' rest rest' : List Note)
    → All (Joins tempos division window first) others → All (Joins tempos division window first) others'
    → StandsApart tempos division window first rest → StandsApart tempos division window first rest'
    → others ++ rest ≡ others' ++ rest' → (others ≡ others') × (rest ≡ rest')
one_split tempos division window first [] [] rest rest' j j' a a' e = (refl, e)
one_split tempos division window first [] (n ∷ others') rest rest' j j' a a' e =
    let late : StandsApart tempos division window first (n ∷ (others' ++ rest')) = subst (StandsApart tempos division window first) e a in
    absurd (omega (arith, late, all_head (Joins tempos division window first) n others' j'))
one_split tempos division window first (n ∷ others) [] rest rest' j j' a a' e =
    let late : StandsApart tempos division window first (n ∷ (others ++ rest)) = subst (StandsApart tempos division window first) (sym e) a' in
    absurd (omega (arith, late, all_head (Joins tempos division window first) n others j))
one_split tempos division window first (n ∷ others) (m ∷ others') rest rest' j j' a a' e =
    let head : n ≡ m = cc in
    let tail : others ++ rest ≡ others' ++ rest' = cc in
    let J : Note → Type 0 = Joins tempos division window first in
    let more = one_split tempos division window first others others' rest rest' (all_tail J n others j) (all_tail J m others' j') a a' tail in
    ((λ i. head i ∷ more.0 i), more.1)

-- the notes of a voice are those of one list of chords
pub one_chords : (tempos : List Tempo) (division window : ℕ) (notes : List Note) (cs ds : List Chord)
    → AreChords tempos division window notes cs → AreChords tempos division window notes ds → cs ≡ ds
one_chords tempos division window notes [] [] c d = refl
one_chords tempos division window notes [] (x ∷ ds) c d = let wrong : d.0 ∷ (d.1 ++ d.2) ≡ [] = sym d.3 ∙ c in absurd (cc)
one_chords tempos division window notes (x ∷ cs) [] c d = let wrong : c.0 ∷ (c.1 ++ c.2) ≡ [] = sym c.3 ∙ d in absurd (cc)
one_chords tempos division window notes (x ∷ cs) (y ∷ ds) c d =
    let whole : c.0 ∷ (c.1 ++ c.2) ≡ d.0 ∷ (d.1 ++ d.2) = sym c.3 ∙ d.3 in
    let first : c.0 ≡ d.0 = cc in
    let after : c.1 ++ c.2 ≡ d.1 ++ d.2 = cc in
    let joins : All (Joins tempos division window d.0) c.1 = subst (λ n. All (Joins tempos division window n) c.1) first c.4 in
    let apart : StandsApart tempos division window d.0 c.2 = subst (λ n. StandsApart tempos division window n c.2) first c.5 in
    let split = one_split tempos division window d.0 c.1 d.1 c.2 d.2 joins d.4 apart d.5 after in
    let rest = one_chords tempos division window d.2 cs ds (subst (λ l. AreChords tempos division window l cs) split.1 c.7) d.7 in
    let head : x ≡ y = c.6 ∙ (λ i. chord_of (first i) (split.0 i)) ∙ sym d.6 in
    λ i. head i ∷ rest i
