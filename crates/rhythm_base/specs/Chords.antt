-- The chords of a voice: notes that begin so near together that they are one.
use Rattle.std.specs.Prelude.{◌≡◌, ℕ, ◌+◌, ◌*◌, ◌^◌, ◌≤◌, ◌<◌, List, [], ◌∷◌, ◌++◌, All, max, bit_or, fold, ⊤}
use Rattle.rhythm_base.specs.declared.chord.Chord.{Chord}
use Rattle.rhythm_base.specs.declared.event.Tempo.{Tempo}
use Rattle.rhythm_base.specs.declared.note.Note.{Note}
use Rattle.rhythm_base.specs.Time.{time}

-- a note joins the chord of a first note where its time is at most the window later, in microseconds times the division
abbrev pub Joins : List Tempo → ℕ → ℕ → Note → Note → Type 0
Joins tempos division window first n = time tempos n.onset ≤ time tempos first.onset + window * division

-- the next note does not join
abbrev pub StandsApart : List Tempo → ℕ → ℕ → Note → List Note → Type 0
StandsApart tempos division window first [] = ⊤
StandsApart tempos division window first (n ∷ notes) = time tempos first.onset + window * division < time tempos n.onset

-- a chord begins with its first note, ends with its last end, and has the keys of all its notes
abbrev pub chord_of : Note → List Note → Chord
chord_of first others = record {
  onset = first.onset;
  end = fold (λ e n. max e n.end) first.end others;
  keys = fold (λ k n. bit_or k (2 ^ n.key)) (2 ^ first.key) others;
}

-- the notes of a voice, in order, are those of the chords: each chord has a first note, the notes that join it, and no more
abbrev pub AreChords : List Tempo → ℕ → ℕ → List Note → List Chord → Type 0
AreChords tempos division window notes [] = notes ≡ []
AreChords tempos division window notes (c ∷ cs) =
    (first : Note) × (others : List Note) × (rest : List Note)
    × (notes ≡ first ∷ (others ++ rest))
    × All (Joins tempos division window first) others
    × StandsApart tempos division window first rest
    × (c ≡ chord_of first others)
    × AreChords tempos division window rest cs
