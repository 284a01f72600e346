-- What is said before a barline: the key, the signature and the tempo of the bar, where they differ from those before.
use Rattle.std.specs.Prelude.{ℕ, ℤ, pos, negsuc, ◌+◌, ◌*◌, if◌then◌else◌, List, [], ◌∷◌, ◌++◌, codes, decimal, take, Option, Some, None}
use Rattle.derivation.specs.declared.score.ScoreBar.{ScoreBar}
use Rattle.score_words.specs.Changes.{key_before, quarters_of_minute, same_key, same_signature, same_tempo}

-- ---- texts

-- the names of n sharps are the first n of these, each of two letters, and those of flats likewise
abbrev pub accidentals : ℤ → List ℕ
accidentals (pos n) = take (2 * n) (codes "f#c#g#d#a#e#b#")
accidentals (negsuc n) = take (2 * (n + 1)) (codes "b-e-a-d-g-c-f-")

abbrev pub key_text : ℤ → List ℕ
key_text sf = codes "*k[" ++ accidentals sf ++ codes "]"

abbrev pub signature_text : ScoreBar → List ℕ
signature_text bar = codes "*M" ++ decimal bar.num ++ codes "/" ++ decimal bar.den

abbrev pub tempo_text : ScoreBar → List ℕ
tempo_text bar = codes "*MM" ++ decimal (quarters_of_minute bar.tempo)

-- ---- what has changed since the bar before; before the first bar everything has

-- no key is said while there is none
abbrev pub key_change : Option ℤ → Option ℤ → List (List ℕ)
key_change before None = []
key_change before (Some sf) = if same_key before sf then [] else key_text sf ∷ []

abbrev pub signature_change : Option ScoreBar → ScoreBar → List (List ℕ)
signature_change before bar = if same_signature before bar then [] else signature_text bar ∷ []

abbrev pub tempo_change : Option ScoreBar → ScoreBar → List (List ℕ)
tempo_change before bar = if same_tempo before bar then [] else tempo_text bar ∷ []

-- the texts of the changes before a bar, in their order
abbrev pub changes : Option ScoreBar → ScoreBar → List (List ℕ)
changes before bar = key_change (key_before before) bar.sf ++ signature_change before bar ++ tempo_change before bar
