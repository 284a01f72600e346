-- What LilyPond is told before a bar: its key, its signature and its tempo, where they differ from those of the bar before.
use Rattle.std.specs.Prelude.{ℕ, ℤ, pos, negsuc, ◌+◌, ◌-◌, ◌==◌, Bool, if◌then◌else◌, List, [], ◌∷◌, ◌++◌, codes, decimal, slice_index_or, Option, Some, None}
use Rattle.std.specs.List.{slice_split}
use Rattle.derivation.specs.declared.score.ScoreBar.{ScoreBar}
use Rattle.score_words.specs.Changes.{key_before, quarters_of_minute, same_key, same_signature, same_tempo}

-- whether a key is minor is not known: the signature is that of a major key. The major keys of seven flats to seven sharps
abbrev pub key_names : List (List ℕ)
key_names = slice_split (λ b. b == 32) (codes "ces ges des aes ees bes f c g d a e b fis cis")

-- by the sharps of its signature, flats below 0
abbrev pub key_number : ℤ → ℕ
key_number (pos n) = 7 + n
key_number (negsuc n) = 6 - n

abbrev pub key_name : ℤ → List ℕ
key_name sf = slice_index_or key_names (key_number sf) []

abbrev pub lily_key : ℤ → List ℕ
lily_key sf = codes "\\key " ++ key_name sf ++ codes " \\major"

abbrev pub time_line : ScoreBar → List ℕ
time_line bar = codes "\\time " ++ decimal bar.num ++ codes "/" ++ decimal bar.den

abbrev pub lily_tempo : ScoreBar → List ℕ
lily_tempo bar = codes "\\tempo 4 = " ++ decimal (quarters_of_minute bar.tempo)

-- no key is said while there is none
abbrev pub lily_key_lines : Option ℤ → Option ℤ → List (List ℕ)
lily_key_lines before None = []
lily_key_lines before (Some sf) = if same_key before sf then [] else lily_key sf ∷ []

abbrev pub time_change : Option ScoreBar → ScoreBar → List (List ℕ)
time_change before bar = if same_signature before bar then [] else time_line bar ∷ []

-- a tempo that is rounded to the same number has not changed
abbrev pub lily_tempo_lines : Option ScoreBar → ScoreBar → List (List ℕ)
lily_tempo_lines before bar = if same_tempo before bar then [] else lily_tempo bar ∷ []

-- the lines before a bar, in their order. Tempos are said in the first staff alone
abbrev pub lily_changes : Bool → Option ScoreBar → ScoreBar → List (List ℕ)
lily_changes first before bar =
    lily_key_lines (key_before before) bar.sf ++ time_change before bar ++ (if first then lily_tempo_lines before bar else [])
