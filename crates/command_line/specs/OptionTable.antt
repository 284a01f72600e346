-- The options of the command line, in one table.
use Rattle.std.specs.Prelude.{ℕ, List, [], ◌∷◌, codes, Option, Some, None, option_map}
use Rattle.command_line.specs.declared.option_table.OptionRow as code

-- an option: its name, and what its word must be, where one follows it
pub record OptionRow : Type 0 where
  pub name : List ℕ
  pub word : Option (List ℕ)

-- a row of the code as contracts see it
abbrev pub shown_row : code.OptionRow → OptionRow
shown_row row = record { name = row.name.now; word = option_map (λ s. s.now) row.word }

-- an option that takes one word, and what this must be
abbrev pub with_word : List ℕ → List ℕ → OptionRow
with_word name word = record { name = name; word = Some word }

-- an option that takes no word
abbrev pub alone : List ℕ → OptionRow
alone name = record { name = name; word = None }

-- all options, in their order
abbrev pub options : List OptionRow
options =
    with_word (codes "workers") (codes "a number from 1 to 16")
    ∷ alone (codes "no-drums")
    ∷ with_word (codes "split") (codes "a key from 1 to 127")
    ∷ with_word (codes "hands") (codes "a channel from 0 to 15, but not that of drums, 9")
    ∷ with_word (codes "strum") (codes "milliseconds, from 1 to 100")
    ∷ with_word (codes "meter") (codes "a signature as 3/4: a number from 1 to 64, over 1, 2, 4, 8, 16, 32 or 64")
    ∷ with_word (codes "tempo") (codes "quarters a minute, from 1 to 1000")
    ∷ with_word (codes "upbeat") (codes "a length as 1/4: a number from 0 to 64, over 1, 2, 4, 8, 16, 32 or 64")
    ∷ with_word (codes "key") (codes "a number of sharps from 0 to 7, or one of flats as in --key=-3")
    ∷ with_word (codes "script") (codes "the name of a file")
    ∷ []

-- what the help says of those for recordings
abbrev pub recording_lines : List (List ℕ)
recording_lines =
    codes "  --no-drums      Channel 9, the drums, is left out."
    ∷ codes "  --split KEY     The notes below KEY, 1 to 127, are the other hand: 60 is"
    ∷ codes "                  middle C."
    ∷ codes "  --hands CHANNEL Two hands that played in CHANNEL, 0 to 15 but 9, are parted."
    ∷ codes "  --strum MS      Notes at most MS milliseconds, 1 to 100, one after the other,"
    ∷ codes "                  that sound on, are one chord."
    ∷ codes "  --meter N/D     It is in N/D: N is 1 to 64, D is 1, 2, 4, 8, 16, 32 or 64."
    ∷ codes "  --tempo Q       It was played at Q quarters a minute, 1 to 1000."
    ∷ codes "  --upbeat N/D    The first note is N/D of a whole note before a barline."
    ∷ codes "  --key SF        It has SF sharps, 0 to 7; flats are told as in --key=-3."
    ∷ codes "  --script FILE   The edits of an edit script are made first; not for notes."
    ∷ []
