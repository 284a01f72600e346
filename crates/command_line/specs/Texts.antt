-- Texts for the program's user.
use Rattle.std.specs.Prelude.{ℕ, ◌==◌, Bool, List, [], ◌∷◌, ◌++◌, codes, length, nat_le}
use Rattle.std.specs.List.{list_all, slice_split}
use Rattle.command_line.specs.OptionTable.{recording_lines}

-- no line of the text is longer than 80 bytes
abbrev pub has_narrow_lines : List ℕ → Bool
has_narrow_lines text = list_all (λ line. nat_le (length line) 80) (slice_split (λ byte. byte == 10) text)

-- lines one after another, each with its newline
abbrev pub text_of_lines : List (List ℕ) → List ℕ
text_of_lines [] = []
text_of_lines (line ∷ lines) = line ++ 10 ∷ text_of_lines lines

-- how the program is called: the commands with what each reads and writes, and the options
abbrev pub calling_lines : List (List ℕ)
calling_lines =
    codes "Usage: rhythm [OPTION...] COMMAND ARGUMENT..."
    ∷ []
    ∷ codes "Turns a performance, a Standard MIDI File, into notation in Humdrum **kern, by"
    ∷ codes "a file of weighted rhythm rules."
    ∷ []
    ∷ codes "Commands:"
    ∷ codes "  transcribe MIDI GRAMMAR   Reads a MIDI file and a grammar file, and writes the"
    ∷ codes "                            score."
    ∷ codes "  page MIDI GRAMMAR         Reads the two files, and writes the score as a page:"
    ∷ codes "                            a text that LilyPond engraves as it is."
    ∷ codes "  musicxml MIDI GRAMMAR     Reads the two files, and writes the score for score"
    ∷ codes "                            editors, as MusicXML."
    ∷ codes "  lily MIDI GRAMMAR         Reads the two files, and writes the events of the"
    ∷ codes "                            score as LilyPond text, for other programs."
    ∷ codes "  render MIDI GRAMMAR       Reads the two files, and writes the score as a MIDI"
    ∷ codes "                            file: each note where it is notated."
    ∷ codes "  edit MIDI GRAMMAR         Reads the two files and then, on standard input, an"
    ∷ codes "                            edit script; writes a reply to each line."
    ∷ codes "  studio MIDI GRAMMAR       The same, where the script can take edits back, and"
    ∷ codes "                            make them again: with the lines undo and redo."
    ∷ codes "  fit MIDI GRAMMAR BAR LOW HIGH STEP"
    ∷ codes "                            Reads the two files, tries ticks from LOW to HIGH"
    ∷ codes "                            for the barline BAR, and writes the best one, its"
    ∷ codes "                            cost and the score. BAR is 0 to 4096, the ticks are"
    ∷ codes "                            0 to 2000000000, and so is STEP, but at least 1."
    ∷ codes "  follow MIDI GRAMMAR       Reads the two files, and writes the edit script that"
    ∷ codes "                            moves the barlines to where the player has them;"
    ∷ codes "                            nothing where too little is gained by that."
    ∷ codes "  learn BIT GRAMMAR MIDI... Reads a grammar file and up to 256 MIDI files, and"
    ∷ codes "                            writes the grammar with weights that are learned"
    ∷ codes "                            from these: a rule that is used half as often as"
    ∷ codes "                            another costs BIT more. BIT is 1 to 10000."
    ∷ codes "  notes MIDI                Reads a MIDI file, and writes its bars, tempos, keys"
    ∷ codes "                            and notes, each on a line of its own."
    ∷ codes "  events KERN               Reads a **kern file, and writes each note and chord"
    ∷ codes "                            on a line of its own."
    ∷ codes "  generate NUMBER BARS      Reads nothing, and writes a MIDI file that is made"
    ∷ codes "                            from NUMBER, 0 to 65534, with BARS bars, 1 to 2000."
    ∷ codes "  drill NUMBER GRAMMAR      Reads a grammar file, edits a large piece that is"
    ∷ codes "                            made from NUMBER, 0 to 65534, and writes a summary."
    ∷ []
    ∷ codes "Answers are written on standard output. With a status other than 0 a line on"
    ∷ codes "standard error says why; with status 1 two more help to mend the words."
    ∷ []
    ∷ codes "Options:"
    ∷ codes "  --workers N     Works with N threads, 1 to 16; 1 where it is not given. The"
    ∷ codes "                  output is the same for every number."
    ∷ codes "  -h, --help      Writes this text."
    ∷ codes "  -V, --version   Writes the version."
    ∷ []
    ∷ codes "Of what was recorded, for the commands on MIDI and GRAMMAR, and for notes:"
    ∷ []

-- the statuses
abbrev pub status_lines : List (List ℕ)
status_lines =
    codes "Status:"
    ∷ codes "  0   done"
    ∷ codes "  1   the words are no command"
    ∷ codes "  2   a file is refused"
    ∷ codes "  3   a voice has no derivation that fits"
    ∷ codes "  4   something is above its limit"
    ∷ codes "  5   a file or the script could not be read"
    ∷ codes "  6   standard output could not be written"
    ∷ codes "  7   not enough memory"
    ∷ codes "  9   there is no such barline to be fitted, or no tick for it"
    ∷ []

abbrev pub help_lines : List (List ℕ)
help_lines = calling_lines ++ (recording_lines ++ ([] ∷ status_lines))

unfoldable pub help_text : List ℕ
help_text = text_of_lines help_lines

-- the name of the program and its version
unfoldable pub version_text : List ℕ
version_text = text_of_lines (codes "rhythm 1.5" ∷ [])
