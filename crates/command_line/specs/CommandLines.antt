-- What the words of a command line say.
use Rattle.std.specs.Prelude.{⊤, ℕ, if◌then◌else◌, List, [], ◌∷◌, codes, map, Option, Some, None, option_and_then, option_map, unwrap_or}
use Rattle.std.specs.Borrow.{Bor}
use Rattle.clap.specs.Words.{Row, all_of, found_of, matches_of, rows_of, takes}
use Rattle.clap.specs.declared.error.kind.ErrorKind.{ErrorKind}
use Rattle.clap.specs.declared.error.kind.ErrorKind.TheVariants as kinds
use Rattle.clap.specs.declared.parser.matches.ArgMatches.{ArgMatches}
use Rattle.performance_prepare.specs.Ranges.{AreInRange}
use Rattle.command_line.specs.FlatCommand.{line_app}
use Rattle.command_line.specs.Numbers.{workers_of}
use Rattle.command_line.specs.Preparing.{◌>>=◌, options_of, word_in}
use Rattle.command_line.specs.Requests.{asks, is_help, is_version}
use Rattle.command_line.specs.declared.invocation.CommandLine.{CommandLine}
use Rattle.command_line.specs.declared.invocation.Invocation.{Invocation}
use Rattle.command_line.specs.declared.invocation.Invocation.TheVariants.{Help, Version, Command}
use Rattle.command_line.specs.declared.invocation.WordsFault.{WordsFault}
use Rattle.command_line.specs.declared.invocation.WordsFault.TheVariants.{Memory, Refused}

-- a list of texts as contracts see it
abbrev pub texts : List (Bor (List ℕ)) → List (List ℕ)
texts list = map (λ s. s.now) list

-- an error of `clap` as a fault of the words: it refuses them, or there was not enough memory
abbrev pub words_fault : ErrorKind → WordsFault
words_fault kinds.OutOfMemory = Memory
words_fault _ = Refused

-- what `clap`'s written meaning of the flat command gives, none where it does not take the words
unfoldable pub line_matches : List (List ℕ) → Option (List Row)
line_matches words = if takes line_app words then Some (matches_of line_app words) else None

-- the words of the command
abbrev pub words_given : List Row → List (List ℕ)
words_given rows = unwrap_or (all_of (codes "words") rows) []

-- the word of an option as a list: no word, or one
abbrev pub listed : Option (List ℕ) → List (List ℕ)
listed None = []
listed (Some word) = word ∷ []

-- the name of the script file, where one is given
abbrev pub script_in : List Row → List (List ℕ)
script_in rows = listed (word_in rows (codes "script"))

-- the number of workers, what is told of a take, the name of the script file, and the words of the command: none where
-- a word of an option is out of range
abbrev pub line_said : List Row → Option CommandLine
line_said rows = do
  workers ← workers_of (word_in rows (codes "workers"))
  told ← options_of (word_in rows)
  Some (record { workers = workers; options = told; script = script_in rows; words = words_given rows })

-- the same of matches
abbrev pub line_in : ArgMatches → Option CommandLine
line_in matches = line_said (rows_of (found_of matches))

-- the same of words, none where `clap` refuses them
abbrev pub command_line_of : List (List ℕ) → Option CommandLine
command_line_of words = option_and_then line_said (line_matches words)

-- what a command line tells of a take is in range
abbrev pub HasOptions : Invocation → Type 0
HasOptions Help = ⊤
HasOptions Version = ⊤
HasOptions (Command line) = AreInRange line.options

-- what the words say: they ask for help, or else for the version, or else they are a command line
abbrev pub invocation_of : List (List ℕ) → Option Invocation
invocation_of words =
    if asks is_help words then Some Help
    else if asks is_version words then Some Version
    else option_map Command (command_line_of words)
