-- What the options of a command line tell of a take.
use Rattle.std.specs.Prelude.{ℕ, Bool, false, List, codes, Option, Some, None, option_map}
use Rattle.std.specs.Option.{option_map_or}
use Rattle.std.specs.Str.{bytes_eq}
use Rattle.clap.specs.Words.{Row, first_of, found_of, rows_of}
use Rattle.clap.specs.declared.parser.matches.ArgMatches.{ArgMatches}
use Rattle.performance_prepare.specs.declared.options.Options.{Options}
use Rattle.command_line.specs.Numbers.{fraction_in, key_in, keyboard_in, number_in}

-- one step after the other: nothing is said where a step says nothing
infixl 10 ◌>>=◌
abbrev pub ◌>>=◌ : {A B : Type 0} → Option A → (A → Option B) → Option B
None >>= next = None
(Some x) >>= next = next x

-- the word of the option with this name, if it is given
abbrev pub word_in : List Row → List ℕ → Option (List ℕ)
word_in rows name = first_of name rows

-- the same in matches
abbrev pub said_by : ArgMatches → List ℕ → Option (List ℕ)
said_by matches = word_in (rows_of (found_of matches))

-- an option without a word is given
abbrev pub is_given : Option (List ℕ) → Bool
is_given said = option_map_or (λ word. bytes_eq word (codes "true")) said false

-- what the word of an option says, if it is given. Nothing is told where it is given and says nothing
abbrev pub told : {X : Type 0} → (List ℕ → Option X) → Option (List ℕ) → Option (Option X)
told read None = Some None
told read (Some word) = option_map Some (read word)

-- what is told of a take, by the words of the options: a key from 1 to 127, a channel but that of drums, 1 to 100
-- milliseconds, a meter of 1 to 64 beats, 1 to 1,000 quarters a minute, an upbeat, and a signature of up to seven
-- sharps or flats
abbrev pub options_of : (List ℕ → Option (List ℕ)) → Option Options
options_of said = do
  split ← told (number_in 1 127) (said (codes "split"))
  hands ← told keyboard_in (said (codes "hands"))
  strum ← told (number_in 1 100) (said (codes "strum"))
  meter ← told (fraction_in 1) (said (codes "meter"))
  tempo ← told (number_in 1 1000) (said (codes "tempo"))
  upbeat ← told (fraction_in 0) (said (codes "upbeat"))
  key ← told key_in (said (codes "key"))
  Some (record {
    no_drums = is_given (said (codes "no-drums"));
    split = split;
    hands = hands;
    strum = strum;
    meter = meter;
    tempo = tempo;
    upbeat = upbeat;
    key = key;
  })
