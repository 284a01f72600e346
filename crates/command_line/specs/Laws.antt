-- The laws, each as one statement over the definitions.
use Rattle.std.specs.Prelude.{◌≡◌, ◌≤◌, ◌↔◌, ℕ, List, [], Some, option_map}
use Rattle.performance_prepare.specs.Laws.{no_options}
use Rattle.rhythm_base.specs.Numerals.{IsNumber}
use Rattle.command_line.specs.CommandLines.{HasOptions, invocation_of}
use Rattle.command_line.specs.Numbers.{number_in, workers_of}
use Rattle.command_line.specs.PlainWords.{ArePlainWords, other_words, word_of_workers}
use Rattle.command_line.specs.declared.invocation.Invocation.{Invocation}
use Rattle.command_line.specs.declared.invocation.Invocation.TheVariants.{Command}

-- the numbers of a command line are written as those of an edit script
abbrev pub NumbersAreAsInScripts : Type 0
NumbersAreAsInScripts = (least most n : ℕ) (word : List ℕ) → (number_in least most word ≡ Some n) ↔ (IsNumber most n word × (least ≤ n))

-- plain words are never refused by `clap` and ask for no help and no version: the word after the option says the number of workers, nothing
-- is told of a take, there is no script file, and the other words, in order, are the words of the command
abbrev pub PlainWordsAreTaken : Type 0
PlainWordsAreTaken = (words : List (List ℕ)) → ArePlainWords words
    → invocation_of words ≡ option_map (λ (n : ℕ). Command (record { workers = n; options = no_options; script = []; words = other_words words })) (workers_of (word_of_workers words))

-- what is told of a take is in range
abbrev pub OptionsAreInRange : Type 0
OptionsAreInRange = (words : List (List ℕ)) (said : Invocation) → invocation_of words ≡ Some said → HasOptions said
