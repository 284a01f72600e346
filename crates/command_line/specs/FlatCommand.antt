-- The one flat command, as `clap` sees it.
use Rattle.std.specs.Prelude.{ℕ, List, [], ◌∷◌, ◌++◌, codes, map, Option, Some, None, true}
use Rattle.clap.specs.Words.{App, Rule, new_app, new_rule}
use Rattle.clap.specs.declared.builder.action.ArgAction.TheVariants.{Set, SetTrue, Append}
use Rattle.command_line.specs.OptionTable.{OptionRow, options}

-- an option that takes one word, and stands at most once
abbrev pub value_rule : List ℕ → Rule
value_rule name = record (new_rule name) { long = Some name; action = Some Set }

-- an option that takes no word, and stands at most once
abbrev pub flag_rule : List ℕ → Rule
flag_rule name = record (new_rule name) { long = Some name; action = Some SetTrue }

-- the one positional, which takes any number of words
abbrev pub words_rule : Rule
words_rule = record (new_rule (codes "words")) { action = Some Append }

-- an option by what its word must be, where one follows it
abbrev pub rule_by : Option (List ℕ) → List ℕ → Rule
rule_by (Some word) name = value_rule name
rule_by None name = flag_rule name

-- an option of the table
abbrev pub option_rule : OptionRow → Rule
option_rule row = rule_by row.word row.name

-- the options and the positional
abbrev pub line_rules : List Rule
line_rules = map option_rule options ++ words_rule ∷ []

-- the command of these: no other option, not even one for help. The name of the program is not among the words
abbrev pub app_of_rules : List Rule → App
app_of_rules rules =
    let plain : App = new_app (codes "rhythm") in
    record plain { top = record plain.top { no_binary_name = true; disable_help_flag = true; rules = rules } }

abbrev pub line_app : App
line_app = app_of_rules line_rules
