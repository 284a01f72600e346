-- What is made of the rows of the table, one after another.
use Rattle.std.proofs.Common.{◌≡◌, ◌∙◌, ℕ, ◌+◌, ◌<◌, sym, ap, ap₂, List, [], ◌∷◌, ◌++◌, get_or, length, map, take}
use Rattle.std.proofs.lemmas.List.{map-append, take_more}
use Rattle.clap.specs.Words.{App, Rule, with_rule}
use Rattle.command_line.specs.FlatCommand.{app_of_rules, option_rule}
use Rattle.command_line.specs.OptionTable.{shown_row}
use Rattle.command_line.specs.declared.option_table.OptionRow as code

-- the rules of the first rows
abbrev pub rules_before : List code.OptionRow → ℕ → List Rule
rules_before rows i = map option_rule (map shown_row (take i rows))

one_rule_more : (rows : List code.OptionRow) (i : ℕ) (d : code.OptionRow) → i < length rows
    → rules_before rows (i + 1) ≡ rules_before rows i ++ option_rule (shown_row (get_or rows i d)) ∷ []
one_rule_more rows i d lt =
    ap (λ (taken : List code.OptionRow). map option_rule (map shown_row taken)) (take_more rows i d lt)
    ∙ ap (map option_rule) (map-append shown_row (take i rows) (get_or rows i d ∷ []))
    ∙ map-append option_rule (map shown_row (take i rows)) (shown_row (get_or rows i d) ∷ [])

-- the command with one option more
pub one_option_more : (rows : List code.OptionRow) (i : ℕ) (d : code.OptionRow) (old new : App) (rule : Rule)
    → i < length rows → old ≡ app_of_rules (rules_before rows i)
    → rule ≡ option_rule (shown_row (get_or rows i d)) → new ≡ with_rule old rule
    → new ≡ app_of_rules (rules_before rows (i + 1))
one_option_more rows i d old new rule lt was is added =
    added ∙ ap₂ with_rule was is ∙ ap app_of_rules (sym (one_rule_more rows i d lt))
