-- A line of a studio says one command at most.
use Rattle.std.proofs.Common.{◌≡◌, ◌==◌, ℕ, true, false, List, [], ◌∷◌, refl, sym, ap, subst, ◌∙◌}
use Rattle.std.specs.List.{slice_split}
use Rattle.std.specs.Prelude.{codes}
use Rattle.std.specs.Str.{bytes_eq}
use Rattle.edit_script.specs.declared.command.Command.{Command}
use Rattle.edit_script.specs.declared.command.Command.TheVariants.{Change, Score, Alternatives, Quit}
use Rattle.rhythm_base.specs.declared.edit.Edit.TheVariants.{Add, Drop, Move, Barline, Pin, Unpin, AddBar, DropBar}
use Rattle.edit_script.specs.ScriptLines.{AreCommand, SaysCommand, script_words, trimmed}
use Rattle.edit_script.proofs.CommandWords.{one_command}
use Rattle.session_history.specs.StudioLines.{SaysStudio}
use Rattle.session_history.specs.declared.studio_command.StudioCommand.{StudioCommand}
use Rattle.session_history.specs.declared.studio_command.StudioCommand.TheVariants.{Plain, Redo, Undo}

-- words that are told apart are not one
words_differ : (word other : List ℕ) → bytes_eq word word ≡ true → bytes_eq word other ≡ false → word ≡ other → ⊥
words_differ word other itself apart same = let e : true ≡ false = sym itself ∙ ap (bytes_eq word) same ∙ apart in absurd (cc)

-- the words of a line that is one word
undo_words : (line : List ℕ) → trimmed line ≡ codes "undo" → script_words line ≡ codes "undo" ∷ []
undo_words line is = ap (slice_split (λ b. b == 32)) is

redo_words : (line : List ℕ) → trimmed line ≡ codes "redo" → script_words line ≡ codes "redo" ∷ []
redo_words line is = ap (slice_split (λ b. b == 32)) is

undo_is_none : (command : Command) → AreCommand command (codes "undo" ∷ []) → ⊥
undo_is_none (Change (Add channel key onset until)) are = are.1
undo_is_none (Change (Drop channel key onset)) are = are.1
undo_is_none (Change (Move channel key onset to)) are = are.1
undo_is_none (Change (Barline bar tick)) are = are.1
undo_is_none (Change (Pin channel bar shape)) are = are
undo_is_none (Change (Unpin channel bar)) are = are.1
undo_is_none (Change AddBar) are = words_differ (codes "undo") (codes "addbar") refl refl are.0
undo_is_none (Change DropBar) are = words_differ (codes "undo") (codes "dropbar") refl refl are.0
undo_is_none Score are = words_differ (codes "undo") (codes "score") refl refl are.0
undo_is_none (Alternatives channel bar count) are = are.1
undo_is_none Quit are = words_differ (codes "undo") (codes "quit") refl refl are.0

redo_is_none : (command : Command) → AreCommand command (codes "redo" ∷ []) → ⊥
redo_is_none (Change (Add channel key onset until)) are = are.1
redo_is_none (Change (Drop channel key onset)) are = are.1
redo_is_none (Change (Move channel key onset to)) are = are.1
redo_is_none (Change (Barline bar tick)) are = are.1
redo_is_none (Change (Pin channel bar shape)) are = are
redo_is_none (Change (Unpin channel bar)) are = are.1
redo_is_none (Change AddBar) are = words_differ (codes "redo") (codes "addbar") refl refl are.0
redo_is_none (Change DropBar) are = words_differ (codes "redo") (codes "dropbar") refl refl are.0
redo_is_none Score are = words_differ (codes "redo") (codes "score") refl refl are.0
redo_is_none (Alternatives channel bar count) are = are.1
redo_is_none Quit are = words_differ (codes "redo") (codes "quit") refl refl are.0

-- a line that says a step says no command of an edit script
pub undo_says_none : (line : List ℕ) (command : Command) → trimmed line ≡ codes "undo" → SaysCommand line command → ⊥
undo_says_none line command is says = undo_is_none command (subst (AreCommand command) (undo_words line is) says)

pub redo_says_none : (line : List ℕ) (command : Command) → trimmed line ≡ codes "redo" → SaysCommand line command → ⊥
redo_says_none line command is says = redo_is_none command (subst (AreCommand command) (redo_words line is) says)

pub one_studio_command : (line : List ℕ) (command other : StudioCommand) → SaysStudio line command → SaysStudio line other → command ≡ other
one_studio_command line (Plain command) (Plain other) says says' = ap Plain (one_command line command other says says')
one_studio_command line (Plain command) Undo says says' = absurd (undo_says_none line command says' says)
one_studio_command line (Plain command) Redo says says' = absurd (redo_says_none line command says' says)
one_studio_command line Undo (Plain other) says says' = absurd (undo_says_none line other says says')
one_studio_command line Undo Undo says says' = refl
one_studio_command line Undo Redo says says' = absurd (words_differ (codes "undo") (codes "redo") refl refl (sym says ∙ says'))
one_studio_command line Redo (Plain other) says says' = absurd (redo_says_none line other says says')
one_studio_command line Redo Undo says says' = absurd (words_differ (codes "redo") (codes "undo") refl refl (sym says ∙ says'))
one_studio_command line Redo Redo says says' = refl
