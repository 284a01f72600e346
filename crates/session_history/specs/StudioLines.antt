-- What a line of a studio says: one carriage return at its end is dropped, and `undo` and `redo` are then the whole line. All other lines
-- are those of an edit script.
use Rattle.std.specs.Prelude.{◌≡◌, ℕ, ⊤, List, codes}
use Rattle.edit_script.specs.ScriptLines.{IsCommandInRange, SaysCommand, trimmed}
use Rattle.session_history.specs.declared.studio_command.StudioCommand.{StudioCommand}
use Rattle.session_history.specs.declared.studio_command.StudioCommand.TheVariants.{Plain, Redo, Undo}

-- the line says this command
abbrev pub SaysStudio : List ℕ → StudioCommand → Type 0
SaysStudio line (Plain command) = SaysCommand line command
SaysStudio line Undo = trimmed line ≡ codes "undo"
SaysStudio line Redo = trimmed line ≡ codes "redo"

-- the line says no command
abbrev pub SaysNoStudio : List ℕ → Type 0
SaysNoStudio line = (command : StudioCommand) → SaysStudio line command → ⊥

-- the numbers of a command are in the ranges of the lines, and the shape of a pin can be that of a tree
abbrev pub IsStudioCommandInRange : StudioCommand → Type 0
IsStudioCommandInRange (Plain command) = IsCommandInRange command
IsStudioCommandInRange Undo = ⊤
IsStudioCommandInRange Redo = ⊤
