-- The laws, each as one statement over the definitions.
use Rattle.std.specs.Prelude.{◌≡◌, List, All}
use Rattle.edit_script.specs.declared.command.Command.TheVariants.{Change}
use Rattle.rhythm_base.specs.declared.edit.Edit.{Edit}
use Rattle.rhythm_base.specs.EditRanges.{IsEditInRange}
use Rattle.rhythm_base.specs.Lists.{Each}
use Rattle.edit_script.specs.ScriptLines.{SaysCommand, script_lines}
use Rattle.script_writer.specs.EditText.{script_text}

-- the lines of the text of edits in range say these edits, one each and in their order
abbrev pub EditsAreReadBack : Type 0
EditsAreReadBack =
    (edits : List Edit) → All IsEditInRange edits
    → Each (λ edit line. SaysCommand line (Change edit)) edits (script_lines (script_text edits))

-- a text is that of one list of edits in range
abbrev pub TextsAreOfOneList : Type 0
TextsAreOfOneList =
    (edits others : List Edit) → All IsEditInRange edits → All IsEditInRange others → script_text edits ≡ script_text others
    → edits ≡ others
