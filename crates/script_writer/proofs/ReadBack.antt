-- A text of edits is read back as these edits.
use Rattle.std.proofs.Common.{◌≡◌, ℕ, List, [], ◌∷◌, codes, refl, sym, ap, ap₂, ◌∙◌, subst, append_assoc}
use Rattle.std.proofs.lemmas.List.Elements.{All-head, All-tail}
use Rattle.edit_script.specs.declared.command.Command.TheVariants.{Change}
use Rattle.rhythm_base.specs.declared.edit.Edit.{Edit}
use Rattle.rhythm_base.specs.EditRanges.{IsEditInRange}
use Rattle.rhythm_base.specs.Lists.{Each}
use Rattle.edit_script.specs.ScriptLines.{SaysCommand, script_lines}
use Rattle.edit_script.proofs.CommandWords.{one_command}
use Rattle.script_writer.specs.EditText.{edit_line, script_text}
use Rattle.script_writer.specs.Laws.{EditsAreReadBack, TextsAreOfOneList}
use Rattle.script_writer.proofs.EditWords.{edit_said}
use Rattle.script_writer.proofs.TextLines.{first_line}

abbrev Says : Edit → List ℕ → Type 0
Says edit line = SaysCommand line (Change edit)

pub read_back : EditsAreReadBack
read_back [] all = refl
read_back (edit ∷ edits) all =
    let is = edit_said edit (All-head IsEditInRange edit edits all) in
    let line : List ℕ = edit_line edit in
    let lines : script_lines (script_text (edit ∷ edits)) ≡ line ∷ script_lines (script_text edits) =
    ap script_lines (append_assoc line (codes "\n") (script_text edits)) ∙ first_line line (script_text edits) is.printing in
    subst (Each Says (edit ∷ edits)) (sym lines) (is.says, read_back edits (All-tail IsEditInRange edit edits all))

-- lines say one list of edits
one_list : (edits others : List Edit) (lines : List (List ℕ)) → Each Says edits lines → Each Says others lines → edits ≡ others
one_list [] [] lines none other = refl
one_list [] (other ∷ others) [] none says = absurd says
one_list [] (other ∷ others) (line ∷ lines) none says = absurd (cc)
one_list (edit ∷ edits) [] [] says none = absurd says
one_list (edit ∷ edits) [] (line ∷ lines) says none = absurd (cc)
one_list (edit ∷ edits) (other ∷ others) [] says says' = absurd says
one_list (edit ∷ edits) (other ∷ others) (line ∷ lines) says says' =
    let same : Change edit ≡ Change other = one_command line (Change edit) (Change other) says.0 says'.0 in
    ap₂ ◌∷◌ (cc) (one_list edits others lines says.1 says'.1)

pub one_text : TextsAreOfOneList
one_text edits others range range' same =
    one_list edits others (script_lines (script_text edits)) (read_back edits range)
    (subst (λ text. Each Says others (script_lines text)) (sym same) (read_back others range'))
