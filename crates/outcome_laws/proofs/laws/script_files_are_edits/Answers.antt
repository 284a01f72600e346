use Rattle.outcome_laws.proofs.ScriptedEdits.{are_edits}
use Rattle.outcome_laws.proofs.laws.script_files_are_edits.Goals as goal

pub returns : goal.returns
returns c = are_edits
