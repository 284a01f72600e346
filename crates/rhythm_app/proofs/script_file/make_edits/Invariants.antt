use Rattle.std.proofs.Common.{◌≡◌, ◌+◌, ◌≤◌, length}
use Rattle.edit_script.specs.ScriptLines.{script_lines}
use Rattle.rhythm_app.specs.Stages.{CountsUp}
use Rattle.rhythm_app.proofs.Scripting.{AreMadeSoFar}
use Rattle.rhythm_app.proofs.script_file.make_edits.Given as goal

-- the lines before this one are made
abbrev pub invariant-lines : goal.invariant-lines
invariant-lines g l = record {
  made : AreMadeSoFar l.initial.session l.session l.initial.lent.built l.lent.built (script_lines l.script) l.number (script_lines l.rest);
  few : l.number + length l.rest ≤ length l.script + 1;
  grammar : l.session.grammar ≡ l.initial.session.grammar;
  counts : CountsUp l.initial.lent l.lent;
}

abbrev pub decreases-lines : goal.decreases-lines
decreases-lines g l = length l.rest
