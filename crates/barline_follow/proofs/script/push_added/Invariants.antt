use Rattle.std.proofs.Common.{◌≡◌, ◌++◌, replicate}
use Rattle.rhythm_base.specs.declared.edit.Edit.TheVariants.{AddBar}
use Rattle.barline_follow.proofs.script.push_added.Given as goal

abbrev pub invariant-bars : goal.invariant-bars
invariant-bars l = l.script.items ≡ l.initial.script.items ++ replicate l._number AddBar
