use Rattle.std.proofs.Common.{◌≡◌, ◌≤◌, ◌++◌, List, length, take}
use Rattle.std.specs.Prelude.{All}
use Rattle.rhythm_base.specs.declared.note.Note.{Note}
use Rattle.performance_prepare.specs.Ends.{AreEnds}
use Rattle.performance_prepare.proofs.groups.put_ends.Given as goal

abbrev pub invariant-loop-note : goal.invariant-loop-note
invariant-loop-note l = record {
  ends : (before : List Note) → AreEnds l.initial.ends before → AreEnds l.ends (before ++ take l.note-index l.group);
  low : All (λ end. end ≤ 1000000000) l.ends;
  long : length l.ends ≡ 128;
}
