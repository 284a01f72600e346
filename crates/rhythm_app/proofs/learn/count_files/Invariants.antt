use Rattle.std.proofs.Common.{◌≤◌, ◌-◌, drop}
use Rattle.rhythm_app.proofs.CountedFiles.{AreCountedUpTo}
use Rattle.rhythm_app.proofs.learn.count_files.Given as goal

-- the files so far are counted
abbrev pub invariant-files : goal.invariant-files
invariant-files g l = record {
  files : AreCountedUpTo l.grammar (drop 3 l.words) (l.place - 3) l.initial.counts l.counts l.initial.lent l.lent;
  from : 3 ≤ l.place;
}
