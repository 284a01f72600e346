use Rattle.std.proofs.Common.{◌≡◌, List, ◌++◌, length}
use Rattle.least_rows.specs.Choices.{IsSplit, count_some}
use Rattle.least_rows.specs.declared.entry.Entry.{Entry}
use Rattle.least_rows.proofs.settled.settle_several.Given as goal

abbrev pub invariant-entries : goal.invariant-entries
invariant-entries l = (es : List Entry) × (l.entries.items ≡ l.initial.entries.items ++ es) × (l.count ≡ length es) × IsSplit l.initial.best l.best es

abbrev pub decreases-entries : goal.decreases-entries
decreases-entries l = count_some l.best
