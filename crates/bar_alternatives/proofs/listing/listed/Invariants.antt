use Rattle.std.proofs.Common.{take}
use Rattle.rhythm_base.specs.Lists.{Each}
use Rattle.bar_alternatives.specs.Totals.{IsListed}
use Rattle.bar_alternatives.proofs.listing.listed.Given as goal

abbrev pub invariant-entries : goal.invariant-entries
invariant-entries l = Each (IsListed l.grammar l.start) (take l.entry-index l.entry-items) l.list.items
