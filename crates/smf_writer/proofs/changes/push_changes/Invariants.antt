use Rattle.std.proofs.Common.{◌≡◌, ◌++◌, take}
use Rattle.std.specs.List.{flat_map}
use Rattle.smf_writer.specs.Changes.{change_at}
use Rattle.smf_writer.proofs.changes.push_changes.Given as goal

abbrev pub invariant-changes : goal.invariant-changes
invariant-changes l = l.events.items ≡ l.initial.events.items ++ flat_map (change_at l.tick) (take l.change-index l.change-items)
