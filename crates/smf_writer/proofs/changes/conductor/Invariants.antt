use Rattle.std.proofs.Common.{◌≡◌, ◌≤◌, ◌++◌, ◌*◌, drop}
use Rattle.smf_writer.specs.Changes as definitions
use Rattle.smf_writer.specs.Changes.{changes_from}
use Rattle.smf_writer.proofs.changes.conductor.Given as goal

-- the changes so far, and after them those of the bars that are left
abbrev pub invariant-bars : goal.invariant-bars
invariant-bars l = record {
  so_far : l.events.items ++ changes_from l.units l.before l.tick (drop l.bar-index l.bars) ≡ definitions.conductor l.fn.resolution l.bars;
  few : l.tick ≤ 3932160 * l.bar-index;
}
