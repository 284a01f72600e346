use Rattle.std.proofs.Common.{◌≤◌, ◌-◌, ℕ, List}
use Rattle.std.specs.Io.KnownBytes.{Consumes}
use Rattle.rhythm_base.specs.declared.limits.TheConstants.{LONGEST_SCRIPT}
use Rattle.script_run.specs.Hearing.{HearsAll, Took}
use Rattle.script_run.proofs.script.run_script.Given as goal

-- the bytes that were read so far are heard, from the start on
abbrev pub invariant-pieces : goal.invariant-pieces
invariant-pieces g l =
    ((bytes : List ℕ) × (replies : List ℕ) × (n : ℕ) × HearsAll l.initial.listener bytes replies n l.listener × Consumes (g.S.Source.rest l.initial.script) (g.S.Source.rest l.script) bytes
    × Took (g.O.Sink.taken l.initial.out) (g.O.Sink.taken l.out) l.initial.builds l.builds replies n)
    × (g.S.Source.faults l.initial.script ≤ g.S.Source.faults l.script) × (g.O.Sink.faults l.initial.out ≤ g.O.Sink.faults l.out)
    × (l.initial.products ≤ l.products)

abbrev pub decreases-pieces : goal.decreases-pieces
decreases-pieces g l = LONGEST_SCRIPT - l.listener.read
