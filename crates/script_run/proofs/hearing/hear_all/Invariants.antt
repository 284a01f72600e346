use Rattle.std.proofs.Common.{◌≡◌, ◌≤◌, ℕ, List, take}
use Rattle.script_run.specs.Hearing.{HearsAll, Took}
use Rattle.script_run.proofs.hearing.hear_all.Given as goal

abbrev pub invariant-bytes : goal.invariant-bytes
invariant-bytes g l =
    ((replies : List ℕ) × (n : ℕ) × HearsAll l.initial.listener (take l.byte-index l.piece) replies n l.listener
    × Took (g.O.Sink.taken l.initial.out) (g.O.Sink.taken l.out) l.initial.builds l.builds replies n)
    × (g.O.Sink.faults l.initial.out ≤ g.O.Sink.faults l.out) × (l.initial.products ≤ l.products)
