use Rattle.std.proofs.Common.{◌≤◌, ◌∷◌, take}
use Rattle.std.specs.List.{flat_map}
use Rattle.std.specs.Prelude.{decimal}
use Rattle.edit_script.specs.Sending.{Sent}
use Rattle.edit_script.proofs.word.write_later_numbers.Given as goal

abbrev pub invariant-numbers : goal.invariant-numbers
invariant-numbers g l = record {
  sent : Sent (g.K.Sink.taken l.initial.sink) (g.K.Sink.taken l.sink) l.initial.held l.held (flat_map (λ n. 44 ∷ decimal n) (take l.number-index l.numbers));
  later : g.K.Sink.faults l.initial.sink ≤ g.K.Sink.faults l.sink;
}
