use Rattle.std.proofs.Common.{◌≤◌, ◌∷◌, take}
use Rattle.std.specs.List.{flat_map}
use Rattle.edit_script.specs.Pieces.{word_text}
use Rattle.edit_script.specs.Sending.{Sent}
use Rattle.edit_script.proofs.word.write_later_words.Given as goal

abbrev pub invariant-words : goal.invariant-words
invariant-words g l = record {
  sent : Sent (g.K.Sink.taken l.initial.sink) (g.K.Sink.taken l.sink) l.initial.held l.held (flat_map (λ w. 32 ∷ word_text w) (take l.word-index l.words));
  later : g.K.Sink.faults l.initial.sink ≤ g.K.Sink.faults l.sink;
}
