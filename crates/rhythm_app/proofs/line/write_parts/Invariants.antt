use Rattle.std.proofs.Common.{◌≤◌, take}
use Rattle.std.specs.Io.KnownBytes.{Appends}
use Rattle.rhythm_app.specs.Stops.{joined_words}
use Rattle.rhythm_app.specs.Parts.{part_texts}
use Rattle.rhythm_app.proofs.line.write_parts.Given as goal

abbrev pub invariant-parts : goal.invariant-parts
invariant-parts g l =
    Appends (g.K.Sink.taken l.initial.sink) (g.K.Sink.taken l.sink) (joined_words (part_texts (take l.part-index l.parts)))
    × (g.K.Sink.faults l.initial.sink ≤ g.K.Sink.faults l.sink)
