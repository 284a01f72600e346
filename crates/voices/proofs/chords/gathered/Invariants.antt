use Rattle.std.proofs.Common.{◌<◌, ◌≤◌, drop, length, ◌∷◌}
use Rattle.std.specs.Prelude.{vec_capacity}
use Rattle.voices.proofs.Gathered.{Gathering}
use Rattle.voices.proofs.chords.gathered.Given as goal

abbrev pub invariant-notes : goal.invariant-notes
invariant-notes l = record {
  so_far : Gathering l.map.tempos l.fn.division l.fn.window (l.first ∷ l.others) l.list.items l.chord l.begin (drop l.note-index l.others);
  few : length l.list.items ≤ l.note-index;
  room : length l.others < vec_capacity l.list;
}
