use Rattle.std.proofs.Common.{◌≡◌, ◌++◌, take}
use Rattle.std.specs.List.{flat_map}
use Rattle.lily_writer.specs.Elements.{lily_grace}
use Rattle.lily_writer.proofs.elements.push_grace_chords.Given as goal

abbrev pub invariant-chords : goal.invariant-chords
invariant-chords l = l.text.items ≡ l.initial.text.items ++ flat_map (lily_grace l.flats) (take l.keys-index l.chords)
