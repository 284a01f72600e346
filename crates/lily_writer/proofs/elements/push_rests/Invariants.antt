use Rattle.std.proofs.Common.{◌≡◌, ◌++◌, map, take}
use Rattle.std.specs.Prelude.{Bool}
use Rattle.lily_writer.specs.Elements.{elements_text, rest_value}
use Rattle.lily_writer.proofs.elements.push_rests.Given as goal

abbrev pub invariant-values : goal.invariant-values
invariant-values l = (flats : Bool) → l.text.items ≡ l.initial.text.items ++ elements_text flats
    (map rest_value (take l.value-index l.values))
