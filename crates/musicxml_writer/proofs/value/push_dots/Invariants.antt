use Rattle.std.proofs.Common.{◌≡◌, ◌++◌}
use Rattle.std.specs.Prelude.{codes}
use Rattle.std.specs.List.{repeat}
use Rattle.musicxml_writer.specs.Elements.{empty_element}
use Rattle.musicxml_writer.proofs.value.push_dots.Given as goal

abbrev pub invariant-dots : goal.invariant-dots
invariant-dots l = l.text.items ≡ l.initial.text.items ++ repeat l.counter (empty_element (codes "dot"))
