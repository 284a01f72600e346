use Rattle.std.proofs.Common.{◌≡◌, ◌+◌, ◌++◌, drop}
use Rattle.musicxml_writer.specs.Text.{listed_parts}
use Rattle.musicxml_writer.proofs.list.push_listed_parts.Given as goal

abbrev pub invariant-channels : goal.invariant-channels
invariant-channels l = l.text.items ++ listed_parts (l.index + 1) (drop l.index l.channels) ≡ l.initial.text.items ++ listed_parts 1 l.channels
