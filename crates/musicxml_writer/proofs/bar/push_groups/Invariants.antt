use Rattle.std.proofs.Common.{◌≡◌, ◌++◌, take}
use Rattle.std.specs.List.{flat_map}
use Rattle.musicxml_writer.specs.Bars.{group_text}
use Rattle.musicxml_writer.proofs.bar.push_groups.Given as goal

abbrev pub invariant-groups : goal.invariant-groups
invariant-groups l = l.text.items ≡ l.initial.text.items ++ flat_map (group_text l.sf) (take l.group-index l.groups)
