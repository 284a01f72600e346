use Rattle.std.proofs.Common.{◌≡◌, ◌++◌, take}
use Rattle.std.specs.List.{flat_map}
use Rattle.kern_reader.specs.EventText.{event_graces}
use Rattle.kern_reader.proofs.event_text.push_graces.Given as goal

abbrev pub invariant-graces : goal.invariant-graces
invariant-graces l = l.text.items ≡ l.initial.text.items ++ flat_map event_graces (take l.keys-index l.graces)
