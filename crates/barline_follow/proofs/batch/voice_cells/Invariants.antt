use Rattle.std.proofs.Common.{◌≡◌, map, take}
use Rattle.std.specs.Prelude.{All}
use Rattle.std.specs.List.{flat_map}
use Rattle.barline_follow.specs.Longer.{draft_of}
use Rattle.barline_follow.specs.PassedOver.{IsWeighed, cells_in}
use Rattle.barline_follow.proofs.batch.voice_cells.Given as goal

abbrev pub invariant-lists : goal.invariant-lists
invariant-lists l =
    All (IsWeighed l.next l.round l.voice) l.lists × (map draft_of l.lists ≡ map draft_of l.initial.lists)
    × (l.cells.items ≡ flat_map (cells_in l.next l.voice) (take l.list-index l.lists))
