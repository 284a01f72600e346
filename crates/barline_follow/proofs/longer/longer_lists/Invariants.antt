use Rattle.std.proofs.Common.{◌≡◌, map, take}
use Rattle.barline_follow.specs.Longer.{all_longer}
use Rattle.barline_follow.proofs.longer.longer_lists.Given as goal

abbrev pub invariant-lists : goal.invariant-lists
invariant-lists l = l.lists.items ≡ all_longer (take l.place l.front) (map (λ own. own.items) (take l.place l.tried))
