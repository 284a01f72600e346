use Rattle.std.proofs.Common.{◌≡◌, ◌++◌, List, length}
use Rattle.rhythm_base.specs.Lists.{Each}
use Rattle.notation.specs.Groups.{parted}
use Rattle.notation.specs.Notes.{IsGroup}
use Rattle.notation.specs.Runs.{AreRun}
use Rattle.notation.specs.Tokens.{Token}
use Rattle.notation.proofs.bar.groups_of.Given as goal

-- the groups so far, with those of the tokens that are left, are all
abbrev pub invariant-groups : goal.invariant-groups
invariant-groups l = record {
  run : AreRun l.resolution l.later;
  so_far :
      (done : List (List Token)) × Each (IsGroup l.resolution l.odd) done l.groups.items
      × (done ++ parted l.resolution l.odd l.later ≡ parted l.resolution l.odd l.tokens);
}

abbrev pub decreases-groups : goal.decreases-groups
decreases-groups l = length l.later
