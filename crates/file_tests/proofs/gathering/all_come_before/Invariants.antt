use Rattle.std.proofs.Common.{◌≡◌, take}
use Rattle.std.specs.Prelude.{All}
use Rattle.std.specs.Cmp.Lexicographic.{slice_cmp}
use Rattle.std.specs.Ordering.{nat_cmp}
use Rattle.std.specs.declared.cmp.Ordering.TheVariants.{Less}
use Rattle.rhythm_base.specs.Performance.{place_of_note}
use Rattle.file_tests.proofs.gathering.all_come_before.Given as goal

abbrev pub invariant-earlier : goal.invariant-earlier
invariant-earlier l = record {
  channel : All (λ m. m.channel ≡ l.n.channel) (take l.m-index l.notes);
  place : All (λ m. slice_cmp nat_cmp (place_of_note m) (place_of_note l.n) ≡ Less) (take l.m-index l.notes);
}
