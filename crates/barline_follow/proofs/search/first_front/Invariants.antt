use Rattle.std.proofs.Common.{◌≡◌, replicate}
use Rattle.barline_follow.specs.Courses.{first_heads}
use Rattle.barline_follow.proofs.search.first_front.Given as goal

abbrev pub invariant-voices : goal.invariant-voices
invariant-voices l = l.heads.items ≡ replicate l._voice first_heads
