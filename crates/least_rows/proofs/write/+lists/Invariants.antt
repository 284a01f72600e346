use Rattle.std.proofs.Common.{◌≡◌, ◌+◌, ◌-◌, ◌*◌, ◌/◌, ◌^◌, ◌≤◌, ◌++◌, ℕ, List, take}
use Rattle.rhythm_base.specs.Bodies.{sizes}
use Rattle.row_laws.specs.Ways.{IsWayList}
use Rattle.least_rows.specs.Searches.{ground_in}
use Rattle.least_rows.specs.Parts.{AreSeatsOf, carried_after}
use Rattle.least_rows.specs.States.{AreKnown}
use Rattle.least_rows.specs.Texts.{AreTexts}
use Rattle.grammar_plan.specs.Drafts.{IsLonger}
use Rattle.least_rows.proofs.PlanSeats.{parts_measure, seat_measure}
use Rattle.least_rows.proofs.write.+lists.Given as goal

abbrev pub decreases-write : goal.decreases-write
decreases-write l = seat_measure l.search.now.plan.now l.tree.seat

abbrev pub decreases-write_parts : goal.decreases-write_parts
decreases-write_parts l = parts_measure l.search.now.plan.now l.parts.width (l.parts.end - l.parts.first)

-- the first parts are written, along the first digits of the way
abbrev pub invariant-write_parts-parts : goal.invariant-write_parts-parts
invariant-write_parts-parts l = record {
  low : l.parts.first ≤ l.part;
  high : l.part ≤ l.parts.end;
  known : AreKnown l.search l.rows;
  texts : AreTexts l.search l.list.items l.texts;
  grows : IsLonger l.initial.list.items l.list.items;
  place : (qs : List (ℕ × ℕ)) → AreSeatsOf l.search.plan.now l.parts qs → l.place ≡ l.leg.place + sizes (take (l.part - l.parts.first) qs);
  from : l.from ≡ carried_after l.leg.way l.leg.to (l.parts.end - l.part);
  written : (qs : List (ℕ × ℕ)) (xs : List ℕ) → AreSeatsOf l.search.plan.now l.parts qs
      → IsWayList (ground_in l.search) l.leg.place qs l.leg.from (l.part - l.parts.first) (l.leg.way / 2 ^ (3 * (l.parts.end - l.part))) l.from xs
      → l.list.items ≡ l.initial.list.items ++ xs;
}
