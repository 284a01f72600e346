-- The parts of a cut.
use Rattle.std.specs.Prelude.{◌≡◌, ℕ, zero, suc, ◌+◌, ◌-◌, ◌*◌, ◌/◌, ◌%◌, ◌^◌, ◌≤◌, List, ◌++◌, length}
use Rattle.rhythm_base.specs.Bodies.{sizes}
use Rattle.tree_laws.specs.Shares.{AreBelow}
use Rattle.row_laws.specs.Ways.{IsWayList}
use Rattle.grammar_plan.specs.Plans.{HaveSeats, between}
use Rattle.grammar_plan.specs.declared.plan.Plan.{Plan}
use Rattle.least_rows.specs.Searches.{ground_in}
use Rattle.least_rows.specs.declared.search.Search.{Search}
use Rattle.least_rows.specs.declared.parts.Leg.{Leg}
use Rattle.least_rows.specs.declared.parts.Parts.{Parts}

-- the seats of the parts have these widths and symbols
abbrev pub AreSeatsOf : Plan → Parts → List (ℕ × ℕ) → Type 0
AreSeatsOf plan x qs = HaveSeats plan (between plan.parts.items x.first x.end) qs

-- the plan has the seats of the parts, which are narrower than the interval
pub record ArePartsOf (plan : Plan) (x : Parts) : Type 0 where
  pub order : x.first ≤ x.end
  pub within : x.end ≤ length plan.parts.items
  pub seats : List (ℕ × ℕ)
  pub are : AreSeatsOf plan x seats
  pub below : AreBelow x.width seats

-- the number of chords carried out of a part that r parts come after, by the digits of the way
abbrev pub carried_after : (way m r : ℕ) → ℕ
carried_after way m zero = m
carried_after way m (suc r) = way / 2 ^ (3 * r) % 8

-- the parts lie in the bar, and the way leads over them
pub record IsLeg (bar : Search) (x : Parts) (leg : Leg) : Type 0 where
  pub seats : List (ℕ × ℕ)
  pub are : AreSeatsOf bar.plan.now x seats
  pub within : leg.place + sizes seats ≤ bar.input.now.resolution
  pub list : List ℕ
  pub way : IsWayList (ground_in bar) leg.place seats leg.from (x.end - x.first) leg.way leg.to list

-- the lists of the parts along the way were written after the others
abbrev pub WritesParts : Search → Parts → Leg → (old new : List ℕ) → Type 0
WritesParts bar x leg old new = (qs : List (ℕ × ℕ)) (xs : List ℕ) → AreSeatsOf bar.plan.now x qs
    → IsWayList (ground_in bar) leg.place qs leg.from (x.end - x.first) leg.way leg.to xs → new ≡ old ++ xs
