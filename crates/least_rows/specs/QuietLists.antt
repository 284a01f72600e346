-- The rule lists of the least trees over intervals that are quiet.
use Rattle.std.specs.Prelude.{◌≡◌, ℕ, List, ◌++◌, slice_get, Some}
use Rattle.rhythm_base.specs.Grammar.{Grammar}
use Rattle.rhythm_base.specs.Ranked.{Key}
use Rattle.row_laws.specs.QuietTrees.{IsQuietLeast, IsQuietList}
use Rattle.row_laws.specs.declared.quiet.Quiet.{Quiet}
use Rattle.grammar_plan.specs.Plans.{HaveSeats, IsCutOf, between, pair_of}
use Rattle.grammar_plan.specs.declared.cut.Cut.{Cut}
use Rattle.grammar_plan.specs.declared.plan.Plan.{Plan}
use Rattle.grammar_plan.specs.declared.seat.Seat.{Seat}

-- what stands at the number, if anything does, is a cut of the seat
abbrev pub IsCutOfSeat : Grammar → Plan → (seat number : ℕ) → Type 0
IsCutOfSeat g plan seat number = (s : Seat) (c : Cut) → slice_get plan.seats.items seat ≡ Some s → slice_get plan.cuts.items number ≡ Some c → IsCutOf g plan (pair_of s) c

-- the rule list of the least tree of the seat, where there is one, was written after the others
abbrev pub WritesQuiet : Grammar → Plan → Quiet → (seat from : ℕ) → (old new : List ℕ) → Type 0
WritesQuiet g plan quiet seat from old new =
    (s : Seat) (k : Key) → slice_get plan.seats.items seat ≡ Some s → IsQuietLeast g quiet (pair_of s) from (Some k) → new ≡ old ++ k.1

-- the rule lists of the least trees of the parts of the cut, where they all have one, were written after the others
abbrev pub WritesQuietCut : Grammar → Plan → Quiet → (number from : ℕ) → (old new : List ℕ) → Type 0
WritesQuietCut g plan quiet number from old new =
    (c : Cut) (qs : List (ℕ × ℕ)) (xs : List ℕ) → slice_get plan.cuts.items number ≡ Some c
    → HaveSeats plan (between plan.parts.items c.first c.end) qs → IsQuietList g quiet qs from xs → new ≡ old ++ xs
