-- What is known of a seat that is asked for.
use Rattle.std.proofs.Common.{◌≡◌, ℕ, suc, ◌+◌, ◌<◌, ◌≤◌, length, get_or, refl, subst, arith}
use Rattle.std.specs.Prelude.{Option, Some, None, slice_get}
use Rattle.std.proofs.lemmas.Option.{slice_get-get_or}
use Rattle.rhythm_base.specs.BarInput.{BarInput}
use Rattle.rhythm_base.specs.Grammar.{Grammar}
use Rattle.row_laws.specs.Grounds.{IsReady, ground_of}
use Rattle.row_laws.specs.QuietTrees.{IsQuiet}
use Rattle.row_laws.specs.declared.quiet.Quiet.{Quiet}
use Rattle.row_laws.proofs.Grounds.{grounded}
use Rattle.grammar_plan.specs.Plans.{HasQuietTree, IsPlan, IsSeat, pair_of}
use Rattle.grammar_plan.specs.declared.plan.Plan.{Plan}
use Rattle.grammar_plan.specs.declared.quiet_tree.QuietTree.{QuietTree}
use Rattle.grammar_plan.specs.declared.seat.Seat.{Seat}
use Rattle.least_rows.specs.Ways.{IsRankedRow, quiet_rank}
use Rattle.least_rows.proofs.QuietRows.{quiet-ranked}
use Rattle.least_rows.proofs.RowEntries.{all-at}

pub next-one : (P : ℕ → Type 0) (n : ℕ) → P (suc n) → P (n + 1)
next-one P n h = subst P (omega arith) h

pub some-seat : (plan : Plan) (n : ℕ) → n < length plan.seats.items → (s : Seat) × (slice_get plan.seats.items n ≡ Some s)
some-seat plan n low =
    let z : Seat = record { width = 0; symbol = 0; first = 0; end = 0; base = 0; inverse = 0 } in
    (get_or plan.seats.items n z, slice_get-get_or plan.seats.items n z low)

pub seat-of : (g : Grammar) (plan : Plan) → IsPlan g plan → (n : ℕ) (s : Seat) → slice_get plan.seats.items n ≡ Some s → IsSeat g plan s
seat-of g plan h n s at = all-at (IsSeat g plan) plan.seats.items n s h.seats at

pub quiet-cheap : (g : Grammar) (plan : Plan) (n : ℕ) (quiet : Quiet) (from : ℕ) (o : Option QuietTree) → HasQuietTree g plan n quiet from o → n < length plan.seats.items → (t : QuietTree) → o ≡ Some t → t.cost ≤ 3000000000
quiet-cheap g plan n quiet from None h low t e = absurd (cc)
quiet-cheap g plan n quiet from (Some u) h low t e =
    let s = some-seat plan n low in
    let is : u ≡ t = cc in
    subst (λ (t : QuietTree). t.cost ≤ 3000000000) is (h s.0 s.1).3

pub quiet-row : (g : Grammar) (k : BarInput) (plan : Plan) → IsReady g k → IsPlan g plan → (n : ℕ) (quiet : Quiet) (from : ℕ) (o : Option QuietTree) → HasQuietTree g plan n quiet from o
    → (place : ℕ) (s : Seat) → slice_get plan.seats.items n ≡ Some s → IsQuiet quiet (ground_of g k) place s.width → IsRankedRow (ground_of g k) place (pair_of s) from (quiet_rank o)
quiet-row g k plan ready is n quiet from o h place s at calm =
    let seat = seat-of g plan is n s at in
    quiet-ranked g (ground_of g k) plan (grounded g k ready) refl quiet place (pair_of s) from o seat.wide calm (h s at)
