-- Each score that was read has events.
use Rattle.std.proofs.Common.{ℕ, suc, ◌+◌, ◌*◌, ◌≤◌, List, [], ◌∷◌, ◌++◌, map, refl, arith}
use Rattle.std.specs.Prelude.{reverse, sum_by}
use Rattle.rhythm_base.specs.declared.span.Span.{Span}
use Rattle.rhythm_base.specs.Lists.{Each}
use Rattle.durations.specs.Value.{width}
use Rattle.derivation.proofs.Fractions.{frac_exist}
use Rattle.voice_events.specs.declared.event.KernEvent.{KernEvent}
use Rattle.kern_reader.specs.declared.token.Token.{Token}
use Rattle.kern_reader.specs.Columns.{waiting}
use Rattle.kern_reader.specs.Events.{AreEventsFrom, Beginning, IsKernSpan, beginnings, token_place, tied_values}
use Rattle.voice_events.specs.Events.{span_event}
use Rattle.kern_laws.specs.Laws.{EventsExist}

span_exist : (grid : ℕ) (b : Beginning) → 1 ≤ grid → (x : Span) × IsKernSpan grid b x
span_exist grid b some =
    let start = frac_exist (token_place grid b.before) (64 * grid) (omega (arith, some)) in
    let len = frac_exist (width grid b.writing.value + sum_by (width grid) (tied_values b.after)) grid some in (
      record { start = start.0; len = len.0; keys = b.keys; graces = reverse (waiting b.before); short = b.writing.short },
      record { start = start.1; len = len.1; keys = refl; graces = refl; short = refl },
    )

column_exist : (grid : ℕ) (bs : List Beginning) → 1 ≤ grid → (xs : List Span) × Each (IsKernSpan grid) bs xs
column_exist grid [] some = ([], refl)
column_exist grid (b ∷ bs) some =
    let one = span_exist grid b some in
    let rest = column_exist grid bs some in
    (one.0 ∷ rest.0, (one.1, rest.1))

from_exist : (grid spine : ℕ) (columns : List (List Token)) → 1 ≤ grid → (events : List KernEvent) × AreEventsFrom grid spine columns events
from_exist grid spine [] some = ([], refl)
from_exist grid spine (column ∷ columns) some =
    let own = column_exist grid (beginnings [] column) some in
    let rest = from_exist grid (suc spine) columns some in
    (map (span_event spine) own.0 ++ rest.0, (own.0, rest.0, own.1, rest.1, refl))

pub events_exist : EventsExist
events_exist s is = from_exist s.grid 1 s.columns is.some
