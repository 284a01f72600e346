-- A score has one list of events.
use Rattle.std.proofs.Common.{◌≡◌, ℕ, suc, ◌≤◌, List, [], ◌∷◌, ◌++◌, map, sym, ap₂, ◌∙◌, arith}
use Rattle.rhythm_base.specs.declared.span.Span.{Span}
use Rattle.rhythm_base.specs.Lists.{Each}
use Rattle.derivation.proofs.Fractions.{frac_one}
use Rattle.voice_events.specs.declared.event.KernEvent.{KernEvent}
use Rattle.kern_reader.specs.declared.token.Token.{Token}
use Rattle.kern_reader.specs.Events.{AreEventsFrom, Beginning, IsKernSpan, beginnings}
use Rattle.voice_events.specs.Events.{span_event}
use Rattle.kern_laws.specs.Laws.{EventsAreOne}

span_one : (grid : ℕ) (b : Beginning) (x y : Span) → 1 ≤ grid → IsKernSpan grid b x → IsKernSpan grid b y → x ≡ y
span_one grid b x y some h k =
    let start = frac_one _ _ x.start y.start (omega (arith, some)) h.start k.start in
    let len = frac_one _ _ x.len y.len some h.len k.len in
    λ i. record {
      start = start i;
      len = len i;
      keys = (h.keys ∙ sym k.keys) i;
      graces = (h.graces ∙ sym k.graces) i;
      short = (h.short ∙ sym k.short) i;
    }

each_one : (grid : ℕ) (bs : List Beginning) (xs ys : List Span) → 1 ≤ grid → Each (IsKernSpan grid) bs xs → Each (IsKernSpan grid) bs ys → xs ≡ ys
each_one grid [] xs ys some h k = h ∙ sym k
each_one grid (b ∷ bs) [] ys some h k = absurd h
each_one grid (b ∷ bs) (x ∷ xs) [] some h k = absurd k
each_one grid (b ∷ bs) (x ∷ xs) (y ∷ ys) some h k = ap₂ ◌∷◌ (span_one grid b x y some h.0 k.0) (each_one grid bs xs ys some h.1 k.1)

from_one : (grid spine : ℕ) (columns : List (List Token)) (a b : List KernEvent) → 1 ≤ grid → AreEventsFrom grid spine columns a → AreEventsFrom grid spine columns b → a ≡ b
from_one grid spine [] a b some h k = h ∙ sym k
from_one grid spine (column ∷ columns) a b some (xs, more, are, rest, is) (ys, other, same, others, equal) =
    is ∙ ap₂ (λ spans events. map (span_event spine) spans ++ events) (each_one grid (beginnings [] column) xs ys some are same) (from_one grid (suc spine) columns more other some rest others)
    ∙ sym equal

pub one_list : EventsAreOne
one_list s a b is h k = from_one s.grid 1 s.columns a b is.some h k
