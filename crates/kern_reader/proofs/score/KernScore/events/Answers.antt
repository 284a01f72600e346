use Rattle.std.proofs.Common.{◌≡◌, ◌+◌, ◌<◌, ◌++◌, append_assoc, length, map, subst, sym, ap, ◌∙◌, arith}
use Rattle.kern_reader.specs.Events.{AreColumnSpans, AreEventsFrom}
use Rattle.voice_events.specs.Events.{span_event}
use Rattle.kern_reader.proofs.EventLemmas.{column_on, events_end, events_next, same_column}
use Rattle.kern_reader.proofs.score.KernScore.events.Goals as goal

pub push_events-requires-clause-on : goal.push_events-requires-clause-on
push_events-requires-clause-on c =
    let i = c.columns.number in
    let inside = c.self.inside.columns.items in
    let all = c.deref-column-items.ensures.value in
    let is = same_column c.deref-column-items.result.now inside i c.as_slice.result.now c.column-item.result c.as_slice.ensures c.column-item.is all in
    let within : i < length inside = subst (λ xs. i < length xs) all c.columns-test.true in
    column_on c.self.inside.grid inside i c.as_slice.result.now within is c.self.invariant.on

pub columns-preserved : goal.columns-preserved
columns-preserved c = λ more are.
    let i = c.columns.number in
    let s = c.args.self.now in
    let text = c.as_slice.result.now in
    let (spans, of, pushed) = c.in_ok-push_events.ensures in
    let all = c.deref-column-items.ensures.value ∙ ap (λ v. v.columns) c.self.view_is in
    let is = same_column c.deref-column-items.result.now s.columns i text c.column-item.result c.as_slice.ensures c.column-item.is all in
    let within : i < length s.columns = subst (λ xs. i < length xs) all c.columns-test.true in
    let spans_are = subst (λ g. AreColumnSpans g text spans) (ap (λ v. v.grid) c.self.view_is) of in
    let own = map (span_event (i + 1)) spans in
    subst (AreEventsFrom s.grid 1 s.columns) (sym (ap (λ xs. xs ++ more) pushed ∙ append_assoc c.columns.events.items own more))
    (c.columns.invariant (own ++ more) (events_next s.grid (i + 1) s.columns text i spans more within is spans_are are))

pub returns : goal.returns
returns c =
    let i = c.columns.number in
    let s = c.args.self.now in
    let all = c.deref-column-items.ensures.value ∙ ap (λ v. v.columns) c.self.view_is in
    let end : i ≡ length s.columns = omega (arith, ap length all, c.columns-test.false, c.columns.auto.number-end) in
    events_end s.grid (i + 1) s.columns i c.columns.events.items end c.columns.invariant
