use Rattle.std.proofs.Common.{◌≡◌, ◌+◌, ◌<◌, ◌++◌, [], append_assoc, length, map, subst, sym, ap, ◌∙◌, arith}
use Rattle.std.proofs.lemmas.Grind.{flat_map-append}
use Rattle.kern_reader.specs.EventText.{event_text, events_text}
use Rattle.kern_reader.specs.Events.{AreColumnSpans, AreEventsFrom}
use Rattle.voice_events.specs.Events.{span_event}
use Rattle.kern_reader.proofs.EventLemmas.{column_on, events_end, events_next, same_column}
use Rattle.kern_reader.proofs.score.KernScore.write_events.Goals as goal

pub columns-init : goal.columns-init
columns-init c = ([], c.new-text.ensures.items, λ more are. are)

pub push_column-requires-clause-on : goal.push_column-requires-clause-on
push_column-requires-clause-on c =
    let i = c.columns.number in
    let inside = c.self.inside.columns.items in
    let all = c.deref-column-items.ensures.value in
    let is = same_column c.deref-column-items.result.now inside i c.as_slice.result.now c.column-item.result c.as_slice.ensures c.column-item.is all in
    let within : i < length inside = subst (λ xs. i < length xs) all c.columns-test.true in
    column_on c.self.inside.grid inside i c.as_slice.result.now within is c.self.invariant.on

pub columns-preserved : goal.columns-preserved
columns-preserved c =
    let i = c.columns.number in
    let s = c.args.self.now in
    let text = c.as_slice.result.now in
    let (events, written, made) = c.columns.invariant in
    let (spans, of, pushed) = c.in_ok-push_column.ensures in
    let all = c.deref-column-items.ensures.value ∙ ap (λ v. v.columns) c.self.view_is in
    let is = same_column c.deref-column-items.result.now s.columns i text c.column-item.result c.as_slice.ensures c.column-item.is all in
    let within : i < length s.columns = subst (λ xs. i < length xs) all c.columns-test.true in
    let spans_are = subst (λ g. AreColumnSpans g text spans) (ap (λ v. v.grid) c.self.view_is) of in
    let own = map (span_event (i + 1)) spans in (
      events ++ own,
      pushed ∙ ap (λ t. t ++ events_text own) written ∙ sym (flat_map-append event_text events own),
      λ more are. subst (AreEventsFrom s.grid 1 s.columns) (sym (append_assoc events own more)) (made (own ++ more) (events_next s.grid (i + 1) s.columns text i spans more within is spans_are are)),
    )

pub returns : goal.returns
returns c =
    let i = c.columns.number in
    let s = c.args.self.now in
    let (events, written, made) = c.columns.invariant in
    let all = c.deref-column-items.ensures.value ∙ ap (λ v. v.columns) c.self.view_is in
    let end : i ≡ length s.columns = omega (arith, ap length all, c.columns-test.false, c.columns.auto.number-end) in
    (events, events_end s.grid (i + 1) s.columns i events end made, written)
