use Rattle.std.proofs.Common.{◌∷◌, [], sym, subst}
use Rattle.std.proofs.lemmas.List.{take_rest}
use Rattle.lily_writer.specs.Pieces.{bar_gap, bar_pieces}
use Rattle.lily_writer.specs.Writing.{HasPassed, WritesPieces}
use Rattle.lily_writer.proofs.EventsAhead.{event_passed, next_span}
use Rattle.lily_writer.proofs.Stretches.{passed_none}
use Rattle.lily_writer.proofs.ahead.write_ended.Goals as goal

pub events-init : goal.events-init
events-init c =
    let bar = c.args.bar in
    subst (λ a. HasPassed c.args.resolution bar.from bar.to c.args.flats c.args.ahead a c.args.text.now.items c.args.text.now.items)
    (sym c.ahead.view_is)
    (passed_none c.args.resolution bar.from bar.to c.args.flats c.args.ahead c.args.text.now.items c.requires.ahead)

pub extent_of-whole-requires-clause-span : goal.extent_of-whole-requires-clause-span
extent_of-whole-requires-clause-span c =
    (next_span c.args.resolution c.events.events.now c.events.at c.ahead.inside.end c.event-item.result c.in-len1-up.len_at_least
    c.event-item.is c.events.invariant.ahead).0

pub extent_of-whole-requires-clause-small : goal.extent_of-whole-requires-clause-small
extent_of-whole-requires-clause-small c =
    (next_span c.args.resolution c.events.events.now c.events.at c.ahead.inside.end c.event-item.result c.in-len1-up.len_at_least
    c.event-item.is c.events.invariant.ahead).1

pub write_span-requires-clause-span : goal.write_span-requires-clause-span
write_span-requires-clause-span c =
    (next_span c.args.resolution c.events.events.now c.events.at c.ahead.inside.end c.event-item.result c.in-len1-up.len_at_least
    c.event-item.is c.events.invariant.ahead).0

pub write_span-requires-clause-small : goal.write_span-requires-clause-small
write_span-requires-clause-small c =
    (next_span c.args.resolution c.events.events.now c.events.at c.ahead.inside.end c.event-item.result c.in-len1-up.len_at_least
    c.event-item.is c.events.invariant.ahead).1

pub events-preserved : goal.events-preserved
events-preserved c =
    let bar = c.args.bar in
    let e = c.event-item.result in
    let events = c.events.events.now in
    let gap_text = subst (λ n. WritesPieces c.args.resolution c.args.flats (bar_pieces bar.from bar.to (bar_gap c.events.at n ∷ []))
    c.events.text.items c.write_gap.new.text.items)
    c.extent_of-whole.ensures.from (c.in_ok-write_gap.ensures c.args.flats) in
    event_passed c.args.resolution bar.from bar.to c.args.flats c.args.ahead events _ c.events.at c.extent_of-whole.result.to
    c.ahead.inside.end e
    c.args.text.now.items c.events.text.items c.write_gap.new.text.items c.write_span.new.text.items c.in-len1-up.len_at_least
    (take_rest events 1) c.event-item.is
    c.extent_of-whole.ensures.to c.events.invariant c.if-whole-bar.false gap_text c.in_ok-write_span.ensures
