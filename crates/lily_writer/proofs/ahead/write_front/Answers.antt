use Rattle.std.proofs.Common.{◌∷◌, [], sym, subst}
use Rattle.std.proofs.lemmas.Result.{on_ok_weaker}
use Rattle.lily_writer.specs.Pieces.{bar_gap, bar_pieces}
use Rattle.lily_writer.specs.Writing.{EndsAfter, IsAhead, WritesPieces, stretches_ahead}
use Rattle.lily_writer.proofs.EventsAhead.{end_of_events, front_of_events, next_span}
use Rattle.lily_writer.proofs.ahead.write_front.Goals as goal

pub extent_of-requires-clause-span : goal.extent_of-requires-clause-span
extent_of-requires-clause-span c =
    let a = c.ahead.inside in
    (next_span c.args.resolution a.events.now a.at a.end c.event-item.result c.in-len1-up.len_at_least c.event-item.is
    (subst (IsAhead c.args.resolution) (sym c.ahead.view_is) c.requires.ahead)).0

pub extent_of-requires-clause-small : goal.extent_of-requires-clause-small
extent_of-requires-clause-small c =
    let a = c.ahead.inside in
    (next_span c.args.resolution a.events.now a.at a.end c.event-item.result c.in-len1-up.len_at_least c.event-item.is
    (subst (IsAhead c.args.resolution) (sym c.ahead.view_is) c.requires.ahead)).1

pub write_span-requires-clause-span : goal.write_span-requires-clause-span
write_span-requires-clause-span c =
    let a = c.ahead.inside in
    (next_span c.args.resolution a.events.now a.at a.end c.event-item.result c.in-len1-up.len_at_least c.event-item.is
    (subst (IsAhead c.args.resolution) (sym c.ahead.view_is) c.requires.ahead)).0

pub write_span-requires-clause-small : goal.write_span-requires-clause-small
write_span-requires-clause-small c =
    let a = c.ahead.inside in
    (next_span c.args.resolution a.events.now a.at a.end c.event-item.result c.in-len1-up.len_at_least c.event-item.is
    (subst (IsAhead c.args.resolution) (sym c.ahead.view_is) c.requires.ahead)).1

pub returns-in-empty : goal.returns-in-empty
returns-in-empty c =
    let a = c.ahead.inside in
    let bar = c.args.bar in
    on_ok_weaker c.write_gap.result
    (λ h. subst (λ b. WritesPieces c.args.resolution c.args.flats (bar_pieces bar.from bar.to (stretches_ahead c.args.resolution b))
    c.args.text.now.items c.write_gap.new.text.items) c.ahead.view_is
    (end_of_events c.args.resolution bar.from bar.to c.args.flats a.events.now a.at a.end c.args.text.now.items c.write_gap.new.text.items
    c.in-empty.len_below (h c.args.flats)))
    c.write_gap.ensures

pub returns-in_ok-write_gap-in-len1-up : goal.returns-in_ok-write_gap-in-len1-up
returns-in_ok-write_gap-in-len1-up c =
    let a = c.ahead.inside in
    let bar = c.args.bar in
    let e = c.event-item.result in
    let gap_text = subst (λ n. WritesPieces c.args.resolution c.args.flats (bar_pieces bar.from bar.to (bar_gap a.at n ∷ [])) c.args.text.now.items
    c.write_gap-in-len1-up.new.text.items)
    c.extent_of.ensures.from (c.in_ok-write_gap-in-len1-up.ensures c.args.flats) in
    on_ok_weaker c.write_span.result
    (λ h. subst (λ b. WritesPieces c.args.resolution c.args.flats (bar_pieces bar.from bar.to (stretches_ahead c.args.resolution b))
    c.args.text.now.items c.write_span.new.text.items) c.ahead.view_is
    (front_of_events c.args.resolution bar.from bar.to c.args.flats a.events.now a.at a.end e c.args.text.now.items
    c.write_gap-in-len1-up.new.text.items c.write_span.new.text.items
    c.in-len1-up.len_at_least c.event-item.is (subst (IsAhead c.args.resolution) (sym c.ahead.view_is) c.requires.ahead)
    (subst (λ b. EndsAfter c.args.resolution bar.to b.spans) (sym c.ahead.view_is) c.requires.next) gap_text h))
    c.write_span.ensures
