use Rattle.std.proofs.Common.{rules, ◌≡◌, ◌∙◌, ◌<◌, ◌++◌, [], ◌∷◌, length, refl, sym, ap}
use Rattle.std.specs.Prelude.{Some, slice_get}
use Rattle.std.proofs.lemmas.Option.{slice_get_read}
use Rattle.grammar_plan.specs.declared.seat.Seat.{Seat}
use Rattle.grammar_plan.proofs.SeatLemmas.{seat-next}
use Rattle.grammar_plan.proofs.seats.push_seat.Goals as goal

pub returns-clause-draft : goal.returns-clause-draft
returns-clause-draft c =
    let old = c.args.draft.now in
    let new = c.push_cuts.new.self in
    let seats = c.args.seats.now.items in
    let s : Seat = record { width = c.index.result.now.0; symbol = c.index.result.now.1; first = c.in_ok-first.first; end = c.in_ok-end.end; base = c.in_ok-stretch.stretch.base; inverse = c.in_ok-stretch.stretch.inverse } in
    let at : c.len.result ≡ length seats = search rules in
    let low : c.len.result < length old.pairs.found.items = search rules in
    let here : slice_get old.pairs.found.items (length seats) ≡ Some c.index.result.now
    = ap (slice_get old.pairs.found.items) (sym at) ∙ slice_get_read old.pairs.found.items (length old.pairs.found.items) c.len.result c.index.result.now refl low c.index.ensures in
    let first : c.in_ok-first.first ≡ length old.cuts.items = search rules in
    let end : c.in_ok-end.end ≡ length new.cuts.items = search rules in
    let more : c.push-2.new.self.items ≡ seats ++ s ∷ [] = search rules in
    seat-next c.args.grammar.now old.pairs.found.items new.pairs.found.items old.parts.items new.parts.items old.cuts.items new.cuts.items seats c.push-2.new.self.items s c.requires.draft c.in_ok-push_cuts.ensures here first end more
