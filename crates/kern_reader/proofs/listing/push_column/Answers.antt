use Rattle.std.proofs.Common.{◌^◌, ◌<◌, ◌∷◌, ◌++◌, List, [], length, map, sym, ap, ◌∙◌, arith, rules, append-nil}
use Rattle.std.proofs.lemmas.List.{take_rest}
use Rattle.std.proofs.lemmas.List.Elements.{All-cons, All-nil}
use Rattle.voice_events.specs.declared.event.KernEvent.{KernEvent}
use Rattle.voice_events.specs.Events.{span_event}
use Rattle.kern_reader.specs.Score.{IsTokenOn}
use Rattle.kern_reader.proofs.EventLemmas.{after_on, cons_of, first_on, spans_end, spans_next, start_small}
use Rattle.kern_reader.proofs.ListingLemmas.{lines_next}
use Rattle.kern_reader.proofs.listing.push_column.Goals as goal

pub tokens-init : goal.tokens-init
tokens-init c =
    ([], [], c.new-walk.ensures c.args.grid, All-nil (IsTokenOn c.args.grid), c.requires.on, omega arith, sym (append-nil c.args.text.now.items), (λ more are. are))

pub push_beginning-requires-clause-on : goal.push_beginning-requires-clause-on
push_beginning-requires-clause-on c =
    let (before, spans, is, on_before, on_later, count, written, made) = c.tokens.invariant in
    after_on c.args.grid c.tokens.later.now _ (take_rest c.tokens.later.now 1) on_later

pub push_beginning-requires-clause-small : goal.push_beginning-requires-clause-small
push_beginning-requires-clause-small c =
    let (before, spans, is, on_before, on_later, count, written, made) = c.tokens.invariant in
    let short : length before < 2 ^ 32 = omega (arith, count, c.requires.short) in
    (start_small c.args.grid before c.tokens.walk (search rules) short on_before is).0

pub step-requires-clause-place : goal.step-requires-clause-place
step-requires-clause-place c =
    let (before, spans, is, on_before, on_later, count, written, made) = c.tokens.invariant in
    let short : length before < 2 ^ 32 = omega (arith, count, c.requires.short) in
    (start_small c.args.grid before c.tokens.walk (search rules) short on_before is).2

pub step-requires-clause-start : goal.step-requires-clause-start
step-requires-clause-start c =
    let (before, spans, is, on_before, on_later, count, written, made) = c.tokens.invariant in
    let short : length before < 2 ^ 32 = omega (arith, count, c.requires.short) in
    let small = (start_small c.args.grid before c.tokens.walk (search rules) short on_before is).1 in
    omega (arith, small)

pub tokens-preserved : goal.tokens-preserved
tokens-preserved c =
    let (before, spans, is, on_before, on_later, count, written, made) = c.tokens.invariant in
    let t = c.token-item.result in
    let later = c.tokens.later.now in
    let whole = cons_of later _ t c.in-len1-up.len_at_least (take_rest later 1) c.token-item.is in
    let (own, pushed, here) = c.in_ok-push_beginning.ensures before is in (
      t ∷ before,
      spans ++ own,
      c.in_ok-step.ensures before is,
      All-cons (IsTokenOn c.args.grid) t before (first_on c.args.grid later t c.in-len1-up.len_at_least c.token-item.is on_later) on_before,
      after_on c.args.grid later _ (take_rest later 1) on_later,
      omega (arith, count, ap length whole),
      lines_next c.args.spine c.args.text.now.items c.tokens.text.items c.push_lines.new.text.items spans own c.as_slice.result.now written
          (c.as_slice.ensures.value ∙ pushed ∙ ap (λ (xs : List KernEvent). xs ++ map (span_event c.args.spine) own) c.clear.ensures.items) c.in_ok-push_lines.ensures,
      spans_next c.args.grid c.args.tokens.now before later t _ spans own whole made here,
    )

pub returns : goal.returns
returns c =
    let (before, spans, is, on_before, on_later, count, written, made) = c.tokens.invariant in
    (spans, spans_end c.args.grid c.args.tokens.now before c.tokens.later.now spans c.in_default.len_below made, written)
