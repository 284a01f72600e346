use Rattle.std.proofs.Common.{rules, arith, ◌≡◌, ◌++◌, ◌+◌, ◌-◌, ◌<◌, ℕ, List, [], ◌∷◌, get_or, map, take, length, refl, sym, ap, ◌∙◌}
use Rattle.std.proofs.Math.Numerals.{add-one}
use Rattle.std.proofs.Math.Seq.{take-suc}
use Rattle.std.proofs.lemmas.List.{take_all}
use Rattle.rhythm_base.specs.declared.event.Event.{Event}
use Rattle.rhythm_base.specs.declared.event.What.TheVariants.{On}
use Rattle.smf_bytes.specs.Message.{message_bytes}
use Rattle.smf_bytes.specs.Quantity.{quantity_bytes}
use Rattle.smf_bytes.specs.Track.{bytes_from, content_bytes, end_of_track_bytes, timed_message}
use Rattle.smf_bytes.proofs.Messages.{content_end, content_push, last_tick, last_tick_push, no_bytes, timed_early, timed_next, timed_within}
use Rattle.smf_bytes.proofs.track.track_content.Goals as goal

pub events-init : goal.events-init
events-init c =
    let empty : c.new-content.result.items ≡ [] = search rules in
    record { so_far = empty ∙ sym (no_bytes 0); tick = refl }

pub events-preserved : goal.events-preserved
events-preserved c =
    let events = c.args.events.now in
    let i = c.events.event-index in
    let nothing : Event = record { tick = 0; what = On 0 0 } in
    let within : i < length events = search rules in
    let before : List Event = take i events in
    let e : Event = get_or events i nothing in
    let one : take (i + 1) events ≡ before ++ e ∷ [] = ap (λ k. take k events) (add-one i) ∙ take-suc events i nothing within in
    let pushed : c.push_event.new.content.items ≡ c.events.content.items ++ (quantity_bytes (e.tick - c.events.tick) ++ message_bytes e.what) = search rules in
    record {
      so_far = pushed
          ∙ ap (λ (xs : List ℕ). xs ++ (quantity_bytes (e.tick - c.events.tick) ++ message_bytes e.what)) c.events.invariant.so_far
          ∙ ap (λ t. bytes_from 0 (map timed_message before) ++ (quantity_bytes (e.tick - t) ++ message_bytes e.what)) c.events.invariant.tick
          ∙ sym (content_push 0 before e)
          ∙ ap (λ (xs : List Event). bytes_from 0 (map timed_message xs)) (sym one);
      tick = sym (last_tick_push 0 before e) ∙ ap (last_tick 0) (sym one);
    }

pub returns : goal.returns
returns c =
    let events = c.args.events.now in
    let i = c.events.event-index in
    let all : take i events ≡ events = take_all i events (search rules) in
    let ended : c.push_end.new.content.items ≡ c.events.content.items ++ (quantity_bytes (c.count-end.result - c.events.tick) ++ end_of_track_bytes) = search rules in
    ended
    ∙ ap (λ n. c.events.content.items ++ (quantity_bytes (n - c.events.tick) ++ end_of_track_bytes)) c.count-end.ensures.is
    ∙ ap (λ (xs : List ℕ). xs ++ (quantity_bytes (c.args.last - c.events.tick) ++ end_of_track_bytes)) c.events.invariant.so_far
    ∙ ap (λ t. bytes_from 0 (map timed_message (take i events)) ++ (quantity_bytes (c.args.last - t) ++ end_of_track_bytes)) c.events.invariant.tick
    ∙ sym (content_end (take i events) c.args.last)
    ∙ ap (λ (xs : List Event). content_bytes xs c.args.last) all

pub overflow_sub-event : goal.overflow_sub-event
overflow_sub-event c =
    let nothing : Event = record { tick = 0; what = On 0 0 } in
    let next = timed_next 0 c.args.events.now c.args.last c.events.event-index nothing c.requires.order c.events-test.true in
    omega (arith, next, c.events.invariant.tick)

pub push_event-requires-clause-early : goal.push_event-requires-clause-early
push_event-requires-clause-early c =
    let nothing : Event = record { tick = 0; what = On 0 0 } in
    let early = timed_early 0 c.args.events.now c.args.last c.events.event-index nothing c.requires.order c.events-test.true in
    omega (arith, early, c.count-end.ensures.is, c.count-end.ensures.few)

pub overflow_sub-end : goal.overflow_sub-end
overflow_sub-end c =
    let events = c.args.events.now in
    let i = c.events.event-index in
    let all : take i events ≡ events = take_all i events (search rules) in
    let within = timed_within 0 events c.args.last c.requires.order in
    omega (arith, within, c.count-end.ensures.is, c.events.invariant.tick ∙ ap (last_tick 0) all)
