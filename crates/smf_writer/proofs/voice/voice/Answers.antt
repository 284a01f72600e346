use Rattle.std.proofs.Common.{◌≡◌, ◌++◌, ◌+◌, List, [], ◌∷◌, take, sym, ap, ◌∙◌, append-nil}
use Rattle.std.specs.List.{flat_map}
use Rattle.std.proofs.Math.Numerals.{add-one}
use Rattle.std.proofs.Math.Seq.{take-suc}
use Rattle.std.proofs.lemmas.Grind.{flat_map-append}
use Rattle.rhythm_base.specs.declared.event.Event.{Event}
use Rattle.voice_events.specs.declared.event.KernEvent.{KernEvent}
use Rattle.smf_writer.specs.Strokes.{own_events}
use Rattle.smf_writer.proofs.EventStrokes.{own_absent, own_there}
use Rattle.smf_writer.proofs.voice.voice.Goals as goal
use Rattle.smf_writer.proofs.voice.voice.Goals.{then-event-spine+in_ok-push_event, else-event-spine}

pub events-preserved : goal.events-preserved
events-preserved c =
    let events = c.args.events.now in
    let i = c.events.event-index in
    let e : KernEvent = c.event-item.result in
    let before : List KernEvent = take i events in
    let own : KernEvent → List Event = own_events c.args.resolution c.args.channel c.args.spine in
    let so_far : List Event = c.events.track.items in
    let one : take (i + 1) events ≡ before ++ e ∷ [] = ap (λ k. take k events) (add-one i) ∙ take-suc events i e c.events-test.true ∙ ap (λ (x : KernEvent). before ++ x ∷ []) (sym c.event-item.is) in
    let pushed : c.if-event-spine.track.items ≡ so_far ++ own e = elim c.if-event-spine.branch [
      | then-event-spine+in_ok-push_event w ↦ (λ i. (w.track-is i).items) ∙ w.in_ok-push_event.ensures
          ∙ ap (λ (es : List Event). so_far ++ es) (sym (own_there c.args.resolution c.args.channel c.args.spine e w.if-event-spine.true))
      | else-event-spine w ↦ (λ i. (w.track-is i).items) ∙ sym (append-nil so_far)
          ∙ ap (λ (es : List Event). so_far ++ es) (sym (own_absent c.args.resolution c.args.channel c.args.spine e w.if-event-spine.false))
    ] in
    pushed
    ∙ ap (λ (es : List Event). es ++ own e) c.events.invariant
    ∙ ap (λ (es : List Event). flat_map own before ++ es) (sym (append-nil (own e)))
    ∙ sym (flat_map-append own before (e ∷ []))
    ∙ ap (flat_map own) (sym one)
