use Rattle.std.proofs.Common.{rules, ◌≡◌, ◌++◌, ◌+◌, ◌*◌, ◌≤◌, ℕ, List, length, ap, ◌∙◌, sym, subst, arith}
use Rattle.std.specs.Prelude.{All}
use Rattle.std.specs.List.{flat_map}
use Rattle.rhythm_base.specs.declared.event.Event.{Event}
use Rattle.smf_bytes.specs.Chunk.{header_bytes}
use Rattle.smf_bytes.specs.Track.{AreTimed}
use Rattle.smf_bytes.specs.declared.quantity.TheConstants.{GREATEST_QUANTITY}
use Rattle.voice_events.specs.Parts.{score_parts}
use Rattle.smf_writer.specs.Changes as definitions
use Rattle.smf_writer.specs.Strokes.{voices_from}
use Rattle.smf_writer.proofs.ConductorEvents.{IsChange, conductor_changes, conductor_timed}
use Rattle.smf_writer.proofs.Tracks.{IsShort, rendered_up_to, track_of}
use Rattle.smf_writer.proofs.rendered_file.render.Goals as goal

pub push_events-requires-clause-order : goal.push_events-requires-clause-order
push_events-requires-clause-order c =
    let last = c.in-Some.last in
    let r = c.of.result in
    let bars = c.args.bars.now in
    let parts = c.score_parts-tick.ensures ∙ ap (λ n. score_parts n bars) (sym c.of.ensures) in
    subst (λ (es : List Event). AreTimed 0 es last) (sym (c.as_slice.ensures.value ∙ c.in_ok-changes.ensures)) (conductor_timed last r bars (omega (arith, parts, c.in-Some.ensures.is)))

pub push_events-requires-clause-channels : goal.push_events-requires-clause-channels
push_events-requires-clause-channels c =
    let r = c.of.result in
    let bars = c.args.bars.now in
    let parts = c.score_parts-tick.ensures ∙ ap (λ n. score_parts n bars) (sym c.of.ensures) in
    let few : c.in-Some.last ≤ GREATEST_QUANTITY = search rules in
    let early : score_parts r bars ≤ GREATEST_QUANTITY = omega (arith, few, c.in-Some.ensures.is, parts) in
    let changes : All (IsChange GREATEST_QUANTITY) c.as_slice.result.now =
    subst (All (IsChange GREATEST_QUANTITY)) (sym (c.as_slice.ensures.value ∙ c.in_ok-changes.ensures)) (conductor_changes GREATEST_QUANTITY r bars early) in
    λ k d lt. (changes k d lt).no_channel

pub returns-clause-file : goal.returns-clause-file
returns-clause-file c =
    let r = c.args.resolution in
    let bars = c.args.bars.now in
    let channels = c.args.channels.now in
    let events = c.args.events.now in
    let last = c.in-Some.last in
    let few : last ≤ GREATEST_QUANTITY = search rules in
    let changes : c.as_slice.result.now ≡ definitions.conductor r bars = c.as_slice.ensures.value ∙ c.in_ok-changes.ensures ∙ ap (λ n. definitions.conductor n bars) c.of.ensures in
    let headed : c.push_header.new.bytes.items ≡ header_bytes (length channels + 1) (16 * r) = search rules in
    let made =
    c.in_ok-push_voices.ensures.bytes
    ∙ ap (λ (bytes : List ℕ). bytes ++ flat_map (track_of last) (voices_from r events 1 channels))
    (c.in_ok-push_events.ensures.bytes
    ∙ ap (λ (bytes : List ℕ). bytes ++ track_of last c.as_slice.result.now) headed
    ∙ ap (λ (es : List Event). header_bytes (length channels + 1) (16 * r) ++ track_of last es) changes) in
    rendered_up_to r bars channels events c.push_voices.new.bytes.items last (c.in-Some.ensures.is ∙ c.score_parts-tick.ensures) few c.requires.events
    (subst (IsShort last) changes c.in_ok-push_events.ensures.short) c.in_ok-push_voices.ensures.short made
