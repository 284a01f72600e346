use Rattle.std.proofs.Common.{ℕ, List, ap, length, ◌∙◌}
use Rattle.rhythm_base.specs.Performance.{Performance}
use Rattle.rhythm_app.proofs.Notating.{own_channels, voice_events, writable}
use Rattle.rhythm_app.proofs.writing.rendering_of.Goals as goal

pub render-requires-clause-writable : goal.render-requires-clause-writable
render-requires-clause-writable c =
    let p = c.performance-performance.ensures in
    writable c.args.session.now.grammar c.args.session.now.performance c.in_ok-events.events.items c.requires.readable p.formed c.in_ok-events.ensures.events c.args.resolution (length c.channels-channels.result.now)
    c.as_slice-in-Ok.result.now c.performance-performance.result.now c.requires.resolution (c.as_slice-in-Ok.ensures.value ∙ c.in-Ok.ensures) p.value (ap (λ (channels : List ℕ). length channels) c.channels-channels.ensures)

pub render-requires-clause-channels : goal.render-requires-clause-channels
render-requires-clause-channels c =
    let p = c.performance-performance.ensures in
    own_channels c.args.session.now.grammar c.args.session.now.performance c.in_ok-events.events.items c.requires.readable p.formed c.in_ok-events.ensures.events c.channels-channels.result.now
    (c.channels-channels.ensures ∙ ap (λ (q : Performance). q.channels) p.value)

pub render-requires-clause-events : goal.render-requires-clause-events
render-requires-clause-events c =
    let p = c.performance-performance.ensures in
    voice_events c.args.session.now.grammar c.args.session.now.performance c.in_ok-events.events.items c.requires.readable p.formed c.in_ok-events.ensures.events c.args.resolution (length c.channels-channels.result.now)
    c.as_slice-in-Ok.result.now c.performance-performance.result.now c.requires.resolution (c.as_slice-in-Ok.ensures.value ∙ c.in-Ok.ensures) p.value (ap (λ (channels : List ℕ). length channels) c.channels-channels.ensures) c.as_slice.result.now c.as_slice.ensures.value
