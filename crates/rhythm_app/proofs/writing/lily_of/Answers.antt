use Rattle.std.proofs.Common.{◌∙◌}
use Rattle.rhythm_app.proofs.Notating.{few_voices, voice_events, writable}
use Rattle.rhythm_app.proofs.writing.lily_of.Goals as goal

pub voice_count-voices-requires : goal.voice_count-voices-requires
voice_count-voices-requires c =
    let p = c.performance-performance.ensures in
    few_voices c.args.session.now.grammar c.args.session.now.performance c.in_ok-events.events.items c.requires.readable p.formed c.in_ok-events.ensures.events c.performance-performance.result.now p.value

pub write_lily-requires-clause-writable : goal.write_lily-requires-clause-writable
write_lily-requires-clause-writable c =
    let p = c.performance-performance.ensures in
    writable c.args.session.now.grammar c.args.session.now.performance c.in_ok-events.events.items c.requires.readable p.formed c.in_ok-events.ensures.events c.args.resolution c.voice_count-voices.result
    c.as_slice-in-Ok.result.now c.performance-performance.result.now c.requires.resolution (c.as_slice-in-Ok.ensures.value ∙ c.in-Ok.ensures) p.value c.voice_count-voices.ensures

pub write_lily-requires-clause-events : goal.write_lily-requires-clause-events
write_lily-requires-clause-events c =
    let p = c.performance-performance.ensures in
    voice_events c.args.session.now.grammar c.args.session.now.performance c.in_ok-events.events.items c.requires.readable p.formed c.in_ok-events.ensures.events c.args.resolution c.voice_count-voices.result
    c.as_slice-in-Ok.result.now c.performance-performance.result.now c.requires.resolution (c.as_slice-in-Ok.ensures.value ∙ c.in-Ok.ensures) p.value c.voice_count-voices.ensures c.as_slice.result.now c.as_slice.ensures.value
