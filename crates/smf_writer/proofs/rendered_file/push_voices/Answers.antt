use Rattle.std.proofs.Common.{length, ◌≤◌, ◌∙◌, arith, rules}
use Rattle.smf_bytes.specs.declared.quantity.TheConstants.{GREATEST_QUANTITY}
use Rattle.smf_writer.proofs.Spines.{all_playable}
use Rattle.smf_writer.proofs.Tracks.{all_short, all_there, one_more, one_more_short, voice_can_stand, voice_in_order}
use Rattle.smf_writer.proofs.rendered_file.push_voices.Goals as goal

pub voice-requires-clause-spans : goal.voice-requires-clause-spans
voice-requires-clause-spans c = λ k d lt. (all_playable c.args.resolution _ 1 (length c.args.channels.now) c.args.events.now c.requires.events k d lt).span

pub voice-requires-clause-early : goal.voice-requires-clause-early
voice-requires-clause-early c = λ k d lt.
    let e = all_playable c.args.resolution _ 1 (length c.args.channels.now) c.args.events.now c.requires.events k d lt in
    let few : c.args.last ≤ GREATEST_QUANTITY = search rules in
    omega (arith, e.early, c.requires.last, few)

pub push_events-requires-clause-order : goal.push_events-requires-clause-order
push_events-requires-clause-order c =
    voice_in_order c.args.resolution c.args.bars.now c.args.channels.now c.args.events.now c.channels.index _ c.args.last c.as_slice.result.now c.channels-test.true c.requires.events
    c.requires.last (c.as_slice.ensures.value ∙ c.in_ok-track.ensures)

pub push_events-requires-clause-channels : goal.push_events-requires-clause-channels
push_events-requires-clause-channels c = λ k d lt.
    (voice_can_stand c.args.resolution c.args.bars.now c.args.channels.now c.args.events.now c.channels.index _ c.as_slice.result.now c.channels-test.true c.requires.events c.requires.channels.few
    (c.as_slice.ensures.value ∙ c.in_ok-track.ensures) k d lt).channel_fits

pub channels-preserved : goal.channels-preserved
channels-preserved c = record {
  so_far = one_more c.args.last c.args.resolution c.args.events.now c.args.channels.now c.channels.index _ c.channels-test.true c.channels.bytes.items c.push_events.new.bytes.items _ c.as_slice.result.now
      (c.as_slice.ensures.value ∙ c.in_ok-track.ensures) c.in_ok-push_events.ensures.bytes c.channels.invariant.so_far;
  short = one_more_short c.args.last c.args.resolution c.args.events.now c.args.channels.now c.channels.index _ c.channels-test.true _ c.as_slice.result.now
      (c.as_slice.ensures.value ∙ c.in_ok-track.ensures) c.in_ok-push_events.ensures.short c.channels.invariant.short;
}

pub returns-clause-bytes : goal.returns-clause-bytes
returns-clause-bytes c =
    all_there c.args.last c.args.resolution c.args.events.now c.args.channels.now c.channels.index c.channels.bytes.items _ (omega (arith, c.channels-test.false)) c.channels.invariant.so_far

pub returns-clause-short : goal.returns-clause-short
returns-clause-short c = all_short c.args.last c.args.resolution c.args.events.now c.args.channels.now c.channels.index _ (omega (arith, c.channels-test.false)) c.channels.invariant.short
