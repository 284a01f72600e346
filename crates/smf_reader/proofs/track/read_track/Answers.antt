use Rattle.std.proofs.Common.{List, None, refl, sym, subst, arith}
use Rattle.std.proofs.lemmas.Result.{err_from_is_err_and}
use Rattle.rhythm_base.specs.declared.event.Event.{Event}
use Rattle.smf_reader.proofs.TrackSteps.{ComesTo, starts, is_done, fails, goes_on, skips, ends}
use Rattle.smf_reader.specs.Track.{track}
use Rattle.smf_reader.proofs.track.read_track.Goals as goal

pub events-init : goal.events-init
events-init c =
    let P : List Event → Type 0 = λ es. ComesTo c.args.bytes.now es 0 None c.args.at (track c.args.bytes.now c.args.at) in
    record {
      so_far = subst P (sym c.in_ok-events.ensures.items) (starts c.args.bytes.now c.args.at (track c.args.bytes.now c.args.at) refl);
      within = c.requires;
      tick = omega arith;
    }

pub returns-in_err-step : goal.returns-in_err-step
returns-in_err-step c =
    let s = c.events in
    let p = err_from_is_err_and c.from_residual-in_err-step.result c.from_residual-in_err-step.ensures.1 in
    rw (p.1, p.2) (λ _. fails c.args.bytes.now s.events.items s.last s.running s.place c.in_err-step.field-0.0 (track c.args.bytes.now c.args.at) c.events-test.true (sym c.in_err-step.ensures.value) s.invariant.so_far)

pub events-preserved-in-Continue-branch-3 : goal.events-preserved-in-Continue-branch-3
events-preserved-in-Continue-branch-3 c =
    let s = c.events in
    let step = c.in_ok-step in
    record {
      so_far = goes_on c.args.bytes.now s.events.items _ s.last s.running s.place step.step c.in-Event.what (track c.args.bytes.now c.args.at) c.events-test.true step.ensures.later (sym step.ensures.value) c.in-Event.is c.in_ok-push-in-Event.ensures.items s.invariant.so_far;
      within = step.ensures.within;
      tick = step.ensures.limit;
    }

pub events-preserved : goal.events-preserved
events-preserved c =
    let s = c.events in
    let step = c.in_ok-step in
    record {
      so_far = skips c.args.bytes.now s.events.items s.last s.running s.place step.step (track c.args.bytes.now c.args.at) c.events-test.true step.ensures.later (sym step.ensures.value) c.in-Skipped.is s.invariant.so_far;
      within = step.ensures.within;
      tick = step.ensures.limit;
    }

pub returns-in-EndOfTrack : goal.returns-in-EndOfTrack
returns-in-EndOfTrack c =
    let s = c.events in
    ends c.args.bytes.now s.events.items s.last s.running s.place c.in_ok-step.step (track c.args.bytes.now c.args.at) c.events-test.true (sym c.in_ok-step.ensures.value) c.in-EndOfTrack.is s.invariant.so_far

pub returns : goal.returns
returns c =
    let s = c.events in
    is_done c.args.bytes.now s.events.items s.last s.running s.place (track c.args.bytes.now c.args.at) c.events-test.false s.invariant.so_far
