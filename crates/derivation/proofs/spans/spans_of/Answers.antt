use Rattle.std.proofs.Common.{◌-◌, arith, drop, length, subst, take}
use Rattle.std.proofs.lemmas.List.{take_rest}
use Rattle.derivation.specs.SpanLists.{AddsSpansOf}
use Rattle.derivation.proofs.SpansRead.{place_later, spans_end, spans_later, within_score}
use Rattle.derivation.proofs.spans.spans_of.Goals as goal

pub push_run-requires-clause-small : goal.push_run-requires-clause-small
push_run-requires-clause-small c =
    let (n, p, stand, here) = c.sounds.invariant.place in
    let small = within_score c.args.resolution c.args.bars.now c.requires.few_units c.requires.few_bars c.requires.signatures c.sounds.later.now _ c.sound-item.result c.in-len1-up.len_at_least (take_rest c.sounds.later.now 1) c.sound-item.is n p c.sounds.place stand here in
    omega (arith, small)

pub overflow_add-place : goal.overflow_add-place
overflow_add-place c =
    let (n, p, stand, here) = c.sounds.invariant.place in
    let small = within_score c.args.resolution c.args.bars.now c.requires.few_units c.requires.few_bars c.requires.signatures c.sounds.later.now _ c.sound-item.result c.in-len1-up.len_at_least (take_rest c.sounds.later.now 1) c.sound-item.is n p c.sounds.place stand here in
    omega (arith, small, c.sound_length-place.ensures)

pub sounds-preserved : goal.sounds-preserved
sounds-preserved c =
    let (n, p, stand, here) = c.sounds.invariant.place in
    record {
      made = spans_later c.args.resolution c.args.bars.now c.requires.few_units c.requires.few_bars c.requires.signatures c.sounds.later.now _ c.sound-item.result c.in-len1-up.len_at_least (take_rest c.sounds.later.now 1) c.sound-item.is c.args.sounds.now c.sounds.spans.items c.push_run.new.spans.items
          (subst (λ r. AddsSpansOf c.sound-item.result (take (length c.sounds.later.now - 1) (drop 1 c.sounds.later.now)) r c.args.bars.now c.sounds.spans c.push_run.new.spans) c.of-units.ensures c.in_ok-push_run.ensures)
          c.sounds.invariant.made;
      place = rw c.sound_length-place.ensures (place_later c.args.resolution c.args.bars.now c.requires.few_units c.requires.few_bars c.requires.signatures c.sounds.later.now _ c.sound-item.result c.in-len1-up.len_at_least (take_rest c.sounds.later.now 1) c.sound-item.is n p c.sounds.place stand here);
    }

pub returns : goal.returns
returns c = record { spans = spans_end c.args.resolution c.args.bars.now c.sounds.later.now c.args.sounds.now c.sounds.spans.items c.in_default.len_below c.sounds.invariant.made }
