use Rattle.std.proofs.Common.{◌<◌, ◌^◌, sym, ap, subst, arith}
use Rattle.std.proofs.lemmas.List.{take_rest}
use Rattle.voice_values.specs.Values.{VoiceValue}
use Rattle.notation.specs.Runs.{IsInBar}
use Rattle.notation.specs.Tokens.{Token}
use Rattle.notation.proofs.CutTokens.{value_step}
use Rattle.notation.proofs.Fronts.{first_and_more, first_holds, more_hold}
use Rattle.notation.specs.Spelling.{IsNoteValue}
use Rattle.notation.proofs.Values.{note_value}
use Rattle.notation.proofs.cut.bar_tokens.Goals as goal

pub value_token-token-requires-clause-value : goal.value_token-token-requires-clause-value
value_token-token-requires-clause-value c =
    let later = c.values.later.now in
    first_holds (IsInBar c.args.resolution c.args.bar.now) later _ c.value-item.result
    (first_and_more later _ c.value-item.result c.in-len1-up.len_at_least (take_rest later 1) c.value-item.is) c.values.invariant.in_bar

pub push_cut-requires-clause-value : goal.push_cut-requires-clause-value
push_cut-requires-clause-value c =
    let later = c.values.later.now in
    let v = c.value-item.result in
    let here = first_holds (IsInBar c.args.resolution c.args.bar.now) later _ v
    (first_and_more later _ v c.in-len1-up.len_at_least (take_rest later 1) c.value-item.is) c.values.invariant.in_bar in
    subst (λ (x : VoiceValue). IsNoteValue x.value) (sym c.value.view_is) (note_value c.args.resolution c.args.bar.now v (omega (arith, c.count-units.ensures.is, c.count-units.ensures.some)) here)

pub push_cut-requires-clause-start : goal.push_cut-requires-clause-start
push_cut-requires-clause-start c =
    let later = c.values.later.now in
    let v = c.value-item.result in
    let here = first_holds (IsInBar c.args.resolution c.args.bar.now) later _ v
    (first_and_more later _ v c.in-len1-up.len_at_least (take_rest later 1) c.value-item.is) c.values.invariant.in_bar in
    subst (λ (t : Token). t.start < 2 ^ 32) (sym c.value_token-token.ensures) (omega (arith, here.end, c.count-units.ensures.is, c.count-units.ensures.few))

pub values-preserved : goal.values-preserved
values-preserved c =
    let later = c.values.later.now in
    let v = c.value-item.result in
    let split = first_and_more later _ v c.in-len1-up.len_at_least (take_rest later 1) c.value-item.is in
    record {
      in_bar = more_hold (IsInBar c.args.resolution c.args.bar.now) later _ v split c.values.invariant.in_bar;
      tokens = value_step c.args.resolution c.args.odd c.args.bar.now c.args.after c.next_goes_on-goes.result later _ v c.value.inside.value
          c.value_token-token.result
          c.values.list.items c.push_cut.new.list.items _ split c.next_goes_on-goes.ensures c.value_token-token.ensures
          (ap (λ (x : VoiceValue). x.value) c.value.view_is) c.in_ok-push_cut.ensures
          c.values.invariant.tokens;
    }
