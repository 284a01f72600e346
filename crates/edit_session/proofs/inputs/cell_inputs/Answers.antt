use Rattle.std.proofs.Common.{rules, ◌≡◌, ◌<◌, ◌++◌, length, subst, sym, ap, take, ◌+◌, arith, Err}
use Rattle.std.proofs.lemmas.Result.{err_from_is_err_and}
use Rattle.rhythm_base.specs.Voices.{HasStarts}
use Rattle.edit_session.specs.Inputs.{AreInputsOf}
use Rattle.edit_session.proofs.Faults.{input_fault}
use Rattle.edit_session.proofs.VoiceInputs.{inputs_more}
use Rattle.edit_session.proofs.inputs.cell_inputs.Goals as goal

pub voices-preserved : goal.voices-preserved
voices-preserved c =
    let channels = c.channels-channel-items.result.now in
    let i = c.voices.channel-index in
    let lt : i < length channels = search rules in
    let appended : c.append.new.self.items ≡ c.voices.inputs.items ++ c.in_ok-own.own.items = search rules in
    record {
      inputs = subst (λ l. AreInputsOf c.args.grammar.now c.args.performance.now (take (i + 1) channels) l) (sym appended)
          (inputs_more c.args.grammar.now c.args.performance.now channels c.voices.inputs.items c.in_ok-own.own.items i 0 lt c.voices.invariant.inputs c.in_ok-own.ensures.inputs);
      starts = λ _. c.in_ok-own.ensures.starts;
    }

pub returns-clause-starts : goal.returns-clause-starts
returns-clause-starts c =
    let some = c.requires.formed.some_voice in
    let same = ap length c.channels-channel-items.ensures in
    c.voices.invariant.starts (omega (arith, some, same, c.voices-test.false))

pub returns-in_err-own-clause-fault : goal.returns-in_err-own-clause-fault
returns-in_err-own-clause-fault c =
    let p = err_from_is_err_and c.from_residual-in_err-own.result c.from_residual-in_err-own.ensures.1 in
    rw (p.1, p.2) (input_fault c.args.grammar.now c.args.performance.now c.in_err-own.field-0.0 (subst (HasStarts c.args.grammar.now) c.bars.ensures.value c.in_ok-check_starts.ensures.starts)
    (λ bar num den e. c.in_err-own.ensures.no_start bar num den (ap Err e)))
