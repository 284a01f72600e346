use Rattle.std.proofs.Common.{◌∷◌, ℕ, arith, subst}
use Rattle.std.specs.Prelude.{decimal}
use Rattle.edit_script.specs.Sending.{Sent, SentPart}
use Rattle.edit_script.proofs.SendingLemmas.{fails, pieces_cut, pieces_more}
use Rattle.edit_script.proofs.word.write_later_numbers.Goals as goal

pub numbers-preserved : goal.numbers-preserved
numbers-preserved g c =
    let P : ℕ → Type 0 = λ n. Sent (g.K.Sink.taken c.numbers.sink) (g.K.Sink.taken c.write_after.new.sink) c.numbers.held c.write_after.new.held (44 ∷ decimal n) in
    record {
      sent = pieces_more (λ n. 44 ∷ decimal n) _ _ _ _ _ _ c.args.numbers.now c.numbers.number-index _ c.numbers-test.true c.numbers.invariant.sent
          (subst P c.from.ensures c.in_ok-write_after.ensures.written);
      later = let before = c.numbers.invariant.later in let after = c.write_after.ensures.cause.later in omega (arith, before, after);
    }

pub returns-in_err-write_after-clause-written : goal.returns-in_err-write_after-clause-written
returns-in_err-write_after-clause-written g c =
    let P : ℕ → Type 0 = λ n. SentPart (g.K.Sink.taken c.numbers.sink) (g.K.Sink.taken c.write_after.new.sink) c.numbers.held c.in_err-write_after.field-0.0.sent (44 ∷ decimal n) in
    fails _ _ _ _ _ c.from_residual.result c.in_err-write_after.field-0.0 (c.from_residual.ensures.0, c.from_residual.ensures.1)
    (pieces_cut (λ n. 44 ∷ decimal n) _ _ _ _ _ _ c.args.numbers.now c.numbers.number-index _ c.numbers-test.true c.numbers.invariant.sent
    (subst P c.from.ensures c.in_err-write_after.ensures.written))
