use Rattle.std.proofs.Common.{◌∷◌, arith}
use Rattle.edit_script.specs.Pieces.{word_text}
use Rattle.edit_script.proofs.SendingLemmas.{fails, pieces_cut, pieces_more}
use Rattle.edit_script.proofs.word.write_later_words.Goals as goal

pub words-preserved : goal.words-preserved
words-preserved g c = record {
  sent = pieces_more (λ w. 32 ∷ word_text w) _ _ _ _ _ _ c.args.words.now c.words.word-index _ c.words-test.true c.words.invariant.sent c.in_ok-write_after.ensures.written;
  later = let before = c.words.invariant.later in let after = c.write_after.ensures.cause.later in omega (arith, before, after);
}

pub returns-in_err-write_after-clause-written : goal.returns-in_err-write_after-clause-written
returns-in_err-write_after-clause-written g c =
    fails _ _ _ _ _ c.from_residual.result c.in_err-write_after.field-0.0 (c.from_residual.ensures.0, c.from_residual.ensures.1)
    (pieces_cut (λ w. 32 ∷ word_text w) _ _ _ _ _ _ c.args.words.now c.words.word-index _ c.words-test.true c.words.invariant.sent c.in_err-write_after.ensures.written)
