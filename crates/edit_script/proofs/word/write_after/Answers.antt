use Rattle.std.proofs.Common.{◌∷◌, []}
use Rattle.edit_script.specs.Pieces.{word_text}
use Rattle.edit_script.proofs.SendingLemmas.{SentPart-first, fails, writes_after}
use Rattle.edit_script.proofs.word.write_after.Goals as goal

pub returns-in_err-write-clause-written : goal.returns-in_err-write-clause-written
returns-in_err-write-clause-written g c =
    fails _ _ _ _ _ c.from_residual.result c.in_err-write.field-0.0 (c.from_residual.ensures.0, c.from_residual.ensures.1)
    (SentPart-first _ _ _ _ _ (word_text c.args.word) c.in_err-write.ensures.written)

pub returns-clause-written : goal.returns-clause-written
returns-clause-written g c =
    writes_after _ _ _ _ _ _ (c.args.separator ∷ []) (word_text c.args.word) c.write_word.result c.in_ok-write.ensures.written c.write_word.ensures.written
