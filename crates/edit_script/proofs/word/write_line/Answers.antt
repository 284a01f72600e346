use Rattle.std.proofs.Common.{map}
use Rattle.std.specs.Prelude.{codes}
use Rattle.std.specs.List.{join_with_byte}
use Rattle.edit_script.specs.Pieces.{word_text}
use Rattle.edit_script.proofs.SendingLemmas.{SentPart-first, fails, writes_after}
use Rattle.edit_script.proofs.word.write_line.Goals as goal

pub returns-in_err-write_words-clause-written : goal.returns-in_err-write_words-clause-written
returns-in_err-write_words-clause-written g c =
    fails _ _ _ _ _ c.from_residual.result c.in_err-write_words.field-0.0 (c.from_residual.ensures.0, c.from_residual.ensures.1)
    (SentPart-first _ _ _ _ (join_with_byte 32 (map word_text c.args.words.now)) (codes "\n") c.in_err-write_words.ensures.written)

pub returns-clause-written : goal.returns-clause-written
returns-clause-written g c =
    writes_after _ _ _ _ _ _ (join_with_byte 32 (map word_text c.args.words.now)) (codes "\n") c.write.result c.in_ok-write_words.ensures.written c.write.ensures.written
