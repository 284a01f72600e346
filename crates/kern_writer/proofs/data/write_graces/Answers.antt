use Rattle.std.proofs.Common.{◌+◌, ◌++◌, List, ℕ, ap, ◌∙◌, arith}
use Rattle.std.specs.List.{join_with_byte}
use Rattle.std.proofs.lemmas.List.{append_assoc, take_all}
use Rattle.kern_writer.specs.Records.{grace_column, grace_record, grace_tokens, token_at}
use Rattle.kern_writer.specs.Tokens.{Token}
use Rattle.score_words.proofs.Separators.{join_map_more}
use Rattle.kern_writer.proofs.Writing.{record_written}
use Rattle.kern_writer.proofs.data.write_graces.Goals as goal

pub columns-preserved : goal.columns-preserved
columns-preserved c =
    let column : List Token → List ℕ = λ tokens. grace_column (c.args.later + 1) (grace_tokens (token_at c.args.place tokens)) in
    let more = join_map_more 9 column c.args.columns.now c.columns.number c.index-columns-number.result c.columns-test.true in
    record { bytes = grind (arith, append_assoc); lines = c.columns.invariant.lines }

pub returns : goal.returns
returns c =
    let columns = c.args.columns.now in
    let bytes = c.columns.invariant.bytes ∙ ap (λ t. c.args.text.now.bytes.items ++ join_with_byte 9 (grace_record c.args.place t (c.args.later + 1))) (take_all c.columns.number columns c.columns-test.false) in
    record_written c.args.text.now c.columns.text c.end_record.new.self (grace_record c.args.place columns (c.args.later + 1)) c.end_record.result c.requires.text c.columns.invariant.lines bytes c.end_record.ensures
