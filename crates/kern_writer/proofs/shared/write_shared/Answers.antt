use Rattle.std.proofs.Common.{◌≡◌, ◌++◌, replicate, ap, ◌∙◌, arith}
use Rattle.std.specs.List.{join_with_byte}
use Rattle.std.proofs.lemmas.List.{append_assoc}
use Rattle.kern_writer.specs.Shared.{shared_text}
use Rattle.score_words.proofs.Separators.{join_replicate}
use Rattle.kern_writer.proofs.Writing.{record_written}
use Rattle.kern_writer.proofs.shared.write_shared.Goals as goal

pub columns-preserved : goal.columns-preserved
columns-preserved c =
    let more = join_replicate 9 c.columns.number (shared_text c.args.token) in
    record { bytes = grind (arith, append_assoc); lines = c.columns.invariant.lines }

pub end_record-requires : goal.end_record-requires
end_record-requires c = omega (arith, c.columns.invariant.lines)

pub returns : goal.returns
returns c =
    let all : c.columns.number ≡ c.args.voices = omega arith in
    let bytes = c.columns.invariant.bytes ∙ ap (λ n. c.args.text.now.bytes.items ++ join_with_byte 9 (replicate n (shared_text c.args.token))) all in
    record_written c.args.text.now c.columns.text c.end_record.new.self (replicate c.args.voices (shared_text c.args.token)) c.end_record.result c.requires c.columns.invariant.lines bytes c.end_record.ensures
