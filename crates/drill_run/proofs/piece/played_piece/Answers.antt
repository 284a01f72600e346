use Rattle.std.proofs.Common.{◌∙◌, arith, ap, sym}
use Rattle.rhythm_gen.specs.MidiFile.{generated}
use Rattle.smf_reader.specs.SmfFile.{smf}
use Rattle.drill_run.proofs.Pieces.{read_without_fault}
use Rattle.drill_run.proofs.piece.played_piece.Goals as goal

pub returns-in-Ok-clause-says : goal.returns-in-Ok-clause-says
returns-in-Ok-clause-says c = ap smf (sym (c.as_slice.ensures.value ∙ c.in_ok-bytes.ensures ∙ ap (λ n. generated n 500) c.number.ensures.is)) ∙ c.in-Ok.ensures.value

pub unreachable-requires : goal.unreachable-requires
unreachable-requires c =
    read_without_fault c.args.number 500 c.in-Err.fault (omega arith) (ap smf (sym (c.as_slice.ensures.value ∙ c.in_ok-bytes.ensures ∙ ap (λ n. generated n 500) c.number.ensures.is)) ∙ c.in-Err.ensures.value c.in_default.not-Memory)
