use Rattle.std.proofs.Common.{map, sym, ◌∙◌}
use Rattle.clap.specs.Values.{kind_of}
use Rattle.command_line.proofs.Reading.{matches_are, other_kind, refusal_is}
use Rattle.command_line.proofs.flat_command.taken_matches.Goals as goal

pub returns-in-Ok-clause-ok : goal.returns-in-Ok-clause-ok
returns-in-Ok-clause-ok c = matches_are (map (λ s. s.now) c.args.words.now) c.in-Ok.matches c.in-Ok.ensures.kinds c.in-Ok.ensures.ok

pub returns-in-Err-clause-refused : goal.returns-in-Err-clause-refused
returns-in-Err-clause-refused c =
    λ refused. refusal_is (map (λ s. s.now) c.args.words.now) c.in-Err.error c.in-Err.ensures.kinds (other_kind (kind_of c.in-Err.error) (sym c.words_fault.ensures ∙ refused))
