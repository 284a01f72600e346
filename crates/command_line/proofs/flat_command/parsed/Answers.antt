use Rattle.std.proofs.Common.{◌≡◌, true, map, refl, subst}
use Rattle.clap.specs.Words.{App, FailsBy, fault_of, is_simple_and_free}
use Rattle.command_line.proofs.flat_command.parsed.Goals as goal

pub returns-clause-kinds : goal.returns-clause-kinds
returns-clause-kinds c =
    let P : App → Type 0 = λ a. is_simple_and_free a ≡ true → FailsBy (fault_of a (map (λ s. s.now) c.args.words.now)) c.try_get_matches_from.result in
    subst P c.in_ok-command.ensures c.try_get_matches_from.ensures.kinds refl
