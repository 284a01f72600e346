use Rattle.std.proofs.Common.{◌≡◌, ◌∙◌, arith, get_or}
use Rattle.std.proofs.lemmas.Bool.Decides.{nat_tests}
use Rattle.command_line.proofs.Asking.{names_after}
use Rattle.command_line.proofs.requests.has_short_names.Goals as goal

pub returns-then-byte-eq45 : goal.returns-then-byte-eq45
returns-then-byte-eq45 c =
    let first : get_or c.args.word.now 0 0 ≡ 45 = grind (arith, nat_tests, c.if-byte-eq45.true) in
    c.are_short_names.ensures ∙ names_after c.args.word.now c.in-len1-up.len_at_least first
