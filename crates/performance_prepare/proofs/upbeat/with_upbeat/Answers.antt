use Rattle.std.proofs.Common.{rules, ◌≡◌, Some}
use Rattle.rhythm_base.specs.Bars.{signature_at}
use Rattle.performance_load.specs.Take.{Take}
use Rattle.performance_prepare.specs.Upbeat.{ticks_of_bar}
use Rattle.performance_prepare.proofs.Answered.{placed_in_answers}
use Rattle.performance_prepare.proofs.upbeat.with_upbeat.Goals as goal

pub returns-in-Some : goal.returns-in-Some
returns-in-Some c =
    let t : Take = c.args.take in
    let division : c.of.result ≡ t.division = search rules in
    let signatures : c.deref.result.now ≡ t.signatures = search rules in
    let bar : Some c.in-Some.bar ≡ ticks_of_bar t.division (signature_at t.signatures 0) = search rules in
    placed_in_answers (ticks_of_bar t.division (signature_at t.signatures 0)) c.in-Some.bar c.args.upbeat t c.placed.result bar
    c.placed.ensures
