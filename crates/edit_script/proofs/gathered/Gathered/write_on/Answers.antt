use Rattle.std.proofs.Common.{ap, ◌∙◌}
use Rattle.edit_script.specs.Gathered.{Gathered}
use Rattle.edit_script.proofs.SendingLemmas.{Sent-both, fails, part_of_piece, part_of_waiting}
use Rattle.edit_script.proofs.gathered.Gathered.write_on.Goals as goal

pub returns-in_err-hand_on-clause-written : goal.returns-in_err-hand_on-clause-written
returns-in_err-hand_on-clause-written g c =
    fails _ _ _ _ _ c.from_residual.result c.in_err-hand_on.field-0.0 (c.from_residual.ensures.0, c.from_residual.ensures.1)
    (part_of_waiting _ _ _ _ c.args.bytes.now c.requires c.in_err-hand_on.ensures.handed)

pub returns-in_err-self-inside-clause-written : goal.returns-in_err-self-inside-clause-written
returns-in_err-self-inside-clause-written g c =
    let handed = c.in_ok-hand_on.ensures.handed in
    let residual = c.from_residual-in_err-self-inside in
    fails _ _ _ _ _ residual.result c.in_err-self-inside.field-0.0 (residual.ensures.0, residual.ensures.1)
    (part_of_piece _ _ _ _ _ c.args.bytes.now c.self.inside.sent c.requires handed.0 (ap (λ (g : Gathered). g.sent) (c.self.view_is ∙ c.if-gather.ensures.new ∙ handed.1))
    c.in_err-self-inside.ensures.sent)

pub returns-clause-written : goal.returns-clause-written
returns-clause-written g c =
    let handed = c.in_ok-hand_on.ensures.handed in
    let before = c.self.view_is ∙ c.if-gather.ensures.new ∙ handed.1 in
    let sent = c.in_ok-self-inside.ensures.sent in
    Sent-both _ _ _ _ _ c.args.bytes.now c.self.inside.sent c.requires handed.0 sent.0 (ap (λ (g : Gathered). g.sent) before) sent.1 (ap (λ (g : Gathered). g.bytes) before)
