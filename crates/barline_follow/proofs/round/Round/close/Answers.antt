use Rattle.std.proofs.Common.{ap, ◌∙◌}
use Rattle.std.specs.Prelude.{filter}
use Rattle.barline_follow.specs.Barring.{Course, is_below}
use Rattle.barline_follow.specs.Gathered.{Round}
use Rattle.barline_follow.proofs.Gathering.{among, few_kept, next_front}
use Rattle.barline_follow.proofs.round.Round.close.Goals as goal

pub returns-clause-front : goal.returns-clause-front
returns-clause-front c best found courses h =
    next_front best found courses c.args.self c.clear_above.new.kept.items h
    (c.clear_above.ensures ∙ ap (λ (r : Round). filter (λ (t : Course). is_below r.best t.barring) r.kept) c.self.view_is)

pub returns-clause-among : goal.returns-clause-among
returns-clause-among c best found courses h =
    among best found courses c.args.self c.clear_above.new.kept.items h
    (c.clear_above.ensures ∙ ap (λ (r : Round). filter (λ (t : Course). is_below r.best t.barring) r.kept) c.self.view_is)

pub returns-clause-few : goal.returns-clause-few
returns-clause-few c best found courses h =
    few_kept best found courses c.args.self c.clear_above.new.kept.items h
    (c.clear_above.ensures ∙ ap (λ (r : Round). filter (λ (t : Course). is_below r.best t.barring) r.kept) c.self.view_is)
