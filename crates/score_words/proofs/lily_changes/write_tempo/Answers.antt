use Rattle.std.proofs.Common.{◌++◌, ap, sym, ◌∙◌}
use Rattle.std.specs.Prelude.{decimal}
use Rattle.score_words.proofs.ChangeLines.{tempo_after}
use Rattle.score_words.proofs.lily_changes.write_tempo.Goals as goal

pub returns : goal.returns
returns c =
    tempo_after c.args.before c.args.bar.now c.args.text.now.items c.extend_from_slice.new.self.items c.push_number.new.text.items
    c.push.new.self.items
    (sym c.is_same_tempo.ensures ∙ c.if-is_same_tempo.false) c.in_ok-extend_from_slice.ensures.items
    (c.in_ok-push_number.ensures ∙ ap (λ n. c.extend_from_slice.new.self.items ++ decimal n) c.quarters_of_minute.ensures) c.in_ok-push.ensures.items
