use Rattle.std.proofs.Common.{arith, sym, ap, ◌∙◌, ◌-◌, length}
use Rattle.bar_cut.proofs.Lookups.{last_end-last}
use Rattle.bar_cut.proofs.inner.last_end.Goals as goal

pub returns-in-len1-up : goal.returns-in-len1-up
returns-in-len1-up c = ap (λ x. x.end) c.last-item.is ∙ sym (last_end-last c.args.chords.now c.args.end (length c.args.chords.now - 1) _ (omega (arith, c.in-len1-up.len_at_least)))
