use Rattle.std.proofs.Common.{eqb, arith, ◌≡◌, not, false, sym, ◌∙◌}
use Rattle.std.proofs.lemmas.Bool.Decides.{nat_tests}
use Rattle.performance_edit.proofs.OnlyPlaces.{any_other, no_other}
use Rattle.performance_edit.proofs.notes.has_other.Goals as goal

pub returns-then-to-onset : goal.returns-then-to-onset
returns-then-to-onset c = c.has_note.ensures ∙ sym (any_other c.args.channel c.args.key c.args.onset c.args.to c.args.notes.now c.if-to-onset.true)

pub returns-else-to-onset : goal.returns-else-to-onset
returns-else-to-onset c =
    let same : not (eqb c.args.to c.args.onset) ≡ false = grind (arith, nat_tests, c.if-to-onset.false) in
    same ∙ sym (no_other c.args.channel c.args.key c.args.onset c.args.to c.args.notes.now c.if-to-onset.false)
