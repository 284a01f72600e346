use Rattle.std.proofs.Common.{sym, subst}
use Rattle.std.specs.Prelude.{All}
use Rattle.notation.specs.Spelling.{IsNoteValue}
use Rattle.notation.proofs.Values.{note_values}
use Rattle.notation.proofs.notes.push_notes.Goals as goal

pub push_values-requires : goal.push_values-requires
push_values-requires c =
    subst (All IsNoteValue) (sym c.deref.ensures.value)
    (note_values c.count.result c.in_ok-values.values.items c.count.ensures.some c.in_ok-values.ensures.dots c.in_ok-values.ensures.sum.wide)
