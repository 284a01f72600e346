use Rattle.std.proofs.Common.{rules, ◌≡◌, subst, sym}
use Rattle.std.specs.List.{IsDistinct}
use Rattle.note_list.specs.Kept.{same_place}
use Rattle.performance_load.specs.Take.{Take}
use Rattle.performance_prepare.specs.Strum.{strummed_notes}
use Rattle.performance_prepare.proofs.Strumming.{strummed_distinct}
use Rattle.performance_prepare.proofs.strum.with_strum.Goals as goal

pub in_order-requires : goal.in_order-requires
in_order-requires c =
    let t : Take = c.args.take in
    let placed : c.in_ok-placed.placed.items ≡ strummed_notes t.tempos t.division c.args.within t.notes = search rules in
    subst (IsDistinct same_place) (sym placed) (strummed_distinct t.tempos t.division c.args.within _ t.notes c.requires.notes
    c.requires.notes_in_order)
