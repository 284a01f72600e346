-- The performance after an edit that is not refused is well formed, and only its bars, last barline, notes and pins change.
use Rattle.std.proofs.Common.{◌≡◌, refl, ap, None}
use Rattle.rhythm_base.specs.declared.edit.Edit.TheVariants.{Add, Drop, Move, Barline, Pin, Unpin, AddBar, DropBar}
use Rattle.rhythm_base.specs.declared.edit.Edit.{Edit}
use Rattle.rhythm_base.specs.EditRanges.{IsEditInRange}
use Rattle.edit_laws.specs.Edits.{edit_tests, first_refusal, performance_after, unless_refused}
use Rattle.rhythm_base.specs.Performance.{IsWellFormed, Performance}
use Rattle.edit_laws.proofs.Edited.{edited_formed}

pub after-formed : (p : Performance) (edit : Edit) → IsWellFormed p → IsEditInRange edit → first_refusal (edit_tests p edit) ≡ None → IsWellFormed (performance_after p edit)
after-formed p edit w range none = edited_formed p (performance_after p edit) edit w range (ap (unless_refused (performance_after p edit)) none)

abbrev pub with_parts_after : Performance → Edit → Performance
with_parts_after p edit =
    let q = performance_after p edit in
    record p { bars = q.bars; last = q.last; notes = q.notes; pins = q.pins }

pub with_parts-after : (p : Performance) (edit : Edit) → with_parts_after p edit ≡ performance_after p edit
with_parts-after p (Add channel key onset until) = refl
with_parts-after p (Drop channel key onset) = refl
with_parts-after p (Move channel key onset to) = refl
with_parts-after p (Barline bar tick) = refl
with_parts-after p (Pin channel bar shape) = refl
with_parts-after p (Unpin channel bar) = refl
with_parts-after p AddBar = refl
with_parts-after p DropBar = refl
