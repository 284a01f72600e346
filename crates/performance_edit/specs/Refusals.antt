-- Why an edit is refused.
use Rattle.std.specs.Prelude.{ℕ, if◌then◌else◌, List, Option, Some, None}
use Rattle.std.specs.List.{list_any}
use Rattle.edit_laws.specs.Edits.{edit_tests, first_refusal, is_past, onsets_past}
use Rattle.rhythm_base.specs.Lists.{least_of}
use Rattle.rhythm_base.specs.Performance.{Performance}
use Rattle.rhythm_base.specs.declared.edit.Edit.{Edit}
use Rattle.rhythm_base.specs.declared.edit_fault.EditFault.{EditFault}
use Rattle.rhythm_base.specs.declared.note.Note.{Note}

-- the first refusal of an edit
abbrev pub refusal : Performance → Edit → Option EditFault
refusal p edit = first_refusal (edit_tests p edit)

-- a fault that names the least onset of the notes that would begin at or after the tick, or end after it
abbrev pub fault_past : (ℕ → EditFault) → ℕ → List Note → Option EditFault
fault_past fault tick notes = if list_any (is_past tick) notes then Some (fault (least_of (onsets_past tick notes))) else None
