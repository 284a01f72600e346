use Rattle.edit_laws.proofs.Edited.{edited_channels, edited_formed}
use Rattle.edit_laws.proofs.EditedCounts.{edited_cells, edited_notes, edited_starts}
use Rattle.edit_laws.proofs.laws.edits_keep_performances.Goals as goal

pub returns : goal.returns
returns c = record { formed = edited_formed; voices = edited_channels; notes = edited_notes; cells = edited_cells; starts = edited_starts }
