use Rattle.std.proofs.Common.{◌≡◌, ◌++◌, length, map}
use Rattle.smf_writer.specs.Strokes.{stroke_note, stroke_notes}
use Rattle.smf_writer.proofs.stroke.notes_of.Given as goal

-- the notes so far, and after them those of the keys that are left
abbrev pub invariant-keys : goal.invariant-keys
invariant-keys l = l.notes.items ++ map (stroke_note l.channel l.stroke) l.left ≡ stroke_notes l.channel l.stroke

abbrev pub decreases-keys : goal.decreases-keys
decreases-keys l = length l.left
