-- A take without its drums.
use Rattle.std.specs.Prelude.{ℕ, Bool, not, ◌==◌, if◌then◌else◌, List, filter, length, Result, Ok, Err}
use Rattle.rhythm_base.specs.declared.note.Note.{Note}
use Rattle.performance_load.specs.Take.{Take}
use Rattle.performance_prepare.specs.declared.prepare_fault.PrepareFault.{PrepareFault}
use Rattle.performance_prepare.specs.declared.prepare_fault.PrepareFault.TheVariants.{NoNotes}

-- the channel of drums, the tenth of them
abbrev pub drum_channel : ℕ
drum_channel = 9

abbrev pub is_drum : Note → Bool
is_drum n = n.channel == drum_channel

abbrev pub pitched_notes : List Note → List Note
pitched_notes notes = filter (λ n. not (is_drum n)) notes

-- the take without the notes of the channel of drums; its signatures, keys and tempos stay
abbrev pub without_drums : Take → Result Take PrepareFault
without_drums t = if length (pitched_notes t.notes) == 0 then Err NoNotes else Ok (record t { notes = pitched_notes t.notes })
