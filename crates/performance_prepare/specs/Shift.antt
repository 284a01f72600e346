-- Ticks at other places.
use Rattle.rhythm_base.specs.declared.limits.TheConstants.{LATEST_EVENT}
use Rattle.std.specs.Prelude.{ℕ, ◌+◌, ◌-◌, ◌*◌, ◌==◌, ◌≤◌, if◌then◌else◌, nat_lt, map, Result, Ok, Err}
use Rattle.rhythm_base.specs.declared.event.KeyMark.{KeyMark}
use Rattle.rhythm_base.specs.declared.event.Signature.{Signature}
use Rattle.rhythm_base.specs.declared.event.Tempo.{Tempo}
use Rattle.rhythm_base.specs.declared.note.Note.{Note}
use Rattle.performance_load.specs.Loading.{greatest_end}
use Rattle.performance_load.specs.Take.{Take}
use Rattle.performance_prepare.specs.declared.prepare_fault.PrepareFault.{PrepareFault}
use Rattle.performance_prepare.specs.declared.prepare_fault.PrepareFault.TheVariants.{TooLate}
use Rattle.performance_prepare.specs.declared.shift.Shift.{Shift}

-- so many times as late, and then so many ticks later and so many earlier, but not before tick 0
abbrev pub shifted : Shift → ℕ → ℕ
shifted s tick = (tick * s.times + s.later) - s.earlier

-- a change at tick 0 holds from the beginning on, wherever the notes come to stand
abbrev pub shifted_mark : Shift → ℕ → ℕ
shifted_mark s tick = if tick == 0 then 0 else shifted s tick

abbrev pub shifted_note : Shift → Note → Note
shifted_note s n = record n { onset = shifted s n.onset; end = shifted s n.end }

abbrev pub shifted_tempo : Shift → Tempo → Tempo
shifted_tempo s x = record x { tick = shifted_mark s x.tick }

abbrev pub shifted_key_mark : Shift → KeyMark → KeyMark
shifted_key_mark s x = record x { tick = shifted_mark s x.tick }

abbrev pub shifted_signature : Shift → Signature → Signature
shifted_signature s x = record x { tick = shifted_mark s x.tick }

-- the take with all notes and changes there
abbrev pub shifted_take : Shift → Take → Take
shifted_take s t = record t {
  notes = map (shifted_note s) t.notes;
  tempos = map (shifted_tempo s) t.tempos;
  key_marks = map (shifted_key_mark s) t.key_marks;
  signatures = map (shifted_signature s) t.signatures;
}

-- the take itself, unless a note ends too late
abbrev pub unless_late : Take → Result Take PrepareFault
unless_late t = if nat_lt LATEST_EVENT (greatest_end t.notes) then Err (TooLate (greatest_end t.notes)) else Ok t

-- at most 8,192 times as late, and at most a bar later
pub record IsShift (s : Shift) : Type 0 where
  pub some : 1 ≤ s.times
  pub few : s.times ≤ 8192
  pub near : s.later ≤ 100000000

-- the latest tick of a change, 8,192 times as late as the latest event of a file
abbrev pub latest_mark : ℕ
latest_mark = 8192 * LATEST_EVENT
