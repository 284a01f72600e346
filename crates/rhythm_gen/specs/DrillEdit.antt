-- The edits of a drill.
use Rattle.std.specs.Prelude.{ℕ, ◌+◌, ◌%◌, ◌<◌, ◌≤◌, ◌==◌, if◌then◌else◌, length, slice_get, Option, option_map, max}
use Rattle.rhythm_base.specs.declared.edit.Edit.{Edit}
use Rattle.rhythm_base.specs.declared.edit.Edit.TheVariants.{Add, Drop, Move, Barline}
use Rattle.rhythm_base.specs.Performance.{Performance}
use Rattle.rhythm_gen.specs.Draws.{draw}
use Rattle.rhythm_gen.specs.declared.drill.TheConstants.{LATEST_DRILLED}
use Rattle.rhythm_gen.specs.declared.piece_number.TheConstants.{GREATEST_NUMBER}

-- a note is added, from 120 to 240 ticks after the start of the bar of that number
abbrev pub added_note : ℕ → ℕ → ℕ → Performance → Option Edit
added_note channel key bar p = option_map (λ b. Add channel key (b.start + 120) (b.start + 240)) (slice_get p.bars bar)

-- the note of that number is dropped
abbrev pub dropped : ℕ → Performance → Option Edit
dropped note p = option_map (λ n. Drop n.channel n.key n.onset) (slice_get p.notes note)

-- the note of that number is moved 30 ticks to the right
abbrev pub moved_note : ℕ → Performance → Option Edit
moved_note note p = option_map (λ n. Move n.channel n.key n.onset (n.onset + 30)) (slice_get p.notes note)

-- the bar of that number begins 10 ticks later
abbrev pub delayed : ℕ → Performance → Option Edit
delayed bar p = option_map (λ b. Barline bar (b.start + 10)) (slice_get p.bars bar)

-- The edit of number e, by the draw v. Edits of four kinds take turns. The draw chooses a bar and a note, counted around, and
-- the key of an added note, in the second octave above middle C. The barline of bar 0 cannot be moved, so that of bar 1 is moved
-- in its place.
abbrev pub edit_by : ℕ → ℕ → Performance → Option Edit
edit_by e v p =
    if e % 4 == 0 then added_note (e % 2) (72 + v % 12) (v % length p.bars) p
    else (if e % 4 == 1 then dropped (v % length p.notes) p
    else (if e % 4 == 2 then moved_note (v % length p.notes) p
    else delayed (max 1 (v % length p.bars)) p))

-- a performance has what the edit of number e, counted from 0, of a drill is made of
pub record IsReadyForEdit (e : ℕ) (p : Performance) : Type 0 where
  pub among : e < 40
  pub some_note : 1 ≤ length p.notes
  pub two_bars : 2 ≤ length p.bars
  pub last : p.last ≤ LATEST_DRILLED

-- so the drill of a number has one
pub record HasDrillEdit (number e : ℕ) (p : Performance) : Type 0 where
  pub numbered : number ≤ GREATEST_NUMBER
  pub ready : IsReadyForEdit e p

-- The edit of number e, counted from 0, of the drill of a number: its draw has the number e + 1 in the stream that starts with
-- the next number. There is one where the performance has a note and two bars.
abbrev pub drill_edit : ℕ → ℕ → Performance → Option Edit
drill_edit number e p = edit_by e (draw (number + 1) (e + 1)) p
