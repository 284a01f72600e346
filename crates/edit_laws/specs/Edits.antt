-- Edits of a performance: which are refused and why, and the performance after the others. They speak of lists of notes,
-- bars and pins alone.
use Rattle.rhythm_base.specs.declared.limits.TheConstants.{LATEST_TICK, MOST_NOTES, MOST_BARS, MOST_CELLS}
use Rattle.std.specs.Prelude.{ℕ, ◌+◌, ◌-◌, ◌*◌, Bool, false, ◌&&◌, ◌||◌, ◌==◌, not, nat_lt, nat_le, if◌then◌else◌, List, [], ◌∷◌, ◌++◌, length, map, filter, find, take, Option, Some, None, Result, Ok, Err}
use Rattle.std.proofs.Common.{zero, suc}
use Rattle.std.specs.List.{list_any}
use Rattle.rhythm_base.specs.declared.edit.Edit.{Edit}
use Rattle.rhythm_base.specs.declared.edit.Edit.TheVariants.{Add, Drop, Move, Barline, Pin, Unpin, AddBar, DropBar}
use Rattle.rhythm_base.specs.declared.edit_fault.EditFault.{EditFault}
use Rattle.rhythm_base.specs.declared.edit_fault.EditFault.TheVariants.{NoVoice, NoBar, BadSpan, NoNote, SameNote, PastEnd, BarlineOrder, NoteOutside, NotEmpty, OneBar, Limit}
use Rattle.rhythm_base.specs.declared.edit_fault.LimitKind.TheVariants.{Notes, Bars, Cells, Line}
use Rattle.rhythm_base.specs.declared.note.Bar.{Bar}
use Rattle.rhythm_base.specs.declared.note.Note.{Note}
use Rattle.rhythm_base.specs.Performance.{Performance, place_of_note, place_of_pin}
use Rattle.rhythm_base.specs.Lists.{last_of}
use Rattle.rhythm_base.specs.Lists.{least_of, list_with}
use Rattle.rhythm_base.specs.Barlines.{barline, barline_after, next_barline, last_start}
use Rattle.rhythm_base.specs.Pins.{without_pin}

-- ---- notes

abbrev pub is_note : ℕ → ℕ → ℕ → Note → Bool
is_note channel key onset n = (n.channel == channel) && ((n.key == key) && (n.onset == onset))

abbrev pub has_note : List Note → ℕ → ℕ → ℕ → Bool
has_note notes channel key onset = list_any (is_note channel key onset) notes

-- all but the note of that channel, key and onset
abbrev pub without_note : ℕ → ℕ → ℕ → List Note → List Note
without_note channel key onset notes = filter (λ n. not (is_note channel key onset n)) notes

-- the note at another onset, of its old length
abbrev pub moved_to : ℕ → Note → Note
moved_to to n = record { channel = n.channel; key = n.key; onset = to; end = to + (n.end - n.onset) }

-- the note of that channel, key and onset
abbrev pub note_at : List Note → ℕ → ℕ → ℕ → Option Note
note_at notes channel key onset = find (is_note channel key onset) notes

-- it would begin at or after the tick, or end after it
abbrev pub is_past : ℕ → Note → Bool
is_past tick n = nat_le tick n.onset || nat_lt tick n.end

-- the note, moved, would
abbrev pub is_moved_past : ℕ → ℕ → Option Note → Bool
is_moved_past tick to None = false
is_moved_past tick to (Some n) = is_past tick (moved_to to n)

-- the onsets of the notes that would
abbrev pub onsets_past : ℕ → List Note → List ℕ
onsets_past tick notes = map (λ n. n.onset) (filter (is_past tick) notes)

-- ---- bars

abbrev pub with_start : ℕ → Bar → Bar
with_start tick b = record { start = tick; num = b.num; den = b.den }

-- the bars with another start of the bar of that number
abbrev pub with_barline : ℕ → ℕ → List Bar → List Bar
with_barline bar tick [] = []
with_barline zero tick (b ∷ bars) = with_start tick b ∷ bars
with_barline (suc bar) tick (b ∷ bars) = b ∷ with_barline bar tick bars

-- a bar of the last bar's signature from the last barline on
abbrev pub next_bar : ℕ → Option Bar → List Bar
next_bar last None = []
next_bar last (Some b) = with_start last b ∷ []

-- ---- lists in order

-- the notes with this one moved
abbrev pub put_moved : ℕ → Option Note → List Note → List Note
put_moved to None notes = notes
put_moved to (Some n) notes = list_with place_of_note (moved_to to n) notes

-- ---- refusals

abbrev pub lacks_voice : Performance → ℕ → Bool
lacks_voice p channel = not (list_any (λ c. c == channel) p.channels)

abbrev pub lacks_bar : Performance → ℕ → Bool
lacks_bar p bar = nat_le (length p.bars) bar

-- the tests of what is asked of a cell
abbrev pub cell_tests : Performance → ℕ → ℕ → List (Bool × EditFault)
cell_tests p channel bar = (lacks_voice p channel, NoVoice channel) ∷ (lacks_bar p bar, NoBar bar) ∷ []

-- the tests of an edit in their order, each with the refusal where it holds. A count is tested as it would be after the edit
abbrev pub edit_tests : Performance → Edit → List (Bool × EditFault)
edit_tests p (Add channel key onset end) =
    (lacks_voice p channel, NoVoice channel)
    ∷ (nat_lt end onset, BadSpan)
    ∷ (has_note p.notes channel key onset, SameNote)
    ∷ (is_past p.last (record { channel = channel; key = key; onset = onset; end = end }), PastEnd p.last)
    ∷ (nat_lt MOST_NOTES (length p.notes + 1), Limit Notes (length p.notes + 1))
    ∷ []
edit_tests p (Drop channel key onset) =
    (lacks_voice p channel, NoVoice channel)
    ∷ (not (has_note p.notes channel key onset), NoNote)
    ∷ []
edit_tests p (Move channel key onset to) =
    (lacks_voice p channel, NoVoice channel)
    ∷ (not (has_note p.notes channel key onset), NoNote)
    ∷ (has_note (without_note channel key onset p.notes) channel key to, SameNote)
    ∷ (is_moved_past p.last to (note_at p.notes channel key onset), PastEnd p.last)
    ∷ []
edit_tests p (Barline bar tick) =
    ((bar == 0) || nat_lt (length p.bars) bar, NoBar bar)
    ∷ (not (nat_lt (barline p.bars p.last (bar - 1)) tick && nat_lt tick (barline_after p bar)), BarlineOrder (barline p.bars p.last (bar - 1)) (barline_after p bar))
    ∷ ((bar == length p.bars) && list_any (is_past tick) p.notes, NoteOutside (least_of (onsets_past tick p.notes)))
    ∷ []
edit_tests p (Pin channel bar shape) = cell_tests p channel bar
edit_tests p (Unpin channel bar) = cell_tests p channel bar
edit_tests p AddBar =
    (nat_lt MOST_BARS (length p.bars + 1), Limit Bars (length p.bars + 1))
    ∷ (nat_lt MOST_CELLS (length p.channels * (length p.bars + 1)), Limit Cells (length p.channels * (length p.bars + 1)))
    ∷ (nat_lt LATEST_TICK (next_barline p), Limit Line (next_barline p))
    ∷ []
edit_tests p DropBar =
    (length p.bars == 1, OneBar)
    ∷ (list_any (is_past (last_start p)) p.notes, NotEmpty (least_of (onsets_past (last_start p) p.notes)))
    ∷ []

-- the first test that holds
abbrev pub first_refusal : List (Bool × EditFault) → Option EditFault
first_refusal [] = None
first_refusal (test ∷ more) = if test.0 then Some test.1 else first_refusal more

-- ---- the performance after

abbrev pub performance_after : Performance → Edit → Performance
performance_after p (Add channel key onset end) =
    record p { notes = list_with place_of_note (record { channel = channel; key = key; onset = onset; end = end }) p.notes }
performance_after p (Drop channel key onset) = record p { notes = without_note channel key onset p.notes }
performance_after p (Move channel key onset to) =
    record p { notes = put_moved to (note_at p.notes channel key onset) (without_note channel key onset p.notes) }
performance_after p (Barline bar tick) =
    record p { bars = with_barline bar tick p.bars; last = if bar == length p.bars then tick else p.last }
performance_after p (Pin channel bar shape) =
    record p { pins = list_with place_of_pin (record { channel = channel; bar = bar; shape = shape }) (without_pin channel bar p.pins) }
performance_after p (Unpin channel bar) = record p { pins = without_pin channel bar p.pins }
performance_after p AddBar = record p { bars = p.bars ++ next_bar p.last (last_of p.bars); last = next_barline p }
performance_after p DropBar =
    record p {
      bars = take (length p.bars - 1) p.bars;
      last = last_start p;
      pins = filter (λ q. nat_lt q.bar (length p.bars - 1)) p.pins;
    }

abbrev pub unless_refused : Performance → Option EditFault → Result Performance EditFault
unless_refused p None = Ok p
unless_refused p (Some fault) = Err fault

-- the performance after the edit, or the first refusal. Whether each voice has a derivation is asked afterwards
abbrev pub edited : Performance → Edit → Result Performance EditFault
edited p edit = unless_refused (performance_after p edit) (first_refusal (edit_tests p edit))
