-- The bars of a list of barlines. Barlines are ticks t(0) = 0 < t(1) < .. < t(n), and bar i runs from t(i) to t(i + 1).
use Rattle.std.specs.Prelude.{ℕ, suc, ◌-◌, ◌/◌, Bool, not, List, [], ◌∷◌, ◌++◌, length, map, min, max, slice_get, Option}
use Rattle.std.specs.List.{list_any}
use Rattle.rhythm_base.specs.declared.note.Bar.{Bar}
use Rattle.rhythm_base.specs.Barlines.{nominal_of}
use Rattle.edit_laws.specs.Edits.{is_past, next_bar}
use Rattle.rhythm_base.specs.Lists.{last_end}
use Rattle.rhythm_base.specs.Performance.{Performance}

-- bar i is like the performance's bar i, and past its last bar like the last
abbrev pub pattern_of : Performance → ℕ → Option Bar
pattern_of p i = slice_get p.bars (min i (length p.bars - 1))

-- ticks of a whole bar i
abbrev pub whole_bar : Performance → ℕ → ℕ
whole_bar p i = nominal_of p.division (pattern_of p i)

-- the step by which the length of bar i is varied: a 96th part of the whole bar, and at least a tick
abbrev pub bar_step : Performance → ℕ → ℕ
bar_step p i = max 1 (whole_bar p i / 96)

-- the bars of these barlines, from number i on
abbrev pub bars_on : Performance → ℕ → List ℕ → List Bar
bars_on p i [] = []
bars_on p i (start ∷ []) = []
bars_on p i (start ∷ end ∷ ticks) = next_bar start (pattern_of p i) ++ bars_on p (suc i) (end ∷ ticks)

-- the performance with these barlines, and without pins: a pin is of a bar that was, and plays no part in the search
abbrev pub with_barlines : Performance → List ℕ → Performance
with_barlines p ticks = record p { bars = bars_on p 0 ticks; last = last_end 0 ticks; pins = [] }

-- the barlines of a performance: the start of each bar, and the last barline
abbrev pub barlines_of : Performance → List ℕ
barlines_of p = map (λ b. b.start) p.bars ++ (p.last ∷ [])

-- no note begins at or after the last of the barlines, or ends after it
abbrev pub is_closed : Performance → List ℕ → Bool
is_closed p ticks = not (list_any (is_past (last_end 0 ticks)) p.notes)
