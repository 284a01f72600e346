-- The edit script that leads from the barlines of a performance to others, and when edits are accepted.
use Rattle.std.specs.Prelude.{◌≡◌, ℕ, zero, suc, ◌+◌, ◌-◌, ◌/◌, List, [], ◌∷◌, ◌++◌, All, length, map, max, replicate, Ok, ⊤}
use Rattle.rhythm_base.specs.declared.edit.Edit.{Edit}
use Rattle.rhythm_base.specs.declared.edit.Edit.TheVariants.{Add, AddBar, Barline, Drop, DropBar, Move, Pin, Unpin}
use Rattle.rhythm_base.specs.Barlines.{nominal}
use Rattle.rhythm_base.specs.EditRanges.{IsEditInRange}
use Rattle.edit_laws.specs.Edits.{edited}
use Rattle.rhythm_base.specs.Grammar.{Grammar}
use Rattle.rhythm_base.specs.Lists.{last_end, least_of}
use Rattle.rhythm_base.specs.Performance.{Performance}
use Rattle.rhythm_base.specs.Voices.{HasDerivation}
use Rattle.barline_follow.specs.Bars.{barlines_of, whole_bar}
use Rattle.barline_follow.specs.Stages.{all_stages, stage_count}

-- so many barlines after a tick, each a bar of this length after the one before
abbrev pub further : ℕ → ℕ → ℕ → List ℕ
further bar tick zero = []
further bar tick (suc n) = (tick + bar) ∷ further bar (tick + bar) n

-- the barlines with more of them at the end, up to this number of barlines
abbrev pub lengthened : ℕ → ℕ → List ℕ → List ℕ
lengthened bar count ticks = ticks ++ further bar (last_end 0 ticks) (count - length ticks)

-- the length of a bar that is added at the end
abbrev pub last_bar : Performance → ℕ
last_bar p = whole_bar p (length p.bars - 1)

-- how far a barline moves in one stage at most: a quarter of the shortest whole bar
abbrev pub pace : Performance → ℕ
pace p = max 1 (least_of (map (nominal p.division) p.bars) / 4)

-- the barlines that the stages begin at, after bars are added, and those that they lead to, before bars are dropped
abbrev pub first_barlines : Performance → List ℕ → List ℕ
first_barlines p goal = lengthened (last_bar p) (length goal) (barlines_of p)

abbrev pub last_barlines : Performance → List ℕ → List ℕ
last_barlines p goal = lengthened (last_bar p) (length (barlines_of p)) goal

abbrev pub staged : Performance → List ℕ → List ℕ → List Edit
staged p ticks goal = all_stages (stage_count (pace p) ticks goal) ticks goal

-- bars that the goal has more are added first, and bars that it has fewer are dropped last
abbrev pub script : Performance → List ℕ → List Edit
script p goal =
    replicate (length goal - length (barlines_of p)) AddBar
    ++ (staged p (first_barlines p goal) (last_barlines p goal)
    ++ replicate (length (barlines_of p) - length goal) DropBar)

-- an edit of bars
abbrev pub IsOfBars : Edit → Type 0
IsOfBars (Add channel key onset end) = ⊥
IsOfBars (Drop channel key onset) = ⊥
IsOfBars (Move channel key onset to) = ⊥
IsOfBars (Barline bar tick) = ⊤
IsOfBars (Pin channel bar shape) = ⊥
IsOfBars (Unpin channel bar) = ⊥
IsOfBars AddBar = ⊤
IsOfBars DropBar = ⊤

-- an edit that is in range is accepted, and leaves this performance, of which each voice has a derivation
abbrev pub Accepts : Grammar → Performance → Edit → Performance → Type 0
Accepts g p edit next = IsEditInRange edit × (edited p edit ≡ Ok next) × All (HasDerivation g next) next.channels

-- every edit is accepted in its turn, and the last leaves q
abbrev pub Leads : Grammar → Performance → List Edit → Performance → Type 0
Leads g p [] q = q ≡ p
Leads g p (edit ∷ edits) q = (next : Performance) × Accepts g p edit next × Leads g next edits q
