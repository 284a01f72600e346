-- How many tables are built where barlines that follow the player are looked for: by the search, and by the trial of its script.
use Rattle.std.specs.Prelude.{◌≡◌, ◌⊎◌, ℕ, zero, suc, ◌+◌, ◌*◌, ◌≤◌, List, [], ◌∷◌, length}
use Rattle.rhythm_base.specs.declared.edit.Edit.{Edit}
use Rattle.rhythm_base.specs.EditRanges.{IsEditInRange}
use Rattle.rhythm_base.specs.Grammar.{Grammar}
use Rattle.rhythm_base.specs.Performance.{Performance}
use Rattle.edit_laws.specs.Reached.{WouldReach}
use Rattle.barline_follow.specs.Answer.{AreChosen}
use Rattle.barline_follow.specs.Script.{Accepts, script}

-- how many lists round i lengthens at most
abbrev pub most_lists : ℕ → ℕ
most_lists zero = 1
most_lists (suc i) = 24

-- how many lengths are offered for bar i at most: a whole bar, one in the tempo of the bar before, and each of them by so many steps
-- shorter and longer. Of the first bar the two are one
abbrev pub most_lengths : ℕ → ℕ
most_lengths zero = 25
most_lengths (suc i) = 14

-- in each of two rounds for a bar of the performance at most 24 lists get 14 bars each, with a table for each voice
abbrev pub most_tables : Performance → ℕ
most_tables p = (2 * length p.bars) * (24 * 14 * length p.channels)

-- ---- the trial of a script

-- the cells that an edit reaches, or would have reached; none where it is out of range
abbrev pub AreReachedBy : Grammar → Performance → Edit → List (ℕ × ℕ) → Type 0
AreReachedBy g p edit cells = (IsEditInRange edit × WouldReach g p edit cells) ⊎ ((IsEditInRange edit → ⊥) × (cells ≡ []))

-- How many cells the edits reach in turn: those that the first reaches and, where it is accepted, as many as the others reach in turn on
-- the performance after it. After one that is refused no more are reached. Where it is refused only because some voice would have no
-- derivation, its own cells count.
unfoldable pub AreReachedInTurn : Grammar → Performance → List Edit → ℕ → Type 0
AreReachedInTurn g p [] sum = sum ≡ 0
AreReachedInTurn g p (edit ∷ edits) sum =
    (cells : List (ℕ × ℕ)) × (others : ℕ) × AreReachedBy g p edit cells × (sum ≡ length cells + others)
    × (((next : Performance) × Accepts g p edit next × AreReachedInTurn g next edits others)
    ⊎ (((next : Performance) → Accepts g p edit next → ⊥) × (others ≡ 0)))

-- no more than that
abbrev pub AreWithinReachInTurn : Grammar → Performance → List Edit → ℕ → Type 0
AreWithinReachInTurn g p edits n = (sum : ℕ) → AreReachedInTurn g p edits sum → n ≤ sum

-- how many tables are built at most: those of the search, and a table for each cell that the lines of the script to the chosen barlines
-- reach in turn
abbrev pub AreMostBuilt : Grammar → Performance → ℕ → Type 0
AreMostBuilt g p tables =
    (ticks : List ℕ) × (reached : ℕ) × AreChosen g p ticks × AreReachedInTurn g p (script p ticks) reached
    × (tables ≡ most_tables p + reached)
