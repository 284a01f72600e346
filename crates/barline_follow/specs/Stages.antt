-- How barlines are led to others by stages, so that they stay in order and no bar between becomes much longer than a bar.
use Rattle.std.specs.Prelude.{ℕ, suc, ◌+◌, ◌-◌, ◌*◌, ◌/◌, Bool, nat_lt, List, [], ◌∷◌, ◌++◌, filter, map, reverse}
use Rattle.std.specs.Int.{div_ceil}
use Rattle.std.specs.List.{flat_map, range_with_len}
use Rattle.rhythm_base.specs.declared.edit.Edit.{Edit}
use Rattle.rhythm_base.specs.declared.edit.Edit.TheVariants.{Barline}
use Rattle.rhythm_base.specs.Lists.{gap, greatest}

-- what is made of two numbers, at each place of two lists
abbrev pub paired : {X : Type 0} → (ℕ → ℕ → X) → List ℕ → List ℕ → List X
paired f [] others = []
paired f (a ∷ rest) [] = []
paired f (a ∷ rest) (b ∷ others) = f a b ∷ paired f rest others

-- how far the barline that moves most has to go
abbrev pub farthest : List ℕ → List ℕ → ℕ
farthest ticks goal = greatest (paired gap ticks goal)

-- the fewest stages in which no barline moves by more than a pace
abbrev pub stage_count : ℕ → List ℕ → List ℕ → ℕ
stage_count pace ticks goal = div_ceil (farthest ticks goal) pace

-- where a barline from `tick` to `end` stands after stage s of so many: tick + (end - tick) * s / stages, rounded down
abbrev pub aim : ℕ → ℕ → ℕ → ℕ → ℕ
aim stages s tick end = (tick * (stages - s) + end * s) / stages

abbrev pub aims : ℕ → ℕ → List ℕ → List ℕ → List ℕ
aims stages s ticks goal = paired (aim stages s) ticks goal

-- a barline, where it stands and where it is to stand
pub record Shift : Type 0 where
  pub bar : ℕ
  pub tick : ℕ
  pub to : ℕ

-- the shifts of the barlines from number j on
abbrev pub shifts : ℕ → List ℕ → List ℕ → List Shift
shifts j [] goal = []
shifts j (t ∷ ticks) [] = []
shifts j (t ∷ ticks) (to ∷ goal) = record { bar = j; tick = t; to = to } ∷ shifts (suc j) ticks goal

abbrev pub is_later : Shift → Bool
is_later s = nat_lt s.tick s.to

abbrev pub is_earlier : Shift → Bool
is_earlier s = nat_lt s.to s.tick

abbrev pub shift_line : Shift → Edit
shift_line s = Barline s.bar s.to

-- a stage: first those that move later, from the last barline down, and then those that move earlier, from the first one up
abbrev pub stage : List ℕ → List ℕ → List Edit
stage ticks to =
    map shift_line (reverse (filter is_later (shifts 0 ticks to)))
    ++ map shift_line (filter is_earlier (shifts 0 ticks to))

-- stage s, from the aims of the stage before to its own
abbrev pub stage_lines : ℕ → List ℕ → List ℕ → ℕ → List Edit
stage_lines stages ticks goal s = stage (aims stages s ticks goal) (aims stages (s + 1) ticks goal)

-- all stages one after another
abbrev pub all_stages : ℕ → List ℕ → List ℕ → List Edit
all_stages stages ticks goal = flat_map (stage_lines stages ticks goal) (range_with_len 0 stages)
