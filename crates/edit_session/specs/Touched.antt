-- The ticks between which an edit adds notes, drops notes or moves them, and the bars and pins that it leaves.
use Rattle.std.specs.Prelude.{◌≡◌, ℕ, ◌+◌, ⊤, min, max}
use Rattle.rhythm_base.specs.declared.limits.TheConstants.{LATEST_TICK}
use Rattle.rhythm_base.specs.declared.edit.Edit.{Edit}
use Rattle.rhythm_base.specs.declared.edit.Edit.TheVariants.{Add, Drop, Move, Barline, Pin, Unpin, AddBar, DropBar}

-- no note that begins before this tick is another one
abbrev pub touched_from : Edit → ℕ
touched_from (Add channel key onset end) = onset
touched_from (Drop channel key onset) = onset
touched_from (Move channel key onset to) = min onset to
touched_from (Barline bar tick) = LATEST_TICK
touched_from (Pin channel bar shape) = LATEST_TICK
touched_from (Unpin channel bar) = LATEST_TICK
touched_from AddBar = LATEST_TICK
touched_from DropBar = LATEST_TICK

-- and none that begins at this tick or after it
abbrev pub touched_up_to : Edit → ℕ
touched_up_to (Add channel key onset end) = onset + 1
touched_up_to (Drop channel key onset) = onset + 1
touched_up_to (Move channel key onset to) = max onset to + 1
touched_up_to (Barline bar tick) = 0
touched_up_to (Pin channel bar shape) = 0
touched_up_to (Unpin channel bar) = 0
touched_up_to AddBar = 0
touched_up_to DropBar = 0

-- it sets no pin in that bar of that voice, and takes none out there
abbrev pub LeavesPin : Edit → ℕ → ℕ → Type 0
LeavesPin (Pin one number shape) channel bar = (channel ≡ one) × (bar ≡ number) → ⊥
LeavesPin (Unpin one number) channel bar = (channel ≡ one) × (bar ≡ number) → ⊥
LeavesPin (Add _ key onset end) channel bar = ⊤
LeavesPin (Drop _ key onset) channel bar = ⊤
LeavesPin (Move _ key onset to) channel bar = ⊤
LeavesPin (Barline _ tick) channel bar = ⊤
LeavesPin AddBar channel bar = ⊤
LeavesPin DropBar channel bar = ⊤

-- it sets no barline at the start or the end of that bar, and does not add it. There are so many bars afterwards
abbrev pub LeavesBar : Edit → ℕ → ℕ → Type 0
LeavesBar (Barline number tick) bars bar = (number ≡ bar → ⊥) × (number ≡ bar + 1 → ⊥)
LeavesBar AddBar bars bar = bar + 1 ≡ bars → ⊥
LeavesBar (Add _ key onset end) bars bar = ⊤
LeavesBar (Drop _ key onset) bars bar = ⊤
LeavesBar (Move _ key onset to) bars bar = ⊤
LeavesBar (Pin _ number shape) bars bar = ⊤
LeavesBar (Unpin _ number) bars bar = ⊤
LeavesBar DropBar bars bar = ⊤
