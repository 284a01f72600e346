-- Where the bars of a performance begin and end, and how long a whole bar is.
use Rattle.rhythm_base.specs.declared.limits.TheConstants.{LATEST_TICK}
use Rattle.std.specs.Prelude.{ℕ, ◌+◌, ◌-◌, ◌*◌, ◌/◌, nat_lt, if◌then◌else◌, List, [], ◌∷◌, length, Option, Some, None}
use Rattle.std.proofs.Common.{zero, suc}
use Rattle.rhythm_base.specs.declared.note.Bar.{Bar}
use Rattle.rhythm_base.specs.Performance.{Performance}
use Rattle.rhythm_base.specs.Lists.{last_of}

-- the start of a bar, or the last barline after the last bar
abbrev pub barline : List Bar → ℕ → ℕ → ℕ
barline [] last bar = last
barline (b ∷ bars) last zero = b.start
barline (b ∷ bars) last (suc bar) = barline bars last bar

-- the barline after this one, and a tick past the latest possible one where there is none
abbrev pub barline_after : Performance → ℕ → ℕ
barline_after p bar = if nat_lt bar (length p.bars) then barline p.bars p.last (bar + 1) else LATEST_TICK + 1

-- ticks of a whole bar of the signature: 4 * division * num / den
abbrev pub nominal : ℕ → Bar → ℕ
nominal division b = (4 * division * b.num) / b.den

abbrev pub nominal_of : ℕ → Option Bar → ℕ
nominal_of division None = 0
nominal_of division (Some b) = nominal division b

-- the last barline after one more bar of the last bar's signature
abbrev pub next_barline : Performance → ℕ
next_barline p = p.last + nominal_of p.division (last_of p.bars)

-- where the last bar starts
abbrev pub last_start : Performance → ℕ
last_start p = barline p.bars p.last (length p.bars - 1)
