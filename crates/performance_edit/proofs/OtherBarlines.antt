-- Barlines, and the bars with another one.
use Rattle.std.proofs.Common.{◌≡◌, ℕ, zero, suc, ◌<◌, List, [], ◌∷◌, length, get_or, slice_set, refl, ap, arith}
use Rattle.rhythm_base.specs.declared.note.Bar.{Bar}
use Rattle.rhythm_base.specs.Barlines.{barline}
use Rattle.edit_laws.specs.Edits.{with_barline, with_start}

-- the barline of a bar that is there
pub barline_at : (bars : List Bar) (last k : ℕ) (d : Bar) → k < length bars → barline bars last k ≡ (get_or bars k d).start
barline_at [] last k d lt = absurd (omega arith)
barline_at (b ∷ bars) last zero d lt = refl
barline_at (b ∷ bars) last (suc k) d lt = barline_at bars last k d (omega arith)

-- another barline is a write of one bar
pub with_barline-set : (k tick : ℕ) (bars : List Bar) (d : Bar) → k < length bars → slice_set bars k (with_start tick (get_or bars k d)) ≡ with_barline k tick bars
with_barline-set k tick [] d lt = absurd (omega arith)
with_barline-set zero tick (b ∷ bars) d lt = refl
with_barline-set (suc k) tick (b ∷ bars) d lt = ap (λ l. b ∷ l) (with_barline-set k tick bars d (omega arith))
