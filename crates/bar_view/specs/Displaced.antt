-- How far chords are displaced.
use Rattle.std.specs.Prelude.{ℕ, List, sum_by}
use Rattle.rhythm_base.specs.BarInput.{BarInput}
use Rattle.rhythm_base.specs.Cost.{displacement_of}
use Rattle.rhythm_base.specs.declared.inner.Inner.{Inner}

-- how far these chords of the cell are displaced, together, where each is attached at the unit
abbrev pub displacements : BarInput → ℕ → List Inner → ℕ
displacements k unit cs = sum_by (λ c. displacement_of k.num k.den k.length k.resolution unit c.onset) cs
