-- Where the trees of a cell stand.
use Rattle.std.specs.Prelude.{◌≡◌}
use Rattle.rhythm_base.specs.BarInput.{BarInput, IsBarInput}
use Rattle.rhythm_base.specs.Cells.{bar_of}
use Rattle.rhythm_base.specs.Readable.{IsReadable}
use Rattle.rhythm_base.specs.Grammar.{Grammar}
use Rattle.tree_laws.specs.Forests.{Ground}

abbrev pub ground_of : Grammar → BarInput → Ground
ground_of g k = record { book = g; bar = bar_of k; chords = k.chords; before = k.before }

-- a grammar from a file, and a cell of its resolution
pub record IsReady (g : Grammar) (k : BarInput) : Type 0 where
  pub readable : IsReadable g
  pub cell : IsBarInput k
  pub units : g.resolution ≡ k.resolution
