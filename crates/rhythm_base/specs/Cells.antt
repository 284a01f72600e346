-- The input of a cell, and which trees fit it with the numbers of chords carried in and out.
use Rattle.std.specs.Prelude.{◌≡◌, ℕ, ◌+◌, ◌-◌, ◌≤◌, Bool, true, ◌&&◌, nat_lt, nat_le, List, [], ◌∷◌, filter, map, replicate, min}
use Rattle.rhythm_base.specs.BarInput.{BarInput}
use Rattle.rhythm_base.specs.Cost.{charges, weights}
use Rattle.rhythm_base.specs.Forest.{Tree, preorder_of}
use Rattle.rhythm_base.specs.Leaves.{Leaf, VoiceBar, in_bar, looks}
use Rattle.rhythm_base.specs.declared.inner.Inner.{Inner}
use Rattle.rhythm_base.specs.Line.{agree, past}
use Rattle.rhythm_base.specs.Grammar.{Grammar}
use Rattle.rhythm_base.specs.Trees.{is_tree, leaves_of}
use Rattle.rhythm_base.specs.Lists.{last_end}

-- an end in ticks from the bar's start: 0 where it is before the bar, and cut to the bar's length
abbrev pub cut_end : VoiceBar → ℕ → ℕ
cut_end bar e = min (e - bar.start) bar.length

abbrev pub has_onset : VoiceBar → ℕ → Bool
has_onset bar t = nat_le bar.start t && nat_lt t (bar.start + bar.length)

-- a chord in ticks from the bar's start
abbrev pub within_bar : VoiceBar → Inner → Inner
within_bar bar c = record { onset = c.onset - bar.start; end = cut_end bar c.end }

-- the input of a cell: its own chords, and the end of the last chord with its onset before the bar
abbrev pub input : Grammar → VoiceBar → List Inner → BarInput
input g bar cs = record {
  symbol = bar.symbol;
  resolution = g.resolution;
  num = bar.num;
  den = bar.den;
  length = bar.length;
  chords = map (within_bar bar) (filter (λ c. has_onset bar c.onset) cs);
  before = cut_end bar (last_end 0 (map (λ c. c.end) (filter (λ c. nat_lt c.onset bar.start) cs)));
  pin = bar.pin;
}

-- the bar that a cell is, from tick 0 on
abbrev pub bar_of : BarInput → VoiceBar
bar_of k = record { start = 0; length = k.length; num = k.num; den = k.den; symbol = k.symbol; pin = k.pin }

abbrev pub leaves_in : Grammar → BarInput → Tree → List Leaf
leaves_in g k t = in_bar (bar_of k) (leaves_of g.rules k.resolution k.symbol t)

-- The tree fits the cell with the counts `from` and `to`: it is a tree of the cell's symbol over its units, of the pin's
-- shape. Besides the cell's own chords, `from` chords that end at `before` are attached to its first leaf, before them;
-- where there are none, the chord before the bar has that end. Its leaves agree, and `to` chords are attached past the last.
pub record CellFits (g : Grammar) (k : BarInput) (t : Tree) (from to : ℕ) : Type 0 where
  pub tree : is_tree g.rules k.resolution k.symbol k.pin t ≡ true
  pub leave : past (looks k.resolution) (replicate from k.before) k.chords (leaves_in g k t) ≡ to
  pub leaves : agree (looks k.resolution) (k.before ∷ []) (replicate from k.before) k.chords (leaves_in g k t) ≡ true
  pub few_from : from ≤ 4
  pub few_to : to ≤ 4

-- what a tree of the cell costs: its rules, and the displacement of the cell's own onsets
abbrev pub cell_cost : Grammar → BarInput → Tree → ℕ
cell_cost g k t = weights g (preorder_of t) + charges g (leaves_in g k t) k.chords
