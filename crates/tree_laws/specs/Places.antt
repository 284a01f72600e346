-- Leaves of a bar from a unit on: what stands before them, and when they fit with the numbers of chords carried in and out.
use Rattle.std.specs.Prelude.{◌≡◌, ℕ, ◌*◌, ◌-◌, ◌≤◌, Bool, true, not, ◌&&◌, nat_le, List, map, filter}
use Rattle.rhythm_base.specs.Lists.{last_end}
use Rattle.rhythm_base.specs.Leaves.{VoiceBar, in_bar, looks}
use Rattle.rhythm_base.specs.declared.inner.Inner.{Inner}
use Rattle.rhythm_base.specs.Trees.{BarLeaf}
use Rattle.tree_laws.specs.Runs.{leaving, runs}

-- an onset is at or after the unit p of a bar of r units
abbrev pub reach : ℕ → VoiceBar → ℕ → ℕ → Bool
reach r bar p t = nat_le bar.start t && nat_le (p * bar.length) ((t - bar.start) * r)

-- the end of the last chord with its onset before the place p, where e is the end before the bar
abbrev pub end_before : ℕ → VoiceBar → List Inner → ℕ → ℕ → ℕ
end_before r bar cs e p = last_end e (map (λ c. c.end) (filter (λ c. not (reach r bar p c.onset)) cs))

-- the parts from the place p on agree, with f chords carried to the first
abbrev pub runs_at : ℕ → VoiceBar → List Inner → ℕ → ℕ → ℕ → List BarLeaf → Bool
runs_at r bar cs e p f xs = runs (looks r) cs (end_before r bar cs e p) f (in_bar bar xs)

-- the parts from the place p on fit with the counts f and t
pub record FitsAt (r : ℕ) (bar : VoiceBar) (cs : List Inner) (e p : ℕ) (xs : List BarLeaf) (f t : ℕ) : Type 0 where
  pub runs : runs_at r bar cs e p f xs ≡ true
  pub leave : leaving (looks r) cs f (in_bar bar xs) ≡ t
  pub few_from : f ≤ 4
  pub few_to : t ≤ 4
