-- The first bar at which a voice has no derivation.
use Rattle.std.specs.Prelude.{◌≡◌, ℕ, ◌+◌, ◌≤◌, ◌<◌, nat_lt, List, [], ◌∷◌, length, filter, take}
use Rattle.rhythm_base.specs.Forest.{Tree}
use Rattle.rhythm_base.specs.Leaves.{Fits, VoiceBar}
use Rattle.rhythm_base.specs.declared.inner.Inner.{Inner}
use Rattle.rhythm_base.specs.Grammar.{Grammar}

-- the chords with their onset before a tick
abbrev pub chords_before : ℕ → List Inner → List Inner
chords_before e cs = filter (λ c. nat_lt c.onset e) cs

-- the tick at which the bars end, where they begin at b
abbrev pub end_of_bars : ℕ → List VoiceBar → ℕ
end_of_bars b [] = b
end_of_bars b (bar ∷ bars) = end_of_bars (bar.start + bar.length) bars

-- some trees of the bars 0 to i fit, where at most four chords leave bar i, and none the last bar. No leaf takes more than four
pub record HasRun (g : Grammar) (bars : List VoiceBar) (cs : List Inner) (i : ℕ) : Type 0 where
  pub trees : List Tree
  pub to : ℕ
  pub fits : Fits g (take (i + 1) bars) (chords_before (end_of_bars 0 (take (i + 1) bars)) cs) trees to
  pub few : to ≤ 4
  pub none_last : i + 1 ≡ length bars → to ≡ 0

-- the least bar at which no run fits
pub record IsDead (g : Grammar) (bars : List VoiceBar) (cs : List Inner) (i : ℕ) : Type 0 where
  pub bar : i < length bars
  pub dead : HasRun g bars cs i → ⊥
  pub first : (j : ℕ) → j < i → HasRun g bars cs j
