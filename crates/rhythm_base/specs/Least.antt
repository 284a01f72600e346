-- The order of derivations, and the least one.
use Rattle.std.specs.Prelude.{◌≢◌, ℕ, List}
use Rattle.std.specs.Ordering.{nat_cmp, ordering_then}
use Rattle.std.specs.Cmp.Lexicographic.{slice_cmp}
use Rattle.std.specs.declared.cmp.Ordering.{Ordering}
use Rattle.std.specs.declared.cmp.Ordering.TheVariants.{Less}
use Rattle.rhythm_base.specs.Cost.{cost, sequence_of}
use Rattle.rhythm_base.specs.Forest.{Tree}
use Rattle.rhythm_base.specs.Leaves.{FitsVoice, VoiceBar}
use Rattle.rhythm_base.specs.declared.inner.Inner.{Inner}
use Rattle.rhythm_base.specs.Grammar.{Grammar}

-- a cost and a list of rule numbers
abbrev pub Rank : Type 0
Rank = ℕ × List ℕ

-- the lower cost is earlier; at equal costs the lexicographically lower list
abbrev pub rank_cmp : Rank → Rank → Ordering
rank_cmp a b = ordering_then (nat_cmp a.0 b.0) (slice_cmp nat_cmp a.1 b.1)

abbrev pub rank_of : Grammar → List VoiceBar → List Inner → List Tree → Rank
rank_of g bars cs ts = (cost g bars cs ts, sequence_of ts)

-- it fits, and no other derivation that fits is earlier
pub record IsLeast (g : Grammar) (bars : List VoiceBar) (cs : List Inner) (ts : List Tree) : Type 0 where
  pub fits : FitsVoice g bars cs ts
  pub first : (us : List Tree) → FitsVoice g bars cs us → rank_cmp (rank_of g bars cs us) (rank_of g bars cs ts) ≢ Less

-- no derivation fits
abbrev pub HasNone : Grammar → List VoiceBar → List Inner → Type 0
HasNone g bars cs = (us : List Tree) → FitsVoice g bars cs us → ⊥
