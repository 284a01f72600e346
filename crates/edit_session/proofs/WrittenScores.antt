-- The score of a well-formed performance can be written.
use Rattle.rhythm_base.specs.declared.limits.TheConstants.{MOST_BARS}
use Rattle.std.proofs.Common.{◌≤◌, ap, arith, length, IfOk, Result, Ok, Err}
use Rattle.std.proofs.lemmas.List.{length-map}
use Rattle.derivation.proofs.OneScore.{scores_one}
use Rattle.derivation.specs.PerformanceScore.{IsScoreOf, score_bar}
use Rattle.derivation.specs.Score.{IsScore, Score}
use Rattle.rhythm_base.specs.Grammar.{Grammar}
use Rattle.rhythm_base.specs.Performance.{IsWellFormed, Performance}
use Rattle.rhythm_base.specs.Readable.{IsReadable}

module _ (g : Grammar) (p : Performance) {E : Type 0} (r : Result Score E) where
  pub can_write : IsReadable g → IsWellFormed p → IfOk r (IsScoreOf g p) → IfOk r IsScore
  can_write readable formed are = go r are
    where
      go : (r : Result Score E) → IfOk r (IsScoreOf g p) → IfOk r IsScore
      go (Ok s) is = scores_one.can_be_written g p s readable formed is
      go (Err e) none = tt

  pub few_written : IsWellFormed p → IfOk r (IsScoreOf g p) → IfOk r (λ s. length s.bars ≤ MOST_BARS)
  few_written formed are = go r are
    where
      go : (r : Result Score E) → IfOk r (IsScoreOf g p) → IfOk r (λ s. length s.bars ≤ MOST_BARS)
      go (Ok s) is = omega (arith, ap length is.bars, length-map p.bars (score_bar p), formed.few_bars)
      go (Err e) none = tt
