-- The derivations of bars that fit are those of a list.
use Rattle.std.proofs.Common.{ℕ, ◌≤◌, List, []}
use Rattle.std.proofs.lemmas.Bool.{cases_eq}
use Rattle.rhythm_base.specs.declared.inner.Inner.{Inner}
use Rattle.rhythm_base.specs.Forest.{Tree}
use Rattle.rhythm_base.specs.Grammar.{Grammar}
use Rattle.rhythm_base.specs.Leaves.{Fits, FitsVoice, VoiceBar, are_bars, looks, voice_leaves}
use Rattle.rhythm_base.specs.Line.{agree, past}
use Rattle.answer_laws.proofs.AllTrees.{derivations}
use Rattle.answer_laws.proofs.Decisions.{Decided, decided_both, decided_like, decided_true}
use Rattle.answer_laws.proofs.FiniteSets.{IsFinite, all_of}

module _ (g : Grammar) (bars : List VoiceBar) (cs : List Inner) where
  abbrev leaving : List Tree → ℕ
  leaving ts = past (looks g.resolution) [] cs (voice_leaves g bars ts)

  pub decided_fits : (ts : List Tree) (to : ℕ) → Decided (Fits g bars cs ts to)
  decided_fits ts to =
      decided_like (λ h. record { trees = h.0; leaves = h.1.0; leave = h.1.1 }) (λ h. (h.trees, (h.leaves, h.leave)))
      (decided_both (decided_true (are_bars g bars ts))
      (decided_both (decided_true (agree (looks g.resolution) [] [] cs (voice_leaves g bars ts))) (cases_eq (leaving ts) to)))

  module _ (some : 1 ≤ g.resolution) where
    -- all derivations that fit
    pub all_fitting : IsFinite (FitsVoice g bars cs)
    all_fitting =
        let wide = derivations g some bars in
        all_of (FitsVoice g bars cs) (wide.0, λ ts fits. wide.1 ts fits.trees) (λ ts _. decided_fits ts 0)
