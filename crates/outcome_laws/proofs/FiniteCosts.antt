-- What a list of barlines costs, or that it costs nothing that is told: the trees of its bars are those of a list.
use Rattle.std.proofs.Common.{◌≢◌, ◌+◌, ◌≤◌, ◌⊎◌, inl, inr, ℕ, List, [], ◌∷◌, refl, sym, subst, Option, Some, None}
use Rattle.std.specs.Cmp.{nat_cmp_total}
use Rattle.answer_laws.proofs.AllTrees.{derivations}
use Rattle.answer_laws.proofs.Decisions.{Decided, decided_both, decided_like, decided_most}
use Rattle.answer_laws.proofs.FiniteSets.{IsFinite, all_of, some_or_none}
use Rattle.answer_laws.proofs.FittingDerivations.{all_fitting, decided_fits}
use Rattle.answer_laws.proofs.LeastMembers.{least_of, not_lower}
use Rattle.barline_follow.specs.Bars.{with_barlines}
use Rattle.barline_follow.specs.HeadCost.{IsHeadCost, IsHeadOfVoice, IsHeadRun, IsSum, chords_in, run_cost}
use Rattle.performance_laws.proofs.OneChords.{one_chords}
use Rattle.performance_laws.proofs.SomeChords.{some_chords}
use Rattle.rhythm_base.specs.declared.chord.Chord.{Chord}
use Rattle.rhythm_base.specs.declared.inner.Inner.{Inner}
use Rattle.rhythm_base.specs.declared.note.Bar.{Bar}
use Rattle.rhythm_base.specs.Cost.{cost}
use Rattle.rhythm_base.specs.Forest.{Tree}
use Rattle.rhythm_base.specs.Grammar.{Grammar, root_of}
use Rattle.rhythm_base.specs.Least.{rank_of}
use Rattle.rhythm_base.specs.Leaves.{Fits, FitsVoice, VoiceBar, looks, soundings, voice_leaves}
use Rattle.rhythm_base.specs.Line.{past}
use Rattle.rhythm_base.specs.Performance.{Performance}
use Rattle.rhythm_base.specs.Voices.{AreChordsOf, HasDerivation, HasStarts, IsCostOf, IsLeastCost, IsSumOfCosts, notes_of_voice, voice_bars}
use Rattle.rhythm_base.proofs.TotalOrders.{never_less}
use Rattle.tree_laws.proofs.Ranks.{ranks_total}
use Rattle.outcome_laws.proofs.Decided.{decided_every}

-- some number is the one, or none is
abbrev pub IsTold : (ℕ → Type 0) → Type 0
IsTold Costs = ((cost : ℕ) × Costs cost) ⊎ ((cost : ℕ) → Costs cost → ⊥)

pub decided_starts : (g : Grammar) (bars : List Bar) → Decided (HasStarts g bars)
decided_starts g bars = decided_every (λ (b : Bar). root_of g.starts b.num b.den ≢ None) (λ b. there (root_of g.starts b.num b.den)) bars
  where
    there : (o : Option ℕ) → Decided (o ≢ None)
    there None = inr (λ some. some refl)
    there (Some symbol) = inl (λ e. cc)

module _ (g : Grammar) (some : 1 ≤ g.resolution) where
  -- ---- the runs of bars, and the least of them

  module _ (bars : List VoiceBar) (cs : List Inner) where
    decided_run : (trees : List Tree) → Decided (IsHeadRun g bars cs trees)
    decided_run trees =
        let to : ℕ = past (looks g.resolution) [] (chords_in bars cs) (voice_leaves g bars trees) in
        decided_like (λ h. record { to = to; fits = h.0; few = h.1 })
        (λ run. (subst (λ n. Fits g bars (chords_in bars cs) trees n) (sym run.fits.leave) run.fits, subst (λ n. n ≤ 4) (sym run.fits.leave) run.few))
        (decided_both (decided_fits g bars (chords_in bars cs) trees to) (decided_most to 4))

    all_runs : IsFinite (IsHeadRun g bars cs)
    all_runs =
        let wide = derivations g some bars in
        all_of (IsHeadRun g bars cs) (wide.0, λ trees run. wide.1 trees run.fits.trees) (λ trees _. decided_run trees)

    abbrev HasLeastRun : Type 0
    HasLeastRun = (trees : List Tree) × IsHeadRun g bars cs trees × ((others : List Tree) → IsHeadRun g bars cs others → run_cost g bars cs trees ≤ run_cost g bars cs others)

    least_run : HasLeastRun ⊎ ((trees : List Tree) → IsHeadRun g bars cs trees → ⊥)
    least_run = elim (least_of nat_cmp_total (run_cost g bars cs) (IsHeadRun g bars cs) all_runs) [
      | inl least ↦ inl (least.0, least.1, λ others run. not_lower (run_cost g bars cs others) (run_cost g bars cs least.0) (least.2 others run))
      | inr none ↦ inr none
    ]

  -- ---- head costs

  module _ (p : Performance) where
    module _ (ticks : List ℕ) where
      head_of_voice : (channel : ℕ) → Decided (HasStarts g (with_barlines p ticks).bars) → IsTold (IsHeadOfVoice g p ticks channel)
      head_of_voice channel (inr never) = inr (λ cost head. never head.starts)
      head_of_voice channel (inl starts) =
          let cs = some_chords g p channel in
          elim (least_run (voice_bars g (with_barlines p ticks) channel) (soundings cs.0)) [
            | inl run ↦
                inl (
                  run_cost g (voice_bars g (with_barlines p ticks) channel) (soundings cs.0) run.0,
                  record { starts = starts; chords = cs.0; are_chords = cs.1; trees = run.0; run = run.1; is = refl; least = run.2 },
                )
            | inr none ↦
                inr (λ cost head.
                let same = one_chords p.tempos p.division g.window (notes_of_voice p channel) head.chords cs.0 head.are_chords cs.1 in
                none head.trees (subst (λ (ds : List Chord). IsHeadRun g (voice_bars g (with_barlines p ticks) channel) (soundings ds) head.trees) same head.run))
          ]

      told_sum : (Costs : ℕ → ℕ → Type 0) → ((channel : ℕ) → IsTold (Costs channel)) → (channels : List ℕ) → IsTold (IsSum Costs channels)
      told_sum Costs told [] = inl (0, refl)
      told_sum Costs told (channel ∷ channels) = go (told channel) (told_sum Costs told channels)
        where
          go : IsTold (Costs channel) → IsTold (IsSum Costs channels) → IsTold (IsSum Costs (channel ∷ channels))
          go (inl own) (inl others) = inl (own.0 + others.0, (own.0, others.0, own.1, others.1, refl))
          go (inl own) (inr never) = inr (λ sum is. never is.1 is.3)
          go (inr never) others = inr (λ sum is. never is.0 is.2)

      pub told_head : IsTold (IsHeadCost g p ticks)
      told_head =
          let starts = decided_starts g (with_barlines p ticks).bars in
          told_sum (IsHeadOfVoice g p ticks) (λ channel. head_of_voice channel starts) p.channels

    -- ---- derivations

    module _ (channel : ℕ) where
      pub decided_derivation : Decided (HasDerivation g p channel)
      decided_derivation = go (decided_starts g p.bars)
        where
          cs : (cs : List Chord) × AreChordsOf g p channel cs
          cs = some_chords g p channel

          go : Decided (HasStarts g p.bars) → Decided (HasDerivation g p channel)
          go (inr never) = inr (λ has. never has.2)
          go (inl starts) = elim (some_or_none (FitsVoice g (voice_bars g p channel) (soundings cs.0)) (all_fitting g (voice_bars g p channel) (soundings cs.0) some)) [
            | inl found ↦ inl (cs.0, found.0, starts, cs.1, found.1)
            | inr none ↦
                inr (λ has.
                let same = one_chords p.tempos p.division g.window (notes_of_voice p channel) has.0 cs.0 has.3 cs.1 in
                none has.1 (subst (λ (ds : List Chord). FitsVoice g (voice_bars g p channel) (soundings ds) has.1) same has.4))
          ]

      least_cost : Decided (HasStarts g p.bars) → IsTold (IsLeastCost g p channel)
      least_cost (inr never) = inr (λ cost is. never is.starts)
      least_cost (inl starts) =
          let cs = some_chords g p channel in
          let bars : List VoiceBar = voice_bars g p channel in
          elim (least_of ranks_total (rank_of g bars (soundings cs.0)) (FitsVoice g bars (soundings cs.0)) (all_fitting g bars (soundings cs.0) some)) [
            | inl least ↦
                inl (
                  cost g bars (soundings cs.0) least.0,
                  record {
                    starts = starts;
                    chords = cs.0;
                    are_chords = cs.1;
                    trees = least.0;
                    least = record { fits = least.1; first = λ others fits. never_less _ (least.2 others fits) };
                    is = refl;
                  },
                )
            | inr none ↦
                inr (λ cost is.
                let same = one_chords p.tempos p.division g.window (notes_of_voice p channel) is.chords cs.0 is.are_chords cs.1 in
                none is.trees (subst (λ (ds : List Chord). FitsVoice g bars (soundings ds) is.trees) same is.least.fits))
          ]

    told_sum_of_costs : (channels : List ℕ) → IsTold (IsSumOfCosts g p channels)
    told_sum_of_costs [] = inl (0, refl)
    told_sum_of_costs (channel ∷ channels) = go (least_cost channel (decided_starts g p.bars)) (told_sum_of_costs channels)
      where
        go : IsTold (IsLeastCost g p channel) → IsTold (IsSumOfCosts g p channels) → IsTold (IsSumOfCosts g p (channel ∷ channels))
        go (inl own) (inl others) = inl (own.0 + others.0, (own.0, others.0, own.1, others.1, refl))
        go (inl own) (inr never) = inr (λ sum is. never is.1 is.3)
        go (inr never) others = inr (λ sum is. never is.0 is.2)

    pub told_cost : IsTold (IsCostOf g p)
    told_cost = told_sum_of_costs p.channels
