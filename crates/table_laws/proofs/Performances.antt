-- The voices of a performance have least derivations or none, and the performance has a cost or a dead voice.
use Rattle.std.proofs.Common.{ℕ, zero, suc, ◌+◌, ◌<◌, ◌≤◌, ◌⊎◌, inl, inr, List, [], ◌∷◌, refl, subst, arith}
use Rattle.std.specs.Prelude.{All, Contains}
use Rattle.std.specs.List.Sorted.{IsStrictlyIncreasing}
use Rattle.std.proofs.lemmas.List.Elements.{All-nil}
use Rattle.std.proofs.lemmas.List.Kept.{AllPairs-from_increasing}
use Rattle.rhythm_base.specs.declared.chord.Chord.{Chord}
use Rattle.rhythm_base.specs.Cost.{cost}
use Rattle.rhythm_base.specs.DeadBars.{IsDead}
use Rattle.rhythm_base.specs.Forest.{Tree}
use Rattle.rhythm_base.specs.Grammar.{Grammar}
use Rattle.rhythm_base.specs.Leaves.{FitsVoice, soundings}
use Rattle.rhythm_base.specs.Performance.{IsWellFormed, Performance}
use Rattle.rhythm_base.specs.Readable.{IsReadable}
use Rattle.rhythm_base.specs.Voices.{AreChordsOf, HasDerivation, HasStarts, IsDeadVoice, IsLeastCost, IsLeastOf, IsSumOfCosts, notes_of_voice, voice_bars}
use Rattle.rhythm_base.proofs.OrderedLists.{all_cons, all_head, all_tail, rise_later}
use Rattle.performance_laws.proofs.OneChords.{one_chords}
use Rattle.performance_laws.proofs.PerformedVoices.{performed_voice}
use Rattle.table_laws.proofs.Derivations.{some_dead_bar, some_derivation}
use Rattle.table_laws.proofs.ReadyCells.{ready_voice}
use Rattle.performance_laws.proofs.SomeChords.{some_chords}

-- no number of a rising list is below its first
first_lowest : (x : ℕ) (xs : List ℕ) (y : ℕ) → IsStrictlyIncreasing (x ∷ xs) → Contains (x ∷ xs) y → x ≤ y
first_lowest x xs y up (zero, lt, at) = omega (arith, at)
first_lowest x xs y up (suc k, lt, at) =
    let rise = AllPairs-from_increasing (x ∷ xs) up 0 (suc k) y (omega arith) lt in
    omega (arith, rise, at)

module _ (g : Grammar) (p : Performance) (readable : IsReadable g) (formed : IsWellFormed p) (starts : HasStarts g p.bars) where
  -- ---- one voice

  pub derivation_or_none : (channel : ℕ) → ((ts : List Tree) × IsLeastOf g p channel ts) ⊎ (HasDerivation g p channel → ⊥)
  derivation_or_none channel =
      let cs = some_chords g p channel in
      elim (some_derivation g (voice_bars g p channel) (soundings cs.0) (performed_voice g p channel cs.0 formed cs.1 readable.ranges.some_unit) (ready_voice g p channel cs.0 readable formed cs.1)) [
        | inl least ↦ inl (least.0, record { starts = starts; chords = cs.0; are_chords = cs.1; least = least.1 })
        | inr none ↦
            inr (λ d.
            let same = one_chords p.tempos p.division g.window (notes_of_voice p channel) d.0 cs.0 d.3 cs.1 in
            none d.1 (subst (λ ds. FitsVoice g (voice_bars g p channel) (soundings ds) d.1) same d.4))
      ]

  some_voice_cost : (channel : ℕ) → HasDerivation g p channel → (n : ℕ) × IsLeastCost g p channel n
  some_voice_cost channel has = elim (derivation_or_none channel) [
    | inl d ↦ (
      cost g (voice_bars g p channel) (soundings d.1.chords) d.0,
      record { starts = starts; chords = d.1.chords; are_chords = d.1.are_chords; trees = d.0; least = d.1.least; is = refl },
    )
    | inr none ↦ absurd (none has)
  ]

  abbrev HasDeadBar : ℕ → ℕ → Type 0
  HasDeadBar channel bar = (cs : List Chord) × AreChordsOf g p channel cs × IsDead g (voice_bars g p channel) (soundings cs) bar

  derived_or_dead : (channel : ℕ) → HasDerivation g p channel ⊎ ((bar : ℕ) × HasDeadBar channel bar)
  derived_or_dead channel = elim (derivation_or_none channel) [
    | inl d ↦ inl (d.1.chords, d.0, starts, d.1.are_chords, d.1.least.fits)
    | inr none ↦
        let cs = some_chords g p channel in
        let dead = some_dead_bar g (voice_bars g p channel) (soundings cs.0) (performed_voice g p channel cs.0 formed cs.1 readable.ranges.some_unit) (ready_voice g p channel cs.0 readable formed cs.1)
        (λ us fits. none (cs.0, us, starts, cs.1, fits)) in
        inr (dead.0, (cs.0, cs.1, dead.1))
  ]

  -- ---- all voices

  pub some_cost : (channels : List ℕ) → All (HasDerivation g p) channels → (sum : ℕ) × IsSumOfCosts g p channels sum
  some_cost [] has = (0, refl)
  some_cost (c ∷ channels) has =
      let first = some_voice_cost c (all_head (HasDerivation g p) c channels has) in
      let others = some_cost channels (all_tail (HasDerivation g p) c channels has) in
      (first.0 + others.0, (first.0, others.0, first.1, others.1, refl))

  -- of voices whose channels rise: one with a dead bar, before which all have derivations
  record HasFirstDead (channels : List ℕ) : Type 0 where
    channel : ℕ
    bar : ℕ
    voice : Contains channels channel
    dead : HasDeadBar channel bar
    first : (c : ℕ) → Contains channels c → c < channel → HasDerivation g p c

  first_dead : (channels : List ℕ) → IsStrictlyIncreasing channels → All (HasDerivation g p) channels ⊎ HasFirstDead channels
  first_dead [] up = inl (All-nil (HasDerivation g p))
  first_dead (c ∷ channels) up = elim (derived_or_dead c) [
    | inl own ↦ elim (first_dead channels (rise_later c channels up)) [
      | inl all ↦ inl (all_cons (HasDerivation g p) c channels own all)
      | inr d ↦ inr (record { channel = d.channel; bar = d.bar; voice = (suc d.voice.0, omega (arith, d.voice.1), d.voice.2); dead = d.dead; first = before own d })
    ]
    | inr dead ↦ inr (record { channel = c; bar = dead.0; voice = (0, omega arith, refl); dead = dead.1; first = λ x at low. absurd (omega (arith, low, first_lowest c channels x up at)) })
  ]
    where
      before : HasDerivation g p c → (d : HasFirstDead channels) → (x : ℕ) → Contains (c ∷ channels) x → x < d.channel → HasDerivation g p x
      before own d x (zero, lt, at) low = subst (HasDerivation g p) at own
      before own d x (suc k, lt, at) low = d.first x (k, omega (arith, lt), at) low

  pub all_or_dead : All (HasDerivation g p) p.channels ⊎ ((channel : ℕ) × (bar : ℕ) × IsDeadVoice g p channel bar)
  all_or_dead = elim (first_dead p.channels formed.voices_rise) [
    | inl all ↦ inl all
    | inr d ↦
        inr (d.channel, d.bar, record { starts = starts; voice = d.voice; chords = d.dead.0; are_chords = d.dead.1; dead = d.dead.2; first = d.first })
  ]
