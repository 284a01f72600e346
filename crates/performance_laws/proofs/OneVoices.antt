-- The costs of the voices of a performance are one each, and so is its dead voice.
use Rattle.std.proofs.Common.{◌≡◌, ℕ, zero, suc, ◌+◌, ◌≤◌, inl, inr, List, [], ◌∷◌, length, take, refl, sym, ◌∙◌, subst, arith}
use Rattle.std.proofs.lemmas.Bool.{cases_order}
use Rattle.rhythm_base.specs.declared.chord.Chord.{Chord}
use Rattle.rhythm_base.specs.Cost.{cost}
use Rattle.rhythm_base.specs.DeadBars.{HasRun, IsDead}
use Rattle.rhythm_base.specs.Forest.{Tree}
use Rattle.rhythm_base.specs.Leaves.{FitsVoice, VoiceBar, soundings}
use Rattle.rhythm_base.specs.Least.{IsLeast}
use Rattle.rhythm_base.specs.declared.inner.Inner.{Inner}
use Rattle.rhythm_base.specs.Performance.{IsWellFormed, Performance}
use Rattle.rhythm_base.specs.Grammar.{Grammar}
use Rattle.rhythm_base.specs.Voices.{AreChordsOf, HasDerivation, IsCostOf, IsDeadVoice, IsLeastCost, IsLeastOf, IsSumOfCosts, voice_bars, notes_of_voice}
use Rattle.tree_laws.proofs.Locality.{counts-run, locality, counts-cells}
use Rattle.performance_laws.proofs.PerformedVoices.{performed_voice}
use Rattle.performance_laws.proofs.OneChords.{one_chords}
use Rattle.tree_laws.proofs.OneDerivations.{one_least}
use Rattle.tree_laws.specs.Voices.{CellsFit, IsVoice}
use Rattle.std.specs.Prelude.{Contains}

-- ---- the least derivation of a voice and its cost

module _ (g : Grammar) (p : Performance) where
  chords_one : (channel : ℕ) (cs ds : List Chord) → AreChordsOf g p channel cs → AreChordsOf g p channel ds → cs ≡ ds
  chords_one channel cs ds h k = one_chords p.tempos p.division g.window (notes_of_voice p channel) cs ds h k

  derivations_one : (channel : ℕ) (cs ds : List Chord) (ts us : List Tree) → AreChordsOf g p channel cs → AreChordsOf g p channel ds
      → IsLeast g (voice_bars g p channel) (soundings cs) ts → IsLeast g (voice_bars g p channel) (soundings ds) us → (cs ≡ ds) × (ts ≡ us)
  derivations_one channel cs ds ts us h k l m =
      let same = chords_one channel cs ds h k in
      (same, one_least g (voice_bars g p channel) (soundings ds) ts us (subst (λ x. IsLeast g (voice_bars g p channel) (soundings x) ts) same l) m)

  pub one_derivation_of : (channel : ℕ) (ts us : List Tree) → IsLeastOf g p channel ts → IsLeastOf g p channel us → ts ≡ us
  one_derivation_of channel ts us h k = (derivations_one channel h.chords k.chords ts us h.are_chords k.are_chords h.least k.least).1

  pub one_cost : (channel a b : ℕ) → IsLeastCost g p channel a → IsLeastCost g p channel b → a ≡ b
  one_cost channel a b h k =
      let same = derivations_one channel h.chords k.chords h.trees k.trees h.are_chords k.are_chords h.least k.least in
      h.is ∙ (λ i. cost g (voice_bars g p channel) (soundings (same.0 i)) (same.1 i)) ∙ sym k.is

  one_sum : (channels : List ℕ) (a b : ℕ) → IsSumOfCosts g p channels a → IsSumOfCosts g p channels b → a ≡ b
  one_sum [] a b h k = h ∙ sym k
  one_sum (channel ∷ channels) a b h k =
      h.4 ∙ (λ i. one_cost channel h.0 k.0 h.2 k.2 i + one_sum channels h.1 k.1 h.3 k.3 i) ∙ sym k.4

  pub one_cost_of : (a b : ℕ) → IsCostOf g p a → IsCostOf g p b → a ≡ b
  one_cost_of a b h k = one_sum p.channels a b h k

-- ---- the dead voice

-- the first trees fit the first cells, with a count after them, that of all where there are no more
cells_take : (g : Grammar) (cs : List Inner) (n : ℕ) (bars : List VoiceBar) (ts : List Tree) (f to : ℕ) → f ≤ 4 → CellsFit g cs bars ts f to
    → (m : ℕ) × CellsFit g cs (take n bars) (take n ts) f m × (m ≤ 4) × (length bars ≤ n → m ≡ to)
cells_take g cs zero [] [] f to few h = (f, refl, few, λ le. h)
cells_take g cs zero [] (t ∷ ts) f to few h = absurd h
cells_take g cs zero (bar ∷ bars) [] f to few h = absurd h
cells_take g cs zero (bar ∷ bars) (t ∷ ts) f to few h = (f, refl, few, λ le. absurd (omega (arith, le)))
cells_take g cs (suc n) [] [] f to few h = (f, refl, few, λ le. h)
cells_take g cs (suc n) [] (t ∷ ts) f to few h = absurd h
cells_take g cs (suc n) (bar ∷ bars) [] f to few h = absurd h
cells_take g cs (suc n) (bar ∷ bars) (t ∷ ts) f to few h =
    let rest = cells_take g cs n bars ts h.0 to h.1.few_to h.2 in
    (rest.0, (h.0, h.1, rest.1), rest.2, λ le. rest.3 (omega (arith, le)))

-- a voice with a derivation has a run to each bar
run_of_fit : (g : Grammar) (bars : List VoiceBar) (cs : List Inner) (ts : List Tree) (i : ℕ) → IsVoice g bars cs → FitsVoice g bars cs ts → HasRun g bars cs i
run_of_fit g bars cs ts i voice fits =
    let all = locality g bars cs ts voice fits in
    let some = cells_take g cs (i + 1) bars ts 0 0 (omega arith) (counts-cells g cs bars ts 0 0 all.0 all.1 all.2) in
    counts-run g bars cs i voice record {
      trees = take (i + 1) ts;
      to = some.0;
      fits = some.1;
      few = some.2;
      none_last = λ last. some.3 (omega (arith, last));
    }

one_dead_bar : (g : Grammar) (bars : List VoiceBar) (cs : List Inner) (i j : ℕ) → IsDead g bars cs i → IsDead g bars cs j → i ≡ j
one_dead_bar g bars cs i j h k = elim (cases_order i j) [
  | inl same ↦ same
  | inr other ↦ elim other [ inl less ↦ absurd (h.dead (k.first i less)) | inr more ↦ absurd (k.dead (h.first j more)) ]
]

module _ (g : Grammar) (p : Performance) (some : 1 ≤ g.resolution) (formed : IsWellFormed p) where
  -- a dead voice has no derivation
  pub dead_has_none : (channel bar : ℕ) → IsDeadVoice g p channel bar → HasDerivation g p channel → ⊥
  dead_has_none channel bar h d =
      let same = chords_one g p channel d.0 h.chords d.3 h.are_chords in
      let voice = performed_voice g p channel h.chords formed h.are_chords some in
      h.dead.dead (run_of_fit g (voice_bars g p channel) (soundings h.chords) d.1 bar voice (subst (λ cs. FitsVoice g (voice_bars g p channel) (soundings cs) d.1) same d.4))

  one_dead_channel : (channel bar channel' bar' : ℕ) → IsDeadVoice g p channel bar → IsDeadVoice g p channel' bar' → channel ≡ channel'
  one_dead_channel channel bar channel' bar' h k = elim (cases_order channel channel') [
    | inl same ↦ same
    | inr other ↦ elim other [
      | inl less ↦ absurd (dead_has_none channel bar h (k.first channel h.voice less))
      | inr more ↦ absurd (dead_has_none channel' bar' k (h.first channel' k.voice more))
    ]
  ]

  same_channel_bar : (channel bar bar' : ℕ) → IsDeadVoice g p channel bar → IsDeadVoice g p channel bar' → bar ≡ bar'
  same_channel_bar channel bar bar' h k =
      let same = chords_one g p channel h.chords k.chords h.are_chords k.are_chords in
      one_dead_bar g (voice_bars g p channel) (soundings k.chords) bar bar' (subst (λ cs. IsDead g (voice_bars g p channel) (soundings cs) bar) same h.dead) k.dead

  pub one_dead_voice : (channel bar channel' bar' : ℕ) → IsDeadVoice g p channel bar → IsDeadVoice g p channel' bar' → (channel ≡ channel') × (bar ≡ bar')
  one_dead_voice channel bar channel' bar' h k =
      let same = one_dead_channel channel bar channel' bar' h k in
      (same, same_channel_bar channel' bar bar' (subst (λ c. IsDeadVoice g p c bar) same h) k)

-- each voice of a performance that has a cost has a derivation
pub cost_has : (g : Grammar) (p : Performance) (channels : List ℕ) (sum channel : ℕ) → IsSumOfCosts g p channels sum → Contains channels channel
    → HasDerivation g p channel
cost_has g p [] sum channel is (k, lt, at) = absurd (omega (arith, lt))
cost_has g p (c ∷ channels) sum channel (first, others, least, more, total) (zero, lt, at) =
    subst (HasDerivation g p) at (least.chords, least.trees, least.starts, least.are_chords, least.least.fits)
cost_has g p (c ∷ channels) sum channel (first, others, least, more, total) (suc k, lt, at) =
    cost_has g p channels others channel more (k, omega (arith, lt), at)
