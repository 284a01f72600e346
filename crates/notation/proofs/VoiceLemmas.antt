-- The groups of a voice, one bar after another.
use Rattle.std.proofs.Common.{◌≡◌, ℕ, suc, ◌+◌, ◌<◌, ◌≤◌, List, [], ◌∷◌, ◌++◌, length, get_or, take, refl, sym, ap, ◌∙◌, subst, arith}
use Rattle.std.proofs.lemmas.List.{length-take-le, take_more}
use Rattle.rhythm_base.specs.declared.sound.Sound.{Sound}
use Rattle.derivation.specs.WellSounded.{StandInBars}
use Rattle.derivation.specs.declared.score.ScoreBar.{ScoreBar}
use Rattle.derivation.specs.Ahead.{later_sounds, own_sounds}
use Rattle.voice_values.specs.Ahead.{begins_with_tie}
use Rattle.voice_values.specs.Values.{sounds_in_bar}
use Rattle.voice_values.proofs.BarSounds.{first_in_bar, in_bar_own, in_later}
use Rattle.notation.specs.Bars.{AreBarGroups, AreVoiceGroups}
use Rattle.notation.specs.Notes.{Group}

-- the sounds of a voice from bar n on
pub record AreAhead (r bars n : ℕ) (sounds later : List Sound) : Type 0 where
  pub stand : StandInBars r bars n 0 later
  pub same : (m : ℕ) → n ≤ m → sounds_in_bar m later ≡ sounds_in_bar m sounds

pub own_are : (r bars n : ℕ) (sounds later : List Sound) → AreAhead r bars n sounds later → own_sounds n later ≡ sounds_in_bar n sounds
own_are r bars n sounds later h = sym (in_bar_own r bars n 0 later h.stand) ∙ h.same n (omega arith)

pub ahead_later : (r bars n : ℕ) (sounds later : List Sound) → AreAhead r bars n sounds later → StandInBars r bars (suc n) 0 (later_sounds n later)
    → AreAhead r bars (suc n) sounds (later_sounds n later)
ahead_later r bars n sounds later h stand = record { stand = stand; same = λ m le. in_later n m later le ∙ h.same m (omega (arith, le)) }

-- a tie goes on over the barline where the first sound after it is one
tie_in_bar : (r bars n : ℕ) (later : List Sound) → StandInBars r bars n 0 later → begins_with_tie later ≡ begins_with_tie (sounds_in_bar n later)
tie_in_bar r bars n [] h = refl
tie_in_bar r bars n (s ∷ sounds) h = ap begins_with_tie (sym (first_in_bar r bars n s sounds h))

pub tie_ahead : (r bars n : ℕ) (sounds later : List Sound) → AreAhead r bars n sounds later → begins_with_tie later ≡ begins_with_tie (sounds_in_bar n sounds)
tie_ahead r bars n sounds later h = tie_in_bar r bars n later h.stand ∙ ap begins_with_tie (h.same n (omega arith))

-- one more bar
pub voice_push : (r n : ℕ) (bars : List ScoreBar) (bar : ScoreBar) (sounds : List Sound) (all : List (List Group)) (groups : List Group) (m : ℕ)
    → m ≡ n + length bars → AreVoiceGroups r n bars sounds all
    → AreBarGroups r bar (begins_with_tie (sounds_in_bar (suc m) sounds)) (sounds_in_bar m sounds) groups → AreVoiceGroups r n (bars ++ bar ∷ []) sounds
    (all ++ groups ∷ [])
voice_push r n [] bar sounds all groups m e h k =
    let same : m ≡ n = omega (arith, e) in
    let one = subst (λ i. AreBarGroups r bar (begins_with_tie (sounds_in_bar (suc i) sounds)) (sounds_in_bar i sounds) groups) same k in
    subst (λ gs. AreVoiceGroups r n (bar ∷ []) sounds (gs ++ groups ∷ [])) (sym h) (one, refl)
voice_push r n (b ∷ bars) bar sounds [] groups m e h k = absurd h
voice_push r n (b ∷ bars) bar sounds (own ∷ all) groups m e h k = (h.0, voice_push r (suc n) bars bar sounds all groups m (omega (arith, e)) h.1 k)

pub voice_step : (r : ℕ) (bars : List ScoreBar) (n : ℕ) (d : ScoreBar) (sounds : List Sound) (all new : List (List Group)) (groups : List Group)
    → n < length bars → new ≡ all ++ groups ∷ [] → AreVoiceGroups r 0 (take n bars) sounds all
    → AreBarGroups r (get_or bars n d) (begins_with_tie (sounds_in_bar (suc n) sounds)) (sounds_in_bar n sounds) groups → AreVoiceGroups r 0
    (take (n + 1) bars) sounds new
voice_step r bars n d sounds all new groups lt is h k =
    let count : n ≡ 0 + length (take n bars) = let e = length-take-le n bars (omega (arith, lt)) in omega (arith, e) in
    let one = voice_push r 0 (take n bars) (get_or bars n d) sounds all groups n count h k in
    subst (λ bs. AreVoiceGroups r 0 bs sounds new) (sym (take_more bars n d lt))
    (subst (AreVoiceGroups r 0 (take n bars ++ get_or bars n d ∷ []) sounds) (sym is) one)
