-- What holds of the sounds of every derivation, said without trees, chords or a grammar: all that notation rests on.
use Rattle.std.specs.Prelude.{◌≡◌, ◌≢◌, ℕ, ◌+◌, ◌^◌, ◌<◌, ◌≤◌, ◌==◌, true, false, if◌then◌else◌, List, [], ◌∷◌, length, All, Option, Some, None, ⊤}
use Rattle.std.proofs.Common.{suc}
use Rattle.rhythm_base.specs.declared.sound.Sound.{Sound}
use Rattle.rhythm_base.specs.declared.sound.SoundKind.TheVariants.{Begin}
use Rattle.rhythm_base.specs.SoundKinds.{is_rest, is_short, is_tie}

-- Sounds stand side by side from unit p of bar n on, in bars of r units, up to the end of the last of so many bars.
abbrev pub StandInBars : ℕ → ℕ → ℕ → ℕ → List Sound → Type 0
StandInBars r bars n p [] = (n ≡ bars) × (p ≡ 0)
StandInBars r bars n p (s ∷ sounds) =
    (n < bars) × (s.bar ≡ n) × (s.place ≡ p) × (1 ≤ s.width) × (p + s.width ≤ r)
    × StandInBars r bars (if p + s.width == r then suc n else n) (if p + s.width == r then 0 else p + s.width) sounds

-- some keys of 0 to 127, as the number whose bits they are
abbrev pub AreKeys : ℕ → Type 0
AreKeys keys = (1 ≤ keys) × (keys < 2 ^ 128)

-- a rest has no keys, and any other sound some; at most three grace chords stand before a chord that begins, and none elsewhere
pub record IsWellSounding (s : Sound) : Type 0 where
  pub silent : is_rest s.kind ≡ true → s.keys ≡ 0
  pub sounding : is_rest s.kind ≡ false → AreKeys s.keys
  pub few_graces : length s.graces ≤ 3
  pub graces : All AreKeys s.graces
  pub graced : s.graces ≢ [] → s.kind ≡ Begin

-- a tie may stand right after a sound of the same keys, which begins a chord and is not short, or is a tie
abbrev pub GoesOn : Option Sound → Sound → Type 0
GoesOn None s = ⊥
GoesOn (Some before) s = (is_rest before.kind ≡ false) × (is_short before.kind ≡ false) × (before.keys ≡ s.keys)

-- each tie goes on from the sound right before it, over barlines too
abbrev pub TiesGoOn : Option Sound → List Sound → Type 0
TiesGoOn before [] = ⊤
TiesGoOn before (s ∷ sounds) = (is_tie s.kind ≡ true → GoesOn before s) × TiesGoOn (Some s) sounds

-- the sounds of a voice over so many bars of `resolution` units each
pub record AreWellSounded (resolution bars : ℕ) (sounds : List Sound) : Type 0 where
  pub places : StandInBars resolution bars 0 0 sounds
  pub each : All IsWellSounding sounds
  pub ties : TiesGoOn None sounds
