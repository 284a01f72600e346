-- The sounds that a voice holds: most of them only by what they differ in from the sound before, and the others whole, in a list of their own.
use Rattle.std.specs.Prelude.{◌≡◌, ℕ, if◌then◌else◌, List, [], ◌∷◌, length}
use Rattle.std.proofs.Common.{suc}
use Rattle.rhythm_base.specs.declared.sound.Sound.{Sound}
use Rattle.rhythm_base.specs.declared.sound.SoundKind.{SoundKind}
use Rattle.rhythm_base.specs.SoundKinds.{is_rest}
use Rattle.derivation.specs.declared.held.HeldSound.{HeldSound}
use Rattle.derivation.specs.declared.held.HeldSound.TheVariants.{Alike, Whole}
use Rattle.derivation.specs.declared.held.Latest.{Latest}

-- where there is no sound yet
abbrev pub first_latest : Latest
first_latest = record { bar = 0; keys = 0 }

abbrev pub latest_of : Sound → Latest
latest_of s = record { bar = s.bar; keys = s.keys }

-- the sound in the same bar, with the same keys or as a rest with none, and without grace chords
abbrev pub alike : Latest → ℕ → ℕ → SoundKind → Sound
alike l place width kind = record {
  bar = l.bar;
  place = place;
  width = width;
  kind = kind;
  keys = if is_rest kind then 0 else l.keys;
  graces = [];
}

-- a sound is alike: it is held by its place, its width and its kind
abbrev pub IsAlike : Latest → Sound → Type 0
IsAlike l s = s ≡ alike l s.place s.width s.kind

-- the latest of these sounds, which come after others
abbrev pub latest_after : Latest → List Sound → Latest
latest_after l [] = l
latest_after l (s ∷ sounds) = latest_after (latest_of s) sounds

-- the sounds that are held so, after the latest one
abbrev pub sounds_held : Latest → List HeldSound → List Sound → List Sound
sounds_held l [] wholes = []
sounds_held l (Alike place width kind ∷ held) wholes =
    alike l place width kind ∷ sounds_held (latest_of (alike l place width kind)) held wholes
sounds_held l (Whole ∷ held) [] = []
sounds_held l (Whole ∷ held) (s ∷ wholes) = s ∷ sounds_held (latest_of s) held wholes

abbrev pub whole_count : List HeldSound → ℕ
whole_count [] = 0
whole_count (Alike place width kind ∷ held) = whole_count held
whole_count (Whole ∷ held) = suc (whole_count held)

-- each whole one is held once, and `latest` is of the last sound
pub record AreHeld (held : List HeldSound) (whole : List Sound) (last : Latest) : Type 0 where
  pub wholes : whole_count held ≡ length whole
  pub latest : last ≡ latest_after first_latest (sounds_held first_latest held whole)
