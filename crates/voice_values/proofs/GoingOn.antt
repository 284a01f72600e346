-- Whether the first value of a bar goes on: where its first sound is a tie.
use Rattle.std.proofs.Common.{◌≡◌, ℕ, zero, suc, ◌+◌, ◌*◌, ◌≤◌, true, not, ◌&&◌, ◌||◌, List, [], ◌∷◌, ◌++◌, Some, None, map, refl, ap, ◌∙◌, arith}
use Rattle.std.specs.Prelude.{slice_get}
use Rattle.rhythm_base.specs.declared.sound.Sound.{Sound}
use Rattle.rhythm_base.specs.declared.sound.SoundKind.{SoundKind}
use Rattle.rhythm_base.specs.declared.sound.SoundKind.TheVariants.{Begin, Short, Tie, Rest}
use Rattle.rhythm_base.specs.SoundKinds.{is_rest, is_tie}
use Rattle.durations.specs.declared.joined.Timed.{Timed}
use Rattle.durations.specs.declared.joined.Written.{Written}
use Rattle.durations.specs.declared.value.Value.{Value}
use Rattle.durations.specs.Joined.{AreValuesOf, AreWritten, dots, value_places}
use Rattle.durations.specs.Value.{width}
use Rattle.derivation.specs.declared.score.ScoreBar.{ScoreBar}
use Rattle.voice_values.specs.GoesOn.{next_goes_on}
use Rattle.voice_values.specs.Values.{AreBarValues, VoiceValue, timed, value_of_sound, values_of_sounds}

-- the first written value of a bar is one of its first leaf
first_written : (whole : ℕ) (leaf : Timed) (more : List Timed) (ws : List Written) → 1 ≤ leaf.len → AreWritten whole (leaf ∷ more) ws → (w : Written) × (rest : List Written) × (ws ≡ w ∷ rest) × (w.leaf ≡ 0)
first_written whole leaf more ws long (vs, rest, values, is, then) = go vs (dots whole leaf more) values is
  where
    go : (vs : List Value) (d : ℕ) → AreValuesOf whole leaf d vs → ws ≡ value_places whole 0 0 vs ++ rest → (w : Written) × (rest : List Written) × (ws ≡ w ∷ rest) × (w.leaf ≡ 0)
    go [] zero h e = absurd (omega (arith, h, long))
    go [] (suc d) (n, long, h) e = cc
    go (v ∷ vs) d h e = (record { leaf = 0; from = 0; value = v }, value_places whole 0 (0 + width whole v) vs ++ rest, e, refl)

kind_goes : (k : SoundKind) → (not (is_rest k) && (is_tie k || not true)) ≡ is_tie k
kind_goes Begin = refl
kind_goes Short = refl
kind_goes Tie = refl
kind_goes Rest = refl

pub first_goes : (r : ℕ) (bar : ScoreBar) (s : Sound) (sounds : List Sound) (vs later : List VoiceValue) → 1 ≤ s.width * bar.num → AreBarValues r bar (s ∷ sounds) vs → next_goes_on (vs ++ later) ≡ is_tie s.kind
first_goes r bar s sounds vs later long (ws, written, values) = go (first_written (r * bar.den) (timed bar s) (map (timed bar) sounds) ws long written)
  where
    go : (w : Written) × (rest : List Written) × (ws ≡ w ∷ rest) × (w.leaf ≡ 0) → next_goes_on (vs ++ later) ≡ is_tie s.kind
    go (w, rest, is, zero_leaf) =
        let read : slice_get (s ∷ sounds) w.leaf ≡ Some s = ap (slice_get (s ∷ sounds)) zero_leaf in
        ap (λ us. next_goes_on (us ++ later)) (values ∙ ap (values_of_sounds (s ∷ sounds) None) is)
        ∙ ap (λ o. next_goes_on (value_of_sound o true w ++ values_of_sounds (s ∷ sounds) (Some w.leaf) rest ++ later)) read
        ∙ kind_goes s.kind
