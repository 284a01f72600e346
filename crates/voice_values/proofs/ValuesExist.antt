-- The sounds of a bar have values, and only one list of them.
use Rattle.std.proofs.Common.{◌≡◌, ℕ, ◌*◌, ◌≤◌, List, None, map, refl, sym, ap, ◌∙◌}
use Rattle.rhythm_base.specs.declared.sound.Sound.{Sound}
use Rattle.durations.proofs.Bars.{written_one}
use Rattle.durations.proofs.ValuesExist.{written_exist}
use Rattle.derivation.specs.declared.score.ScoreBar.{ScoreBar}
use Rattle.voice_values.specs.Laws.{BarValuesAreOne, BarValuesExist}
use Rattle.voice_values.specs.Values.{AreBarValues, VoiceValue, timed, values_of_sounds}
use Rattle.voice_values.proofs.TimedSounds.{some_whole}

pub bar_values_exist : (r : ℕ) (bar : ScoreBar) (sounds : List Sound) → 1 ≤ r * bar.den → (vs : List VoiceValue) × AreBarValues r bar sounds vs
bar_values_exist r bar sounds some = let ws = written_exist (r * bar.den) (map (timed bar) sounds) some in (values_of_sounds sounds None ws.0, (ws.0, ws.1, refl))

pub bar_values_one : (r : ℕ) (bar : ScoreBar) (sounds : List Sound) (vs us : List VoiceValue) → 1 ≤ r * bar.den → AreBarValues r bar sounds vs → AreBarValues r bar sounds us → vs ≡ us
bar_values_one r bar sounds vs us some (ws, written, values) (others, too, same) =
    values ∙ ap (values_of_sounds sounds None) (written_one (r * bar.den) (map (timed bar) sounds) ws others some written too) ∙ sym same

-- the laws
pub values_of_a_bar_exist : BarValuesExist
values_of_a_bar_exist r bar sounds some h = bar_values_exist r bar sounds (some_whole r bar some h)

pub values_of_a_bar_one : BarValuesAreOne
values_of_a_bar_one r bar sounds vs us some h = bar_values_one r bar sounds vs us (some_whole r bar some h)
