-- The tokens of a bar, as they are grouped.
use Rattle.std.proofs.Common.{◌≡◌, ℕ, ◌*◌, ◌≤◌, Bool, true, false, cond, List, [], ◌∷◌, refl, sym, ap, ◌∙◌, subst}
use Rattle.std.specs.Prelude.{◌&&◌, All, map, sum}
use Rattle.std.specs.List.{list_all}
use Rattle.rhythm_base.specs.declared.sound.Sound.{Sound}
use Rattle.rhythm_base.specs.Lists.{Each}
use Rattle.derivation.specs.declared.score.ScoreBar.{ScoreBar}
use Rattle.derivation.specs.Score.{IsScoreBar}
use Rattle.voice_values.specs.Values.{AreBarValues, VoiceValue}
use Rattle.voice_values.proofs.TimedSounds.{width_of}
use Rattle.notation.specs.Bars.{are_silent, grouped}
use Rattle.notation.specs.Groups.{parted}
use Rattle.notation.specs.Notes.{Group, IsGroup}
use Rattle.notation.specs.Rests.{joined_rests}
use Rattle.notation.specs.Runs.{AreRun, IsInBar}
use Rattle.notation.specs.Tokens.{Token, bar_tokens, is_silent}
use Rattle.notation.proofs.BarRuns.{bar_end, bar_values_stand, bar_within, scale, stand_in_bar}
use Rattle.notation.proofs.CutRuns.{tokens_stand}
use Rattle.notation.proofs.JoinedRuns.{rests_stand}

silent_is : (ts : List Token) → list_all is_silent ts ≡ are_silent ts
silent_is [] = refl
silent_is (t ∷ ts) = ap (λ b. is_silent t && b) (silent_is ts)

pub values_in_bar : (r : ℕ) (bar : ScoreBar) (sounds : List Sound) (vs : List VoiceValue) → 1 ≤ r → IsScoreBar bar → sum (map width_of sounds) ≡ r
    → AreBarValues r bar sounds vs → All (IsInBar r bar) vs
values_in_bar r bar sounds vs some h full values = stand_in_bar r bar 0 (bar_end bar sounds) vs some h (bar_within r bar sounds h full)
    (bar_values_stand r bar sounds vs some h values)

pub tokens_run : (r odd : ℕ) (bar : ScoreBar) (after : Bool) (sounds : List Sound) (vs : List VoiceValue) → 1 ≤ r → IsScoreBar bar → sum
    (map width_of sounds) ≡ r → AreBarValues r bar sounds vs
    → AreRun r (bar_tokens r odd bar after vs)
tokens_run r odd bar after sounds vs some h full values = record {
  from = 0 * scale bar;
  to = bar_end bar sounds * scale bar;
  stand = tokens_stand r odd bar after 0 (bar_end bar sounds) vs some h (bar_values_stand r bar sounds vs some h values);
  within = bar_within r bar sounds h full;
}

pub rests_run : (r : ℕ) (bar : ScoreBar) (ts : List Token) → 1 ≤ r → IsScoreBar bar → AreRun r ts → AreRun r (joined_rests r bar ts)
rests_run r bar ts some h run = record { from = run.from; to = run.to; stand = rests_stand r bar run.from run.to ts some h run.stand; within = run.within }

-- ---- the groups of a bar

pub silent_groups : (r odd : ℕ) (bar : ScoreBar) (ts : List Token) (groups : List Group) → list_all is_silent ts ≡ true → groups ≡ [] → Each
    (IsGroup r odd) (grouped r odd bar ts) groups
silent_groups r odd bar ts groups silent none =
    let test : are_silent ts ≡ true = sym (silent_is ts) ∙ silent in
    subst (λ b. Each (IsGroup r odd) (cond b [] (parted r odd (joined_rests r bar ts))) groups) (sym test) none

pub sounding_groups : (r odd : ℕ) (bar : ScoreBar) (ts joined : List Token) (groups : List Group) → list_all is_silent ts ≡ false
    → joined ≡ joined_rests r bar ts → Each (IsGroup r odd) (parted r odd joined) groups
    → Each (IsGroup r odd) (grouped r odd bar ts) groups
sounding_groups r odd bar ts joined groups sounds is h =
    let test : are_silent ts ≡ false = sym (silent_is ts) ∙ sounds in
    subst (λ b. Each (IsGroup r odd) (cond b [] (parted r odd (joined_rests r bar ts))) groups) (sym test)
    (subst (λ us. Each (IsGroup r odd) (parted r odd us) groups) is h)
