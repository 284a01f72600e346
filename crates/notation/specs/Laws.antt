-- The laws, each as one statement over the definitions.
use Rattle.std.specs.Prelude.{◌≡◌, ℕ, ◌+◌, ◌*◌, ◌/◌, ◌≤◌, ◌⊎◌, Bool, true, List, [], All, map, sum}
use Rattle.rhythm_base.specs.declared.sound.Sound.{Sound}
use Rattle.durations.specs.Value.{parts, value_grid}
use Rattle.derivation.specs.declared.score.ScoreBar.{ScoreBar}
use Rattle.derivation.specs.Score.{IsScoreBar}
use Rattle.voice_values.specs.Values.{AreBarValues, VoiceValue}
use Rattle.notation.specs.Bars.{AreBarGroups, AreVoiceGroups, grouped}
use Rattle.notation.specs.Groups.{group_end, group_start}
use Rattle.notation.specs.Notes.{Group, IsGroup}
use Rattle.notation.specs.Places.{IsOddPart, is_plain, whole_of}
use Rattle.notation.specs.Runs.{StandBetween}
use Rattle.notation.specs.Tokens.{Token, bar_tokens}

-- the groups of a bar, and of a voice, are one list
pub record VoiceGroupsAreOne : Type 0 where
  pub of_bar :
      (resolution : ℕ) (bar : ScoreBar) (after : Bool) (sounds : List Sound) (some other : List Group) → 1 ≤ resolution → IsScoreBar bar
      → AreBarGroups resolution bar after sounds some → AreBarGroups resolution bar after sounds other → some ≡ other
  pub of_voice :
      (resolution : ℕ) (bars : List ScoreBar) (sounds : List Sound) (some other : List (List Group)) → 1 ≤ resolution → All IsScoreBar bars
      → AreVoiceGroups resolution 0 bars sounds some → AreVoiceGroups resolution 0 bars sounds other → some ≡ other

-- each bar has groups, and each voice
pub record VoiceGroupsExist : Type 0 where
  pub of_bar :
      (resolution : ℕ) (bar : ScoreBar) (after : Bool) (sounds : List Sound) → 1 ≤ resolution → IsScoreBar bar
      → (groups : List Group) × AreBarGroups resolution bar after sounds groups
  pub of_voice :
      (resolution : ℕ) (bars : List ScoreBar) (sounds : List Sound) → 1 ≤ resolution → All IsScoreBar bars
      → (all : List (List Group)) × AreVoiceGroups resolution 0 bars sounds all

-- tokens start and end at plain places
abbrev pub ArePlain : ℕ → List Token → Type 0
ArePlain odd tokens = (is_plain odd (group_start tokens) ≡ true) × (is_plain odd (group_end tokens) ≡ true)

-- each group of a bar starts and ends at a plain place, where its sounds fill it
abbrev pub GroupsArePlain : Type 0
GroupsArePlain =
    (resolution odd : ℕ) (bar : ScoreBar) (after : Bool) (sounds : List Sound) (values : List VoiceValue)
    → 1 ≤ resolution → IsOddPart resolution odd → IsScoreBar bar → sum (map (λ s. s.width) sounds) ≡ resolution
    → AreBarValues resolution bar sounds values
    → All (ArePlain odd) (grouped resolution odd bar (bar_tokens resolution odd bar after values))

-- each note of a group lasts as much of its value as the ratio of the group says: of `actual` in the time of `normal` it is normal/actual
abbrev pub NotesHaveTheirRatio : Type 0
NotesHaveTheirRatio =
    (resolution odd : ℕ) (tokens : List Token) (group : Group) → 1 ≤ resolution → IsOddPart resolution odd → IsGroup resolution odd tokens group
    → All (λ n. n.duration * (value_grid n.value * group.ratio.actual) ≡ parts n.value * (whole_of resolution * group.ratio.normal)) group.notes

-- the durations of the notes of a group in all
abbrev pub group_length : Group → ℕ
group_length group = sum (map (λ n. n.duration) group.notes)

-- the notes of a group fill it, where its tokens stand side by side
abbrev pub NotesFillTheirGroup : Type 0
NotesFillTheirGroup =
    (resolution odd from to : ℕ) (tokens : List Token) (group : Group) → 1 ≤ resolution → IsOddPart resolution odd
    → StandBetween resolution from tokens to → IsGroup resolution odd tokens group → from + group_length group ≡ to

-- the groups of a bar fill it, where its sounds do, unless it has rests alone, and so no group
abbrev pub GroupsFillTheBar : Type 0
GroupsFillTheBar =
    (resolution : ℕ) (bar : ScoreBar) (after : Bool) (sounds : List Sound) (groups : List Group)
    → 1 ≤ resolution → IsScoreBar bar → sum (map (λ s. s.width) sounds) ≡ resolution → AreBarGroups resolution bar after sounds groups
    → (groups ≡ []) ⊎ (sum (map group_length groups) ≡ resolution * bar.num * (64 / bar.den))
