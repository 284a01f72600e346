-- The groups of a voice are those of the values of its **kern column.
use Rattle.std.proofs.Common.{◌≡◌, ℕ, suc, ◌+◌, ◌*◌, ◌<◌, ◌≤◌, List, [], ◌∷◌, ◌++◌, length, map, refl, sym, ap, ◌∙◌, subst, arith}
use Rattle.std.specs.Prelude.{All, sum}
use Rattle.std.specs.List.{flat_map}
use Rattle.std.proofs.lemmas.List.Elements.{All-head, All-tail, All-weaker}
use Rattle.rhythm_base.specs.declared.sound.Sound.{Sound}
use Rattle.rhythm_base.specs.Lists.{Each}
use Rattle.durations.proofs.Wide.{some_product}
use Rattle.derivation.specs.declared.score.ScoreBar.{ScoreBar}
use Rattle.derivation.specs.Score.{IsScoreBar}
use Rattle.derivation.specs.Ahead.{later_sounds, own_sounds}
use Rattle.voice_values.specs.Ahead.{begins_with_tie}
use Rattle.voice_values.specs.GoesOn.{next_goes_on}
use Rattle.voice_values.specs.Values.{AreBarValues, AreVoiceValues, VoiceValue, sounds_in_bar}
use Rattle.voice_values.proofs.BarSounds.{stand_fill, stand_later}
use Rattle.voice_values.proofs.ValuesExist.{bar_values_one}
use Rattle.voice_values.proofs.TimedSounds.{some_whole}
use Rattle.notation.specs.Bars.{AreVoiceGroups, grouped}
use Rattle.notation.specs.Notes.{Group, IsGroup}
use Rattle.notation.specs.Tokens.{bar_tokens}
use Rattle.notation.proofs.VoiceLemmas.{AreAhead, ahead_later, own_are}
use Rattle.voice_values.proofs.BarSounded.{AreSounded, sounded}
use Rattle.notation_laws.specs.Columns.{AreGroupsOfBar, AreGroupsOfValues}
use Rattle.notation_laws.specs.Laws.{GroupsAreOfTheColumn}
use Rattle.notation_laws.proofs.SoundSegments.{tie_first}

-- the values of a bar begin with one of its first sound
begin_value : (r whole num place : ℕ) (sounds : List Sound) (vs rest : List VoiceValue) → 1 ≤ sum (map (λ s. s.width) sounds)
    → AreSounded r whole num 0 place sounds vs → next_goes_on (vs ++ rest) ≡ begins_with_tie sounds
begin_value r whole num place [] vs rest some h = absurd (omega (arith, some))
begin_value r whole num place (s ∷ sounds) vs rest some (d, v, values, others, group, ties, same, next) =
    ap (λ us. next_goes_on (us ++ rest)) same ∙ tie_first s.kind

module _ (r total : ℕ) (some : 1 ≤ r) where
  -- the values from a bar on go on where the first sound is a tie
  values_begin : (n : ℕ) (bars : List ScoreBar) (sounds later : List Sound) (values : List (List VoiceValue)) → n + length bars ≡ total
      → All IsScoreBar bars
      → AreAhead r total n sounds later → AreVoiceValues r n bars sounds values
      → next_goes_on (flat_map (λ vs. vs) values) ≡ begins_with_tie (sounds_in_bar n sounds)
  values_begin n [] sounds [] values count right ahead h = ap (λ vss. next_goes_on (flat_map (λ vs. vs) vss)) h
      ∙ ap begins_with_tie (ahead.same n (omega arith))
  values_begin n [] sounds (s ∷ later) values count right ahead h = let few = ahead.stand.0 in absurd (omega (arith, few, count))
  values_begin n (bar ∷ bars) sounds later [] count right ahead h = absurd h
  values_begin n (bar ∷ bars) sounds later (vs ∷ values) count right ahead h =
      let few : n < total = omega (arith, count) in
      let well = All-head IsScoreBar bar bars right in
      let own = own_sounds n later in
      let same = own_are r total n sounds later ahead in
      let fill = stand_fill r total n later few ahead.stand in
      let full : 1 ≤ sum (map (λ s. s.width) own) = subst (λ k. 1 ≤ k) (sym fill.full) some in
      let long = All-weaker (λ s. 1 ≤ s.width) (λ s. 1 ≤ s.width * bar.num)
      (λ s wide. some_product s.width bar.num wide well.signature.some) own fill.some in
      let mine : AreBarValues r bar own vs = subst (λ xs. AreBarValues r bar xs vs) (sym same) h.0 in
      begin_value r (r * bar.den) bar.num 0 own vs (flat_map (λ vs. vs) values) full
      (sounded r bar well (some_whole r bar some well) own vs long mine)
      ∙ ap begins_with_tie same

  columns : (n : ℕ) (bars : List ScoreBar) (sounds later : List Sound) (values : List (List VoiceValue)) (all : List (List Group))
      → n + length bars ≡ total
      → All IsScoreBar bars → AreAhead r total n sounds later → AreVoiceValues r n bars sounds values → AreVoiceGroups r n bars sounds all
      → AreGroupsOfValues r bars values all
  columns n [] sounds later values all count right ahead h groups = groups
  columns n (bar ∷ bars) sounds later [] all count right ahead h groups = absurd h
  columns n (bar ∷ bars) sounds later (vs ∷ values) [] count right ahead h groups = absurd groups
  columns n (bar ∷ bars) sounds later (vs ∷ values) (own ∷ all) count right ahead (mine, h) ((others, odd, written, part, each), groups) =
      let few : n < total = omega (arith, count) in
      let well = All-head IsScoreBar bar bars right in
      let rest = All-tail IsScoreBar bar bars right in
      let next = ahead_later r total n sounds later ahead (stand_later r total n later few ahead.stand) in
      let begin = values_begin (suc n) bars sounds (later_sounds n later) values (omega (arith, count)) rest next h in
      let one : others ≡ vs = bar_values_one r bar (sounds_in_bar n sounds) others vs (some_whole r bar some well) written mine in
      let here : AreGroupsOfBar r bar vs (flat_map (λ vs. vs) values) own = (
        odd,
        part,
        subst (λ us. Each (IsGroup r odd) (grouped r odd bar (bar_tokens r odd bar (next_goes_on (flat_map (λ vs. vs) values)) us)) own) one
            (subst (λ b. Each (IsGroup r odd) (grouped r odd bar (bar_tokens r odd bar b others)) own) (sym begin) each),
      ) in
      (here, columns (suc n) bars sounds (later_sounds n later) values all (omega (arith, count)) rest next h groups)

pub groups_of_columns : GroupsAreOfTheColumn
groups_of_columns r bars sounds values all voice written groups =
    columns r (length bars) voice.some_unit 0 bars sounds sounds values all (omega arith) voice.each_bar
    (record { stand = voice.well.places; same = λ m le. refl }) written groups
