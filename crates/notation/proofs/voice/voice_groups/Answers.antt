use Rattle.std.proofs.Common.{◌≡◌, suc, ◌+◌, ◌≤◌, None, drop, get_or, length, map, take, refl, sym, ap, subst, ◌∙◌, arith}
use Rattle.std.specs.Prelude.{◌==◌, All, sum}
use Rattle.std.proofs.lemmas.List.{take_all}
use Rattle.std.proofs.lemmas.List.Sums.{prefix_len-le-length}
use Rattle.rhythm_base.specs.declared.sound.Sound.{Sound}
use Rattle.derivation.specs.declared.score.ScoreBar.{ScoreBar}
use Rattle.derivation.specs.Ahead.{later_sounds, own_sounds}
use Rattle.voice_values.specs.Ahead.{begins_with_tie}
use Rattle.voice_values.specs.Values.{sounds_in_bar}
use Rattle.voice_values.proofs.BarSounds.{stand_fill, stand_later}
use Rattle.notation.specs.Bars.{AreBarGroups, AreVoiceGroups}
use Rattle.notation.proofs.VoiceLemmas.{AreAhead, ahead_later, own_are, tie_ahead, voice_step}
use Rattle.notation.proofs.voice.voice_groups.Goals as goal

pub bars-init : goal.bars-init
bars-init c = record { ahead = record { stand = c.requires.sounds.places; same = λ m le. refl }; groups = c.in_ok-all.ensures.items }

pub split_at-requires : goal.split_at-requires
split_at-requires c = let le = prefix_len-le-length (λ (s : Sound). s.bar == c.bars.number) c.bars.later.now in omega (arith, c.own_count.ensures, le)

pub bar_groups-requires-clause-full : goal.bar_groups-requires-clause-full
bar_groups-requires-clause-full c =
    let n = c.bars.number in
    let later = c.bars.later.now in
    let own : c.split_at.result.0.now ≡ own_sounds n later = c.split_at.ensures.front ∙ ap (λ k. take k later) c.own_count.ensures in
    ap (λ xs. sum (map (λ (s : Sound). s.width) xs)) own ∙ (stand_fill c.args.resolution
    (length c.args.bars.now) n later c.bars-test.true c.bars.invariant.ahead.stand).full

pub bar_groups-requires-clause-some : goal.bar_groups-requires-clause-some
bar_groups-requires-clause-some c =
    let n = c.bars.number in
    let later = c.bars.later.now in
    let own : c.split_at.result.0.now ≡ own_sounds n later = c.split_at.ensures.front ∙ ap (λ k. take k later) c.own_count.ensures in
    subst (All (λ (s : Sound). 1 ≤ s.width)) (sym own) (stand_fill c.args.resolution
    (length c.args.bars.now) n later c.bars-test.true c.bars.invariant.ahead.stand).some

pub bar_groups-requires-clause-bar : goal.bar_groups-requires-clause-bar
bar_groups-requires-clause-bar c = c.requires.bars c.bars.number (record { num = 0; den = 0; tempo = 0; sf = None }) c.bars-test.true

pub bars-preserved : goal.bars-preserved
bars-preserved c =
    let r = c.args.resolution in
    let bars = c.args.bars.now in
    let sounds = c.args.sounds.now in
    let n = c.bars.number in
    let later = c.bars.later.now in
    let h = c.bars.invariant in
    let d : ScoreBar = record { num = 0; den = 0; tempo = 0; sf = None } in
    let own : c.split_at.result.0.now ≡ own_sounds n later = c.split_at.ensures.front ∙ ap (λ k. take k later) c.own_count.ensures in
    let rest : c.split_at.result.1.now ≡ later_sounds n later = c.split_at.ensures.back ∙ ap (λ k. drop k later) c.own_count.ensures in
    let ahead = ahead_later r (length bars) n sounds later h.ahead (stand_later r (length bars) n later c.bars-test.true h.ahead.stand) in
    let up : suc n ≡ n + 1 = omega arith in
    let goes = c.begins_with_tie-goes_on.ensures ∙ ap begins_with_tie rest ∙ tie_ahead r (length bars) (suc n) sounds (later_sounds n later) ahead in
    let here = own ∙ own_are r (length bars) n sounds later h.ahead in
    let groups = c.in_ok-bar_groups.field-0 in
    let one = subst (λ b. AreBarGroups r (get_or bars n d) b (sounds_in_bar n sounds) groups) goes
    (subst (λ xs. AreBarGroups r (get_or bars n d) c.begins_with_tie-goes_on.result xs groups) here c.in_ok-bar_groups.ensures) in
    record {
      ahead = subst (λ k. AreAhead r (length bars) k sounds c.split_at.result.1.now) up (subst (AreAhead r (length bars) (suc n) sounds) (sym rest) ahead);
      groups = voice_step r bars n d sounds c.bars.all.items c.push.new.self.items groups c.bars-test.true c.in_ok-push.ensures.items h.groups one;
    }

pub returns : goal.returns
returns c =
    subst (λ bs. AreVoiceGroups c.args.resolution 0 bs c.args.sounds.now c.bars.all.items)
    (take_all c.bars.number c.args.bars.now c.bars-test.false) c.bars.invariant.groups
