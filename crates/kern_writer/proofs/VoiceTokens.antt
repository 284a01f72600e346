-- The tokens of a voice, bar after bar.
use Rattle.std.proofs.Common.{◌≡◌, ℕ, suc, ◌+◌, ◌≤◌, ◌<◌, List, [], ◌∷◌, length, refl, sym, ap, ◌∙◌, subst, arith}
use Rattle.std.specs.Prelude.{All}
use Rattle.std.specs.List.{flat_map}
use Rattle.std.proofs.lemmas.List.Elements.{All-head, All-tail}
use Rattle.rhythm_base.specs.declared.sound.Sound.{Sound}
use Rattle.derivation.specs.WellSounded.{StandInBars}
use Rattle.durations.proofs.Wide.{some_product}
use Rattle.derivation.specs.declared.score.ScoreBar.{ScoreBar}
use Rattle.kern_writer.specs.Ahead.{AreTokensAhead}
use Rattle.derivation.specs.Ahead.{later_sounds, own_sounds}
use Rattle.voice_values.specs.Ahead.{begins_with_tie}
use Rattle.kern_writer.specs.Columns.{column_tokens}
use Rattle.derivation.specs.Score.{IsScoreBar}
use Rattle.kern_writer.specs.Tokens.{Token, voice_tokens}
use Rattle.voice_values.specs.GoesOn.{next_goes_on}
use Rattle.score_words.specs.Changes.{has_flats}
use Rattle.voice_values.specs.Values.{AreBarValues, AreVoiceValues, VoiceValue, sounds_in_bar}
use Rattle.voice_values.proofs.BarSounds.{first_in_bar, in_bar_own, in_later, stand_later}
use Rattle.kern_writer.proofs.BarTokens.{bar_tokens_are, tokens_exist}
use Rattle.voice_values.proofs.ValuesExist.{bar_values_one}
use Rattle.voice_values.proofs.GoingOn.{first_goes}
use Rattle.voice_values.proofs.TimedSounds.{some_whole}

-- the tokens of the bars from number n on, a list for each
abbrev pub AreVoiceTokens : ℕ → ℕ → List ScoreBar → List Sound → List (List Token) → Type 0
AreVoiceTokens r n [] sounds tss = tss ≡ []
AreVoiceTokens r n (bar ∷ bars) sounds [] = ⊥
AreVoiceTokens r n (bar ∷ bars) sounds (ts ∷ tss) = AreTokensAhead r bar n sounds ts × AreVoiceTokens r (suc n) bars (later_sounds n sounds) tss

pub voice_tokens_exist : (r n : ℕ) (bars : List ScoreBar) (sounds : List Sound) → 1 ≤ r → All IsScoreBar bars → (tss : List (List Token)) × AreVoiceTokens r n bars sounds tss
voice_tokens_exist r n [] sounds some all = ([], refl)
voice_tokens_exist r n (bar ∷ bars) sounds some all =
    let one = tokens_exist r bar (begins_with_tie (later_sounds n sounds)) (own_sounds n sounds) (some_whole r bar some (All-head IsScoreBar bar bars all)) in
    let rest = voice_tokens_exist r (suc n) bars (later_sounds n sounds) some (All-tail IsScoreBar bar bars all) in
    (one.0 ∷ rest.0, (one.1, rest.1))

-- ---- these are the tokens of the values

values_same :
    (r n : ℕ) (bars : List ScoreBar) (xs ys : List Sound) (vss : List (List VoiceValue))
    → ((m : ℕ) → n ≤ m → sounds_in_bar m xs ≡ sounds_in_bar m ys) → AreVoiceValues r n bars xs vss → AreVoiceValues r n bars ys vss
values_same r n [] xs ys vss same h = h
values_same r n (bar ∷ bars) xs ys [] same h = h
values_same r n (bar ∷ bars) xs ys (vs ∷ vss) same h =
    (subst (λ sounds. AreBarValues r bar sounds vs) (same n (omega arith)) h.0, values_same r (suc n) bars xs ys vss (λ m le. same m (omega (arith, le))) h.1)

-- the first value goes on where the first sound is a tie
first_values : (r total n : ℕ) (bars : List ScoreBar) (sounds : List Sound) (vss : List (List VoiceValue)) → n + length bars ≡ total → All IsScoreBar bars
    → StandInBars r total n 0 sounds → AreVoiceValues r n bars sounds vss → next_goes_on (flat_map (λ vs. vs) vss) ≡ begins_with_tie sounds
first_values r total n [] [] vss end all h values = ap (λ us. next_goes_on (flat_map (λ vs. vs) us)) values
first_values r total n [] (s ∷ sounds) vss end all h values = absurd (omega (arith, end, h.0))
first_values r total n (bar ∷ bars) sounds [] end all h values = absurd values
first_values r total n (bar ∷ bars) [] (vs ∷ vss) end all h values = absurd (omega (arith, end, h.0))
first_values r total n (bar ∷ bars) (s ∷ sounds) (vs ∷ vss) end all h values =
    let long = some_product s.width bar.num h.3 (All-head IsScoreBar bar bars all).signature.some in
    let own = subst (λ xs. AreBarValues r bar xs vs) (first_in_bar r total n s sounds h) values.0 in
    first_goes r bar s (sounds_in_bar n sounds) vs (flat_map (λ vs. vs) vss) long own

pub voice_values_are : (r total n : ℕ) (bars : List ScoreBar) (sounds : List Sound) (tss : List (List Token)) → n + length bars ≡ total → All IsScoreBar bars
    → StandInBars r total n 0 sounds → AreVoiceTokens r n bars sounds tss → (vss : List (List VoiceValue)) × AreVoiceValues r n bars sounds vss × (tss ≡ voice_tokens bars vss)
voice_values_are r total n [] sounds tss end all h tokens = ([], refl, tokens)
voice_values_are r total n (bar ∷ bars) sounds [] end all h tokens = absurd tokens
voice_values_are r total n (bar ∷ bars) sounds (ts ∷ tss) end all h ((vs, values, are), tokens) =
    let lt : n < total = omega (arith, end) in
    let next : suc n + length bars ≡ total = omega (arith, end) in
    let later = later_sounds n sounds in
    let bars_all = All-tail IsScoreBar bar bars all in
    let stand = stand_later r total n sounds lt h in
    let rest = voice_values_are r total (suc n) bars later tss next bars_all stand tokens in
    let goes = first_values r total (suc n) bars later rest.0 next bars_all stand rest.1 in
    let own = subst (λ xs. AreBarValues r bar xs vs) (sym (in_bar_own r total n 0 sounds h)) values in
    let others = values_same r (suc n) bars later sounds rest.0 (λ m le. in_later n m sounds le) rest.1 in
    let flats = has_flats bar.sf in
    let front = are ∙ ap (λ b. column_tokens flats b vs) (sym goes) ∙ sym (bar_tokens_are flats vs (flat_map (λ vs. vs) rest.0)) in
    (vs ∷ rest.0, (own, others), λ i. front i ∷ rest.2 i)

-- ---- the values of a voice are one list

pub voice_values_one : (r n : ℕ) (bars : List ScoreBar) (sounds : List Sound) (vss uss : List (List VoiceValue)) → 1 ≤ r → All IsScoreBar bars → AreVoiceValues r n bars sounds vss → AreVoiceValues r n bars sounds uss → vss ≡ uss
voice_values_one r n [] sounds vss uss some all h k = h ∙ sym k
voice_values_one r n (bar ∷ bars) sounds [] uss some all h k = absurd h
voice_values_one r n (bar ∷ bars) sounds (vs ∷ vss) [] some all h k = absurd k
voice_values_one r n (bar ∷ bars) sounds (vs ∷ vss) (us ∷ uss) some all h k =
    let whole = some_whole r bar some (All-head IsScoreBar bar bars all) in
    λ i. bar_values_one r bar (sounds_in_bar n sounds) vs us whole h.0 k.0 i ∷ voice_values_one r (suc n) bars sounds vss uss some (All-tail IsScoreBar bar bars all) h.1 k.1 i
