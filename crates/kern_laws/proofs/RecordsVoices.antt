-- The tokens of a voice say what the voice says.
use Rattle.rhythm_base.specs.declared.limits.TheConstants.{MOST_UNITS}
use Rattle.std.proofs.Common.{◌≡◌, ℕ, zero, suc, ◌*◌, ◌^◌, ◌≤◌, ◌==◌, Bool, true, false, List, [], ◌∷◌, ◌++◌, get_or, map, refl, sym, ap, subst, arith}
use Rattle.std.specs.Prelude.{All, Option, Some, None, if◌then◌else◌, slice_get}
use Rattle.std.specs.Int.{◌∣◌}
use Rattle.std.specs.List.{flat_map}
use Rattle.std.proofs.Math.Nat.{eq-zero_of_zero-dvd, mul-le-mul_left}
use Rattle.std.proofs.lemmas.Nat.{pow_pos}
use Rattle.std.proofs.lemmas.Nat.Gcd.{le_of_dvd}
use Rattle.std.proofs.lemmas.List.Elements.{All-append, All-cons, All-filter, All-head, All-nil, All-tail}
use Rattle.rhythm_base.specs.declared.sound.Sound.{Sound}
use Rattle.rhythm_base.specs.Lists.{Each}
use Rattle.derivation.specs.WellSounded.{AreKeys, AreWellSounded, IsWellSounding}
use Rattle.durations.specs.declared.joined.Written.{Written}
use Rattle.durations.specs.declared.value.Value.{Value}
use Rattle.durations.specs.Value.{plain_grid, value_grid}
use Rattle.durations.proofs.Bars.{written_dots}
use Rattle.durations.proofs.Beats.{written_part}
use Rattle.derivation.specs.declared.score.ScoreBar.{ScoreBar}
use Rattle.derivation.specs.Score.{IsScoreBar}
use Rattle.kern_writer.specs.Tokens.{Token, bar_tokens, grace_text, token, voice_tokens}
use Rattle.voice_values.specs.GoesOn.{next_goes_on}
use Rattle.score_words.specs.Changes.{has_flats}
use Rattle.voice_values.specs.Values.{AreBarValues, AreVoiceValues, VoiceValue, is_first, sounds_in_bar, timed, value_of_sound, values_of_sounds}
use Rattle.voice_values.proofs.BarValues.{sounds_of_values}
use Rattle.kern_reader.specs.declared.token.Token.TheVariants as reads
use Rattle.text_words.specs.Values.{IsWellValue}
use Rattle.kern_laws.proofs.ScoreLines.{Said, bar_said, said, voice_said}
use Rattle.kern_laws.proofs.TokenTexts.{SaysToken, grace_said, main_said}

-- ---- values that are written can be read

factor_range : (n p all : ℕ) → 1 ≤ all → 1 ≤ p → n * p ∣ all → (1 ≤ n) × (n ≤ all)
factor_range zero p all some more h =
    let none : all ≡ 0 = eq-zero_of_zero-dvd (subst (λ x. x ∣ all) (omega arith) h) in
    absurd (omega (arith, some, none))
factor_range (suc n) p all some more h =
    let few : suc n * p ≤ all = le_of_dvd some h in
    let one : suc n * 1 ≤ suc n * p = mul-le-mul_left (suc n) more in
    (omega arith, omega (arith, few, one))

well_value : (r : ℕ) (v : Value) → 1 ≤ r → r ≤ MOST_UNITS → v.dots ≤ 2 → value_grid v ∣ 64 * r → IsWellValue v
well_value r v some few dots part =
    let range = factor_range (plain_grid v.recip) (2 ^ v.dots) (64 * r) (omega (arith, some)) (pow_pos v.dots) part in
    record { some = range.0; few = omega (arith, range.1, few); dots = dots }

-- a value that can be read, of a sound that is one of a derivation
pub record IsWellVoiceValue (v : VoiceValue) : Type 0 where
  pub value : IsWellValue v.value
  pub sound : IsWellSounding v.sound

one_value : (P : Value → Type 0) (o : Option Sound) (first : Bool) (w : Written) → P w.value → All (λ v. P v.value) (value_of_sound o first w)
one_value P None first w h = All-nil (λ v. P v.value)
one_value P (Some s) first w h =
    All-cons (λ v. P v.value) (record { place = w.from; value = w.value; sound = s; first = first }) [] h (All-nil (λ v. P v.value))

values_hold : (P : Value → Type 0) (sounds : List Sound) (before : Option ℕ) (ws : List Written) → All P (map (λ w. w.value) ws)
    → All (λ v. P v.value) (values_of_sounds sounds before ws)
values_hold P sounds before [] all = All-nil (λ v. P v.value)
values_hold P sounds before (w ∷ ws) all =
    All-append (λ v. P v.value) (value_of_sound (slice_get sounds w.leaf) (is_first before w.leaf) w) (values_of_sounds sounds (Some w.leaf) ws)
    (one_value P (slice_get sounds w.leaf) (is_first before w.leaf) w (All-head P w.value (map (λ w. w.value) ws) all))
    (values_hold P sounds (Some w.leaf) ws (All-tail P w.value (map (λ w. w.value) ws) all))

pub bar_values : (r : ℕ) (bar : ScoreBar) (sounds : List Sound) (vs : List VoiceValue) → 1 ≤ r → r ≤ MOST_UNITS → IsScoreBar bar
    → All IsWellSounding sounds
    → AreBarValues r bar sounds vs → All IsWellVoiceValue vs
bar_values r bar sounds vs some few well sounding (ws, written, is) =
    let whole = r * bar.den in
    let dots = written_dots whole (map (timed bar) sounds) ws written in
    let parts = written_part r bar.den (map (timed bar) sounds) ws well.signature.power written in
    let values = values_hold IsWellValue sounds None ws
    (λ k d lt. well_value r (get_or (map (λ w. w.value) ws) k d) some few (dots k d lt) (parts k d lt)) in
    let of_sounds = sounds_of_values IsWellSounding sounds None ws sounding in
    subst (All IsWellVoiceValue) (sym is) (λ k d lt. record { value = values k d lt; sound = of_sounds k d lt })

-- ---- tokens

abbrev pub SaysGrace : List ℕ → ℕ → Type 0
SaysGrace text keys = SaysToken text (reads.Grace keys)

pub record SaysSame (t : Token) (x : Said) : Type 0 where
  pub place : t.place ≡ x.place
  pub graces : Each SaysGrace t.graces x.graces
  pub main : SaysToken t.main x.main

graces_said : (flats : Bool) (graces : List ℕ) → All AreKeys graces → Each SaysGrace (map (grace_text flats) graces) graces
graces_said flats [] all = refl
graces_said flats (keys ∷ graces) all =
    (grace_said flats keys (All-head AreKeys keys graces all), graces_said flats graces (All-tail AreKeys keys graces all))

graces_at : (flats : Bool) (first : Bool) (graces : List ℕ) → All AreKeys graces
    → Each SaysGrace (if first then map (grace_text flats) graces else []) (if first then graces else [])
graces_at flats true graces all = graces_said flats graces all
graces_at flats false graces all = refl

token_said : (flats : Bool) (v : VoiceValue) (next : Bool) → IsWellVoiceValue v → SaysSame (token flats v next) (said v next)
token_said flats v next well = record {
  place = refl;
  graces = graces_at flats v.first v.sound.graces well.sound.graces;
  main = main_said flats v next well.value well.sound;
}

values_say : (flats : Bool) (vs later : List VoiceValue) → All IsWellVoiceValue vs → Each SaysSame (bar_tokens flats vs later) (bar_said vs later)
values_say flats [] later all = refl
values_say flats (v ∷ vs) later all =
    (token_said flats v (next_goes_on (vs ++ later)) (All-head IsWellVoiceValue v vs all), values_say flats vs later (All-tail IsWellVoiceValue v vs all))

-- ---- voices

voice_says : (r n : ℕ) (bars : List ScoreBar) (sounds : List Sound) (vss : List (List VoiceValue)) → 1 ≤ r → r ≤ MOST_UNITS
    → All IsScoreBar bars → All IsWellSounding sounds
    → AreVoiceValues r n bars sounds vss → Each (Each SaysSame) (voice_tokens bars vss) (voice_said vss)
voice_says r n [] sounds vss some few well sounding h = ap voice_said h
voice_says r n (bar ∷ bars) sounds [] some few well sounding h = absurd h
voice_says r n (bar ∷ bars) sounds (vs ∷ vss) some few well sounding h =
    let own = bar_values r bar (sounds_in_bar n sounds) vs some few (All-head IsScoreBar bar bars well)
    (All-filter (λ s. s.bar == n) IsWellSounding sounds sounding) h.0 in
    (values_say (has_flats bar.sf) vs (flat_map (λ vs. vs) vss) own, voice_says r (suc n) bars sounds vss some few (All-tail IsScoreBar bar bars well) sounding h.1)

-- what the tokens of each voice say
abbrev pub VoicesSay : List (List (List Token)) → List (List (List Said)) → Type 0
VoicesSay tokens saids = Each (Each (Each SaysSame)) tokens saids

pub voices_say : (r count : ℕ) (bars : List ScoreBar) (voices : List (List Sound)) (values : List (List (List VoiceValue))) → 1 ≤ r
    → r ≤ MOST_UNITS → All IsScoreBar bars
    → All (AreWellSounded r count) voices → Each (AreVoiceValues r 0 bars) voices values → VoicesSay (map (voice_tokens bars) values)
    (map voice_said values)
voices_say r count bars [] [] some few well sounded h = refl
voices_say r count bars [] (vss ∷ values) some few well sounded h = cc
voices_say r count bars (sounds ∷ voices) [] some few well sounded h = absurd h
voices_say r count bars (sounds ∷ voices) (vss ∷ values) some few well sounded h = (
  voice_says r 0 bars sounds vss some few well (All-head (AreWellSounded r count) sounds voices sounded).each h.0,
  voices_say r count bars voices values some few well (All-tail (AreWellSounded r count) sounds voices sounded) h.1,
)
