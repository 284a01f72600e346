-- The sounds and the values of a voice, bar by bar.
use Rattle.std.proofs.Common.{◌≡◌, ℕ, suc, ◌+◌, ◌*◌, ◌<◌, ◌≤◌, ◌≢◌, ◌==◌, Bool, true, false, List, [], ◌∷◌, ◌++◌, length, refl, sym, ap, ap₂, ◌∙◌, subst, arith, append-nil}
use Rattle.std.proofs.lemmas.Bool.{eq-eqb}
use Rattle.std.specs.Prelude.{All, cond, if◌then◌else◌, sum_by, ⊤}
use Rattle.std.proofs.lemmas.Bool.Decides.{nat_tests}
use Rattle.std.proofs.lemmas.List.Elements.{All-cons, All-head, All-nil, All-tail, filter-append}
use Rattle.std.proofs.lemmas.List.Sums.{sum_by-cons}
use Rattle.rhythm_base.specs.declared.sound.Sound.{Sound}
use Rattle.derivation.specs.WellSounded.{StandInBars}
use Rattle.durations.proofs.Wide.{some_product}
use Rattle.derivation.specs.declared.score.ScoreBar.{ScoreBar}
use Rattle.derivation.specs.Score.{IsScoreBar}
use Rattle.voice_values.specs.Values.{AreBarValues, AreVoiceValues, VoiceValue, sounds_in_bar}
use Rattle.voice_values.proofs.TimedSounds.{some_whole}
use Rattle.voice_values.proofs.BarSounded.{AreSounded, sound_len, sound_lens, sounded}

-- sounds side by side in bar n, from unit p on
abbrev pub StandOwn : ℕ → ℕ → List Sound → Type 0
StandOwn n p [] = ⊤
StandOwn n p (s ∷ sounds) = (s.bar ≡ n) × (s.place ≡ p) × (1 ≤ s.width) × StandOwn n (p + s.width) sounds

abbrev width_of : Sound → ℕ
width_of s = s.width

-- the sounds of a bar and those after it
pub record IsParted (r total n p : ℕ) (sounds : List Sound) : Type 0 where
  pub own : List Sound
  pub after : List Sound
  pub all : sounds ≡ own ++ after
  pub stand : StandOwn n p own
  pub full : p + sum_by width_of own ≡ r
  pub later : StandInBars r total (suc n) 0 after

parted : (r total n p : ℕ) (sounds : List Sound) → n < total → StandInBars r total n p sounds → IsParted r total n p sounds
parted r total n p [] less h = absurd (omega (arith, h.0, less))
parted r total n p (s ∷ sounds) less (within, bar, place, wide, fits, next) = go (p + s.width == r) refl next (parted r total n (p + s.width) sounds less)
  where
    go : (b : Bool) → (p + s.width == r) ≡ b → StandInBars r total (if b then suc n else n) (if b then 0 else p + s.width) sounds
        → (StandInBars r total n (p + s.width) sounds → IsParted r total n (p + s.width) sounds) → IsParted r total n p (s ∷ sounds)
    go true e next rest = record {
      own = s ∷ [];
      after = sounds;
      all = refl;
      stand = (bar, place, wide, tt);
      full = let whole : p + s.width ≡ r = grind (arith, nat_tests, e) in omega (arith, whole, sum_by-cons width_of s []);
      later = next;
    }
    go false e next rest =
        let is = rest next in
        record {
          own = s ∷ is.own;
          after = is.after;
          all = ap (λ xs. s ∷ xs) is.all;
          stand = (bar, place, wide, is.stand);
          full = let h = is.full in omega (arith, h, sum_by-cons width_of s is.own);
          later = is.later;
        }

-- ---- the sounds of each bar

bar_other : (a b : ℕ) → a ≢ b → (a == b) ≡ false
bar_other a b other = grind (arith, nat_tests, other)

own_in : (n p : ℕ) (own : List Sound) → StandOwn n p own → sounds_in_bar n own ≡ own
own_in n p [] stand = refl
own_in n p (s ∷ own) (bar, place, wide, stand) =
    ap (λ b. cond b (s ∷ sounds_in_bar n own) (sounds_in_bar n own)) (eq-eqb s.bar n bar) ∙ ap (λ xs. s ∷ xs) (own_in n (p + s.width) own stand)

own_out : (n m p : ℕ) (own : List Sound) → n < m → StandOwn n p own → sounds_in_bar m own ≡ []
own_out n m p [] less stand = refl
own_out n m p (s ∷ own) less (bar, place, wide, stand) =
    ap (λ b. cond b (s ∷ sounds_in_bar m own) (sounds_in_bar m own)) (bar_other s.bar m (λ e. omega (arith, bar, less, e))) ∙ own_out n m (p + s.width) own less stand

none_before : (r total n p m : ℕ) (sounds : List Sound) → m < n → StandInBars r total n p sounds → sounds_in_bar m sounds ≡ []
none_before r total n p m [] less h = refl
none_before r total n p m (s ∷ sounds) less (within, bar, place, wide, fits, next) =
    ap (λ b. cond b (s ∷ sounds_in_bar m sounds) (sounds_in_bar m sounds)) (bar_other s.bar m (λ e. omega (arith, bar, less, e)))
    ∙ go (p + s.width == r) next (none_before r total (suc n) 0 m sounds (omega (arith, less))) (none_before r total n (p + s.width) m sounds less)
  where
    go : (b : Bool) → StandInBars r total (if b then suc n else n) (if b then 0 else p + s.width) sounds
        → (StandInBars r total (suc n) 0 sounds → sounds_in_bar m sounds ≡ []) → (StandInBars r total n (p + s.width) sounds → sounds_in_bar m sounds ≡ []) → sounds_in_bar m sounds ≡ []
    go true h next same = next h
    go false h next same = same h

values_same : (r n : ℕ) (bars : List ScoreBar) (xs ys : List Sound) (vss : List (List VoiceValue)) → ((m : ℕ) → n ≤ m → sounds_in_bar m xs ≡ sounds_in_bar m ys)
    → AreVoiceValues r n bars xs vss → AreVoiceValues r n bars ys vss
values_same r n [] xs ys vss same h = h
values_same r n (bar ∷ bars) xs ys [] same h = h
values_same r n (bar ∷ bars) xs ys (vs ∷ vss) same h =
    (subst (λ sounds. AreBarValues r bar sounds vs) (same n (omega arith)) h.0, values_same r (suc n) bars xs ys vss (λ m le. same m (omega (arith, le))) h.1)

-- ---- the voice

pub record IsVoiceBar (r n : ℕ) (bar : ScoreBar) (own : List Sound) (vs : List VoiceValue) : Type 0 where
  pub sounded : AreSounded r (r * bar.den) bar.num 0 0 own vs
  pub full : sound_lens bar.num own ≡ r * bar.num
  pub stand : StandOwn n 0 own

abbrev pub AreVoice : ℕ → ℕ → List ScoreBar → List Sound → List (List VoiceValue) → Type 0
AreVoice r n [] sounds vss = (sounds ≡ []) × (vss ≡ [])
AreVoice r n (bar ∷ bars) sounds [] = ⊥
AreVoice r n (bar ∷ bars) sounds (vs ∷ vss) = (own : List Sound) × (after : List Sound) × (sounds ≡ own ++ after) × IsVoiceBar r n bar own vs × AreVoice r (suc n) bars after vss

long_sounds : (n p num : ℕ) (own : List Sound) → 1 ≤ num → StandOwn n p own → All (λ s. 1 ≤ s.width * num) own
long_sounds n p num [] some stand = All-nil (λ s. 1 ≤ s.width * num)
long_sounds n p num (s ∷ own) some (bar, place, wide, stand) = All-cons (λ s. 1 ≤ s.width * num) s own (some_product s.width num wide some) (long_sounds n (p + s.width) num own some stand)

total_lens : (num : ℕ) (own : List Sound) → sound_lens num own ≡ sum_by width_of own * num
total_lens num [] = omega arith
total_lens num (s ∷ own) = sum_by-cons (sound_len num) s own ∙ ap (λ x. s.width * num + x) (total_lens num own) ∙ joined s.width (sum_by width_of own) num ∙ sym (ap (λ x. x * num) (sum_by-cons width_of s own))
  where
    joined : (a b c : ℕ) → a * c + b * c ≡ (a + b) * c
    joined a b c = grind arith

pub are_voice : (r total n : ℕ) (bars : List ScoreBar) (sounds : List Sound) (vss : List (List VoiceValue)) → 1 ≤ r → n + length bars ≡ total → All IsScoreBar bars
    → StandInBars r total n 0 sounds → AreVoiceValues r n bars sounds vss → AreVoice r n bars sounds vss
are_voice r total n [] [] vss some end all stand values = (refl, values)
are_voice r total n [] (s ∷ sounds) vss some end all stand values = absurd (omega (arith, end, stand.0))
are_voice r total n (bar ∷ bars) sounds [] some end all stand values = absurd values
are_voice r total n (bar ∷ bars) sounds (vs ∷ vss) some end all stand values =
    let is = parted r total n 0 sounds (omega (arith, end)) stand in
    let well = All-head IsScoreBar bar bars all in
    let here : sounds_in_bar n sounds ≡ is.own =
    ap (sounds_in_bar n) is.all ∙ filter-append (λ s. s.bar == n) is.own is.after ∙ ap₂ ◌++◌ (own_in n 0 is.own is.stand) (none_before r total (suc n) 0 n is.after (omega arith) is.later) ∙ append-nil is.own in
    let later : (m : ℕ) → suc n ≤ m → sounds_in_bar m sounds ≡ sounds_in_bar m is.after =
    λ m le. ap (sounds_in_bar m) is.all ∙ filter-append (λ s. s.bar == m) is.own is.after ∙ ap (λ xs. xs ++ sounds_in_bar m is.after) (own_out n m 0 is.own le is.stand) in
    let own_values = subst (λ xs. AreBarValues r bar xs vs) here values.0 in
    let rest = values_same r (suc n) bars sounds is.after vss later values.1 in (
      is.own,
      is.after,
      is.all,
      record {
        sounded = sounded r bar well (some_whole r bar some well) is.own vs (long_sounds n 0 bar.num is.own well.signature.some is.stand) own_values;
        full = total_lens bar.num is.own ∙ ap (λ x. x * bar.num) (let h = is.full in omega (arith, h));
        stand = is.stand;
      },
      are_voice r total (suc n) bars is.after vss some (omega (arith, end)) (All-tail IsScoreBar bar bars all) is.later rest,
    )
