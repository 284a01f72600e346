-- The chords that begin in a column are the runs of the sounds.
use Rattle.std.proofs.Common.{◌≡◌, ℕ, zero, suc, ◌+◌, ◌*◌, ◌/◌, ◌≤◌, Bool, true, false, not, ◌&&◌, ◌||◌, List, [], ◌∷◌, ◌++◌, drop, take, refl, sym, ap, ap₂, ◌∙◌, subst, arith, append_assoc, append-nil}
use Rattle.std.specs.Prelude.{All, if◌then◌else◌, reverse, sum, sum_by}
use Rattle.std.proofs.lemmas.Bool.{false≢true}
use Rattle.std.proofs.lemmas.List.{reverse-reverse}
use Rattle.std.proofs.lemmas.List.Elements.{All-head, All-tail, All-weaker}
use Rattle.std.proofs.lemmas.List.Sums.{sum_by-cons}
use Rattle.rhythm_base.specs.declared.note.Bar.{Bar}
use Rattle.rhythm_base.specs.declared.sound.Sound.{Sound}
use Rattle.rhythm_base.specs.declared.sound.SoundKind.{SoundKind}
use Rattle.rhythm_base.specs.declared.sound.SoundKind.TheVariants.{Begin, Short, Tie, Rest}
use Rattle.rhythm_base.specs.Lists.{Each}
use Rattle.rhythm_base.specs.SoundKinds.{begins_chord, is_rest, is_short, is_tie}
use Rattle.durations.specs.Spans.{chord_runs, parts_of_unit, sound_length}
use Rattle.derivation.proofs.FilledBars.{parts_at}
use Rattle.derivation.proofs.SpansRead.{ties_of}
use Rattle.voice_events.proofs.SpansFollow.{tied_length}
use Rattle.durations.specs.declared.value.Value.{Value}
use Rattle.durations.specs.Value.{width}
use Rattle.derivation.specs.declared.score.ScoreBar.{ScoreBar}
use Rattle.derivation.specs.Score.{IsScoreBar}
use Rattle.voice_values.specs.GoesOn.{next_goes_on}
use Rattle.voice_values.specs.Values.{VoiceValue}
use Rattle.kern_reader.specs.declared.token.Token.{Token}
use Rattle.kern_reader.specs.Columns.{place, waiting}
use Rattle.kern_reader.specs.Events.{bar_start, beginnings, tied_values, Beginning}
use Rattle.kern_reader.proofs.SpineLemmas.{take_while-goes, take_while-stops}
use Rattle.kern_laws.proofs.ScoreLines.{value_token, writing_of}
use Rattle.kern_laws.proofs.BarFits.{valued_said, value_finer, width_said}
use Rattle.voice_values.proofs.BarSounded.{AreGroup, AreSounded, IsValue, leaf_values, sound_len, sound_lens}
use Rattle.kern_laws.proofs.BarVoice.{StandOwn}
use Rattle.kern_laws.proofs.PlaceParts.{graced}
use Rattle.kern_laws.proofs.SpanClean.{tied_stops}
use Rattle.kern_laws.proofs.SpanMatch.{IsMatch}
use Rattle.kern_laws.proofs.SpanTokens.{IsReached, graces_bars, graces_begin, graces_place, graces_read, graces_tied, graces_wait, value_reached, values_read}
use Rattle.kern_laws.proofs.SpanValues.{first_begins, leaf_read, leaf_tied, leaf_value, value_holds, values_one}
use Rattle.derivation.proofs.WellSounding.{tie_begins_none, tie_no_rest}
use Rattle.kern_reader.proofs.EventLemmas.{tied_next}

length_tie : (all : List Bar) (s : Sound) (sounds : List Sound) → is_tie s.kind ≡ true → tied_length all (s ∷ sounds) ≡ sound_length all s + tied_length all sounds
length_tie all s sounds tie = ap (sum_by (sound_length all)) (take_while-goes (λ t. is_tie t.kind) s sounds tie) ∙ sum_by-cons (sound_length all) s (ties_of sounds)

length_other : (all : List Bar) (s : Sound) (sounds : List Sound) → is_tie s.kind ≡ false → tied_length all (s ∷ sounds) ≡ 0
length_other all s sounds other = ap (sum_by (sound_length all)) (take_while-stops (λ t. is_tie t.kind) s sounds other)

tie_goes : (k : SoundKind) → is_tie k ≡ true → (not (is_rest k) && (is_tie k || not true)) ≡ true
tie_goes Begin e = absurd (false≢true e)
tie_goes Short e = absurd (false≢true e)
tie_goes Tie e = refl
tie_goes Rest e = absurd (false≢true e)

other_stops : (k : SoundKind) → is_tie k ≡ false → (not (is_rest k) && (is_tie k || not true)) ≡ false
other_stops Begin e = refl
other_stops Short e = refl
other_stops Tie e = absurd (false≢true (sym e))
other_stops Rest e = refl

chord_sounds : (k : SoundKind) → begins_chord k ≡ true → is_rest k ≡ false
chord_sounds Begin e = refl
chord_sounds Short e = refl
chord_sounds Tie e = refl
chord_sounds Rest e = absurd (false≢true e)

-- ---- one bar

module _ (r : ℕ) (all : List Bar) (n : ℕ) (bar : ScoreBar) (some : 1 ≤ r) (few : 64 * r ≤ 61440) (right : IsScoreBar bar) (unit : parts_at all n ≡ bar.num * (64 / bar.den)) where
  -- a value that is so many times as wide in the finer parts
  abbrev IsFiner : Value → Type 0
  IsFiner v = width (64 * r) v ≡ 64 / bar.den * width (r * bar.den) v

  abbrev Reached : ℕ → List Token → Type 0
  Reached at before = IsReached (64 * r) (64 / bar.den) all n at before

  abbrev AreMatches : List Beginning → List (Sound × List Sound) → Type 0
  AreMatches bs runs = Each (IsMatch (64 * r) r all) bs runs

  abbrev tied_sum : List Token → ℕ
  tied_sum ts = sum_by (width (64 * r)) (tied_values ts)

  -- of a leaf: whether its first value is tied to the next, its token, and what is read after it
  abbrev first_goes : ℕ → Sound → Value → List Value → List VoiceValue → List VoiceValue → Bool
  first_goes at s v values rest later = next_goes_on (leaf_values (r * bar.den) (at + width (r * bar.den) v) s false values ++ rest ++ later)

  abbrev first_token : ℕ → Sound → Value → List Value → List VoiceValue → List VoiceValue → Token
  first_token at s v values rest later = value_token (leaf_value at s true v) (first_goes at s v values rest later)

  abbrev rest_read : ℕ → Sound → Value → List Value → List VoiceValue → List VoiceValue → List Token → List Token
  rest_read at s v values rest later more = values_read (leaf_values (r * bar.den) (at + width (r * bar.den) v) s false values ++ rest) later ++ more

  sound_long : (s : Sound) → s.bar ≡ n → sound_length all s ≡ 64 / bar.den * sound_len bar.num s
  sound_long s is = ap (λ m. s.width * parts_at all m) is ∙ ap (λ u. s.width * u) unit ∙ turned s.width bar.num (64 / bar.den)
    where
      turned : (w m k : ℕ) → w * (m * k) ≡ k * (w * m)
      turned w m k = grind arith

  finer_all : (vs : List Value) → All (IsValue r (r * bar.den)) vs → All IsFiner vs
  finer_all vs are = All-weaker (IsValue r (r * bar.den)) IsFiner (λ w is. value_finer r bar some few right w is) vs are

  -- the values of a leaf, with those of the ties that are joined to it, are as long as it and they
  group_long : (s : Sound) (k : ℕ) (v : Value) (values : List Value) → AreGroup r (r * bar.den) (sound_len bar.num s + k) v values
      → width (64 * r) v + 64 / bar.den * sum_by (width (r * bar.den)) values ≡ 64 / bar.den * sound_len bar.num s + 64 / bar.den * k
  group_long s k v values group =
      let own = All-head IsFiner v values (finer_all (v ∷ values) group.each) in
      ap (λ x. x + 64 / bar.den * sum_by (width (r * bar.den)) values) own ∙ joined (64 / bar.den) (width (r * bar.den) v) (sum_by (width (r * bar.den)) values)
      ∙ ap (λ x. 64 / bar.den * x) (sym (sum_by-cons (width (r * bar.den)) v values) ∙ group.sum) ∙ apart (64 / bar.den) (sound_len bar.num s) k
    where
      joined : (t a b : ℕ) → t * a + t * b ≡ t * (a + b)
      joined t a b = grind arith

      apart : (t a b : ℕ) → t * (a + b) ≡ t * a + t * b
      apart t a b = grind arith

  -- ---- the values that continue a tie

  pub tied_bar : (joined place p : ℕ) (own after : List Sound) (vs later : List VoiceValue) (more : List Token) → StandOwn n p own → AreSounded r (r * bar.den) bar.num joined place own vs
      → tied_sum more ≡ tied_length all after
      → tied_sum (values_read vs later ++ more) + 64 / bar.den * sound_lens bar.num (take joined own) ≡ tied_length all (own ++ after)
  tied_bar zero place p [] after vs later more stand is ends =
      ap (λ us. tied_sum (values_read us later ++ more) + 64 / bar.den * 0) is ∙ nothing (64 / bar.den) (tied_sum more) ∙ ends
    where
      nothing : (t x : ℕ) → x + t * 0 ≡ x
      nothing t x = omega arith
  tied_bar (suc joined) place p [] after vs later more stand is ends =
      ap (λ us. tied_sum (values_read us later ++ more) + 64 / bar.den * 0) is ∙ nothing (64 / bar.den) (tied_sum more) ∙ ends
    where
      nothing : (t x : ℕ) → x + t * 0 ≡ x
      nothing t x = omega arith
  tied_bar (suc joined) place p (s ∷ own) after vs later more (in_bar, at, wide, stand) (tie, next) ends =
      let rest = tied_bar joined (place + sound_len bar.num s) (p + s.width) own after vs later more stand next ends in
      let lens = ap (λ x. 64 / bar.den * x) (sum_by-cons (sound_len bar.num) s (take joined own)) in
      ap (λ x. tied_sum (values_read vs later ++ more) + x) lens
      ∙ spread (tied_sum (values_read vs later ++ more)) (64 / bar.den) (sound_len bar.num s) (sound_lens bar.num (take joined own))
      ∙ ap₂ ◌+◌ (sym (sound_long s in_bar)) rest ∙ sym (length_tie all s (own ++ after) tie)
    where
      spread : (x t a b : ℕ) → x + t * (a + b) ≡ t * a + (x + t * b)
      spread x t a b = grind arith
  tied_bar zero place p (s ∷ own) after vs later more (in_bar, at, wide, stand) (d, v, values, rest, group, ties, same, next) ends =
      let others = tied_bar d (place + sound_len bar.num s) (p + s.width) own after rest later more stand next ends in
      ap (λ us. tied_sum (values_read us later ++ more) + 64 / bar.den * 0) same
      ∙ nothing (64 / bar.den) (tied_sum (values_read (leaf_values (r * bar.den) place s true (v ∷ values) ++ rest) later ++ more))
      ∙ ap (sum_by (width (64 * r))) front ∙ go (is_tie s.kind) refl others
    where
      nothing : (t x : ℕ) → x + t * 0 ≡ x
      nothing t x = omega arith

      front : tied_values (values_read (leaf_values (r * bar.den) place s true (v ∷ values) ++ rest) later ++ more)
          ≡ tied_values (first_token place s v values rest later
          ∷ (rest_read place s v values rest later more))
      front =
          let t = first_token place s v values rest later in
          let rs = values_read (leaf_values (r * bar.den) (place + width (r * bar.den) v) s false values ++ rest) later in
          ap tied_values (append_assoc (graces_read s.graces) (t ∷ rs) more) ∙ graces_tied s.graces (t ∷ (rs ++ more))

      go : (b : Bool) → is_tie s.kind ≡ b
          → tied_sum (values_read rest later ++ more) + 64 / bar.den * sound_lens bar.num (take d own) ≡ tied_length all (own ++ after)
          → tied_sum (first_token place s v values rest later
          ∷ (rest_read place s v values rest later more))
          ≡ tied_length all (s ∷ (own ++ after))
      go true e others =
          let flag = first_goes place s v values rest later in
          let t = value_token (leaf_value place s true v) flag in
          let ts = rest_read place s v values rest later more in
          let leaf = leaf_tied (64 * r) (64 / bar.den) all n (r * bar.den) s rest later more (place + width (r * bar.den) v) values (tie_no_rest s.kind e)
          (All-tail IsFiner v values (finer_all (v ∷ values) group.each)) in
          let first = ap (sum_by (width (64 * r))) (tied_next t ts (value_holds place s v flag true ∙ tie_goes s.kind e) ∙ ap (λ us. us ++ tied_values ts) (values_one place s v flag true)) ∙ sum_by-cons (width (64 * r)) v (tied_values ts) in
          let long = group_long s (sound_lens bar.num (take d own)) v values group in
          let own_long = sound_long s in_bar in
          let all_long = length_tie all s (own ++ after) e in
          added _ _ _ _ _ _ _ _ _ _ first leaf long others own_long all_long
        where
          added : (total tail width values rest joined own after whole long : ℕ) → total ≡ width + tail → tail ≡ values + rest → width + values ≡ own + joined → rest + joined ≡ after → long ≡ own → whole ≡ long + after → total ≡ whole
          added total tail width values rest joined own after whole long a b c d e f = omega (arith, a, b, c, d, e, f)
      go false e others =
          let flag = first_goes place s v values rest later in
          let t = value_token (leaf_value place s true v) flag in
          let ts = rest_read place s v values rest later more in
          ap (sum_by (width (64 * r))) (tied_stops t ts (value_holds place s v flag true ∙ other_stops s.kind e)) ∙ sym (length_other all s (own ++ after) e)

  -- ---- the chords that begin

  joined_up : (p w m : ℕ) → p * m + w * m ≡ (p + w) * m
  joined_up p w m = grind arith

  and_right : (b : Bool) → (b && true) ≡ b
  and_right true = refl
  and_right false = refl

  reversed_twice : (graces : List ℕ) → reverse (reverse graces ++ []) ≡ graces
  reversed_twice graces = ap reverse (append-nil (reverse graces)) ∙ reverse-reverse graces

  -- the first value of a leaf whose chord begins
  chord_match : (place_is p : ℕ) (s : Sound) (before ts : List Token) (v : Value) (flag : Bool) (ties : List Sound) → s.bar ≡ n → s.place ≡ p → place_is ≡ p * bar.num
      → bar_start before ≡ sum_by parts_of_unit (take n all) → place (64 * r) before ≡ 64 / bar.den * place_is → waiting before ≡ reverse s.graces ++ []
      → width (64 * r) v + tied_sum ts ≡ sound_length all s + sum_by (sound_length all) ties
      → IsMatch (64 * r) r all (record { before = before; writing = writing_of (leaf_value place_is s true v) flag; keys = s.keys; after = ts }) (s, ties)
  chord_match place_is p s before ts v flag ties in_bar at there start here waits long = record {
    start =
        ap₂ (λ a b. (64 * r * a + 64 * b) * (64 * r)) start (here ∙ ap (λ x. 64 / bar.den * x) there)
        ∙ counted r (sum_by parts_of_unit (take n all)) (64 / bar.den) p bar.num
        ∙ ap (λ u. (r * sum_by parts_of_unit (take n all) + p * u) * (64 * (64 * r))) (sym unit)
        ∙ ap₂ (λ m q. (r * sum_by parts_of_unit (take m all) + q * parts_at all m) * (64 * (64 * r))) (sym in_bar) (sym at);
    len = ap (λ x. x * (64 * r)) (long ∙ sym (sum_by-cons (sound_length all) s ties));
    keys = refl;
    graces = ap reverse waits ∙ reversed_twice s.graces;
    short = and_right (is_short s.kind);
  }
    where
      counted : (r s k p m : ℕ) → (64 * r * s + 64 * (k * (p * m))) * (64 * r) ≡ (r * s + p * (m * k)) * (64 * (64 * r))
      counted r s k p m = grind arith

  pub match_bar : (joined at p : ℕ) (own after : List Sound) (vs later : List VoiceValue) (more before : List Token) → StandOwn n p own → at ≡ p * bar.num → AreSounded r (r * bar.den) bar.num joined at own vs
      → tied_sum more ≡ tied_length all after
      → ((x : ℕ) (before : List Token) → Reached x before → AreMatches (beginnings before more) (chord_runs after))
      → Reached (at + sound_lens bar.num (take joined own)) before
      → AreMatches (beginnings before (values_read vs later ++ more)) (chord_runs (own ++ after))
  match_bar zero at p [] after vs later more before stand there is ends next reached =
      subst (λ us. AreMatches (beginnings before (values_read us later ++ more)) (chord_runs after)) (sym is) (next _ before reached)
  match_bar (suc joined) at p [] after vs later more before stand there is ends next reached =
      subst (λ us. AreMatches (beginnings before (values_read us later ++ more)) (chord_runs after)) (sym is) (next _ before reached)
  match_bar (suc joined) at p (s ∷ own) after vs later more before (in_bar, place_is, wide, stand) there (tie, sounded) ends next reached =
      let along : at + sound_lens bar.num (take (suc joined) (s ∷ own)) ≡ at + sound_len bar.num s + sound_lens bar.num (take joined own) = omega (arith, sum_by-cons (sound_len bar.num) s (take joined own)) in
      let there_next : at + sound_len bar.num s ≡ (p + s.width) * bar.num = ap (λ x. x + s.width * bar.num) there ∙ joined_up p s.width bar.num in
      let rest = match_bar joined (at + sound_len bar.num s) (p + s.width) own after vs later more before stand there_next sounded ends next (subst (λ x. Reached x before) along reached) in
      subst (λ b. AreMatches (beginnings before (values_read vs later ++ more)) (if b then (s, ties_of (own ++ after)) ∷ chord_runs (own ++ after) else chord_runs (own ++ after))) (sym (tie_begins_none s.kind tie)) rest
  match_bar zero at p (s ∷ own) after vs later more before (in_bar, place_is, wide, stand) there (d, v, values, rest, group, ties, same, sounded) ends next reached =
      let flag = first_goes at s v values rest later in
      let x = leaf_value at s true v in
      let t = value_token x flag in
      let rs = values_read (leaf_values (r * bar.den) (at + width (r * bar.den) v) s false values ++ rest) later in
      let B = graced s.graces before in
      let finer = finer_all (v ∷ values) group.each in
      let first_finer = All-head IsFiner v values finer in
      let here_at : at + sound_lens bar.num (take zero (s ∷ own)) ≡ at = omega arith in
      let start = ap (λ xs. sum (drop 1 xs)) (graces_bars s.graces before) ∙ reached.start in
      let total = ap sum (graces_bars s.graces before) ∙ reached.total in
      let here = graces_place (64 * r) s.graces before ∙ reached.here ∙ ap (λ k. 64 / bar.den * k) here_at in
      let waits = graces_wait s.graces before ∙ ap (λ xs. reverse s.graces ++ xs) reached.waits in
      let first = value_reached (64 * r) (64 / bar.den) all n at (width (r * bar.den) v) B t (valued_said x flag) (width_said (64 * r) x flag ∙ first_finer) start total here in
      let read = leaf_read (64 * r) (64 / bar.den) all n (r * bar.den) s rest later more (at + width (r * bar.den) v) (at + width (r * bar.den) v) values (t ∷ B)
      (All-tail IsFiner v values finer) first in
      let sum = group.sum in
      let along : at + width (r * bar.den) v + sum_by (width (r * bar.den)) values ≡ at + sound_len bar.num s + sound_lens bar.num (take d own) = omega (arith, sum, sum_by-cons (width (r * bar.den)) v values) in
      let there_next : at + sound_len bar.num s ≡ (p + s.width) * bar.num = ap (λ x. x + s.width * bar.num) there ∙ joined_up p s.width bar.num in
      let others = match_bar d (at + sound_len bar.num s) (p + s.width) own after rest later more read.after stand there_next sounded ends next
      (subst (λ k. Reached k read.after) along read.reached) in
      let others_here = subst (λ bs. AreMatches bs (chord_runs (own ++ after))) (sym read.begins) others in
      let tied = tied_bar d (at + sound_len bar.num s) (p + s.width) own after rest later more stand sounded ends in
      let one = chord_one (begins_chord s.kind) refl (λ sounds. long_one (leaf_tied (64 * r) (64 / bar.den) all n (r * bar.den) s rest later more (at + width (r * bar.den) v) values (chord_sounds s.kind sounds)
      (All-tail IsFiner v values finer)) tied (group_long s (sound_lens bar.num (take d own)) v values group)) start here waits others_here in
      let begun : beginnings before (values_read (leaf_values (r * bar.den) at s true (v ∷ values) ++ rest) later ++ more)
      ≡ (if begins_chord s.kind then record { before = graced s.graces before; writing = writing_of (leaf_value at s true v) flag; keys = s.keys; after = rs ++ more } ∷ [] else []) ++ beginnings (t ∷ B) (rs ++ more) =
      ap (beginnings before) (append_assoc (graces_read s.graces) (t ∷ rs) more) ∙ graces_begin s.graces before (t ∷ (rs ++ more)) ∙ ap (λ bs. bs ++ beginnings (t ∷ B) (rs ++ more)) (first_begins at s v flag B (rs ++ more)) in
      subst (λ us. AreMatches (beginnings before (values_read us later ++ more)) (chord_runs (s ∷ (own ++ after)))) (sym same)
      (subst (λ bs. AreMatches bs (chord_runs (s ∷ (own ++ after)))) (sym begun) one)
    where
      long_one : tied_sum (rest_read at s v values rest later more)
          ≡ 64 / bar.den * sum_by (width (r * bar.den)) values + tied_sum (values_read rest later ++ more)
          → tied_sum (values_read rest later ++ more) + 64 / bar.den * sound_lens bar.num (take d own) ≡ tied_length all (own ++ after)
          → width (64 * r) v + 64 / bar.den * sum_by (width (r * bar.den)) values ≡ 64 / bar.den * sound_len bar.num s + 64 / bar.den * sound_lens bar.num (take d own)
          → width (64 * r) v + tied_sum (rest_read at s v values rest later more)
          ≡ sound_length all s + tied_length all (own ++ after)
      long_one leaf tied group = added _ _ _ _ _ _ _ _ leaf tied group (sound_long s in_bar)
        where
          added : (w tail values rest joined own after long : ℕ) → tail ≡ values + rest → rest + joined ≡ after → w + values ≡ own + joined → long ≡ own → w + tail ≡ long + after
          added w tail values rest joined own after long a b c d = omega (arith, a, b, c, d)

      chord_one : (b : Bool) → begins_chord s.kind ≡ b
          → (begins_chord s.kind ≡ true → width (64 * r) v + tied_sum (rest_read at s v values rest later more)
          ≡ sound_length all s + tied_length all (own ++ after))
          → bar_start (graced s.graces before) ≡ sum_by parts_of_unit (take n all) → place (64 * r) (graced s.graces before) ≡ 64 / bar.den * at → waiting (graced s.graces before) ≡ reverse s.graces ++ []
          → AreMatches
          (beginnings (first_token at s v values rest later ∷ graced s.graces before)
          (rest_read at s v values rest later more)) (chord_runs (own ++ after))
          → AreMatches
          ((if b then record {
            before = graced s.graces before;
            writing = writing_of (leaf_value at s true v) (first_goes at s v values rest later);
            keys = s.keys;
            after = rest_read at s v values rest later more;
          } ∷ [] else [])
          ++ beginnings (first_token at s v values rest later ∷ graced s.graces before)
          (rest_read at s v values rest later more))
          (if b then (s, ties_of (own ++ after)) ∷ chord_runs (own ++ after) else chord_runs (own ++ after))
      chord_one true e long start here waits rest_matches = (
        chord_match at p s (graced s.graces before) (rest_read at s v values rest later more) v
            (first_goes at s v values rest later) (ties_of (own ++ after)) in_bar place_is there start here waits (long e),
        rest_matches,
      )
      chord_one false e long start here waits rest_matches = rest_matches
