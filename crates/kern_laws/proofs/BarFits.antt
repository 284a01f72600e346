-- What a voice says can stand.
use Rattle.std.proofs.Common.{◌≡◌, ℕ, zero, suc, ◌+◌, ◌*◌, ◌/◌, ◌≤◌, Bool, true, false, not, ◌&&◌, ◌||◌, List, [], ◌∷◌, ◌++◌, length, take, refl, sym, ap, ◌∙◌, subst, arith, Option, Some, None}
use Rattle.std.specs.Prelude.{All, if◌then◌else◌, nat_lt, slice_index_or, sum_by, ⊤}
use Rattle.std.specs.List.{flat_map}
use Rattle.std.proofs.lemmas.Bool.{false≢true, eq-eqb}
use Rattle.std.proofs.lemmas.List.Elements.{All-cons, All-head, All-nil, All-tail, All-append}
use Rattle.std.proofs.lemmas.List.Sums.{sum_by-cons}
use Rattle.rhythm_base.specs.declared.sound.Sound.{Sound}
use Rattle.rhythm_base.specs.declared.sound.SoundKind.{SoundKind}
use Rattle.rhythm_base.specs.declared.sound.SoundKind.TheVariants.{Begin}
use Rattle.rhythm_base.specs.SoundKinds.{is_rest, is_tie}
use Rattle.derivation.specs.WellSounded.{IsWellSounding}
use Rattle.durations.specs.declared.value.Value.{Value}
use Rattle.durations.specs.Value.{value_grid, width}
use Rattle.derivation.specs.declared.score.ScoreBar.{ScoreBar}
use Rattle.derivation.specs.Score.{IsScoreBar}
use Rattle.voice_values.specs.GoesOn.{goes_on, next_goes_on}
use Rattle.voice_values.specs.Values.{VoiceValue}
use Rattle.voice_values.proofs.TimedSounds.{some_whole}
use Rattle.kern_reader.specs.declared.token.Token.TheVariants as token
use Rattle.kern_reader.specs.Columns.{continues, has_value, is_left_open, open_keys, token_values}
use Rattle.kern_reader.specs.Faults.{is_chord_untied, is_grace_wrong, is_tie_wrong}
use Rattle.kern_reader.specs.Score.{Counts}
use Rattle.kern_reader.specs.Tokens.{IsWellToken}
use Rattle.text_words.specs.Values.{IsWellValue}
use Rattle.kern_laws.proofs.ScoreLines.{Said, bar_said, said, said_graces, tie_mark, value_token, voice_said, writing_of}
use Rattle.kern_laws.proofs.BarLines.{FitsBars, frame_of, said_in}
use Rattle.voice_values.proofs.BarSounded.{AreSounded, IsValue, leaf_values, sound_len, sound_lens}
use Rattle.kern_laws.proofs.BarVoice.{AreVoice}
use Rattle.voice_events.proofs.ScoreBars.{parts_finer}
use Rattle.kern_laws.proofs.GridParts.{divisor_some, well_value, width_finer}
use Rattle.kern_laws.proofs.PlaceParts.{Fits, IsFit, next_place, open_after, token_width}
use Rattle.kern_laws.proofs.TieValues.{Linked, Links}
use Rattle.kern_writer.proofs.BarTokens.{some_width}

-- ---- places

abbrev pub next_value : ℕ → List VoiceValue → ℕ
next_value end [] = end
next_value end (v ∷ vs) = v.place

-- each value ends where the next one begins
abbrev pub AreChained : ℕ → ℕ → ℕ → List VoiceValue → Type 0
AreChained r whole end [] = ⊤
AreChained r whole end (v ∷ vs) = IsValue r whole v.value × (v.place + width whole v.value ≡ next_value end vs) × AreChained r whole end vs

leaf_chained : (r whole end place : ℕ) (s : Sound) (first : Bool) (v : Value) (vs : List Value) (more : List VoiceValue) → All (IsValue r whole) (v ∷ vs) → AreChained r whole end more
    → next_value end more ≡ place + sum_by (width whole) (v ∷ vs) → AreChained r whole end (leaf_values whole place s first (v ∷ vs) ++ more)
leaf_chained r whole end place s first v [] more each rest ends =
    (All-head (IsValue r whole) v [] each, sym (ends ∙ ap (λ n. place + n) (sum_by-cons (width whole) v [] ∙ omega arith)), rest)
leaf_chained r whole end place s first v (w ∷ vs) more each rest ends =
    let total : place + sum_by (width whole) (v ∷ w ∷ vs) ≡ place + width whole v + sum_by (width whole) (w ∷ vs) = omega (arith, sum_by-cons (width whole) v (w ∷ vs)) in
    (All-head (IsValue r whole) v (w ∷ vs) each, refl, leaf_chained r whole end (place + width whole v) s false w vs more (All-tail (IsValue r whole) v (w ∷ vs) each) rest (ends ∙ total))

pub bar_chained : (r whole num end joined place : ℕ) (sounds : List Sound) (vs : List VoiceValue) → end ≡ place + sound_lens num sounds → AreSounded r whole num joined place sounds vs
    → AreChained r whole end vs × (next_value end vs ≡ place + sound_lens num (take joined sounds))
bar_chained r whole num end zero place [] vs ends is = (subst (AreChained r whole end) (sym is) tt, ap (next_value end) is ∙ ends)
bar_chained r whole num end (suc joined) place [] vs ends is = (subst (AreChained r whole end) (sym is) tt, ap (next_value end) is ∙ ends)
bar_chained r whole num end zero place (s ∷ more) vs ends (d, v, values, rest, group, ties, same, next) =
    let (chained, begins) = bar_chained r whole num end d (place + sound_len num s) more rest (omega (arith, ends, sum_by-cons (sound_len num) s more)) next in
    let sum = group.sum in
    let all = leaf_chained r whole end place s true v values rest group.each chained (begins ∙ (omega (arith, sum))) in
    (subst (AreChained r whole end) (sym same) all, ap (next_value end) same ∙ omega arith)
bar_chained r whole num end (suc joined) place (s ∷ more) vs ends (tie, next) =
    let (chained, begins) = bar_chained r whole num end joined (place + sound_len num s) more vs (omega (arith, ends, sum_by-cons (sound_len num) s more)) next in
    (chained, begins ∙ omega (arith, sum_by-cons (sound_len num) s (take joined more)))

-- what holds of each sound holds of the sound of each value
leaf_all : (P : Sound → Type 0) (whole place : ℕ) (s : Sound) (first : Bool) (vs : List Value) → P s → All (λ v. P v.sound) (leaf_values whole place s first vs)
leaf_all P whole place s first [] h = All-nil (λ v. P v.sound)
leaf_all P whole place s first (v ∷ vs) h =
    All-cons (λ v. P v.sound) (record { place = place; value = v; sound = s; first = first }) (leaf_values whole (place + width whole v) s false vs) h (leaf_all P whole (place + width whole v) s false vs h)

bar_all : (P : Sound → Type 0) (r whole num joined place : ℕ) (sounds : List Sound) (vs : List VoiceValue) → All P sounds → AreSounded r whole num joined place sounds vs → All (λ v. P v.sound) vs
bar_all P r whole num zero place [] vs all is = subst (All (λ v. P v.sound)) (sym is) (All-nil (λ v. P v.sound))
bar_all P r whole num (suc joined) place [] vs all is = subst (All (λ v. P v.sound)) (sym is) (All-nil (λ v. P v.sound))
bar_all P r whole num zero place (s ∷ more) vs all (d, v, values, rest, group, ties, same, next) =
    subst (All (λ v. P v.sound)) (sym same)
    (All-append (λ v. P v.sound) (leaf_values whole place s true (v ∷ values)) rest (leaf_all P whole place s true (v ∷ values) (All-head P s more all))
    (bar_all P r whole num d (place + sound_len num s) more rest (All-tail P s more all) next))
bar_all P r whole num (suc joined) place (s ∷ more) vs all (tie, next) = bar_all P r whole num joined (place + sound_len num s) more vs (All-tail P s more all) next

-- ---- ties

-- the keys of the tie that a value leaves open, where the next one goes on or not
abbrev pub tied_by : Option Sound → Bool → Option ℕ
tied_by None next = None
tied_by (Some s) next = if next then Some s.keys else None

module _ (v : VoiceValue) (next : Bool) where
  -- a value that does not go on stands where no tie is open, and one that does after one of its keys
  tie_right : (before : Option Sound) → (goes_on v ≡ true → Links before v.sound) → is_tie_wrong (value_token v next) (tied_by before (goes_on v)) ≡ false
  tie_right before links = go (is_rest v.sound.kind) refl (goes_on v) refl
    where
      none_tied : (o : Option Sound) → tied_by o false ≡ None
      none_tied None = refl
      none_tied (Some s) = refl

      chord : (o : Option Sound) (b : Bool) → (b ≡ true → Links o v.sound)
          → is_chord_untied (record { value = v.value; opens = not b && next; tie = tie_mark b next; short = (writing_of v next).short }) v.sound.keys (tied_by o b) ≡ false
      chord o false links = ap (is_chord_untied (record { value = v.value; opens = next; tie = tie_mark false next; short = (writing_of v next).short }) v.sound.keys) (none_tied o)
      chord None true links = absurd (links refl)
      chord (Some s) true links = go next
        where
          go : (n : Bool) → is_chord_untied (record { value = v.value; opens = false; tie = tie_mark true n; short = (writing_of v next).short }) v.sound.keys (Some s.keys) ≡ false
          go true = ap not (eq-eqb v.sound.keys s.keys (sym (links refl).1))
          go false = ap not (eq-eqb v.sound.keys s.keys (sym (links refl).1))

      go : (rest : Bool) → is_rest v.sound.kind ≡ rest → (b : Bool) → goes_on v ≡ b
          → is_tie_wrong (if rest then token.Rest v.value else token.Chord (writing_of v next) v.sound.keys) (tied_by before (goes_on v)) ≡ false
      go true e b f =
          let still : goes_on v ≡ false = ap (λ x. not x && (is_tie v.sound.kind || not v.first)) e in
          ap (λ x. is_tie_wrong (token.Rest v.value) (tied_by before x)) still ∙ ap (is_tie_wrong (token.Rest v.value)) (none_tied before)
      go false e b f = chord before (goes_on v) links

  open_right : (next ≡ true → is_rest v.sound.kind ≡ false) → open_keys (value_token v next ∷ []) ≡ tied_by (Some v.sound) next
  open_right sounds = go (is_rest v.sound.kind) refl next refl
    where
      left : (b n : Bool) → is_left_open (record { value = v.value; opens = not b && n; tie = tie_mark b n; short = (writing_of v next).short }) ≡ n
      left true true = refl
      left true false = refl
      left false true = refl
      left false false = refl

      go : (rest : Bool) → is_rest v.sound.kind ≡ rest → (n : Bool) → next ≡ n → open_keys ((if rest then token.Rest v.value else token.Chord (writing_of v next) v.sound.keys) ∷ []) ≡ (if next then Some v.sound.keys else None)
      go true e true f = absurd (false≢true (sym (sounds f) ∙ e))
      go true e false f = ap (λ b. if b then Some v.sound.keys else None) (sym f)
      go false e n f = ap (λ b. if b then Some v.sound.keys else None) (left (goes_on v) next)

-- ---- graces

no_graces : (s : Sound) → IsWellSounding s → (s.kind ≡ Begin → ⊥) → length s.graces ≡ 0
no_graces s well other = go s.graces refl
  where
    go : (gs : List ℕ) → s.graces ≡ gs → length gs ≡ 0
    go [] e = refl
    go (g ∷ gs) e = absurd (other (well.graced (λ none. full (sym none ∙ e))))
      where
        full : [] ≡ g ∷ gs → ⊥
        full e = cc

rest_begins : (k : SoundKind) → is_rest k ≡ true → k ≡ Begin → ⊥
rest_begins k e begins = false≢true (sym (ap is_rest begins) ∙ e)

tie_begins : (k : SoundKind) → is_tie k ≡ true → k ≡ Begin → ⊥
tie_begins k e begins = false≢true (sym (ap is_tie begins) ∙ e)

module _ (v : VoiceValue) (well : IsWellSounding v.sound) where
  none_said : (v.first ≡ true → v.sound.kind ≡ Begin → ⊥) → length (said_graces v) ≡ 0
  none_said other = go v.first refl
    where
      go : (b : Bool) → v.first ≡ b → length (if b then v.sound.graces else []) ≡ 0
      go true e = no_graces v.sound well (other e)
      go false e = refl

  goes_none : goes_on v ≡ true → length (said_graces v) ≡ 0
  goes_none goes = none_said (λ first. tie_begins v.sound.kind (tie_of (is_rest v.sound.kind) (is_tie v.sound.kind) v.first first goes))
    where
      tie_of : (a b c : Bool) → c ≡ true → (not a && (b || not c)) ≡ true → b ≡ true
      tie_of true b c first goes = absurd (false≢true goes)
      tie_of false true c first goes = refl
      tie_of false false true first goes = absurd (false≢true goes)
      tie_of false false false first goes = absurd (false≢true first)

  grace_right : (next : Bool) → is_grace_wrong (value_token v next) (length (said_graces v)) ≡ false
  grace_right next = go (is_rest v.sound.kind) refl
    where
      apart : (b n : Bool) → goes_on v ≡ b → (continues (record { value = v.value; opens = not b && n; tie = tie_mark b n; short = (writing_of v next).short }) && nat_lt 0 (length (said_graces v))) ≡ false
      apart false n e = refl
      apart true true e = ap (nat_lt 0) (goes_none e)
      apart true false e = ap (nat_lt 0) (goes_none e)

      go : (rest : Bool) → is_rest v.sound.kind ≡ rest → is_grace_wrong (if rest then token.Rest v.value else token.Chord (writing_of v next) v.sound.keys) (length (said_graces v)) ≡ false
      go true e = ap (nat_lt 0) (none_said (λ first. rest_begins v.sound.kind e))
      go false e = apart (goes_on v) next refl

  few_right : length (said_graces v) ≤ 3
  few_right = go v.first
    where
      go : (b : Bool) → length (if b then v.sound.graces else []) ≤ 3
      go true = well.few_graces
      go false = omega arith

-- ---- widths

pub width_said : (grid : ℕ) (v : VoiceValue) (next : Bool) → token_width grid (value_token v next) ≡ width grid v.value
width_said grid v next = go (is_rest v.sound.kind)
  where
    go : (rest : Bool) → token_width grid (if rest then token.Rest v.value else token.Chord (writing_of v next) v.sound.keys) ≡ width grid v.value
    go true = refl
    go false = refl

pub valued_said : (v : VoiceValue) (next : Bool) → has_value (value_token v next) ≡ true
valued_said v next = go (is_rest v.sound.kind)
  where
    go : (rest : Bool) → has_value (if rest then token.Rest v.value else token.Chord (writing_of v next) v.sound.keys) ≡ true
    go true = refl
    go false = refl

-- ---- a value

module _ (r : ℕ) (bar : ScoreBar) (some : 1 ≤ r) (few : 64 * r ≤ 61440) (right : IsScoreBar bar) where
  whole_some : 1 ≤ 64 * r
  whole_some = omega (arith, some)

  pub value_finer : (v : Value) → IsValue r (r * bar.den) v → width (64 * r) v ≡ 64 / bar.den * width (r * bar.den) v
  value_finer v is =
      width_finer (r * bar.den) (64 / bar.den) (64 * r) v (divisor_some (value_grid v) (64 * r) whole_some is.counts) (parts_finer r bar.den right.signature.power) is.wide

  value_fit : (v : VoiceValue) (next : Bool) (before : Option Sound) → IsValue r (r * bar.den) v.value → IsWellSounding v.sound → (goes_on v ≡ true → Links before v.sound)
      → IsFit (frame_of r bar) (tied_by before (goes_on v)) (said v next)
  value_fit v next before is well links =
      let counted = well_value v.value (64 * r) whole_some few is.counts is.dots in
      let width_is = width_said (r * bar.den) v next in
      let wide = some_width (r * bar.den) v.value (some_whole r bar some right) is.wide in
      record {
        valued = valued_said v next;
        wide = omega (arith, width_is, wide);
        finer = width_said (64 * r) v next ∙ value_finer v.value is ∙ ap (λ n. 64 / bar.den * n) (sym width_is);
        tie = tie_right v next before links;
        grace = grace_right v well next;
        few = few_right v well;
        well = go_well (is_rest v.sound.kind) counted;
        counts = go_counts (is_rest v.sound.kind);
      }
    where
      go_well : (rest : Bool) → IsWellValue v.value → IsWellToken (if rest then token.Rest v.value else token.Chord (writing_of v next) v.sound.keys)
      go_well true h = h
      go_well false h = h

      go_counts : (rest : Bool) → All (Counts (64 * r)) (token_values (if rest then token.Rest v.value else token.Chord (writing_of v next) v.sound.keys))
      go_counts true = All-cons (Counts (64 * r)) v.value [] is.counts (All-nil (Counts (64 * r)))
      go_counts false = All-cons (Counts (64 * r)) v.value [] is.counts (All-nil (Counts (64 * r)))

  -- ---- a bar

  next_links : (s : Sound) (us : List VoiceValue) → Linked (Some s) us → next_goes_on us ≡ true → is_rest s.kind ≡ false
  next_links s [] linked goes = absurd (false≢true goes)
  next_links s (u ∷ us) (links, rest) goes = (links goes).0

  next_said : (vs later : List VoiceValue) → next_place (frame_of r bar) (bar_said vs later) ≡ next_value (r * bar.num) vs
  next_said [] later = refl
  next_said (v ∷ vs) later = refl

  bar_fits : (before : Option Sound) (vs later : List VoiceValue) → AreChained r (r * bar.den) (r * bar.num) vs → All (λ v. IsWellSounding v.sound) vs → Linked before (vs ++ later)
      → Fits (frame_of r bar) (tied_by before (next_goes_on (vs ++ later))) (bar_said vs later)
  bar_fits before [] later chained well linked = tt
  bar_fits before (v ∷ vs) later (is, next, chained) well (links, linked) =
      let n = next_goes_on (vs ++ later) in
      let rest = bar_fits (Some v.sound) vs later chained (All-tail (λ v. IsWellSounding v.sound) v vs well) linked in (
        value_fit v n before is (All-head (λ v. IsWellSounding v.sound) v vs well) links,
        ap (λ w. v.place + w) (width_said (r * bar.den) v n) ∙ next ∙ sym (next_said vs later),
        subst (λ o. Fits (frame_of r bar) o (bar_said vs later)) (sym (open_right v n (next_links v.sound (vs ++ later) linked))) rest,
      )

-- the tie that is open after a bar
bar_open : (before : Option Sound) (vs later : List VoiceValue) → Linked before (vs ++ later)
    → (last : Option Sound) × Linked last later × (open_after (tied_by before (next_goes_on (vs ++ later))) (bar_said vs later) ≡ tied_by last (next_goes_on later))
bar_open before [] later linked = (before, linked, refl)
bar_open before (v ∷ vs) later (links, linked) =
    let (last, rest, is) = bar_open (Some v.sound) vs later linked in
    (last, rest, ap (λ o. open_after o (bar_said vs later)) (open_right v (next_goes_on (vs ++ later)) (sounds (vs ++ later) linked)) ∙ is)
  where
    sounds : (us : List VoiceValue) → Linked (Some v.sound) us → next_goes_on us ≡ true → is_rest v.sound.kind ≡ false
    sounds [] linked goes = absurd (false≢true goes)
    sounds (u ∷ us) (links, rest) goes = (links goes).0

-- ---- a voice

all_parts : {X : Type 0} (P : X → Type 0) (xs ys : List X) → All P (xs ++ ys) → All P xs × All P ys
all_parts P [] ys all = (All-nil P, all)
all_parts P (x ∷ xs) ys all =
    let (front, back) = all_parts P xs ys (All-tail P x (xs ++ ys) all) in
    (All-cons P x xs (All-head P x (xs ++ ys) all) front, back)

pub voice_fits : (r n : ℕ) (bars : List ScoreBar) (voice : List (List Said)) (before : Option Sound) (sounds : List Sound) (vss : List (List VoiceValue)) → 1 ≤ r → 64 * r ≤ 61440 → All IsScoreBar bars
    → ((k : ℕ) → slice_index_or voice (n + k) [] ≡ slice_index_or (voice_said vss) k []) → AreVoice r n bars sounds vss → All IsWellSounding sounds → Linked before (flat_map (λ vs. vs) vss)
    → FitsBars r n bars (tied_by before (next_goes_on (flat_map (λ vs. vs) vss))) voice
voice_fits r n [] voice before sounds vss some few right same (none, empty) well linked = ap (λ us. tied_by before (next_goes_on (flat_map (λ vs. vs) us))) empty ∙ none_open before
  where
    none_open : (o : Option Sound) → tied_by o false ≡ None
    none_open None = refl
    none_open (Some s) = refl
voice_fits r n (bar ∷ bars) voice before sounds [] some few right same are well linked = absurd are
voice_fits r n (bar ∷ bars) voice before sounds (vs ∷ vss) some few right same (own, after, all, is, rest) well linked =
    let later = flat_map (λ vs. vs) vss in
    let (well_own, well_after) = all_parts IsWellSounding own after (subst (All IsWellSounding) all well) in
    let bar_right = All-head IsScoreBar bar bars right in
    let here : said_in n voice ≡ bar_said vs later = let e : n ≡ n + 0 = omega arith in ap (λ i. slice_index_or voice i []) e ∙ same 0 in
    let next : (k : ℕ) → slice_index_or voice (suc n + k) [] ≡ slice_index_or (voice_said vss) k [] = λ k. let e : suc n + k ≡ n + suc k = omega arith in ap (λ i. slice_index_or voice i []) e ∙ same (suc k) in
    let full = is.full in
    let ends : r * bar.num ≡ 0 + sound_lens bar.num own = omega (arith, full) in
    let (chained, begins) = bar_chained r (r * bar.den) bar.num (r * bar.num) 0 0 own vs ends is.sounded in
    let well_values = bar_all IsWellSounding r (r * bar.den) bar.num 0 0 own vs well_own is.sounded in
    let fits = bar_fits r bar some few bar_right before vs later chained well_values linked in
    let (last, linked_after, opened) = bar_open before vs later linked in
    let tied = tied_by before (next_goes_on (vs ++ later)) in (
      subst (Fits (frame_of r bar) tied) (sym here) fits,
      ap (next_place (frame_of r bar)) here ∙ next_said r bar some few bar_right vs later ∙ begins ∙ omega arith,
      subst (λ o. FitsBars r (suc n) bars o voice) (sym (ap (open_after tied) here ∙ opened))
          (voice_fits r (suc n) bars voice last after vss some few (All-tail IsScoreBar bar bars right) next rest well_after linked_after),
    )
