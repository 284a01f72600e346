-- The sounds of a bar as segments, and their values as tokens.
use Rattle.std.proofs.Common.{◌≡◌, ℕ, zero, suc, ◌+◌, ◌*◌, ◌≤◌, ◌==◌, Bool, true, false, ◌&&◌, ◌||◌, not, List, [], ◌∷◌, ◌++◌, Some, None, take, refl, sym, ap, ap₂, ◌∙◌, subst, ◌⊎◌, inl, inr, arith}
use Rattle.std.specs.Prelude.{All, if◌then◌else◌, sum_by}
use Rattle.std.proofs.lemmas.Bool.{false≢true}
use Rattle.std.proofs.lemmas.List.{map-append}
use Rattle.std.proofs.lemmas.List.Elements.{All-head, All-tail}
use Rattle.std.proofs.lemmas.List.Sums.{sum_by-cons}
use Rattle.rhythm_base.specs.declared.sound.Sound.{Sound}
use Rattle.rhythm_base.specs.declared.sound.SoundKind.{SoundKind}
use Rattle.rhythm_base.specs.declared.sound.SoundKind.TheVariants.{Begin, Short, Tie, Rest}
use Rattle.rhythm_base.specs.SoundKinds.{is_rest, is_short, is_tie}
use Rattle.durations.specs.declared.value.Value.{Value}
use Rattle.durations.specs.Value.{value_grid, width}
use Rattle.derivation.specs.declared.score.ScoreBar.{ScoreBar}
use Rattle.derivation.specs.Score.{IsScoreBar}
use Rattle.voice_values.specs.GoesOn.{next_in_column, goes_on}
use Rattle.voice_values.specs.Values.{VoiceValue}
use Rattle.text_words.specs.Steps.{◌>>=◌}
use Rattle.notation.specs.Tokens.{value_token}
use Rattle.notation.proofs.BarRuns.{scale, scaled, wide_scaled}
use Rattle.notation.proofs.Values.{some_divisor}
use Rattle.voice_values.proofs.BarSounded.{AreSounded, AreTies, IsValue, leaf_values, sound_len, sound_lens}
use Rattle.notation_laws.specs.Hearing.{HeardVoice}
use Rattle.notation_laws.proofs.Segments.{IsBegin, IsMore, IsRest, Segment, begin_heard, begun, clean, hear_segment, hear_segments, more_heard, more_only, rest_heard, rest_or_begin, sounded}
use Rattle.notation_laws.proofs.Says.{IsSplit, Says, heard_only, join_says, joint, says_both, says_front, says_same, says_then, split_says}
use Rattle.notation_laws.proofs.TokenSegments.{token_segment, token_segments, whole_tokens}

-- the sound after some is a tie
abbrev pub next_ties : Bool → List Sound → Bool
next_ties after [] = after
next_ties after (s ∷ sounds) = is_tie s.kind

-- in a bar with so many parts to the unit
abbrev pub sound_segment : ℕ → Bool → Sound → Segment
sound_segment unit next s =
    record { len = s.width * unit; keys = s.keys; graces = s.graces; short = is_short s.kind; comes = is_tie s.kind; goes = next }

abbrev pub sound_segments : ℕ → Bool → List Sound → List Segment
sound_segments unit after [] = []
sound_segments unit after (s ∷ sounds) = sound_segment unit (next_ties after sounds) s ∷ sound_segments unit after sounds

-- ---- a segment that is said in another way

pub record IsAlike (p q : Segment) : Type 0 where
  pub len : q.len ≡ p.len
  pub keys : q.keys ≡ p.keys
  pub graces : q.graces ≡ p.graces
  pub short : q.short ≡ p.short
  pub held : (p.keys == 0) ≡ false → (q.comes ≡ p.comes) × (q.goes ≡ p.goes)
  pub loose : (p.keys == 0) ≡ true → (q.comes ≡ false) × (q.goes ≡ false)

only : (h next : HeardVoice ℕ) (p : Segment) → hear_segment h p ≡ Some next → hear_segments h (p ∷ []) ≡ Some next
only h next p e = ap (λ o. o >>= λ next. hear_segments next []) e

pub alike_says : (p q : Segment) → IsAlike p q → Says (p ∷ []) (q ∷ [])
alike_says p q is done at None h e = only (clean done at None) h q (go (rest_or_begin done at p h (heard_only (clean done at None) h p e)))
  where
    place : at + p.len ≡ at + q.len
    place = ap (λ k. at + k) (sym is.len)

    go : (IsRest p × (h ≡ clean done (at + p.len) None)) ⊎ (IsBegin p × (h ≡ sounded p.goes done (at + p.len) (begun at p)))
        → hear_segment (clean done at None) q ≡ Some h
    go (inl (rest, same)) =
        let (comes, goes) = is.loose rest.silent in
        let own : IsRest q = record {
          silent = ap (λ k. k == 0) is.keys ∙ rest.silent;
          graces = is.graces ∙ rest.graces;
          short = is.short ∙ rest.short;
          comes = comes;
          goes = goes;
        } in
        rest_heard done at q own ∙ ap (λ k. Some (clean done k None)) (sym place) ∙ ap (λ k. Some k) (sym same)
    go (inr (begin, same)) =
        let (comes, goes) = is.held begin.sounds in
        let own : IsBegin q = record { sounds = ap (λ k. k == 0) is.keys ∙ begin.sounds; comes = comes ∙ begin.comes } in
        let span : begun at q ≡ begun at p =
        λ i. record { start = at; len = is.len i; keys = is.keys i; graces = is.graces i; short = is.short i } in
        begin_heard done at q own ∙ (λ i. Some (sounded (goes i) done (sym place i) (span i))) ∙ ap (λ k. Some k) (sym same)
alike_says p q is done at (Some x) h e =
    let (more, same) = more_only done at x p h (heard_only (clean done at (Some x)) h p e) in
    let (comes, goes) = is.held more.sounds in
    let own : IsMore x q = record {
      sounds = ap (λ k. k == 0) is.keys ∙ more.sounds;
      graces = is.graces ∙ more.graces;
      short = is.short ∙ more.short;
      comes = comes ∙ more.comes;
      same = ap (λ k. x.keys == k) is.keys ∙ more.same;
    } in
    only (clean done at (Some x)) h q
    (more_heard done at x q own ∙ (λ i. Some (sounded (goes i) done (at + is.len i) (record x { len = x.len + is.len i })))
    ∙ ap (λ k. Some k) (sym same))

-- ---- the values of a leaf

-- a sound has keys unless it is a rest
abbrev pub IsKeyed : Sound → Type 0
IsKeyed s = (s.keys == 0) ≡ is_rest s.kind

abbrev leaf_value : ℕ → Sound → Bool → Value → VoiceValue
leaf_value place s first v = record { place = place; value = v; sound = s; first = first }

-- a leaf, or what of it follows its first value
abbrev leaf_piece : Sound → Bool → ℕ → Bool → Segment
leaf_piece s first len goes = record {
  len = len;
  keys = s.keys;
  graces = if first then s.graces else [];
  short = is_short s.kind && first;
  comes = not (is_rest s.kind) && (is_tie s.kind || not first);
  goes = not (is_rest s.kind) && goes;
}

module _ (r : ℕ) (bar : ScoreBar) where
  abbrev lens : List Value → ℕ
  lens vs = sum_by (width (64 * r)) vs

  value_says : (place : ℕ) (s : Sound) (first next : Bool) (v : Value) → IsKeyed s
      → Says (leaf_piece s first (width (64 * r) v) next ∷ []) (token_segment (value_token r bar next (leaf_value place s first v)) ∷ [])
  value_says place s first next v keyed =
      alike_says (leaf_piece s first (width (64 * r) v) next) (token_segment (value_token r bar next (leaf_value place s first v)))
      (record {
        len = omega arith;
        keys = refl;
        graces = refl;
        short = marked (is_short s.kind && first);
        held = λ e. (
          ap (λ b. not b && (false || goes_on (leaf_value place s first v))) e,
          ap (λ b. not b && next) e
              ∙ sym (ap (λ b. not b && next) (sym keyed ∙ e)),
        );
        loose = λ e. (ap (λ b. not b && (false || goes_on (leaf_value place s first v))) e, ap (λ b. not b && next) e);
      })
    where
      marked : (b : Bool) → (b && true) ≡ b
      marked true = refl
      marked false = refl

  -- whether the leaf goes on after its last value
  leaf_says : (place : ℕ) (s : Sound) (first next : Bool) (v : Value) (vs : List Value) → IsKeyed s
      → Says (leaf_piece s first (lens (v ∷ vs)) next ∷ [])
      (token_segments (whole_tokens r bar next (leaf_values (r * bar.den) place s first (v ∷ vs))))
  leaf_says place s first next v [] keyed =
      let one : lens (v ∷ []) ≡ width (64 * r) v = omega (arith, sum_by-cons (width (64 * r)) v []) in
      subst (λ k. Says (leaf_piece s first k next ∷ []) (token_segment (value_token r bar next (leaf_value place s first v)) ∷ []))
      (sym one)
      (value_says place s first next v keyed)
  leaf_says place s first next v (w ∷ vs) keyed =
      let after = place + width (r * bar.den) v in
      let more = goes_on (leaf_value after s false w) in
      let p = leaf_piece s first (lens (v ∷ w ∷ vs)) next in
      let a = leaf_piece s first (width (64 * r) v) more in
      let b = leaf_piece s false (lens (w ∷ vs)) next in
      let is : IsSplit p a b = record {
        len = sum_by-cons (width (64 * r)) v (w ∷ vs);
        keys = refl;
        more = refl;
        graces = refl;
        none = refl;
        short = refl;
        plain = unmarked (is_short s.kind);
        comes = refl;
        goes = refl;
        held = λ e. (held (is_rest s.kind) (is_tie s.kind) (sym keyed ∙ e), on (is_rest s.kind) (is_tie s.kind) (sym keyed ∙ e));
        loose = λ e. (ap (λ b. not b && more) (sym keyed ∙ e), ap (λ b. not b && (is_tie s.kind || true)) (sym keyed ∙ e));
      } in
      let own = token_segment (value_token r bar more (leaf_value place s first v)) in
      let others = token_segments (whole_tokens r bar next (leaf_values (r * bar.den) after s false (w ∷ vs))) in
      says_then (p ∷ []) (a ∷ b ∷ []) (own ∷ others) (split_says p a b is)
      (says_both (a ∷ []) (own ∷ []) (b ∷ []) others (value_says place s first more v keyed) (leaf_says after s false next w vs keyed))
    where
      unmarked : (b : Bool) → (b && false) ≡ false
      unmarked true = refl
      unmarked false = refl

      on : (rest tie : Bool) → rest ≡ false → (not rest && (tie || true)) ≡ true
      on false true e = refl
      on false false e = refl
      on true tie e = absurd (false≢true (sym e))

      held : (rest tie : Bool) → rest ≡ false → (not rest && (not rest && (tie || true))) ≡ true
      held false true e = refl
      held false false e = refl
      held true tie e = absurd (false≢true (sym e))

-- ---- the ties that are joined to a sound

abbrev pub after_first : ℕ → List Sound → List Sound
after_first zero sounds = sounds
after_first (suc d) [] = []
after_first (suc d) (s ∷ sounds) = after_first d sounds

abbrev pub first_lens : ℕ → ℕ → List Sound → ℕ
first_lens unit zero sounds = 0
first_lens unit (suc d) [] = 0
first_lens unit (suc d) (s ∷ sounds) = s.width * unit + first_lens unit d sounds

ties_say : (unit d : ℕ) (after : Bool) (p : Segment) (more : List Sound) → p.goes ≡ next_ties after more → AreTies d more
    → Says (p ∷ sound_segments unit after more)
    (record p { len = p.len + first_lens unit d more; goes = next_ties after (after_first d more) } ∷ sound_segments unit after
    (after_first d more))
ties_say unit zero after p more goes ties =
    let same : p ≡ record p { len = p.len + 0; goes = next_ties after more } = let len : p.len
    ≡ p.len + 0 = omega arith in λ i. record p { len = len i; goes = goes i } in
    subst (λ q. Says (p ∷ sound_segments unit after more) (q ∷ sound_segments unit after more)) same
    (says_same (p ∷ sound_segments unit after more))
ties_say unit (suc d) after p [] goes ties =
    let same : p ≡ record p { len = p.len + 0; goes = after } = let len : p.len
    ≡ p.len + 0 = omega arith in λ i. record p { len = len i; goes = goes i } in
    subst (λ q. Says (p ∷ []) (q ∷ [])) same (says_same (p ∷ []))
ties_say unit (suc d) after p (s ∷ more) goes (tie, ties) =
    let next = next_ties after more in
    let t = sound_segment unit next s in
    let j = joint p t next in
    let rest = sound_segments unit after (after_first d more) in
    let last = next_ties after (after_first d more) in
    let len : p.len + s.width * unit + first_lens unit d more ≡ p.len + (s.width * unit + first_lens unit d more) = omega arith in
    says_then (p ∷ t ∷ sound_segments unit after more) (j ∷ sound_segments unit after more)
    (record p { len = p.len + (s.width * unit + first_lens unit d more); goes = last } ∷ rest)
    (says_front (p ∷ t ∷ []) (j ∷ []) (sound_segments unit after more) (join_says p t next (λ e. refl) (inl (goes ∙ tie))))
    (subst (λ k. Says (j ∷ sound_segments unit after more) (record p { len = k; goes = last } ∷ rest)) len
    (ties_say unit d after j more refl ties))

-- ---- the values of the sounds of a bar

column_append : (after : Bool) (xs ys : List VoiceValue) → next_in_column after (xs ++ ys) ≡ next_in_column (next_in_column after ys) xs
column_append after [] ys = refl
column_append after (x ∷ xs) ys = refl

whole_append : (r : ℕ) (bar : ScoreBar) (after : Bool) (xs ys : List VoiceValue)
    → whole_tokens r bar after (xs ++ ys) ≡ whole_tokens r bar (next_in_column after ys) xs ++ whole_tokens r bar after ys
whole_append r bar after [] ys = refl
whole_append r bar after (x ∷ xs) ys = ap₂ (λ b ts. value_token r bar b x ∷ ts) (column_append after xs ys) (whole_append r bar after xs ys)

pub tie_first : (k : SoundKind) → (not (is_rest k) && (is_tie k || false)) ≡ is_tie k
tie_first Begin = refl
tie_first Short = refl
tie_first Tie = refl
tie_first Rest = refl

-- the first of the values goes on where the first of the sounds is a tie
pub column_next : (r whole num d place : ℕ) (after : Bool) (sounds : List Sound) (vs : List VoiceValue)
    → AreSounded r whole num d place sounds vs
    → next_in_column after vs ≡ next_ties after (after_first d sounds)
column_next r whole num zero place after [] vs h = ap (next_in_column after) h
column_next r whole num (suc d) place after [] vs h = ap (next_in_column after) h
column_next r whole num (suc d) place after (s ∷ sounds) vs h = column_next r whole num d (place + sound_len num s) after sounds vs h.1
column_next r whole num zero place after (s ∷ sounds) vs (d, v, values, rest, group, ties, same, next) =
    ap (next_in_column after) same ∙ tie_first s.kind

module _ (r : ℕ) (bar : ScoreBar) (some : 1 ≤ r) (right : IsScoreBar bar) where
  abbrev pub unit_of : ℕ
  unit_of = bar.num * scale bar

  lens_are : (vs : List Value) → All (IsValue r (r * bar.den)) vs → lens r bar vs ≡ sum_by (width (r * bar.den)) vs * scale bar
  lens_are [] all = omega arith
  lens_are (v ∷ vs) all =
      let own = All-head (IsValue r (r * bar.den)) v vs all in
      let n = some_divisor (value_grid v) (64 * r) (omega (arith, some)) own.counts in
      let long = wide_scaled (r * bar.den) (scale bar) (64 * r) v n (scaled r bar right) own.wide in
      sum_by-cons (width (64 * r)) v vs ∙ ap₂ ◌+◌ long (lens_are vs (All-tail (IsValue r (r * bar.den)) v vs all))
      ∙ joined (width (r * bar.den) v) (sum_by (width (r * bar.den)) vs) (scale bar)
      ∙ ap (λ k. k * scale bar) (sym (sum_by-cons (width (r * bar.den)) v vs))
    where
      joined : (a b c : ℕ) → a * c + b * c ≡ (a + b) * c
      joined a b c = omega arith

  first_are : (d : ℕ) (sounds : List Sound) → first_lens unit_of d sounds ≡ sound_lens bar.num (take d sounds) * scale bar
  first_are zero sounds = omega arith
  first_are (suc d) [] = omega arith
  first_are (suc d) (s ∷ sounds) =
      ap (λ k. s.width * unit_of + k) (first_are d sounds) ∙ joined s.width bar.num (scale bar) (sound_lens bar.num (take d sounds))
      ∙ ap (λ k. k * scale bar) (sym (sum_by-cons (sound_len bar.num) s (take d sounds)))
    where
      joined : (w n c b : ℕ) → w * (n * c) + b * c ≡ (w * n + b) * c
      joined w n c b = grind arith

  pub sounds_say : (d place : ℕ) (after : Bool) (sounds : List Sound) (vs : List VoiceValue) → All IsKeyed sounds
      → AreSounded r (r * bar.den) bar.num d place sounds vs
      → Says (sound_segments unit_of after (after_first d sounds)) (token_segments (whole_tokens r bar after vs))
  sounds_say zero place after [] vs keyed h = subst (λ us. Says [] (token_segments (whole_tokens r bar after us))) (sym h) (says_same [])
  sounds_say (suc d) place after [] vs keyed h = subst (λ us. Says [] (token_segments (whole_tokens r bar after us))) (sym h) (says_same [])
  sounds_say (suc d) place after (s ∷ sounds) vs keyed h =
      sounds_say d (place + sound_len bar.num s) after sounds vs (All-tail IsKeyed s sounds keyed) h.1
  sounds_say zero place after (s ∷ sounds) vs keyed (d, v, values, rest, group, ties, same, next) =
      let own = All-head IsKeyed s sounds keyed in
      let p = sound_segment unit_of (next_ties after sounds) s in
      let goes = next_ties after (after_first d sounds) in
      let q = record p { len = s.width * unit_of + first_lens unit_of d sounds; goes = goes } in
      let later = sound_segments unit_of after (after_first d sounds) in
      let g = next_in_column after rest in
      let leaf = leaf_piece s true (lens r bar (v ∷ values)) g in
      let column = column_next r (r * bar.den) bar.num d (place + sound_len bar.num s) after sounds rest next in
      let len : lens r bar (v ∷ values) ≡ s.width * unit_of + first_lens unit_of d sounds =
      lens_are (v ∷ values) group.each ∙ ap (λ k. k * scale bar) group.sum
      ∙ spread s.width bar.num (scale bar) (sound_lens bar.num (take d sounds))
      ∙ ap (λ k. s.width * unit_of + k) (sym (first_are d sounds)) in
      let is : IsAlike q leaf = record {
        len = len;
        keys = refl;
        graces = refl;
        short = marked (is_short s.kind);
        held = λ e. (tie_first s.kind, sounding (is_rest s.kind) g (sym own ∙ e) ∙ column);
        loose = λ e. (ap (λ b. not b && (is_tie s.kind || false)) (sym own ∙ e), ap (λ b. not b && g) (sym own ∙ e));
      } in
      let own_values = leaf_values (r * bar.den) place s true (v ∷ values) in
      let front = whole_tokens r bar g own_values in
      let back = whole_tokens r bar after rest in
      let first = says_then (q ∷ []) (leaf ∷ []) (token_segments front) (alike_says q leaf is)
      (leaf_says r bar place s true g v values own) in
      let others = sounds_say d (place + sound_len bar.num s) after sounds rest (All-tail IsKeyed s sounds keyed) next in
      let all = says_then (p ∷ sound_segments unit_of after sounds) (q ∷ later) (token_segments front ++ token_segments back)
      (ties_say unit_of d after p sounds refl ties) (says_both (q ∷ []) (token_segments front) later (token_segments back) first others) in
      let list : token_segments (whole_tokens r bar after vs) ≡ token_segments front ++ token_segments back =
      ap (λ us. token_segments (whole_tokens r bar after us)) same ∙ ap token_segments (whole_append r bar after own_values rest)
      ∙ map-append token_segment front back in
      subst (λ ss. Says (p ∷ sound_segments unit_of after sounds) ss) (sym list) all
    where
      marked : (b : Bool) → (b && true) ≡ b
      marked true = refl
      marked false = refl

      sounding : (rest goes : Bool) → rest ≡ false → (not rest && goes) ≡ goes
      sounding false goes e = refl
      sounding true goes e = absurd (false≢true (sym e))

      spread : (w n c b : ℕ) → (w * n + b) * c ≡ w * (n * c) + b * c
      spread w n c b = grind arith
