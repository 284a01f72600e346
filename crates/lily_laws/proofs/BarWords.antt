-- The words of a bar's line, and what the bar is heard as.
use Rattle.rhythm_base.specs.declared.limits.TheConstants.{MOST_UNITS}
use Rattle.std.proofs.Common.{◌≡◌, ℕ, zero, suc, ◌+◌, ◌-◌, ◌*◌, ◌/◌, ◌≤◌, ◌==◌, ◌&&◌, not, Bool, true, false, List, [], ◌∷◌, ◌++◌, map, refl, sym, ap, ap₂, ◌∙◌, subst, arith, Option, Some, None}
use Rattle.std.specs.Prelude.{All, IfSome, codes, if◌then◌else◌}
use Rattle.std.specs.List.{flat_map}
use Rattle.std.specs.Option.{option_map}
use Rattle.std.proofs.Math.Nat.{mul-le-mul}
use Rattle.std.proofs.lemmas.Bool.{and_from}
use Rattle.std.proofs.lemmas.Bool.Decides.{nat_tests}
use Rattle.std.proofs.lemmas.List.Elements.{All-append, All-cons, All-head, All-nil, All-tail}
use Rattle.rhythm_base.specs.declared.span.Frac.{Frac}
use Rattle.rhythm_base.specs.declared.span.Span.{Span}
use Rattle.rhythm_base.specs.Lists.{Each}
use Rattle.durations.specs.declared.value.Value.{Value}
use Rattle.derivation.specs.declared.score.ScoreBar.{ScoreBar}
use Rattle.derivation.specs.Score.{IsScoreBar}
use Rattle.derivation.specs.WellSounded.{AreKeys}
use Rattle.text_words.specs.Steps.{◌>>=◌}
use Rattle.voice_events.proofs.ScoreBars.{parts_finer}
use Rattle.text_words.proofs.TextTests.{all_append, lacks}
use Rattle.voice_events.specs.Parts.{score_bar_parts, end_parts, start_parts}
use Rattle.voice_events.specs.VoiceEvents.{FollowFrom, IsVoiceSpan}
use Rattle.lily_writer.specs.Elements.{Element, grace_group, note_value, rest_value}
use Rattle.lily_writer.specs.Fractions.{frac, frac_plus, same_frac}
use Rattle.lily_writer.specs.Hearing.{hear_words, is_between}
use Rattle.lily_writer.specs.Pieces.{AreElements, Stretch, cut, elements_of, first_graces, bar_gap, grace_elements, has_length, notes, bar_pieces, sounding, stretches, tied_before}
use Rattle.lily_writer.specs.Pitches.{words}
use Rattle.lily_writer.specs.Reading.{after_bar, hear_bar, words_of_bar}
use Rattle.lily_writer.specs.Staves.{AreBarElements, staff_bar}
use Rattle.lily_laws.proofs.BarsHeard.{bar_heard}
use Rattle.lily_laws.proofs.ElementWords.{IsSounding, element_words, elements_graphic, elements_spaced, spaced, spaced_in_line, words_split}
use Rattle.lily_laws.proofs.Fractions.{plus_parts, same_value}
use Rattle.lily_laws.proofs.Reached.{reached, reached_between, reached_place}
use Rattle.lily_laws.proofs.ValuesHeard.{IsCounted, counted_values}

-- ---- the elements of the pieces of a voice can be read

module _ (r : ℕ) (some : 1 ≤ r) (few : r ≤ MOST_UNITS) where
  rests_sound : (vs : List Value) → All (IsCounted r) vs → All IsSounding (map rest_value vs)
  rests_sound [] are = All-nil IsSounding
  rests_sound (v ∷ vs) are = All-cons IsSounding (rest_value v) (map rest_value vs) (All-head (IsCounted r) v vs are).well
      (rests_sound vs (All-tail (IsCounted r) v vs are))

  notes_sound : (keys : ℕ) (short goes : Bool) (vs : List Value) → AreKeys keys → All (IsCounted r) vs
      → All IsSounding (notes keys short goes vs)
  notes_sound keys short goes [] is are = All-nil IsSounding
  notes_sound keys short goes (v ∷ vs) is are =
      All-cons IsSounding (note_value keys v short (tied_before goes vs)) (notes keys false goes vs)
      (is, (All-head (IsCounted r) v vs are).well)
      (notes_sound keys false goes vs is (All-tail (IsCounted r) v vs are))

  graces_sound : (first : Bool) (x : Span) → All AreKeys x.graces → All IsSounding (first_graces first x)
  graces_sound false x are = All-nil IsSounding
  graces_sound true x are = go x.graces are
    where
      go : (gs : List ℕ) → All AreKeys gs → All IsSounding (grace_elements gs)
      go [] are = All-nil IsSounding
      go (g ∷ gs) are = All-cons IsSounding (grace_group (g ∷ gs)) [] are (All-nil IsSounding)

  values_sound : (o : Option Span) (first goes : Bool) (vs : List Value) → IfSome o (IsVoiceSpan r) → All (IsCounted r) vs
      → All IsSounding (elements_of o first goes vs)
  values_sound None first goes vs is are = rests_sound vs are
  values_sound (Some x) first goes vs is are =
      All-append IsSounding (first_graces first x) (notes x.keys (first && x.short) goes vs) (graces_sound first x is.graces)
      (notes_sound x.keys (first && x.short) goes vs is.keys are)

  abbrev IsStretch : Stretch → Type 0
  IsStretch s = IfSome s.span (IsVoiceSpan r)

  voice_stretches : (s0 end : ℕ) (spans : List Span) → All (IsVoiceSpan r) spans → All IsStretch (stretches r s0 end spans)
  voice_stretches s0 end [] are = All-cons IsStretch (bar_gap s0 end) [] tt (All-nil IsStretch)
  voice_stretches s0 end (x ∷ spans) are =
      All-cons IsStretch (bar_gap s0 (start_parts r x)) (sounding r x ∷ stretches r (end_parts r x) end spans) tt
      (All-cons IsStretch (sounding r x) (stretches r (end_parts r x) end spans) (All-head (IsVoiceSpan r) x spans are)
      (voice_stretches (end_parts r x) end spans (All-tail (IsVoiceSpan r) x spans are)))

  pieces_sound : (from to : ℕ) (ss : List Stretch) (own : List (List Element)) → All IsStretch ss
      → Each (AreElements r) (bar_pieces from to ss) own
      → All IsSounding (flat_map (λ es. es) own)
  pieces_sound from to [] own are each = subst (λ list. All IsSounding (flat_map (λ es. es) list)) (sym each) (All-nil IsSounding)
  pieces_sound from to (s ∷ ss) own are each = go (has_length (cut from to s)) own each
      (λ own each. pieces_sound from to ss own (All-tail IsStretch s ss are) each)
    where
      go : (b : Bool) (own : List (List Element)) → Each (AreElements r)
          (if b then cut from to s ∷ bar_pieces from to ss else bar_pieces from to ss) own
          → ((own : List (List Element)) → Each (AreElements r) (bar_pieces from to ss) own → All IsSounding (flat_map (λ es. es) own))
          → All IsSounding (flat_map (λ es. es) own)
      go false own each next = next own each
      go true [] each next = absurd each
      go true (es ∷ own) ((vs, values, is), each) next =
          let p = cut from to s in
          All-append IsSounding es (flat_map (λ es. es) own)
          (subst (All IsSounding) (sym is) (values_sound s.span _ _ vs (All-head IsStretch s ss are)
          (counted_values r (p.to - p.from) vs some few values).0)) (next own each)

  pub bar_sounds : (from to end : ℕ) (spans : List Span) (elements : List Element) → All (IsVoiceSpan r) spans
      → AreBarElements r from to (stretches r 0 end spans) elements
      → All IsSounding elements
  bar_sounds from to end spans elements are (own, each, is) =
      subst (All IsSounding) (sym is) (pieces_sound from to (stretches r 0 end spans) own (voice_stretches 0 end spans are) each)

-- ---- the words of its line

line_words : (ws : List (List ℕ)) → words_of_bar (ws ++ codes "|" ∷ []) ≡ Some ws
line_words [] = refl
line_words (w ∷ []) = refl
line_words (w ∷ v ∷ ws) = ap (option_map (λ list. w ∷ list)) (line_words (v ∷ ws))

bar_words : (flats : Bool) (elements : List Element) → All IsSounding elements
    → words_of_bar (words (staff_bar flats elements)) ≡ Some (flat_map (element_words flats) elements)
bar_words flats elements are =
    let all = flat_map (element_words flats) elements in
    ap (λ text. words_of_bar (words (text ++ codes "|"))) (elements_spaced flats elements are)
    ∙ ap words_of_bar (words_split all (codes "|") (elements_graphic flats elements) refl) ∙ line_words all

pub bar_in_line : (flats : Bool) (elements : List Element) → All IsSounding elements → lacks 10 (staff_bar flats elements) ≡ true
bar_in_line flats elements are =
    let all = flat_map (element_words flats) elements in
    ap (λ text. lacks 10 (text ++ codes "|")) (elements_spaced flats elements are)
    ∙ all_append (λ b. not (b == 10)) (spaced all) (codes "|") (spaced_in_line all (elements_graphic flats elements)) refl

-- ---- the length of a bar

pub bar_some : (r : ℕ) (bar : ScoreBar) → 1 ≤ r → IsScoreBar bar → 1 ≤ score_bar_parts r bar
bar_some r bar some is =
    let part = part_some (64 / bar.den) (parts_finer 1 bar.den is.signature.power) in
    let unit : 1 ≤ bar.num * (64 / bar.den) = mul-le-mul {n₁ = 1} {m₁ = 1} {n₂ = bar.num} {m₂ = 64 / bar.den} is.signature.some part in
    mul-le-mul {n₁ = 1} {m₁ = 1} {n₂ = r} {m₂ = bar.num * (64 / bar.den)} some unit
  where
    part_some : (k : ℕ) → 1 * bar.den * k ≡ 64 * 1 → 1 ≤ k
    part_some zero e = absurd (omega (arith, e))
    part_some (suc k) e = omega arith

abbrev pub signature : ScoreBar → Frac
signature bar = frac bar.num bar.den

pub den_some : (den : ℕ) → 1 * den * (64 / den) ≡ 64 * 1 → 1 ≤ den
den_some zero e = absurd (omega (arith, e))
den_some (suc d) e = omega arith

signature_parts : (r : ℕ) (bar : ScoreBar) → 1 ≤ r → IsScoreBar bar → signature bar ≡ frac (score_bar_parts r bar) (64 * r)
signature_parts r bar some is =
    let whole = parts_finer 1 bar.den is.signature.power in
    same_value bar.num bar.den (score_bar_parts r bar) (64 * r) (den_some bar.den whole) (omega (arith, some))
    (ring bar.num r (64 / bar.den) bar.den (one bar.den (64 / bar.den) ∙ whole))
  where
    one : (d k : ℕ) → k * d ≡ 1 * d * k
    one d k = grind arith

    ring : (n r k d : ℕ) → k * d ≡ 64 * 1 → n * (64 * r) ≡ r * (n * k) * d
    ring n r k d e = let plain : n * (64 * r) ≡ r * n * 64 = grind arith in let turned : r * (n * k) * d ≡ r * n * (k * d) = grind arith in
        plain ∙ ap (λ x. r * n * x) (sym (e ∙ omega arith)) ∙ sym turned

-- ---- the bar

same_frac_self : (f : Frac) → same_frac f f ≡ true
same_frac_self f = and_from (f.num == f.num) (f.den == f.den) (same f.num) (same f.den)
  where
    same : (n : ℕ) → (n == n) ≡ true
    same n = grind (arith, nat_tests)

pub bar_read : (r end from : ℕ) (flats : Bool) (spans : List Span) (bar : ScoreBar) (elements : List Element) → 1 ≤ r → r ≤ MOST_UNITS
    → IsScoreBar bar
    → from + score_bar_parts r bar ≤ end → FollowFrom r end 0 spans → All (IsVoiceSpan r) spans
    → AreBarElements r from (from + score_bar_parts r bar) (stretches r 0 end spans) elements
    → hear_bar (signature bar) (reached r [] from spans) (staff_bar flats elements) ≡ Some (reached r [] (from + score_bar_parts r bar) spans)
unfolding hear_bar
bar_read r end from flats spans bar elements some few is within follow are all =
    let to = from + score_bar_parts r bar in
    let long = bar_some r bar some is in
    let read = bar_words flats elements (bar_sounds r some few from to end spans elements are all) in
    let heard = bar_heard r flats some few from to end (omega (arith, long)) within spans elements follow are all in
    let there : frac_plus (reached r [] from spans).at (signature bar) ≡ (reached r [] to spans).at =
    ap₂ frac_plus (reached_place r [] from spans) (signature_parts r bar some is)
    ∙ plus_parts from (score_bar_parts r bar) (64 * r) (omega (arith, some)) ∙ sym (reached_place r [] to spans) in
    let exact : same_frac (reached r [] to spans).at (frac_plus (reached r [] from spans).at (signature bar)) ≡ true =
    ap (same_frac (reached r [] to spans).at) there ∙ same_frac_self (reached r [] to spans).at in
    let over : after_bar (signature bar) (reached r [] from spans) (reached r [] to spans) ≡ Some (reached r [] to spans) =
    ap (λ b. if b then Some (reached r [] to spans) else None)
    (and_from (is_between (reached r [] to spans)) (same_frac (reached r [] to spans).at
    (frac_plus (reached r [] from spans).at (signature bar))) (reached_between r [] to spans) exact) in
    ap (λ o. o >>= λ ws. hear_words (reached r [] from spans) ws >>= λ next. after_bar (signature bar) (reached r [] from spans) next) read
    ∙ ap (λ o. o >>= λ next. after_bar (signature bar) (reached r [] from spans) next) heard ∙ over
