-- The spans of a column do not depend on its dots, nor on how fine its grid is.
use Rattle.std.proofs.Common.{◌≡◌, ℕ, ◌+◌, ◌*◌, ◌≤◌, Bool, true, false, List, [], ◌∷◌, ◌++◌, drop, refl, sym, ap, ap₂, ◌∙◌, arith}
use Rattle.kern_laws.proofs.PlaceSteps.{waiting_bar}
use Rattle.std.specs.Prelude.{All, reverse, sum, sum_by, take_while, if◌then◌else◌}
use Rattle.std.specs.List.{flat_map, prefix_len}
use Rattle.std.proofs.Math.Nat.{dvd-mul_left, dvd_trans, eq_of_mul-eq-mul_right, mul_comm}
use Rattle.std.proofs.lemmas.List.Elements.{All-cons, All-head, All-tail, All-take}
use Rattle.std.proofs.lemmas.List.Sums.{sum_by-cons}
use Rattle.rhythm_base.specs.declared.note.Bar.{Bar}
use Rattle.rhythm_base.specs.declared.sound.Sound.{Sound}
use Rattle.rhythm_base.specs.Lists.{Each}
use Rattle.durations.specs.Spans.{sound_length}
use Rattle.durations.specs.Spans as sounds
use Rattle.durations.specs.declared.value.Value.{Value}
use Rattle.durations.specs.Value.{parts, value_grid, width}
use Rattle.kern_reader.specs.declared.token.Token.{Token}
use Rattle.kern_reader.specs.declared.token.Token.TheVariants as token
use Rattle.kern_reader.specs.declared.token.Writing.{Writing}
use Rattle.kern_reader.specs.Columns.{continues, place, spine_after, spine_at, token_values, waiting}
use Rattle.kern_reader.specs.Events.{Beginning, bar_start, bars, beginnings, holds_tie, token_place, tied_values, token_bars}
use Rattle.kern_reader.specs.Score.{Counts, IsColumnOn, IsTokenOn}
use Rattle.kern_reader.proofs.SpineLemmas.{IsOn, spine_next, spine_scaled, take_while-stops, values_on, waiting_chord, waiting_grace, waiting_null, waiting_rest}
use Rattle.kern_reader.proofs.GridLemmas.{counted}
use Rattle.kern_laws.proofs.GridParts.{width_finer}
use Rattle.kern_laws.proofs.PlaceParts.{clean}
use Rattle.kern_laws.proofs.SpanMatch.{IsMatch}
use Rattle.kern_reader.proofs.EventLemmas.{tied_next}

-- ---- without dots

spine_clean : (grid : ℕ) (column : List Token) → spine_at grid (clean column) ≡ spine_at grid column
spine_clean grid [] = refl
spine_clean grid (token.Bar signature ∷ column) =
    spine_next grid (token.Bar signature) (clean column) ∙ ap (λ s. spine_after grid s (token.Bar signature)) (spine_clean grid column) ∙ sym (spine_next grid (token.Bar signature) column)
spine_clean grid (token.Null ∷ column) = spine_clean grid column ∙ sym (spine_next grid token.Null column)
spine_clean grid (token.Rest value ∷ column) =
    spine_next grid (token.Rest value) (clean column) ∙ ap (λ s. spine_after grid s (token.Rest value)) (spine_clean grid column) ∙ sym (spine_next grid (token.Rest value) column)
spine_clean grid (token.Grace keys ∷ column) =
    spine_next grid (token.Grace keys) (clean column) ∙ ap (λ s. spine_after grid s (token.Grace keys)) (spine_clean grid column) ∙ sym (spine_next grid (token.Grace keys) column)
spine_clean grid (token.Chord writing keys ∷ column) =
    spine_next grid (token.Chord writing keys) (clean column) ∙ ap (λ s. spine_after grid s (token.Chord writing keys)) (spine_clean grid column) ∙ sym (spine_next grid (token.Chord writing keys) column)

waiting_clean : (column : List Token) → waiting (clean column) ≡ waiting column
waiting_clean [] = refl
waiting_clean (token.Bar signature ∷ column) = waiting_bar signature (clean column) ∙ sym (waiting_bar signature column)
waiting_clean (token.Null ∷ column) = waiting_clean column ∙ sym (waiting_null column)
waiting_clean (token.Rest value ∷ column) = waiting_rest value (clean column) ∙ sym (waiting_rest value column)
waiting_clean (token.Grace keys ∷ column) = waiting_grace keys (clean column) ∙ ap (λ xs. keys ∷ xs) (waiting_clean column) ∙ sym (waiting_grace keys column)
waiting_clean (token.Chord writing keys ∷ column) = waiting_chord writing keys (clean column) ∙ sym (waiting_chord writing keys column)

bars_clean : (column : List Token) → bars (clean column) ≡ bars column
bars_clean [] = refl
bars_clean (token.Bar signature ∷ column) = ap (λ xs. token_bars (token.Bar signature) ++ xs) (bars_clean column)
bars_clean (token.Null ∷ column) = bars_clean column
bars_clean (token.Rest value ∷ column) = bars_clean column
bars_clean (token.Grace keys ∷ column) = bars_clean column
bars_clean (token.Chord writing keys ∷ column) = bars_clean column

place_clean : (grid : ℕ) (before : List Token) → token_place grid (clean before) ≡ token_place grid before
place_clean grid before = ap₂ (λ xs s. grid * sum (drop 1 xs) + 64 * s.place) (bars_clean before) (spine_clean grid before)

pub tied_stops : (t : Token) (ts : List Token) → holds_tie t ≡ false → tied_values (t ∷ ts) ≡ []
tied_stops t ts holds = ap (flat_map token_values) (take_while-stops holds_tie t ts holds)

tied_clean : (ts : List Token) → tied_values (clean ts) ≡ tied_values ts
tied_clean [] = refl
tied_clean (token.Bar signature ∷ ts) = tied_next (token.Bar signature) (clean ts) refl ∙ tied_clean ts ∙ sym (tied_next (token.Bar signature) ts refl)
tied_clean (token.Null ∷ ts) = tied_clean ts ∙ sym (tied_next token.Null ts refl)
tied_clean (token.Rest value ∷ ts) = tied_stops (token.Rest value) (clean ts) refl ∙ sym (tied_stops (token.Rest value) ts refl)
tied_clean (token.Grace keys ∷ ts) = tied_next (token.Grace keys) (clean ts) refl ∙ tied_clean ts ∙ sym (tied_next (token.Grace keys) ts refl)
tied_clean (token.Chord writing keys ∷ ts) = go (continues writing) refl (tied_clean ts)
  where
    go : (b : Bool) → continues writing ≡ b → tied_values (clean ts) ≡ tied_values ts → tied_values (token.Chord writing keys ∷ clean ts) ≡ tied_values (token.Chord writing keys ∷ ts)
    go true e rest = tied_next (token.Chord writing keys) (clean ts) e ∙ ap (λ xs. writing.value ∷ xs) rest ∙ sym (tied_next (token.Chord writing keys) ts e)
    go false e rest = tied_stops (token.Chord writing keys) (clean ts) e ∙ sym (tied_stops (token.Chord writing keys) ts e)

-- ---- on a finer grid

module _ (g t : ℕ) where
  sum_finer : (vs : List Value) → ((v : Value) → IsOn g v → width (g * t) v ≡ width g v * t) → All (IsOn g) vs → sum_by (width (g * t)) vs ≡ sum_by (width g) vs * t
  sum_finer [] finer are = omega arith
  sum_finer (v ∷ vs) finer are =
      sum_by-cons (width (g * t)) v vs ∙ ap₂ ◌+◌ (finer v (All-head (IsOn g) v vs are)) (sum_finer vs finer (All-tail (IsOn g) v vs are)) ∙ joined (width g v) (sum_by (width g) vs) t
      ∙ ap (λ x. x * t) (sym (sum_by-cons (width g) v vs))
    where
      joined : (a b t : ℕ) → a * t + b * t ≡ (a + b) * t
      joined a b t = grind arith

  width_more : (v : Value) → IsOn g v → width (g * t) v ≡ width g v * t
  width_more v (well, divides) = width_finer g t (g * t) v (counted v well).0 refl (dvd_trans (value_grid v) divides (dvd-mul_left g (parts v))) ∙ mul_comm t (width g v)

  module _ (positive : 1 ≤ t) where
    place_more : (before : List Token) → IsColumnOn g before → token_place (g * t) before ≡ token_place g before * t
    place_more before on = ap (λ s. g * t * bar_start before + 64 * s.place) (spine_scaled g t before on) ∙ joined g t (bar_start before) (place g before)
      where
        joined : (g t s p : ℕ) → g * t * s + 64 * (p * t) ≡ (g * s + 64 * p) * t
        joined g t s p = grind arith

    tied_more : (after : List Token) → IsColumnOn g after → sum_by (width (g * t)) (tied_values after) ≡ sum_by (width g) (tied_values after) * t
    tied_more after on =
        sum_finer (tied_values after) width_more (values_on g (take_while holds_tie after) (All-take (IsTokenOn g) (prefix_len holds_tie after) after on))

    -- a chord that matches without dots on the finer grid matches
    match_original : (r : ℕ) (all : List Bar) (before after : List Token) (writing : Writing) (keys : ℕ) (run : Sound × List Sound) → IsColumnOn g before → IsColumnOn g after → IsOn g writing.value
        → IsMatch (g * t) r all (record { before = clean before; writing = writing; keys = keys; after = clean after }) run
        → IsMatch g r all (record { before = before; writing = writing; keys = keys; after = after }) run
    match_original r all before after writing keys run on_before on_after on match = record {
      start = eq_of_mul-eq-mul_right t positive (token_place g before * (64 * r)) (sounds.place_of r all run.0 * (64 * g))
          (first (token_place g before) (64 * r) t ∙ ap (λ x. x * (64 * r)) (sym (place_clean (g * t) before ∙ place_more before on_before)) ∙ match.start ∙ second (sounds.place_of r all run.0) g t);
      len = eq_of_mul-eq-mul_right t positive ((width g writing.value + sum_by (width g) (tied_values after)) * (64 * r)) (sum_by (sound_length all) (run.0 ∷ run.1) * g)
          (first (width g writing.value + sum_by (width g) (tied_values after)) (64 * r) t ∙ ap (λ x. x * (64 * r)) (sym long) ∙ match.len ∙ third (sum_by (sound_length all) (run.0 ∷ run.1)) g t);
      keys = match.keys;
      graces = ap reverse (sym (waiting_clean before)) ∙ match.graces;
      short = match.short;
    }
      where
        long : width (g * t) writing.value + sum_by (width (g * t)) (tied_values (clean after)) ≡ (width g writing.value + sum_by (width g) (tied_values after)) * t
        long = ap₂ ◌+◌ (width_more writing.value on) (ap (sum_by (width (g * t))) (tied_clean after) ∙ tied_more after on_after) ∙ joined (width g writing.value) (sum_by (width g) (tied_values after)) t
          where
            joined : (a b t : ℕ) → a * t + b * t ≡ (a + b) * t
            joined a b t = grind arith

        first : (p r t : ℕ) → p * r * t ≡ p * t * r
        first p r t = grind arith

        second : (p g t : ℕ) → p * (64 * (g * t)) ≡ p * (64 * g) * t
        second p g t = grind arith

        third : (p g t : ℕ) → p * (g * t) ≡ p * g * t
        third p g t = grind arith

    pub each_original : (r : ℕ) (all : List Bar) (before ts : List Token) (runs : List (Sound × List Sound)) → IsColumnOn g before → IsColumnOn g ts
        → Each (IsMatch (g * t) r all) (beginnings (clean before) (clean ts)) runs → Each (IsMatch g r all) (beginnings before ts) runs
    each_original r all before [] runs on later each = each
    each_original r all before (token.Bar signature ∷ ts) runs on later each =
        each_original r all (token.Bar signature ∷ before) ts runs (All-cons (IsTokenOn g) (token.Bar signature) before (All-head (IsTokenOn g) (token.Bar signature) ts later) on)
        (All-tail (IsTokenOn g) (token.Bar signature) ts later) each
    each_original r all before (token.Null ∷ ts) runs on later each =
        each_original r all (token.Null ∷ before) ts runs (All-cons (IsTokenOn g) token.Null before (All-head (IsTokenOn g) token.Null ts later) on) (All-tail (IsTokenOn g) token.Null ts later) each
    each_original r all before (token.Rest value ∷ ts) runs on later each =
        each_original r all (token.Rest value ∷ before) ts runs (All-cons (IsTokenOn g) (token.Rest value) before (All-head (IsTokenOn g) (token.Rest value) ts later) on)
        (All-tail (IsTokenOn g) (token.Rest value) ts later) each
    each_original r all before (token.Grace keys ∷ ts) runs on later each =
        each_original r all (token.Grace keys ∷ before) ts runs (All-cons (IsTokenOn g) (token.Grace keys) before (All-head (IsTokenOn g) (token.Grace keys) ts later) on)
        (All-tail (IsTokenOn g) (token.Grace keys) ts later) each
    each_original r all before (token.Chord writing keys ∷ ts) runs on later each =
        go (continues writing) runs each
        (λ more rest. each_original r all (token.Chord writing keys ∷ before) ts more (All-cons (IsTokenOn g) (token.Chord writing keys) before own on) (All-tail (IsTokenOn g) (token.Chord writing keys) ts later) rest)
      where
        own : IsTokenOn g (token.Chord writing keys)
        own = All-head (IsTokenOn g) (token.Chord writing keys) ts later

        here : Beginning
        here = record { before = before; writing = writing; keys = keys; after = ts }

        cleaned : Beginning
        cleaned = record { before = clean before; writing = writing; keys = keys; after = clean ts }

        go : (b : Bool) (runs : List (Sound × List Sound))
            → Each (IsMatch (g * t) r all) ((if b then [] else record { before = clean before; writing = writing; keys = keys; after = clean ts } ∷ []) ++ beginnings (token.Chord writing keys ∷ clean before) (clean ts)) runs
            → ((more : List (Sound × List Sound)) → Each (IsMatch (g * t) r all) (beginnings (token.Chord writing keys ∷ clean before) (clean ts)) more → Each (IsMatch g r all) (beginnings (token.Chord writing keys ∷ before) ts) more)
            → Each (IsMatch g r all) ((if b then [] else record { before = before; writing = writing; keys = keys; after = ts } ∷ []) ++ beginnings (token.Chord writing keys ∷ before) ts) runs
        go true runs each next = next runs each
        go false [] each next = absurd each
        go false (run ∷ runs) (one, rest) next =
            (match_original r all before ts writing keys run on (All-tail (IsTokenOn g) (token.Chord writing keys) ts later) (own.0, All-head (Counts g) writing.value [] own.1) one, next runs rest)
