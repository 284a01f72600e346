-- The tokens of the sounds of a bar.
use Rattle.std.proofs.Common.{◌≡◌, ℕ, zero, suc, ◌+◌, ◌-◌, ◌*◌, ◌^◌, ◌≤◌, Bool, List, [], ◌∷◌, ◌++◌, Option, Some, None, map, refl, sym, ap, ◌∙◌, subst, arith}
use Rattle.std.specs.Prelude.{All, slice_get}
use Rattle.std.proofs.Math.Nat.{div-mul_cancel}
use Rattle.std.proofs.lemmas.List.Elements.{All-head, All-tail}
use Rattle.std.proofs.lemmas.Nat.{pow_pos}
use Rattle.rhythm_base.specs.declared.sound.Sound.{Sound}
use Rattle.durations.specs.declared.joined.Written.{Written}
use Rattle.durations.specs.declared.value.Value.{Value}
use Rattle.durations.specs.Joined.{ArePlaced}
use Rattle.durations.specs.Value.{IsWide, parts, plain_parts, value_grid, width}
use Rattle.durations.proofs.Bars.{values_in, written_fills}
use Rattle.durations.proofs.Wide.{some_product, some_parts}
use Rattle.derivation.specs.declared.score.ScoreBar.{ScoreBar}
use Rattle.kern_writer.specs.Columns.{AreTokens, RiseFrom, column_tokens}
use Rattle.voice_values.specs.GoesOn.{next_in_column}
use Rattle.kern_writer.specs.Tokens.{Token, bar_tokens, token}
use Rattle.voice_values.specs.GoesOn.{next_goes_on}
use Rattle.score_words.specs.Changes.{has_flats}
use Rattle.voice_values.proofs.ValuesExist.{bar_values_exist}
use Rattle.voice_values.specs.Values.{VoiceValue, is_first, timed, value_of_sound, values_of_sounds}
use Rattle.kern_writer.proofs.Rising.{rise_weaker}

-- ---- their places rise

some_parts_of : (v : Value) → 1 ≤ parts v
some_parts_of v = let e = pow_pos v.dots in some_product (plain_parts v.recip) (2 * 2 ^ v.dots - 1) (some_parts v.recip) (omega (arith, e))

pub some_width : (whole : ℕ) (v : Value) → 1 ≤ whole → IsWide whole v → 1 ≤ width whole v
some_width whole v some wide = go (width whole v) (div-mul_cancel (value_grid v) wide) (some_product (parts v) whole (some_parts_of v) some)
  where
    go : (w : ℕ) → w * value_grid v ≡ parts v * whole → 1 ≤ parts v * whole → 1 ≤ w
    go zero e long = omega (arith, e, long)
    go (suc w) e long = omega arith

placed_rise :
    (whole p : ℕ) (sounds : List Sound) (before : Option ℕ) (ws : List Written) (flats after : Bool)
    → 1 ≤ whole → All (IsWide whole) (values_in ws) → ArePlaced whole p ws → RiseFrom p (column_tokens flats after (values_of_sounds sounds before ws))
placed_rise whole p sounds before [] flats after some wide placed = tt
placed_rise whole p sounds before (w ∷ ws) flats after some wide (from, next) =
    go (slice_get sounds w.leaf)
    (some_width whole w.value some (All-head (IsWide whole) w.value (values_in ws) wide))
    (placed_rise whole (p + width whole w.value) sounds (Some w.leaf) ws flats after some (All-tail (IsWide whole) w.value (values_in ws) wide) next)
  where
    rest : List VoiceValue
    rest = values_of_sounds sounds (Some w.leaf) ws

    go : (o : Option Sound) → 1 ≤ width whole w.value → RiseFrom (p + width whole w.value) (column_tokens flats after rest) → RiseFrom p (column_tokens flats after (value_of_sound o (is_first before w.leaf) w ++ rest))
    go None wide rise = rise_weaker p (p + width whole w.value) (column_tokens flats after rest) (omega arith) rise
    go (Some s) wide rise = (omega (arith, from), rise_weaker (suc w.from) (p + width whole w.value) (column_tokens flats after rest) (omega (arith, from, wide)) rise)

pub tokens_rise : (r : ℕ) (bar : ScoreBar) (after : Bool) (sounds : List Sound) (tokens : List Token) → 1 ≤ r * bar.den → AreTokens r bar after sounds tokens → RiseFrom 0 tokens
tokens_rise r bar after sounds tokens some (vs, (ws, written, values), are) =
    let fills = written_fills (r * bar.den) (map (timed bar) sounds) ws some written in
    let rise = placed_rise (r * bar.den) 0 sounds None ws (has_flats bar.sf) after some fills.sum.wide fills.places in
    subst (RiseFrom 0) (sym (are ∙ ap (column_tokens (has_flats bar.sf) after) values)) rise

-- ---- there are tokens, and only one list

pub tokens_exist : (r : ℕ) (bar : ScoreBar) (after : Bool) (sounds : List Sound) → 1 ≤ r * bar.den → (tokens : List Token) × AreTokens r bar after sounds tokens
tokens_exist r bar after sounds some = let vs = bar_values_exist r bar sounds some in (column_tokens (has_flats bar.sf) after vs.0, (vs.0, vs.1, refl))

-- ---- whether the values after a bar go on

next_of : (vs later : List VoiceValue) → next_goes_on (vs ++ later) ≡ next_in_column (next_goes_on later) vs
next_of [] later = refl
next_of (v ∷ vs) later = refl

pub bar_tokens_are : (flats : Bool) (vs later : List VoiceValue) → bar_tokens flats vs later ≡ column_tokens flats (next_goes_on later) vs
bar_tokens_are flats [] later = refl
bar_tokens_are flats (v ∷ vs) later = λ i. token flats v (next_of vs later i) ∷ bar_tokens_are flats vs later i
