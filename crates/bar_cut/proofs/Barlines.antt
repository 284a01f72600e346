-- The barlines of a voice, and its bars from one of them on.
use Rattle.std.proofs.Common.{◌≡◌, ℕ, zero, suc, ◌+◌, ◌<◌, List, [], ◌∷◌, length, drop, take, get_or, subst, refl, ap, ◌∙◌, arith}
use Rattle.std.specs.Prelude.{All, Some, slice_get}
use Rattle.rhythm_base.specs.declared.note.Bar.{Bar}
use Rattle.rhythm_base.specs.declared.pin.Pin.{Pin}
use Rattle.rhythm_base.specs.Barlines.{barline}
use Rattle.rhythm_base.specs.Grammar.{Grammar}
use Rattle.rhythm_base.specs.Voices.{voice_bar, voice_bars_from}
use Rattle.std.proofs.lemmas.List.Elements.{All-nil}
use Rattle.rhythm_base.proofs.OrderedLists.{all_cons, all_head, all_tail}

pub barline-drop : (bars : List Bar) (last n : ℕ) → barline (drop n bars) last 0 ≡ barline bars last n
barline-drop [] last zero = refl
barline-drop [] last (suc n) = refl
barline-drop (b ∷ bars) last zero = refl
barline-drop (b ∷ bars) last (suc n) = barline-drop bars last n

pub drop-next : (bars : List Bar) (n : ℕ) (d : Bar) → n < length bars → drop n bars ≡ get_or bars n d ∷ drop (suc n) bars
drop-next [] n d lt = absurd (omega (arith, lt))
drop-next (b ∷ bars) zero d lt = refl
drop-next (b ∷ bars) (suc n) d lt = drop-next bars n d (omega (arith, lt))

pub starts_at : (bars : List Bar) (last n : ℕ) (d : Bar) → n < length bars → barline bars last n ≡ (get_or bars n d).start
starts_at [] last n d lt = absurd (omega (arith, lt))
starts_at (b ∷ bars) last zero d lt = refl
starts_at (b ∷ bars) last (suc n) d lt = starts_at bars last n d (omega (arith, lt))

-- the bars from a number on are that bar and those from the next number on
pub measures-next : (g : Grammar) (pins : List Pin) (channel last n : ℕ) (bars : List Bar) (d : Bar) → n < length bars
    → voice_bars_from g pins channel last n (drop n bars)
    ≡ voice_bar g pins channel n (get_or bars n d) (barline bars last (n + 1)) ∷ voice_bars_from g pins channel last (n + 1) (drop (n + 1) bars)
measures-next g pins channel last n bars d lt =
    let one : suc n ≡ n + 1 = omega arith in
    ap (voice_bars_from g pins channel last n) (drop-next bars n d lt)
    ∙ ap (λ k. voice_bar g pins channel n (get_or bars n d) (barline (drop k bars) last 0) ∷ voice_bars_from g pins channel last k (drop k bars)) one
    ∙ ap (λ t. voice_bar g pins channel n (get_or bars n d) t ∷ voice_bars_from g pins channel last (n + 1) (drop (n + 1) bars)) (barline-drop bars last (n + 1))

-- the bar of a number
bar_from : (g : Grammar) (pins : List Pin) (channel last i n : ℕ) (bars : List Bar) (d : Bar) → n < length bars
    → slice_get (voice_bars_from g pins channel last i bars) n ≡ Some (voice_bar g pins channel (i + n) (get_or bars n d) (barline bars last (suc n)))
bar_from g pins channel last i n [] d lt = absurd (omega (arith, lt))
bar_from g pins channel last i zero (b ∷ bars) d lt =
    let same : i ≡ i + 0 = omega arith in
    ap (λ k. Some (voice_bar g pins channel k b (barline bars last 0))) same
bar_from g pins channel last i (suc n) (b ∷ bars) d lt =
    let same : suc i + n ≡ i + suc n = omega arith in
    bar_from g pins channel last (suc i) n bars d (omega (arith, lt))
    ∙ ap (λ k. Some (voice_bar g pins channel k (get_or bars n d) (barline bars last (suc n)))) same

pub bar_at : (g : Grammar) (pins : List Pin) (channel last n : ℕ) (bars : List Bar) (d : Bar) → n < length bars
    → slice_get (voice_bars_from g pins channel last 0 bars) n ≡ Some (voice_bar g pins channel n (get_or bars n d) (barline bars last (n + 1)))
bar_at g pins channel last n bars d lt =
    let none : 0 + n ≡ n = omega arith in
    let one : suc n ≡ n + 1 = omega arith in
    bar_from g pins channel last 0 n bars d lt ∙ (λ i. Some (voice_bar g pins channel (none i) (get_or bars n d) (barline bars last (one i))))

-- what holds of the first bars and of the next one holds of one bar more
pub All-take-next : (P : Bar → Type 0) (bars : List Bar) (n : ℕ) (d : Bar) → n < length bars → All P (take n bars) → P (get_or bars n d) → All P (take (n + 1) bars)
All-take-next P bars n d lt all it = let one : suc n ≡ n + 1 = omega arith in subst (λ k. All P (take k bars)) one (by bars n lt all it)
  where
    by : (bars : List Bar) (n : ℕ) → n < length bars → All P (take n bars) → P (get_or bars n d) → All P (take (suc n) bars)
    by [] n lt all it = absurd (omega (arith, lt))
    by (b ∷ bars) zero lt all it = all_cons P b [] it (All-nil P)
    by (b ∷ bars) (suc n) lt all it = all_cons P b (take (suc n) bars) (all_head P b (take n bars) all) (by bars n (omega (arith, lt)) (all_tail P b (take n bars) all) it)
