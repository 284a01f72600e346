-- Two words, three, or seven, one by one.
use Rattle.std.proofs.Common.{◌≡◌, ℕ, arith, List, [], ◌∷◌, length, slice_get, Some}

pub seven_words : (ws : List (List ℕ)) (a b c d e f g : List ℕ) → length ws ≡ 7 → Some a ≡ slice_get ws 0 → Some b ≡ slice_get ws 1 → Some c ≡ slice_get ws 2 → Some d ≡ slice_get ws 3
    → Some e ≡ slice_get ws 4 → Some f ≡ slice_get ws 5 → Some g ≡ slice_get ws 6 → ws ≡ a ∷ (b ∷ (c ∷ (d ∷ (e ∷ (f ∷ (g ∷ []))))))
seven_words [] a b c d e f g size ha hb hc hd he hf hg = absurd (omega (arith, size))
seven_words (p ∷ []) a b c d e f g size ha hb hc hd he hf hg = absurd (omega (arith, size))
seven_words (p ∷ (q ∷ [])) a b c d e f g size ha hb hc hd he hf hg = absurd (omega (arith, size))
seven_words (p ∷ (q ∷ (r ∷ []))) a b c d e f g size ha hb hc hd he hf hg = absurd (omega (arith, size))
seven_words (p ∷ (q ∷ (r ∷ (s ∷ [])))) a b c d e f g size ha hb hc hd he hf hg = absurd (omega (arith, size))
seven_words (p ∷ (q ∷ (r ∷ (s ∷ (t ∷ []))))) a b c d e f g size ha hb hc hd he hf hg = absurd (omega (arith, size))
seven_words (p ∷ (q ∷ (r ∷ (s ∷ (t ∷ (u ∷ [])))))) a b c d e f g size ha hb hc hd he hf hg = absurd (omega (arith, size))
seven_words (p ∷ (q ∷ (r ∷ (s ∷ (t ∷ (u ∷ (v ∷ []))))))) a b c d e f g size ha hb hc hd he hf hg = cc
seven_words (p ∷ (q ∷ (r ∷ (s ∷ (t ∷ (u ∷ (v ∷ (w ∷ ws)))))))) a b c d e f g size ha hb hc hd he hf hg = absurd (omega (arith, size))

pub three_words : (ws : List (List ℕ)) (a b c : List ℕ) → length ws ≡ 3 → Some a ≡ slice_get ws 0 → Some b ≡ slice_get ws 1 → Some c ≡ slice_get ws 2 → ws ≡ a ∷ (b ∷ (c ∷ []))
three_words [] a b c size ha hb hc = absurd (omega (arith, size))
three_words (p ∷ []) a b c size ha hb hc = absurd (omega (arith, size))
three_words (p ∷ (q ∷ [])) a b c size ha hb hc = absurd (omega (arith, size))
three_words (p ∷ (q ∷ (r ∷ []))) a b c size ha hb hc = cc
three_words (p ∷ (q ∷ (r ∷ (s ∷ ws)))) a b c size ha hb hc = absurd (omega (arith, size))

pub two_words : (ws : List (List ℕ)) (a b : List ℕ) → length ws ≡ 2 → Some a ≡ slice_get ws 0 → Some b ≡ slice_get ws 1 → ws ≡ a ∷ (b ∷ [])
two_words [] a b size ha hb = absurd (omega (arith, size))
two_words (p ∷ []) a b size ha hb = absurd (omega (arith, size))
two_words (p ∷ (q ∷ [])) a b size ha hb = cc
two_words (p ∷ (q ∷ (r ∷ ws))) a b size ha hb = absurd (omega (arith, size))
