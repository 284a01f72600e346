-- The leaves of a voice in one list, each with the number of its bar, and the sounds along it.
use Rattle.std.proofs.Common.{◌≡◌, ℕ, suc, ◌+◌, List, [], ◌∷◌, ◌++◌, length, map, refl, ap, ap₂, ◌∙◌, arith}
use Rattle.std.proofs.lemmas.List.{map-append}
use Rattle.rhythm_base.specs.declared.chord.Chord.{Chord}
use Rattle.rhythm_base.specs.declared.sound.Sound.{Sound}
use Rattle.rhythm_base.specs.Forest.{Tree}
use Rattle.rhythm_base.specs.Grammar.{Grammar}
use Rattle.rhythm_base.specs.Leaves.{Leaf, VoiceBar, voice_leaves}
use Rattle.derivation.specs.Sounds.{bar_sounds, sound_of, sounds_from, tree_leaves}

abbrev pub in_number : ℕ → List Leaf → List (ℕ × Leaf)
in_number n xs = map (λ x. (n, x)) xs

abbrev pub numbered : Grammar → ℕ → List VoiceBar → List Tree → List (ℕ × Leaf)
numbered g n [] ts = []
numbered g n (bar ∷ bars) [] = []
numbered g n (bar ∷ bars) (t ∷ ts) = in_number n (tree_leaves g bar t) ++ numbered g (suc n) bars ts

-- the leaves without their numbers
abbrev pub plain_leaves : List (ℕ × Leaf) → List Leaf
plain_leaves qs = map (λ (q : ℕ × Leaf). q.1) qs

plain_bar : (n : ℕ) (xs : List Leaf) → plain_leaves (in_number n xs) ≡ xs
plain_bar n [] = refl
plain_bar n (x ∷ xs) = ap (λ l. x ∷ l) (plain_bar n xs)

pub plain_voice : (g : Grammar) (n : ℕ) (bars : List VoiceBar) (ts : List Tree) → plain_leaves (numbered g n bars ts) ≡ voice_leaves g bars ts
plain_voice g n [] ts = refl
plain_voice g n (bar ∷ bars) [] = refl
plain_voice g n (bar ∷ bars) (t ∷ ts) =
    map-append (λ (q : ℕ × Leaf). q.1) (in_number n (tree_leaves g bar t)) (numbered g (suc n) bars ts)
    ∙ ap₂ ◌++◌ (plain_bar n (tree_leaves g bar t)) (plain_voice g (suc n) bars ts)

module _ (r : ℕ) (xs : List Leaf) (cs : List Chord) where
  -- the sounds of leaves of the line from number i on
  abbrev pub line_sounds : ℕ → List (ℕ × Leaf) → List Sound
  line_sounds i [] = []
  line_sounds i (q ∷ qs) = sound_of r xs cs q.0 i q.1 ∷ line_sounds (suc i) qs

  bar_along : (n i : ℕ) (ys : List Leaf) (qs : List (ℕ × Leaf)) → bar_sounds r xs cs n i ys ++ line_sounds (i + length ys) qs ≡ line_sounds i (in_number n ys ++ qs)
  bar_along n i [] qs = let same : i + 0 ≡ i = omega arith in ap (λ k. line_sounds k qs) same
  bar_along n i (y ∷ ys) qs =
      let same : i + length (y ∷ ys) ≡ suc i + length ys = omega arith in
      ap (λ k. sound_of r xs cs n i y ∷ (bar_sounds r xs cs n (suc i) ys ++ line_sounds k qs)) same
      ∙ ap (λ l. sound_of r xs cs n i y ∷ l) (bar_along n (suc i) ys qs)

pub voice_along : (g : Grammar) (xs : List Leaf) (cs : List Chord) (n i : ℕ) (bars : List VoiceBar) (ts : List Tree)
    → sounds_from g xs cs n i bars ts ≡ line_sounds g.resolution xs cs i (numbered g n bars ts)
voice_along g xs cs n i [] ts = refl
voice_along g xs cs n i (bar ∷ bars) [] = refl
voice_along g xs cs n i (bar ∷ bars) (t ∷ ts) =
    ap (λ l. bar_sounds g.resolution xs cs n i (tree_leaves g bar t) ++ l) (voice_along g xs cs (suc n) (i + length (tree_leaves g bar t)) bars ts)
    ∙ bar_along g.resolution xs cs n i (tree_leaves g bar t) (numbered g (suc n) bars ts)
