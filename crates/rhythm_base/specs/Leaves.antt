-- Derivations of a voice and their leaves: which leaf an onset lies in, what sounds in it, and when all of it fits.
use Rattle.std.specs.Prelude.{◌≡◌, ℕ, ◌+◌, ◌-◌, ◌*◌, Bool, true, false, ◌&&◌, nat_lt, nat_le, List, [], ◌∷◌, ◌++◌, map, Option}
use Rattle.rhythm_base.specs.declared.chord.Chord.{Chord}
use Rattle.rhythm_base.specs.Forest.{Tree}
use Rattle.rhythm_base.specs.declared.inner.Inner.{Inner}
use Rattle.rhythm_base.specs.Line.{Looks, agree, past}
use Rattle.rhythm_base.specs.Shape.{Shape}
use Rattle.rhythm_base.specs.Grammar.{Grammar}
use Rattle.rhythm_base.specs.Trees.{BarLeaf, is_tree, leaves_of}

-- a bar of a voice: its start and length in ticks, its signature, the root symbol of its tree, and its pin
pub record VoiceBar : Type 0 where
  pub start : ℕ
  pub length : ℕ
  pub num : ℕ
  pub den : ℕ
  pub symbol : ℕ
  pub pin : Option Shape

pub record Leaf : Type 0 where
  pub bar : VoiceBar
  pub part : BarLeaf

-- what a leaf asks of chords
abbrev pub soundings : List Chord → List Inner
soundings cs = map (λ c. record { onset = c.onset; end = c.end }) cs

-- ---- one leaf. A unit is the R-th part of a bar, so tick t of a bar (b, L) stands at unit (t - b) * R / L

-- the onset is not before the leaf and before its end: p * L <= (t - b) * R < (p + w) * L
abbrev pub lies_in : ℕ → Leaf → ℕ → Bool
lies_in r x t =
    nat_le x.bar.start t
    && (nat_le (x.part.place * x.bar.length) ((t - x.bar.start) * r)
    && nat_lt ((t - x.bar.start) * r) ((x.part.place + x.part.width) * x.bar.length))

-- the onset is not after the leaf's middle: 2 * ((t - b) * R - p * L) <= w * L
abbrev pub goes_left : ℕ → Leaf → ℕ → Bool
goes_left r x t = nat_le (2 * ((t - x.bar.start) * r - x.part.place * x.bar.length)) (x.part.width * x.bar.length)

-- the end is not before the leaf's middle: 2 * e * R >= 2 * b * R + (2 * p + w) * L
abbrev pub sounds : ℕ → Leaf → ℕ → Bool
sounds r x e = nat_le (2 * x.bar.start * r + (2 * x.part.place + x.part.width) * x.bar.length) (2 * e * r)

abbrev pub looks : ℕ → Looks Leaf
looks r = record { lies = lies_in r; left = goes_left r; sounds = sounds r; ending = λ x. x.part.ending }

-- ---- a voice

abbrev pub in_bar : VoiceBar → List BarLeaf → List Leaf
in_bar bar ps = map (λ p. record { bar = bar; part = p }) ps

-- the leaves of all bars in one list, left to right
abbrev pub voice_leaves : Grammar → List VoiceBar → List Tree → List Leaf
voice_leaves g [] ts = []
voice_leaves g (bar ∷ bars) [] = []
voice_leaves g (bar ∷ bars) (t ∷ ts) = in_bar bar (leaves_of g.rules g.resolution bar.symbol t) ++ voice_leaves g bars ts

-- one tree for each bar
abbrev pub are_bars : Grammar → List VoiceBar → List Tree → Bool
are_bars g [] [] = true
are_bars g [] (t ∷ ts) = false
are_bars g (bar ∷ bars) [] = false
are_bars g (bar ∷ bars) (t ∷ ts) = is_tree g.rules g.resolution bar.symbol bar.pin t && are_bars g bars ts

-- the trees of these bars agree with the chords, and `to` chords are attached past the last leaf
pub record Fits (g : Grammar) (bars : List VoiceBar) (cs : List Inner) (ts : List Tree) (to : ℕ) : Type 0 where
  pub trees : are_bars g bars ts ≡ true
  pub leaves : agree (looks g.resolution) [] [] cs (voice_leaves g bars ts) ≡ true
  pub leave : past (looks g.resolution) [] cs (voice_leaves g bars ts) ≡ to

-- a derivation of the whole voice that fits: no chord is attached past the last leaf
abbrev pub FitsVoice : Grammar → List VoiceBar → List Inner → List Tree → Type 0
FitsVoice g bars cs ts = Fits g bars cs ts 0
