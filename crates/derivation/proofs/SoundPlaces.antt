-- The sounds of a derivation fill its bars.
use Rattle.std.proofs.Common.{◌≡◌, ℕ, suc, ◌+◌, ◌<◌, ◌≤◌, ◌==◌, Bool, true, false, List, [], ◌∷◌, ◌++◌, length, refl, arith}
use Rattle.std.specs.Prelude.{◌≢◌, if◌then◌else◌}
use Rattle.std.proofs.lemmas.Bool.Decides.{nat_tests}
use Rattle.rhythm_base.proofs.Booleans.{and_left, and_right}
use Rattle.rhythm_base.specs.declared.chord.Chord.{Chord}
use Rattle.rhythm_base.specs.declared.sound.Sound.{Sound}
use Rattle.rhythm_base.specs.Forest.{Tree}
use Rattle.rhythm_base.specs.Grammar.{Grammar}
use Rattle.rhythm_base.specs.Leaves.{Leaf, VoiceBar, are_bars, in_bar}
use Rattle.rhythm_base.specs.Trees.{BarLeaf, is_tree, leaves_of}
use Rattle.tree_laws.proofs.Bars.{SideBySide}
use Rattle.tree_laws.proofs.Ticks.{before_end, parts-fill}
use Rattle.derivation.specs.Sounds.{bar_sounds, sounds_from, tree_leaves}
use Rattle.derivation.specs.WellSounded.{StandInBars}

module _ (r count n : ℕ) (xs : List Leaf) (cs : List Chord) (rest : List Sound) (less : n < count) (next : StandInBars r count (suc n) 0 rest) where
  bar_stands : (p i : ℕ) (bar : VoiceBar) (ps : List BarLeaf) → p < r → SideBySide p ps r → StandInBars r count n p (bar_sounds r xs cs n i (in_bar bar ps) ++ rest)
  bar_stands p i bar [] within side = absurd (omega (arith, within, side))
  bar_stands p i bar (x ∷ ps) within side =
      let most = before_end (p + x.width) r ps side.2 in
      (less, refl, side.0, side.1, most, go ps side.2 (p + x.width == r) refl (λ less. bar_stands (p + x.width) (suc i) bar ps less side.2))
    where
      go : (ps : List BarLeaf) → SideBySide (p + x.width) ps r → (b : Bool) → p + x.width == r ≡ b
          → (p + x.width < r → StandInBars r count n (p + x.width) (bar_sounds r xs cs n (suc i) (in_bar bar ps) ++ rest))
          → StandInBars r count (if b then suc n else n) (if b then 0 else p + x.width) (bar_sounds r xs cs n (suc i) (in_bar bar ps) ++ rest)
      go [] side true is ih = next
      go (y ∷ ps) side true is ih =
          let all : p + x.width ≡ r = grind (arith, nat_tests, is) in
          let most = before_end (p + x.width + y.width) r ps side.2 in
          absurd (omega (arith, all, most, side.1))
      go ps side false is ih =
          let not_all : p + x.width ≢ r = λ e. grind (arith, nat_tests, is, e) in
          let most = before_end (p + x.width) r ps side in
          ih (omega (arith, not_all, most))

pub voice_stands : (g : Grammar) (xs : List Leaf) (cs : List Chord) (count n i : ℕ) (bars : List VoiceBar) (ts : List Tree) → 1 ≤ g.resolution → are_bars g bars ts ≡ true
    → n + length bars ≡ count → StandInBars g.resolution count n 0 (sounds_from g xs cs n i bars ts)
voice_stands g xs cs count n i [] [] some h all = (omega (arith, all), refl)
voice_stands g xs cs count n i [] (t ∷ ts) some h all = absurd (cc)
voice_stands g xs cs count n i (bar ∷ bars) [] some h all = absurd (cc)
voice_stands g xs cs count n i (bar ∷ bars) (t ∷ ts) some h all =
    let tree = and_left (is_tree g.rules g.resolution bar.symbol bar.pin t) _ h in
    let others = voice_stands g xs cs count (suc n) (i + length (tree_leaves g bar t)) bars ts some (and_right (is_tree g.rules g.resolution bar.symbol bar.pin t) _ h) (omega (arith, all)) in
    bar_stands g.resolution count n xs cs (sounds_from g xs cs (suc n) (i + length (tree_leaves g bar t)) bars ts) (omega (arith, all)) others
    0 i bar (leaves_of g.rules g.resolution bar.symbol t) (omega (arith, some)) (parts-fill g.rules g.resolution bar.symbol bar.pin t some tree)
