-- The laws: locality, one pair of counts, and the dead bar by counts.
use Rattle.std.proofs.Common.{◌≡◌, ℕ, zero, suc, ◌+◌, ◌≤◌, ◌<◌, true, List, [], ◌∷◌, length, take, refl, sym, ap, ap₂, ◌∙◌, subst, arith}
use Rattle.std.specs.Prelude.{nat_lt}
use Rattle.std.specs.List.{list_all}
use Rattle.rhythm_base.specs.Forest.{Tree}
use Rattle.rhythm_base.proofs.Booleans.{and_left, and_right}
use Rattle.tree_laws.proofs.Cells.{input-cell, one_pair}
use Rattle.tree_laws.proofs.Local.{fits-cells, cells-fit}
use Rattle.tree_laws.proofs.Costs.{cost-cells}
use Rattle.rhythm_base.specs.Lists.{last_end}
use Rattle.rhythm_base.specs.Cells.{input}
use Rattle.rhythm_base.specs.Cost.{cost}
use Rattle.rhythm_base.specs.DeadBars.{chords_before, end_of_bars, HasRun, IsDead}
use Rattle.rhythm_base.specs.Leaves.{VoiceBar, Fits}
use Rattle.rhythm_base.specs.declared.inner.Inner.{Inner}
use Rattle.rhythm_base.specs.Line.{Rising}
use Rattle.rhythm_base.specs.Grammar.{Grammar}
use Rattle.tree_laws.specs.Voices.{CellsFit, AreCounts, Adjacent, IsVoice, cell_costs}
use Rattle.tree_laws.specs.Passes.{CanPass, HasPass}

-- ---- counts as a list

pub cells-counts : (g : Grammar) (cs : List Inner) (bars : List VoiceBar) (ts : List Tree) (f to : ℕ) → CellsFit g cs bars ts f to → (ms : List ℕ) × AreCounts g cs bars ts (f ∷ ms) × (last_end f ms ≡ to)
cells-counts g cs [] [] f to h = ([], _, h)
cells-counts g cs [] (t ∷ ts) f to h = absurd h
cells-counts g cs (bar ∷ bars) [] f to h = absurd h
cells-counts g cs (bar ∷ bars) (t ∷ ts) f to h =
    let ih = cells-counts g cs bars ts h.0 to h.2 in (h.0 ∷ ih.0, (h.1, ih.1), ih.2)

pub counts-cells : (g : Grammar) (cs : List Inner) (bars : List VoiceBar) (ts : List Tree) (f to : ℕ) (ms : List ℕ) → AreCounts g cs bars ts (f ∷ ms) → last_end f ms ≡ to → CellsFit g cs bars ts f to
counts-cells g cs [] [] f to [] h e = e
counts-cells g cs [] [] f to (m ∷ ms) h e = absurd h
counts-cells g cs [] (t ∷ ts) f to ms h e = absurd h
counts-cells g cs (bar ∷ bars) [] f to ms h e = absurd h
counts-cells g cs (bar ∷ bars) (t ∷ ts) f to [] h e = absurd h
counts-cells g cs (bar ∷ bars) (t ∷ ts) f to (m ∷ ms) h e = (m, h.0, counts-cells g cs bars ts m to ms h.1 e)

-- the counts of a derivation are the only ones
pub counts-one : (g : Grammar) (cs : List Inner) (low : ℕ) (bars : List VoiceBar) (ts : List Tree) (b e f : ℕ) (ms ns : List ℕ) → 1 ≤ g.resolution → Rising low cs → Adjacent b bars e
    → AreCounts g cs bars ts (f ∷ ms) → AreCounts g cs bars ts (f ∷ ns) → ms ≡ ns
counts-one g cs low [] [] b e f [] [] some rise near h k = refl
counts-one g cs low [] [] b e f [] (n ∷ ns) some rise near h k = absurd k
counts-one g cs low [] [] b e f (m ∷ ms) ns some rise near h k = absurd h
counts-one g cs low [] (t ∷ ts) b e f ms ns some rise near h k = absurd h
counts-one g cs low (bar ∷ bars) [] b e f ms ns some rise near h k = absurd h
counts-one g cs low (bar ∷ bars) (t ∷ ts) b e f [] ns some rise near h k = absurd h
counts-one g cs low (bar ∷ bars) (t ∷ ts) b e f (m ∷ ms) [] some rise near h k = absurd k
counts-one g cs low (bar ∷ bars) (t ∷ ts) b e f (m ∷ ms) (n ∷ ns) some rise near h k =
    let same : m ≡ n = (one_pair g (input g bar cs) t f m f n some (input-cell g bar low cs near.1 rise) h.0 k.0).1 in
    ap₂ ◌∷◌ same (counts-one g cs low bars ts (b + bar.length) e m ms ns some rise near.2 h.1 (subst (λ d. AreCounts g cs bars ts (d ∷ ns)) (sym same) k.1))

-- ---- locality: a derivation fits exactly where each bar fits with the counts at its barlines

all_heard : (e : ℕ) (cs : List Inner) → list_all (λ c. nat_lt c.onset e) cs ≡ true → chords_before e cs ≡ cs
all_heard e [] h = refl
all_heard e (c ∷ cs) h = rw (and_left (nat_lt c.onset e) _ h) (ap (λ l. c ∷ l) (all_heard e cs (and_right (nat_lt c.onset e) _ h)))

module _ (g : Grammar) (bars : List VoiceBar) (cs : List Inner) (ts : List Tree) (voice : IsVoice g bars cs) where
  heard_all : chords_before (end_of_bars 0 bars) cs ≡ cs
  heard_all = all_heard (end_of_bars 0 bars) cs voice.below

  -- trees that fit have counts, 0 at both ends, with which each tree fits its cell
  pub locality : Fits g bars cs ts 0 → (ms : List ℕ) × AreCounts g cs bars ts (0 ∷ ms) × (last_end 0 ms ≡ 0)
  locality h = cells-counts g cs bars ts 0 0 (fits-cells g bars cs ts 0 (end_of_bars 0 bars) voice.some voice.near voice.rise 0 (omega arith) (subst (λ l. Fits g bars l ts 0) (sym heard_all) h))

  -- and trees with such counts fit
  pub locality-back : (ms : List ℕ) → AreCounts g cs bars ts (0 ∷ ms) → last_end 0 ms ≡ 0 → Fits g bars cs ts 0
  locality-back ms h e = subst (λ l. Fits g bars l ts 0) heard_all (cells-fit g bars cs ts 0 (end_of_bars 0 bars) voice.some voice.near voice.rise 0 (counts-cells g cs bars ts 0 0 ms h e))

  -- the cost is then the sum of the cells' costs
  pub locality-cost : Fits g bars cs ts 0 → cost g bars cs ts ≡ cell_costs g cs bars ts
  locality-cost h = ap (λ l. cost g bars l ts) (sym heard_all) ∙ cost-cells g bars cs ts 0 (end_of_bars 0 bars) voice.some voice.near voice.rise h.trees

-- ---- dead bars

adjacent_take : (n b e : ℕ) (bars : List VoiceBar) → Adjacent b bars e → Adjacent b (take n bars) (end_of_bars b (take n bars))
adjacent_take zero b e bars near = refl
adjacent_take (suc n) b e [] near = refl
adjacent_take (suc n) b e (bar ∷ bars) near =
    (near.0, near.1, subst (λ s. Adjacent (b + bar.length) (take n bars) (end_of_bars (s + bar.length) (take n bars))) (sym near.0) (adjacent_take n (b + bar.length) e bars near.2))

-- a run of the bars 0 to i by counts: from 0, with a last count that is free up to four, and 0 after the last bar
pub record HasCounts (g : Grammar) (bars : List VoiceBar) (cs : List Inner) (i : ℕ) : Type 0 where
  pub trees : List Tree
  pub to : ℕ
  pub fits : CellsFit g cs (take (i + 1) bars) trees 0 to
  pub few : to ≤ 4
  pub none_last : i + 1 ≡ length bars → to ≡ 0

module _ (g : Grammar) (bars : List VoiceBar) (cs : List Inner) (i : ℕ) (voice : IsVoice g bars cs) where
  pub run-counts : HasRun g bars cs i → HasCounts g bars cs i
  run-counts h =
      let n : ℕ = i + 1 in
      record {
        trees = h.trees;
        to = h.to;
        fits = fits-cells g (take n bars) cs h.trees 0 (end_of_bars 0 (take n bars)) voice.some (adjacent_take n 0 (end_of_bars 0 bars) bars voice.near) voice.rise h.to h.few h.fits;
        few = h.few;
        none_last = h.none_last;
      }

  pub counts-run : HasCounts g bars cs i → HasRun g bars cs i
  counts-run h =
      let n : ℕ = i + 1 in
      record {
        trees = h.trees;
        to = h.to;
        fits = cells-fit g (take n bars) cs h.trees 0 (end_of_bars 0 (take n bars)) voice.some (adjacent_take n 0 (end_of_bars 0 bars) bars voice.near) voice.rise h.to h.fits;
        few = h.few;
        none_last = h.none_last;
      }

-- ---- with some tree for each cell: what a chain of tables knows

pub pass-cells : (g : Grammar) (cs : List Inner) (bars : List VoiceBar) (f to : ℕ) → CanPass g cs bars f to → (ts : List Tree) × CellsFit g cs bars ts f to
pass-cells g cs [] f to h = ([], h)
pass-cells g cs (bar ∷ bars) f to h = let ih = pass-cells g cs bars h.0 to h.2 in (h.1.0 ∷ ih.0, (h.0, h.1.1, ih.1))

pub cells-pass : (g : Grammar) (cs : List Inner) (bars : List VoiceBar) (ts : List Tree) (f to : ℕ) → CellsFit g cs bars ts f to → CanPass g cs bars f to
cells-pass g cs [] [] f to h = h
cells-pass g cs [] (t ∷ ts) f to h = absurd h
cells-pass g cs (bar ∷ bars) [] f to h = absurd h
cells-pass g cs (bar ∷ bars) (t ∷ ts) f to h = (h.0, (t, h.1), cells-pass g cs bars ts h.0 to h.2)

module _ (g : Grammar) (bars : List VoiceBar) (cs : List Inner) (i : ℕ) (voice : IsVoice g bars cs) where
  pub run-pass : HasRun g bars cs i → HasPass g bars cs i
  run-pass h =
      let k = run-counts g bars cs i voice h in
      record { to = k.to; passes = cells-pass g cs (take (i + 1) bars) k.trees 0 k.to k.fits; few = k.few; none_last = k.none_last }

  pub pass-run : HasPass g bars cs i → HasRun g bars cs i
  pass-run h =
      let found = pass-cells g cs (take (i + 1) bars) 0 h.to h.passes in
      counts-run g bars cs i voice record { trees = found.0; to = h.to; fits = found.1; few = h.few; none_last = h.none_last }

-- the dead bar, by counts alone
pub dead-pass : (g : Grammar) (bars : List VoiceBar) (cs : List Inner) (i : ℕ) → IsVoice g bars cs → IsDead g bars cs i → (HasPass g bars cs i → ⊥) × ((j : ℕ) → j < i → HasPass g bars cs j)
dead-pass g bars cs i voice h = (λ p. h.dead (pass-run g bars cs i voice p), λ j lt. run-pass g bars cs j voice (h.first j lt))

pub pass-dead : (g : Grammar) (bars : List VoiceBar) (cs : List Inner) (i : ℕ) → IsVoice g bars cs → i < length bars → (HasPass g bars cs i → ⊥) → ((j : ℕ) → j < i → HasPass g bars cs j) → IsDead g bars cs i
pass-dead g bars cs i voice lt none first = record { bar = lt; dead = λ h. none (run-pass g bars cs i voice h); first = λ j below. pass-run g bars cs j voice (first j below) }
