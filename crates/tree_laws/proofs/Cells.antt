-- The fit of a cell is a run of its leaves, in the cell's ticks and in those of the voice.
use Rattle.std.proofs.Common.{◌≡◌, ℕ, zero, suc, ◌+◌, ◌-◌, ◌≤◌, Bool, true, false, cond, List, [], ◌∷◌, map, filter, length, replicate, refl, sym, ap, ap₂, ◌∙◌, subst, arith}
use Rattle.std.specs.Prelude.{nat_lt, nat_le}
use Rattle.std.specs.List.{list_all}
use Rattle.std.proofs.lemmas.Bool.Decides.{nat_tests}
use Rattle.rhythm_base.specs.Forest.{Tree}
use Rattle.rhythm_base.proofs.Booleans.{and_left, and_right}
use Rattle.tree_laws.proofs.Reading.{between, agree-runs, past-leaving}
use Rattle.tree_laws.proofs.Runs.{runs-one, runs-like, leaving-like}
use Rattle.tree_laws.proofs.Ticks.{le_from, le_not, from_tick, parts-fill, bar-line, at_zero, parts-like}
use Rattle.rhythm_base.specs.BarInput.{BarInput}
use Rattle.rhythm_base.specs.Lists.{last_end}
use Rattle.rhythm_base.specs.Cells.{CellFits, cut_end, has_onset, within_bar, input, bar_of, leaves_in}
use Rattle.rhythm_base.specs.Leaves.{VoiceBar, Leaf, looks, in_bar}
use Rattle.rhythm_base.specs.declared.inner.Inner.{Inner}
use Rattle.rhythm_base.specs.Line.{Rising, Looks, agree, past}
use Rattle.rhythm_base.specs.Grammar.{Grammar}
use Rattle.rhythm_base.specs.Trees.{BarLeaf, is_tree, leaves_of}
use Rattle.tree_laws.specs.Runs.{IsLine, runs, leaving}
use Rattle.tree_laws.specs.Voices.{HoldsChords}

-- ---- a cell by itself

last_end-replicate : (e n : ℕ) → last_end e (replicate n e) ≡ e
last_end-replicate e zero = refl
last_end-replicate e (suc n) = last_end-replicate e n

length_replicate : (n e : ℕ) → length (replicate n e) ≡ n
length_replicate zero e = refl
length_replicate (suc n) e = ap suc (length_replicate n e)

-- all of the cell's chords lie in it
all_within : (l : ℕ) (cs : List Inner) → list_all (λ c. nat_lt c.onset l) cs ≡ true → filter (λ c. between (from_tick 0) (from_tick l) c.onset) cs ≡ cs
all_within l [] h = refl
all_within l (c ∷ cs) h =
    let own = and_left (nat_lt c.onset l) _ h in
    let low : nat_le 0 c.onset ≡ true = le_from 0 c.onset (omega arith) in
    let high : nat_le l c.onset ≡ false = grind (arith, nat_tests) in
    rw (low, high) (ap (λ l. c ∷ l) (all_within l cs (and_right (nat_lt c.onset l) _ h)))

cell-line : (g : Grammar) (k : BarInput) (t : Tree) → 1 ≤ k.resolution → HoldsChords k → is_tree g.rules k.resolution k.symbol k.pin t ≡ true
    → IsLine (looks k.resolution) (from_tick 0) (leaves_in g k t) (from_tick k.length)
cell-line g k t some is tree =
    let from_zero : 0 + k.length ≡ k.length = omega arith in
    subst (λ n. IsLine (looks k.resolution) (from_tick 0) (leaves_in g k t) (from_tick n)) from_zero (bar-line k.resolution (bar_of k) (leaves_of g.rules k.resolution k.symbol t) some is.long (parts-fill g.rules k.resolution k.symbol k.pin t some tree))

pub cell-agree : (g : Grammar) (k : BarInput) (t : Tree) (f : ℕ) → 1 ≤ k.resolution → HoldsChords k → is_tree g.rules k.resolution k.symbol k.pin t ≡ true
    → agree (looks k.resolution) (k.before ∷ []) (replicate f k.before) k.chords (leaves_in g k t) ≡ runs (looks k.resolution) k.chords k.before f (leaves_in g k t)
cell-agree g k t f some is tree =
    sym (ap (λ cs. agree (looks k.resolution) (k.before ∷ []) (replicate f k.before) cs (leaves_in g k t)) (all_within k.length k.chords is.below))
    ∙ agree-runs (looks k.resolution) (from_tick 0) (from_tick k.length) (leaves_in g k t) (k.before ∷ []) (replicate f k.before) 0 k.chords is.rise (cell-line g k t some is tree)
    ∙ ap₂ (λ e n. runs (looks k.resolution) k.chords e n (leaves_in g k t)) (last_end-replicate k.before f) (length_replicate f k.before)

pub cell-past : (g : Grammar) (k : BarInput) (t : Tree) (f : ℕ) → 1 ≤ k.resolution → HoldsChords k → is_tree g.rules k.resolution k.symbol k.pin t ≡ true
    → past (looks k.resolution) (replicate f k.before) k.chords (leaves_in g k t) ≡ leaving (looks k.resolution) k.chords f (leaves_in g k t)
cell-past g k t f some is tree =
    sym (ap (λ cs. past (looks k.resolution) (replicate f k.before) cs (leaves_in g k t)) (all_within k.length k.chords is.below))
    ∙ past-leaving (looks k.resolution) (from_tick 0) (from_tick k.length) (leaves_in g k t) (replicate f k.before) 0 k.chords is.rise (cell-line g k t some is tree)
    ∙ ap (λ n. leaving (looks k.resolution) k.chords n (leaves_in g k t)) (length_replicate f k.before)

-- a tree fits a cell with at most one pair of counts
pub one_pair : (g : Grammar) (k : BarInput) (t : Tree) (f to f' to' : ℕ) → 1 ≤ k.resolution → HoldsChords k → CellFits g k t f to → CellFits g k t f' to' → (f ≡ f') × (to ≡ to')
one_pair g k t f to f' to' some is h h' =
    let K : Looks Leaf = looks k.resolution in
    let same : f ≡ f' = runs-one K k.chords (from_tick 0) (from_tick k.length) 0 k.before f f' (leaves_in g k t) (cell-line g k t some is h.tree)
    (le_from 0 0 (omega arith)) (le_not k.length 0 is.long) (sym (cell-agree g k t f some is h.tree) ∙ h.leaves) (sym (cell-agree g k t f' some is h.tree) ∙ h'.leaves) in
    (same, sym h.leave ∙ cell-past g k t f some is h.tree ∙ ap (λ n. leaving K k.chords n (leaves_in g k t)) same ∙ sym (cell-past g k t f' some is h.tree) ∙ h'.leave)

-- ---- the input of a bar is a cell

rising_weaker : (a b : ℕ) (cs : List Inner) → a ≤ b → Rising b cs → Rising a cs
rising_weaker a b [] le h = _
rising_weaker a b (c ∷ cs) le h = let low : b ≤ c.onset = h.0 in (omega arith, h.1)

rising_moved : (bar : VoiceBar) (low : ℕ) (cs : List Inner) → Rising low cs → Rising (low - bar.start) (map (within_bar bar) (filter (λ c. has_onset bar c.onset) cs))
rising_moved bar low [] h = _
rising_moved bar low (c ∷ cs) h = go (has_onset bar c.onset) refl (rising_moved bar (c.onset + 1) cs h.1)
  where
    rest : List Inner
    rest = filter (λ c. has_onset bar c.onset) cs

    go : (b : Bool) → has_onset bar c.onset ≡ b → Rising (c.onset + 1 - bar.start) (map (within_bar bar) rest) → Rising (low - bar.start) (map (within_bar bar) (cond b (c ∷ rest) rest))
    go true e ih =
        let low' : low ≤ c.onset = h.0 in
        let reached = and_left (nat_le bar.start c.onset) _ e in
        let here : bar.start ≤ c.onset = grind (arith, nat_tests) in
        let step : c.onset + 1 - bar.start ≡ c.onset - bar.start + 1 = omega arith in
        (omega arith, subst (λ n. Rising n (map (within_bar bar) rest)) step ih)
    go false e ih = let low' : low ≤ c.onset = h.0 in rising_weaker (low - bar.start) (c.onset + 1 - bar.start) (map (within_bar bar) rest) (omega arith) ih

below_moved : (bar : VoiceBar) (cs : List Inner) → list_all (λ c. nat_lt c.onset bar.length) (map (within_bar bar) (filter (λ c. has_onset bar c.onset) cs)) ≡ true
below_moved bar [] = refl
below_moved bar (c ∷ cs) = go (has_onset bar c.onset) refl (below_moved bar cs)
  where
    rest : List Inner
    rest = filter (λ c. has_onset bar c.onset) cs

    go : (b : Bool) → has_onset bar c.onset ≡ b → list_all (λ c. nat_lt c.onset bar.length) (map (within_bar bar) rest) ≡ true
        → list_all (λ c. nat_lt c.onset bar.length) (map (within_bar bar) (cond b (c ∷ rest) rest)) ≡ true
    go true e ih =
        let reached = and_left (nat_le bar.start c.onset) _ e in
        let left = and_right (nat_le bar.start c.onset) _ e in
        let here : nat_lt (c.onset - bar.start) bar.length ≡ true = grind (arith, nat_tests) in
        rw (here, ih) refl
    go false e ih = ih

pub input-cell : (g : Grammar) (bar : VoiceBar) (low : ℕ) (cs : List Inner) → 1 ≤ bar.length → Rising low cs → HoldsChords (input g bar cs)
input-cell g bar low cs long rise = record {
  long = long;
  rise = rising_weaker 0 (low - bar.start) (input g bar cs).chords (omega arith) (rising_moved bar low cs rise);
  below = below_moved bar cs;
}

-- ---- a cell in its voice

-- the end of the last chord with its onset before the tick b
abbrev pub latest : List Inner → ℕ → ℕ
latest cs b = last_end 0 (map (λ c. c.end) (filter (λ c. nat_lt c.onset b) cs))

pub cell-runs : (g : Grammar) (bar : VoiceBar) (cs : List Inner) (low : ℕ) (t : Tree) (f : ℕ) → 1 ≤ g.resolution → 1 ≤ bar.length → Rising low cs → is_tree g.rules g.resolution bar.symbol bar.pin t ≡ true
    → agree (looks g.resolution) ((input g bar cs).before ∷ []) (replicate f (input g bar cs).before) (input g bar cs).chords (leaves_in g (input g bar cs) t)
    ≡ runs (looks g.resolution) cs (latest cs bar.start) f (in_bar bar (leaves_of g.rules g.resolution bar.symbol t))
cell-runs g bar cs low t f some long rise tree =
    let ps : List BarLeaf = leaves_of g.rules g.resolution bar.symbol t in
    cell-agree g (input g bar cs) t f some (input-cell g bar low cs long rise) tree
    ∙ runs-like (looks g.resolution) cs (input g bar cs).chords (cut_end bar) (latest cs bar.start) f (in_bar bar ps) (in_bar (at_zero bar) ps) (parts-like g.resolution bar cs 0 ps long (parts-fill g.rules g.resolution bar.symbol bar.pin t some tree))

pub cell-leaving : (g : Grammar) (bar : VoiceBar) (cs : List Inner) (low : ℕ) (t : Tree) (f : ℕ) → 1 ≤ g.resolution → 1 ≤ bar.length → Rising low cs → is_tree g.rules g.resolution bar.symbol bar.pin t ≡ true
    → past (looks g.resolution) (replicate f (input g bar cs).before) (input g bar cs).chords (leaves_in g (input g bar cs) t)
    ≡ leaving (looks g.resolution) cs f (in_bar bar (leaves_of g.rules g.resolution bar.symbol t))
cell-leaving g bar cs low t f some long rise tree =
    let ps : List BarLeaf = leaves_of g.rules g.resolution bar.symbol t in
    cell-past g (input g bar cs) t f some (input-cell g bar low cs long rise) tree
    ∙ leaving-like (looks g.resolution) cs (input g bar cs).chords (cut_end bar) f (in_bar bar ps) (in_bar (at_zero bar) ps) (parts-like g.resolution bar cs 0 ps long (parts-fill g.rules g.resolution bar.symbol bar.pin t some tree))
