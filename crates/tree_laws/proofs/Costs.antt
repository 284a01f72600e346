-- The cost of a derivation is the sum of the costs of its cells.
use Rattle.std.proofs.Common.{◌≡◌, ℕ, ◌+◌, ◌-◌, ◌*◌, ◌≤◌, Bool, true, false, not, ◌&&◌, ◌||◌, cond, List, [], ◌∷◌, ◌++◌, map, filter, refl, sym, ap, ap₂, ◌∙◌, subst, arith}
use Rattle.std.specs.Prelude.{slice_get, nat_le, if◌then◌else◌}
use Rattle.std.proofs.lemmas.Bool.Decides.{nat_tests}
use Rattle.std.proofs.lemmas.Bool.{not-true}
use Rattle.rhythm_base.specs.Forest.{Tree, preorder_of}
use Rattle.std.proofs.lemmas.List.Sums.{sum_by-append, sum_by-cons}
use Rattle.tree_laws.proofs.Lists.{filter_split}
use Rattle.rhythm_base.proofs.Booleans.{and_left, and_right}
use Rattle.tree_laws.proofs.Reading.{no_left, between, reaches}
use Rattle.tree_laws.proofs.Bars.{SideBySide}
use Rattle.tree_laws.proofs.Ticks.{le_from, le_tells, lt_not_le, take_zero, from_tick, parts-fill, bar-line, at_zero, lies-moved, before_end}
use Rattle.tree_laws.proofs.Local.{heard-is, adjacent_end}
use Rattle.rhythm_base.specs.Cells.{has_onset, within_bar, input, leaves_in}
use Rattle.rhythm_base.specs.Cost.{weight_of, sequence_of, charge_in, charge, charges, displacement_in, is_late, weights, cost}
use Rattle.rhythm_base.specs.DeadBars.{chords_before}
use Rattle.rhythm_base.specs.Leaves.{VoiceBar, Leaf, lies_in, looks, in_bar, voice_leaves, are_bars}
use Rattle.rhythm_base.specs.declared.inner.Inner.{Inner}
use Rattle.rhythm_base.specs.Line.{Rising}
use Rattle.rhythm_base.specs.Grammar.{Grammar}
use Rattle.rhythm_base.specs.Trees.{BarLeaf, is_tree, leaves_of}
use Rattle.tree_laws.specs.Runs.{IsLine}
use Rattle.tree_laws.specs.VersionOne.{displacement, displaced}
use Rattle.tree_laws.specs.Voices.{Adjacent, cell_costs}

-- ---- an onset in its line

-- what lies in a line, in front of another
charge-first : (g : Grammar) (s z : ℕ → Bool) (xs ys : List Leaf) (t : ℕ) → IsLine (looks g.resolution) s xs z → s t ≡ true → z t ≡ false → charge g (xs ++ ys) t ≡ charge g xs t
charge-first g s z [] ys t line h k = let same : s t ≡ z t = (λ i. line i t) in absurd (cc)
charge-first g s z (x ∷ xs) ys t line h k = go (lies_in g.resolution x t) refl (λ e. charge-first g line.0 z xs ys t line.2 e k)
  where
    reached : (a : Bool) → a ≡ true → (b : Bool) → a && not b ≡ false → b ≡ true
    reached true e true f = refl
    reached true e false f = sym f
    reached false e b f = absurd (cc)

    go : (b : Bool) → lies_in g.resolution x t ≡ b → (line.0 t ≡ true → charge g (xs ++ ys) t ≡ charge g xs t)
        → (if b then charge_in g x t else charge g (xs ++ ys) t) ≡ (if b then charge_in g x t else charge g xs t)
    go true e ih = refl
    go false e ih = ih (reached (s t) h (line.0 t) (sym (line.1.inside t) ∙ e))

-- what lies after a line
charge-later : (g : Grammar) (s z : ℕ → Bool) (xs ys : List Leaf) (t : ℕ) → IsLine (looks g.resolution) s xs z → z t ≡ true → charge g (xs ++ ys) t ≡ charge g ys t
charge-later g s z [] ys t line h = refl
charge-later g s z (x ∷ xs) ys t line h =
    let out : lies_in g.resolution x t ≡ false = line.1.inside t ∙ no_left (looks g.resolution) (s t) (not (line.0 t)) (ap not (reaches (looks g.resolution) line.0 z xs line.2 t h)) in
    rw out (charge-later g line.0 z xs ys t line.2 h)

charge_in-moved : (g : Grammar) (bar : VoiceBar) (x : BarLeaf) (t : ℕ) → charge_in g (record { bar = at_zero bar; part = x }) (t - bar.start) ≡ charge_in g (record { bar = bar; part = x }) t
charge_in-moved g bar x t = rw (take_zero (t - bar.start)) refl

charge-moved : (g : Grammar) (bar : VoiceBar) (p : ℕ) (xs : List BarLeaf) (t : ℕ) → SideBySide p xs g.resolution → has_onset bar t ≡ true
    → charge g (in_bar (at_zero bar) xs) (t - bar.start) ≡ charge g (in_bar bar xs) t
charge-moved g bar p [] t h here = refl
charge-moved g bar p (x ∷ xs) t h here =
    let within = before_end (p + x.width) g.resolution xs h.2 in
    let place = h.0 in
    let lies : lies_in g.resolution (record { bar = at_zero bar; part = x }) (t - bar.start) ≡ lies_in g.resolution (record { bar = bar; part = x }) t =
    ap (λ b. b && lies_in g.resolution (record { bar = at_zero bar; part = x }) (t - bar.start)) (sym here) ∙ lies-moved g.resolution bar x t (omega arith) in
    ap₂ (λ b d. if b then d else charge g (in_bar (at_zero bar) xs) (t - bar.start)) lies (charge_in-moved g bar x t)
    ∙ ap (λ d. if lies_in g.resolution (record { bar = bar; part = x }) t then charge_in g (record { bar = bar; part = x }) t else d) (charge-moved g bar (p + x.width) xs t h.2 here)

-- ---- the sums

charges-append : (g : Grammar) (xs : List Leaf) (cs ds : List Inner) → charges g xs (cs ++ ds) ≡ charges g xs cs + charges g xs ds
charges-append g xs cs ds = sum_by-append (λ c. charge g xs c.onset) cs ds

charges-cons : (g : Grammar) (xs : List Leaf) (c : Inner) (cs : List Inner) → charges g xs (c ∷ cs) ≡ charge g xs c.onset + charges g xs cs
charges-cons g xs c cs = sum_by-cons (λ c. charge g xs c.onset) c cs

charges-kept : (g : Grammar) (p : ℕ → Bool) (xs ys : List Leaf) (cs : List Inner) → ((t : ℕ) → p t ≡ true → charge g xs t ≡ charge g ys t)
    → charges g xs (filter (λ c. p c.onset) cs) ≡ charges g ys (filter (λ c. p c.onset) cs)
charges-kept g p xs ys [] same = refl
charges-kept g p xs ys (c ∷ cs) same = go (p c.onset) refl (charges-kept g p xs ys cs same)
  where
    rest : List Inner
    rest = filter (λ c. p c.onset) cs

    go : (b : Bool) → p c.onset ≡ b → charges g xs rest ≡ charges g ys rest → charges g xs (cond b (c ∷ rest) rest) ≡ charges g ys (cond b (c ∷ rest) rest)
    go true e ih = charges-cons g xs c rest ∙ ap₂ ◌+◌ (same c.onset e) ih ∙ sym (charges-cons g ys c rest)
    go false e ih = ih

charges-moved : (g : Grammar) (bar : VoiceBar) (ps : List BarLeaf) (cs : List Inner) → SideBySide 0 ps g.resolution
    → charges g (in_bar (at_zero bar) ps) (map (within_bar bar) (filter (λ c. has_onset bar c.onset) cs)) ≡ charges g (in_bar bar ps) (filter (λ c. has_onset bar c.onset) cs)
charges-moved g bar ps [] h = refl
charges-moved g bar ps (c ∷ cs) h = go (has_onset bar c.onset) refl (charges-moved g bar ps cs h)
  where
    rest : List Inner
    rest = filter (λ c. has_onset bar c.onset) cs

    go : (b : Bool) → has_onset bar c.onset ≡ b → charges g (in_bar (at_zero bar) ps) (map (within_bar bar) rest) ≡ charges g (in_bar bar ps) rest
        → charges g (in_bar (at_zero bar) ps) (map (within_bar bar) (cond b (c ∷ rest) rest)) ≡ charges g (in_bar bar ps) (cond b (c ∷ rest) rest)
    go true e ih =
        charges-cons g (in_bar (at_zero bar) ps) (within_bar bar c) (map (within_bar bar) rest)
        ∙ ap₂ ◌+◌ (charge-moved g bar 0 ps c.onset h e) ih
        ∙ sym (charges-cons g (in_bar bar ps) c rest)
    go false e ih = ih

-- ---- bar by bar

by_barline : (b m e t : ℕ) → b ≤ m → m ≤ e → between (from_tick b) (from_tick e) t ≡ between (from_tick b) (from_tick m) t || between (from_tick m) (from_tick e) t
by_barline b m e t le le' = go (nat_le b t) (nat_le m t) (nat_le e t) refl refl refl
  where
    go : (x y z : Bool) → nat_le b t ≡ x → nat_le m t ≡ y → nat_le e t ≡ z → x && not z ≡ (x && not y) || (y && not z)
    go true true true h k l = refl
    go true true false h k l = refl
    go true false true h k l = let no : nat_le m t ≡ true = grind (arith, nat_tests) in absurd (cc)
    go true false false h k l = refl
    go false true z h k l = let no : nat_le b t ≡ true = grind (arith, nat_tests) in absurd (cc)
    go false false z h k l = refl

in_bar_is : (bar : VoiceBar) (t : ℕ) → between (from_tick bar.start) (from_tick (bar.start + bar.length)) t ≡ has_onset bar t
in_bar_is bar t = ap (λ b. nat_le bar.start t && b) (sym (lt_not_le t (bar.start + bar.length)))

abbrev cells_charges : Grammar → List Inner → List VoiceBar → List Tree → ℕ
cells_charges g cs [] ts = 0
cells_charges g cs (bar ∷ bars) [] = 0
cells_charges g cs (bar ∷ bars) (t ∷ ts) = charges g (leaves_in g (input g bar cs) t) (input g bar cs).chords + cells_charges g cs bars ts

no_chord : (g : Grammar) (p : ℕ → Bool) (cs : List Inner) → charges g [] (filter (λ c. p c.onset) cs) ≡ 0
no_chord g p [] = refl
no_chord g p (c ∷ cs) = go (p c.onset) (no_chord g p cs)
  where
    rest : List Inner
    rest = filter (λ c. p c.onset) cs

    go : (b : Bool) → charges g [] rest ≡ 0 → charges g [] (cond b (c ∷ rest) rest) ≡ 0
    go true ih = let one = charges-cons g [] c rest in omega (arith, one, ih)
    go false ih = ih

line-cells : (g : Grammar) (cs : List Inner) (low : ℕ) (bars : List VoiceBar) (ts : List Tree) (b e : ℕ) → 1 ≤ g.resolution → Rising low cs → Adjacent b bars e → are_bars g bars ts ≡ true
    → charges g (voice_leaves g bars ts) (filter (λ c. between (from_tick b) (from_tick e) c.onset) cs) ≡ cells_charges g cs bars ts
line-cells g cs low [] ts b e some rise near h = no_chord g (between (from_tick b) (from_tick e)) cs
line-cells g cs low (bar ∷ bars) [] b e some rise near h = absurd (cc)
line-cells g cs low (bar ∷ bars) (t ∷ ts) b e some rise near h =
    ap (charges g (xs ++ ys)) (filter_split (between (from_tick b) (from_tick e)) (between (from_tick b) (from_tick m)) (between (from_tick m) (from_tick e)) low cs rise (λ t. by_barline b m e t (omega arith) (adjacent_end bars m e near.2)) order)
    ∙ charges-append g (xs ++ ys) first others
    ∙ ap₂ ◌+◌
    (charges-kept g (between (from_tick b) (from_tick m)) (xs ++ ys) xs cs (λ t k. charge-first g (from_tick b) (from_tick m) xs ys t line (and_left (nat_le b t) _ k) (not-true (nat_le m t) (and_right (nat_le b t) _ k))) ∙ in_cell)
    (charges-kept g (between (from_tick m) (from_tick e)) (xs ++ ys) ys cs (λ t k. charge-later g (from_tick b) (from_tick m) xs ys t line (and_left (nat_le m t) _ k))
    ∙ line-cells g cs low bars ts m e some rise near.2 (and_right (is_tree g.rules g.resolution bar.symbol bar.pin t) _ h))
  where
    m : ℕ
    m = b + bar.length

    ps : List BarLeaf
    ps = leaves_of g.rules g.resolution bar.symbol t

    xs : List Leaf
    xs = in_bar bar ps

    ys : List Leaf
    ys = voice_leaves g bars ts

    first : List Inner
    first = filter (λ c. between (from_tick b) (from_tick m) c.onset) cs

    others : List Inner
    others = filter (λ c. between (from_tick m) (from_tick e) c.onset) cs

    filled : SideBySide 0 ps g.resolution
    filled = parts-fill g.rules g.resolution bar.symbol bar.pin t some (and_left (is_tree g.rules g.resolution bar.symbol bar.pin t) _ h)

    line : IsLine (looks g.resolution) (from_tick b) xs (from_tick m)
    line = subst (λ n. IsLine (looks g.resolution) (from_tick n) xs (from_tick (n + bar.length))) near.0 (bar-line g.resolution bar ps some near.1 filled)

    order : (t u : ℕ) → t ≤ u → between (from_tick m) (from_tick e) t ≡ true → between (from_tick b) (from_tick m) u ≡ false
    order t u le k =
        let far = le_tells m t (and_left (nat_le m t) _ k) in
        let past : nat_le m u ≡ true = le_from m u (omega arith) in
        no_left (looks g.resolution) (nat_le b u) (not (nat_le m u)) (ap not past)

    in_cell : charges g xs first ≡ charges g (leaves_in g (input g bar cs) t) (input g bar cs).chords
    in_cell =
        ap (λ n. charges g xs (filter (λ c. between (from_tick n) (from_tick (n + bar.length)) c.onset) cs)) (sym near.0)
        ∙ (λ i. charges g xs (filter (λ c. in_bar_is bar c.onset i) cs))
        ∙ sym (charges-moved g bar ps cs filled)

weights-next : (g : Grammar) (t : Tree) (ts : List Tree) → weights g (sequence_of (t ∷ ts)) ≡ weights g (preorder_of t) + weights g (sequence_of ts)
weights-next g t ts = sum_by-append (λ r. weight_of (slice_get g.rules r)) (preorder_of t) (sequence_of ts)

cell_costs-is : (g : Grammar) (cs : List Inner) (bars : List VoiceBar) (ts : List Tree) → are_bars g bars ts ≡ true → cell_costs g cs bars ts ≡ weights g (sequence_of ts) + cells_charges g cs bars ts
cell_costs-is g cs [] [] h = omega arith
cell_costs-is g cs [] (t ∷ ts) h = absurd (cc)
cell_costs-is g cs (bar ∷ bars) [] h = absurd (cc)
cell_costs-is g cs (bar ∷ bars) (t ∷ ts) h =
    let ih = cell_costs-is g cs bars ts (and_right (is_tree g.rules g.resolution bar.symbol bar.pin t) _ h) in
    let next = weights-next g t ts in
    (plain (weights g (preorder_of t)) (charges g (leaves_in g (input g bar cs) t) (input g bar cs).chords) (cell_costs g cs bars ts) (weights g (sequence_of ts)) (cells_charges g cs bars ts) ih)
    ∙ ap (λ n. n + cells_charges g cs (bar ∷ bars) (t ∷ ts)) (sym next)
  where
    plain : (w d c v n : ℕ) → c ≡ v + n → w + d + c ≡ (w + v) + (d + n)
    plain w d c v n k = omega (arith, k)

-- the cost of the bars from the first on is the sum of the costs of their cells
pub cost-cells : (g : Grammar) (bars : List VoiceBar) (cs : List Inner) (ts : List Tree) (b e : ℕ) → 1 ≤ g.resolution → Adjacent b bars e → Rising b cs → are_bars g bars ts ≡ true
    → cost g bars (chords_before e cs) ts ≡ cell_costs g cs bars ts
cost-cells g bars cs ts b e some near rise h =
    ap (λ l. weights g (sequence_of ts) + charges g (voice_leaves g bars ts) l) (heard-is b e b cs (omega arith) rise)
    ∙ ap (λ n. weights g (sequence_of ts) + n) (line-cells g cs b bars ts b e some rise near h)
    ∙ sym (cell_costs-is g cs bars ts h)

-- ---- version 1: one weight for early and late

even_in : (g : Grammar) (o : ℕ) (x : Leaf) (t : ℕ) → g.early ≡ o → g.late ≡ o → charge_in g x t ≡ o * displacement_in g.resolution x t
even_in g o x t early late = go (is_late g.resolution x t)
  where
    go : (b : Bool) → (if b then g.late else g.early) * displacement_in g.resolution x t ≡ o * displacement_in g.resolution x t
    go true = ap (λ n. n * displacement_in g.resolution x t) late
    go false = ap (λ n. n * displacement_in g.resolution x t) early

charge-even : (g : Grammar) (o : ℕ) (xs : List Leaf) (t : ℕ) → g.early ≡ o → g.late ≡ o → charge g xs t ≡ o * displacement g.resolution xs t
charge-even g o [] t early late = grind arith
charge-even g o (x ∷ xs) t early late = go (lies_in g.resolution x t) (charge-even g o xs t early late)
  where
    go : (b : Bool) → charge g xs t ≡ o * displacement g.resolution xs t → (if b then charge_in g x t else charge g xs t) ≡ o * (if b then displacement_in g.resolution x t else displacement g.resolution xs t)
    go true ih = even_in g o x t early late
    go false ih = ih

pub charges-even : (g : Grammar) (o : ℕ) (xs : List Leaf) (cs : List Inner) → g.early ≡ o → g.late ≡ o → charges g xs cs ≡ o * displaced g.resolution xs cs
charges-even g o xs [] early late = grind arith
charges-even g o xs (c ∷ cs) early late =
    charges-cons g xs c cs
    ∙ ap₂ ◌+◌ (charge-even g o xs c.onset early late) (charges-even g o xs cs early late)
    ∙ plain (displacement g.resolution xs c.onset) (displaced g.resolution xs cs)
  where
    plain : (m n : ℕ) → o * m + o * n ≡ o * (m + n)
    plain m n = grind arith
