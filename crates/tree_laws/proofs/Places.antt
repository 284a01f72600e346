-- The run of an interval of units depends on the cell, the interval and the count alone, not on the leaves before it.
use Rattle.std.proofs.Common.{◌≡◌, ℕ, ◌+◌, ◌-◌, ◌*◌, ◌≤◌, ◌<◌, Bool, true, false, not, ◌&&◌, ◌||◌, List, [], ◌∷◌, ◌++◌, map, filter, refl, sym, ap, ap₂, ◌∙◌, subst, arith, append_assoc}
use Rattle.std.specs.Prelude.{nat_le, slice_get}
use Rattle.std.proofs.lemmas.List.{map-append}
use Rattle.rhythm_base.specs.Forest.{Forest, more, Tree}
use Rattle.tree_laws.proofs.Lists.{filter_split, filter_nothing}
use Rattle.rhythm_base.proofs.Booleans.{and_left, and_right}
use Rattle.tree_laws.proofs.Reading.{between, reaches}
use Rattle.rhythm_base.proofs.LastEnds.{last_end-append}
use Rattle.tree_laws.proofs.Runs.{runs-append, leaving-append, ending-is, runs-few_leaf, runs-one_leaf}
use Rattle.tree_laws.proofs.Bars.{SideBySide, leaves_under, tree-fill}
use Rattle.tree_laws.proofs.Cells.{cell-agree, cell-past}
use Rattle.tree_laws.proofs.Ticks.{le_from, le_tells, scaled, reach, parts-line}
use Rattle.rhythm_base.specs.BarInput.{BarInput}
use Rattle.rhythm_base.specs.Lists.{last_end}
use Rattle.rhythm_base.specs.Cells.{CellFits, bar_of, leaves_in}
use Rattle.rhythm_base.specs.Leaves.{VoiceBar, looks, in_bar}
use Rattle.rhythm_base.specs.declared.inner.Inner.{Inner}
use Rattle.rhythm_base.specs.Line.{Rising}
use Rattle.rhythm_base.specs.Grammar.{Grammar}
use Rattle.rhythm_base.specs.Trees.{BarLeaf, suits, are_trees, children_of, leaves_at, leaves, is_tree, leaves_of}
use Rattle.rhythm_base.specs.declared.rule.Rule.{Rule}
use Rattle.tree_laws.specs.Runs.{IsLine, runs, leaving, ending}
use Rattle.tree_laws.specs.Voices.{HoldsChords}
pub use Rattle.tree_laws.specs.Places.{end_before, runs_at, FitsAt}

reach-later : (r : ℕ) (bar : VoiceBar) (p t u : ℕ) → t ≤ u → reach r bar p t ≡ true → reach r bar p u ≡ true
reach-later r bar p t u le h =
    let here = le_tells bar.start t (and_left (nat_le bar.start t) _ h) in
    let far = le_tells _ _ (and_right (nat_le bar.start t) _ h) in
    let more = scaled bar.start r t u le in
    rw (le_from bar.start u (omega arith), le_from (p * bar.length) ((u - bar.start) * r) (omega arith)) refl

pub in_bar-append : (bar : VoiceBar) (xs ys : List BarLeaf) → in_bar bar (xs ++ ys) ≡ in_bar bar xs ++ in_bar bar ys
in_bar-append bar xs ys = map-append (λ p. record { bar = bar; part = p }) xs ys

by_place : (a b : Bool) → (b ≡ true → a ≡ true) → not b ≡ not a || (a && not b)
by_place true true h = refl
by_place true false h = refl
by_place false true h = h refl
by_place false false h = refl

module _ (r : ℕ) (bar : VoiceBar) (cs : List Inner) (low e : ℕ) (rise : Rising low cs) (long : 1 ≤ bar.length) where
  end_before-step : (p m : ℕ) (xs : List BarLeaf) → SideBySide p xs m → ending (looks r) cs (end_before r bar cs e p) (in_bar bar xs) ≡ end_before r bar cs e m
  end_before-step p m xs h =
      ending-is (looks r) cs (reach r bar p) (reach r bar m) (end_before r bar cs e p) low (in_bar bar xs) rise line
      ∙ sym (last_end-append e (map (λ c. c.end) (filter (λ c. not (reach r bar p c.onset)) cs)) (map (λ c. c.end) (filter (λ c. between (reach r bar p) (reach r bar m) c.onset) cs)))
      ∙ sym (ap (last_end e) (ap (map (λ c. c.end)) (filter_split (λ t. not (reach r bar m t)) (λ t. not (reach r bar p t)) (between (reach r bar p) (reach r bar m)) low cs rise
      (λ t. by_place (reach r bar p t) (reach r bar m t) (reaches (looks r) (reach r bar p) (reach r bar m) (in_bar bar xs) line t))
      (λ t u le k. ap not (reach-later r bar p t u le (and_left (reach r bar p t) _ k))))
      ∙ map-append (λ c. c.end) (filter (λ c. not (reach r bar p c.onset)) cs) (filter (λ c. between (reach r bar p) (reach r bar m) c.onset) cs)))
    where
      line : IsLine (looks r) (reach r bar p) (in_bar bar xs) (reach r bar m)
      line = parts-line r bar p m xs long h

  -- parts side by side agree with one another through a count alone
  pub runs_at-append : (p m f : ℕ) (xs ys : List BarLeaf) → SideBySide p xs m
      → runs_at r bar cs e p f (xs ++ ys) ≡ runs_at r bar cs e p f xs && runs_at r bar cs e m (leaving (looks r) cs f (in_bar bar xs)) ys
  runs_at-append p m f xs ys h =
      ap (runs (looks r) cs (end_before r bar cs e p) f) (in_bar-append bar xs ys)
      ∙ runs-append (looks r) cs (end_before r bar cs e p) f (in_bar bar xs) (in_bar bar ys)
      ∙ ap (λ d. runs_at r bar cs e p f xs && runs (looks r) cs d (leaving (looks r) cs f (in_bar bar xs)) (in_bar bar ys)) (end_before-step p m xs h)

  pub leaving_at-append : (f : ℕ) (xs ys : List BarLeaf) → leaving (looks r) cs f (in_bar bar (xs ++ ys)) ≡ leaving (looks r) cs (leaving (looks r) cs f (in_bar bar xs)) (in_bar bar ys)
  leaving_at-append f xs ys = ap (leaving (looks r) cs f) (in_bar-append bar xs ys) ∙ leaving-append (looks r) cs f (in_bar bar xs) (in_bar bar ys)

  -- parts that fill some units agree with one count
  pub runs_at-one : (p m f g : ℕ) (xs : List BarLeaf) → SideBySide p xs m → p < m → runs_at r bar cs e p f xs ≡ true → runs_at r bar cs e p g xs ≡ true → f ≡ g
  runs_at-one p m f g [] h some k j = absurd (omega (arith, h))
  runs_at-one p m f g (x ∷ xs) h some k j = runs-one_leaf (looks r) cs (end_before r bar cs e p) f g (record { bar = bar; part = x }) (in_bar bar xs) k j

-- at the bar's start it is the end before the bar
pub end_before-first : (r : ℕ) (bar : VoiceBar) (cs : List Inner) (e : ℕ) → Rising bar.start cs → end_before r bar cs e 0 ≡ e
end_before-first r bar cs e rise =
    ap (λ l. last_end e (map (λ c. c.end) l)) (filter_nothing (λ t. not (reach r bar 0 t)) bar.start cs rise (λ u le. ap not (first u le)))
  where
    first : (u : ℕ) → bar.start ≤ u → reach r bar 0 u ≡ true
    first u le = let nothing : 0 * bar.length ≡ 0 = grind arith in rw (le_from bar.start u le, le_from (0 * bar.length) ((u - bar.start) * r) (omega arith)) refl

-- ---- what a table of intervals asks for

few_between : (r : ℕ) (bar : VoiceBar) (cs : List Inner) (e p f t : ℕ) (xs : List BarLeaf) → runs_at r bar cs e p f xs ≡ true → leaving (looks r) cs f (in_bar bar xs) ≡ t → t ≤ 4 → f ≤ 4
few_between r bar cs e p f t [] h k few = subst (λ n. n ≤ 4) (sym k) few
few_between r bar cs e p f t (x ∷ xs) h k few = runs-few_leaf (looks r) cs (end_before r bar cs e p) f (record { bar = bar; part = x }) (in_bar bar xs) h

module _ (r : ℕ) (bar : VoiceBar) (cs : List Inner) (low e : ℕ) (rise : Rising low cs) (long : 1 ≤ bar.length) (p m : ℕ) (xs : List BarLeaf) (side : SideBySide p xs m) where
  -- two lists of parts side by side fit exactly where each fits, with a count between them
  pub fits_at-split : (ys : List BarLeaf) (f t : ℕ) → FitsAt r bar cs e p (xs ++ ys) f t → (n : ℕ) × FitsAt r bar cs e p xs f n × FitsAt r bar cs e m ys n t
  fits_at-split ys f t h =
      let n : ℕ = leaving (looks r) cs f (in_bar bar xs) in
      let both = sym (runs_at-append r bar cs low e rise long p m f xs ys side) ∙ h.runs in
      let own = and_left (runs_at r bar cs e p f xs) _ both in
      let others = and_right (runs_at r bar cs e p f xs) _ both in
      let out = sym (leaving_at-append r bar cs low e rise long f xs ys) ∙ h.leave in
      let few = few_between r bar cs e m n t ys others out h.few_to in (
        n,
        record { runs = own; leave = refl; few_from = h.few_from; few_to = few },
        record { runs = others; leave = out; few_from = few; few_to = h.few_to },
      )

  pub fits_at-join : (ys : List BarLeaf) (f n t : ℕ) → FitsAt r bar cs e p xs f n → FitsAt r bar cs e m ys n t → FitsAt r bar cs e p (xs ++ ys) f t
  fits_at-join ys f n t h k =
      let others : runs_at r bar cs e m (leaving (looks r) cs f (in_bar bar xs)) ys ≡ true = subst (λ n. runs_at r bar cs e m n ys ≡ true) (sym h.leave) k.runs in
      record {
        runs = runs_at-append r bar cs low e rise long p m f xs ys side ∙ ap₂ ◌&&◌ h.runs others;
        leave = leaving_at-append r bar cs low e rise long f xs ys ∙ ap (λ n. leaving (looks r) cs n (in_bar bar ys)) h.leave ∙ k.leave;
        few_from = h.few_from;
        few_to = k.few_to;
      }

  -- parts that fill some units fit with one pair of counts
  pub fits_at-one : (f t f' t' : ℕ) → p < m → FitsAt r bar cs e p xs f t → FitsAt r bar cs e p xs f' t' → (f ≡ f') × (t ≡ t')
  fits_at-one f t f' t' some h k =
      let same = runs_at-one r bar cs low e rise long p m f f' xs side some h.runs k.runs in
      (same, sym h.leave ∙ ap (λ n. leaving (looks r) cs n (in_bar bar xs)) same ∙ k.leave)

-- a tree fits a cell exactly where its leaves fit from 0 on
pub cell-at : (g : Grammar) (k : BarInput) (t : Tree) (f to : ℕ) → 1 ≤ k.resolution → HoldsChords k → CellFits g k t f to → FitsAt k.resolution (bar_of k) k.chords k.before 0 (leaves_of g.rules k.resolution k.symbol t) f to
cell-at g k t f to some is h = record {
  runs = ap (λ e. runs (looks k.resolution) k.chords e f (leaves_in g k t)) (end_before-first k.resolution (bar_of k) k.chords k.before is.rise) ∙ sym (cell-agree g k t f some is h.tree) ∙ h.leaves;
  leave = sym (cell-past g k t f some is h.tree) ∙ h.leave;
  few_from = h.few_from;
  few_to = h.few_to;
}

pub at-cell : (g : Grammar) (k : BarInput) (t : Tree) (f to : ℕ) → 1 ≤ k.resolution → HoldsChords k → is_tree g.rules k.resolution k.symbol k.pin t ≡ true
    → FitsAt k.resolution (bar_of k) k.chords k.before 0 (leaves_of g.rules k.resolution k.symbol t) f to → CellFits g k t f to
at-cell g k t f to some is tree h = record {
  tree = tree;
  leave = cell-past g k t f some is tree ∙ h.leave;
  leaves = cell-agree g k t f some is tree ∙ sym (ap (λ e. runs (looks k.resolution) k.chords e f (leaves_in g k t)) (end_before-first k.resolution (bar_of k) k.chords k.before is.rise)) ∙ h.runs;
  few_from = h.few_from;
  few_to = h.few_to;
}

-- ---- trees side by side

module _ (rules : List Rule) (res : ℕ) (bar : VoiceBar) (cs : List Inner) (low e : ℕ) (rise : Rising low cs) (long : 1 ≤ bar.length) (p : ℕ) (q : ℕ × ℕ) (qs : List (ℕ × ℕ)) (r : ℕ) (k rest : Forest) (wide : 1 ≤ q.0) (h : are_trees rules (q ∷ qs) (more r k rest) ≡ true) where
  -- what the first tree has below it fills its width
  first-fill : SideBySide p (leaves_under rules (slice_get rules r) p q k) (p + q.0)
  first-fill =
      tree-fill rules (slice_get rules r) p q k wide (and_left (suits (slice_get rules r) q) _ h)
      (and_left (are_trees rules (children_of (slice_get rules r) q.0) k) _ (and_right (suits (slice_get rules r) q) _ h))

  first-others : leaves rules p (q ∷ qs) (more r k rest) ≡ leaves_under rules (slice_get rules r) p q k ++ leaves rules (p + q.0) qs rest
  first-others = sym (append_assoc (leaves_at (slice_get rules r) p q.0) (leaves rules p (children_of (slice_get rules r) q.0) k) (leaves rules (p + q.0) qs rest))

  -- trees fit exactly where the first fits and the others fit, with a count between them
  pub trees-split : (f t : ℕ) → FitsAt res bar cs e p (leaves rules p (q ∷ qs) (more r k rest)) f t
      → (n : ℕ) × FitsAt res bar cs e p (leaves_under rules (slice_get rules r) p q k) f n × FitsAt res bar cs e (p + q.0) (leaves rules (p + q.0) qs rest) n t
  trees-split f t fit =
      fits_at-split res bar cs low e rise long p (p + q.0) (leaves_under rules (slice_get rules r) p q k) first-fill (leaves rules (p + q.0) qs rest) f t
      (subst (λ l. FitsAt res bar cs e p l f t) first-others fit)

  pub trees-join : (f n t : ℕ) → FitsAt res bar cs e p (leaves_under rules (slice_get rules r) p q k) f n → FitsAt res bar cs e (p + q.0) (leaves rules (p + q.0) qs rest) n t
      → FitsAt res bar cs e p (leaves rules p (q ∷ qs) (more r k rest)) f t
  trees-join f n t own others =
      subst (λ l. FitsAt res bar cs e p l f t) (sym first-others)
      (fits_at-join res bar cs low e rise long p (p + q.0) (leaves_under rules (slice_get rules r) p q k) first-fill (leaves rules (p + q.0) qs rest) f n t own others)

  -- and the first fits with one pair of counts
  pub tree-one : (f t f' t' : ℕ) → FitsAt res bar cs e p (leaves_under rules (slice_get rules r) p q k) f t → FitsAt res bar cs e p (leaves_under rules (slice_get rules r) p q k) f' t' → (f ≡ f') × (t ≡ t')
  tree-one f t f' t' = fits_at-one res bar cs low e rise long p (p + q.0) (leaves_under rules (slice_get rules r) p q k) first-fill f t f' t' (omega arith)
