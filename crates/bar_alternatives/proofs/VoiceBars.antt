-- A derivation of a voice round one of its bars: the bars before it, its tree, and the bars after it.
use Rattle.std.proofs.Common.{◌≡◌, ◌≢◌, ℕ, zero, suc, ◌+◌, ◌<◌, ◌≤◌, inl, inr, true, List, [], ◌∷◌, take, drop, refl, sym, ap, ◌∙◌, subst, arith}
use Rattle.std.specs.Prelude.{Option, Some, None, nat_lt, slice_get}
use Rattle.std.specs.Ordering.{nat_cmp, ordering_then}
use Rattle.std.specs.declared.cmp.Ordering.{Ordering}
use Rattle.std.specs.declared.cmp.Ordering.TheVariants.{Less}
use Rattle.std.specs.List.{list_all}
use Rattle.std.proofs.lemmas.List.{drop-map, take-map}
use Rattle.tree_laws.specs.Alternatives.{AreAlternatives, IsAlternative, without_pin_at}
use Rattle.rhythm_base.specs.BarInput.{BarInput}
use Rattle.rhythm_base.specs.BarTables.{BarTable}
use Rattle.rhythm_base.specs.Cells.{CellFits, cell_cost, input}
use Rattle.rhythm_base.specs.Cost.{cost}
use Rattle.rhythm_base.specs.DeadBars.{end_of_bars}
use Rattle.rhythm_base.specs.Forest.{Tree}
use Rattle.rhythm_base.specs.Grammar.{Grammar}
use Rattle.rhythm_base.specs.Leaves.{FitsVoice, VoiceBar}
use Rattle.rhythm_base.specs.Paths.{IsPathKey}
use Rattle.rhythm_base.specs.Ranked.{Key, key_cmp, least_key}
use Rattle.rhythm_base.specs.declared.inner.Inner.{Inner}
use Rattle.path_laws.specs.Tables.{IsLeastKey}
use Rattle.tree_laws.specs.Voices.{Adjacent, CellsFit, IsVoice, cell_costs}
use Rattle.tree_laws.proofs.Cells.{input-cell, one_pair}
use Rattle.rhythm_base.proofs.TotalOrders.{never_less}
use Rattle.tree_laws.proofs.Locality.{cells-counts, counts-cells, locality, locality-back, locality-cost}
use Rattle.path_laws.proofs.PathTables.{keys-least_path}
use Rattle.path_laws.proofs.Products.{five_at}
use Rattle.tree_laws.proofs.Ranks.{not_less-means}
use Rattle.chain_bars.specs.Laws.{AreTables, matrices}
use Rattle.chain_bars.specs.Tower.{cost_of}
use Rattle.chain_bars.proofs.Voices.{along_fits, along_key, beaten, path_trees}
use Rattle.bar_alternatives.specs.BestTrees.{AreBestTrees, IsLookedAt, cost_at, unpinned}
use Rattle.bar_alternatives.specs.Laws.{costs_after, costs_before}

-- ---- the bars without the pin

near_free : (i : ℕ) (bars : List VoiceBar) (b e : ℕ) → Adjacent b bars e → Adjacent b (without_pin_at i bars) e
near_free i [] b e h = h
near_free zero (bar ∷ bars) b e h = h
near_free (suc i) (bar ∷ bars) b e h = (h.0, h.1, near_free i bars (b + bar.length) e h.2)

end_free : (i : ℕ) (bars : List VoiceBar) (b : ℕ) → end_of_bars b (without_pin_at i bars) ≡ end_of_bars b bars
end_free i [] b = refl
end_free zero (bar ∷ bars) b = refl
end_free (suc i) (bar ∷ bars) b = end_free i bars (bar.start + bar.length)

voice_free : (g : Grammar) (bars : List VoiceBar) (cs : List Inner) (i : ℕ) → IsVoice g bars cs → IsVoice g (without_pin_at i bars) cs
voice_free g bars cs i voice =
    let P : ℕ → Type 0 = λ e. Adjacent 0 (without_pin_at i bars) e × (list_all (λ c. nat_lt c.onset e) cs ≡ true) in
    let both = subst P (sym (end_free i bars 0)) (near_free i bars 0 (end_of_bars 0 bars) voice.near, voice.below) in
    record { some = voice.some; near = both.0; rise = voice.rise; below = both.1 }

bar_near : (bars : List VoiceBar) (b e i : ℕ) (bar : VoiceBar) → Adjacent b bars e → slice_get bars i ≡ Some bar → 1 ≤ bar.length
bar_near [] b e i bar h at = absurd (cc)
bar_near (x ∷ bars) b e zero bar h at = let same : x ≡ bar = cc in subst (λ y. 1 ≤ y.length) same h.1
bar_near (x ∷ bars) b e (suc i) bar h at = bar_near bars (b + x.length) e i bar h.2 at

-- ---- before, the bar, and after

module _ (g : Grammar) (cs : List Inner) where
  abbrev free_input : VoiceBar → BarInput
  free_input bar = unpinned (input g bar cs)

  pub record AreRound (i : ℕ) (bars : List VoiceBar) (us : List Tree) (bar : VoiceBar) (t : Tree) (f to : ℕ) : Type 0 where
    pub from : ℕ
    pub on : ℕ
    pub before : CellsFit g cs (take i bars) (take i us) f from
    pub fits : CellFits g (free_input bar) t from on
    pub after : CellsFit g cs (drop (suc i) bars) (drop (suc i) us) on to
    pub costs : cell_costs g cs (without_pin_at i bars) us ≡ cell_costs g cs (take i bars) (take i us) + (cell_cost g (free_input bar) t + cell_costs g cs (drop (suc i) bars) (drop (suc i) us))

  split : (i : ℕ) (bars : List VoiceBar) (us : List Tree) (bar : VoiceBar) (t : Tree) (f to : ℕ) → slice_get bars i ≡ Some bar → slice_get us i ≡ Some t
      → CellsFit g cs (without_pin_at i bars) us f to → AreRound i bars us bar t f to
  split i [] us bar t f to at tree h = absurd (cc)
  split i (b ∷ bars) [] bar t f to at tree h = absurd (cc)
  split zero (b ∷ bars) (u ∷ us) bar t f to at tree h =
      let same : b ≡ bar = cc in
      let own : u ≡ t = cc in
      record {
        from = f;
        on = h.0;
        before = refl;
        fits = subst (λ u. CellFits g (free_input bar) u f h.0) own (subst (λ b. CellFits g (free_input b) u f h.0) same h.1);
        after = h.2;
        costs = let sum : cell_cost g (free_input b) u ≡ cell_cost g (free_input bar) t = (λ j. cell_cost g (free_input (same j)) (own j)) in omega (arith, sum);
      }
  split (suc i) (b ∷ bars) (u ∷ us) bar t f to at tree h =
      let rest = split i bars us bar t h.0 to at tree h.2 in
      record {
        from = rest.from;
        on = rest.on;
        before = (h.0, h.1, rest.before);
        fits = rest.fits;
        after = rest.after;
        costs = let sum = rest.costs in omega (arith, sum);
      }

  pub record IsJoined (i : ℕ) (bars : List VoiceBar) (bar : VoiceBar) (t : Tree) (f to sum : ℕ) : Type 0 where
    pub trees : List Tree
    pub fits : CellsFit g cs (without_pin_at i bars) trees f to
    pub tree : slice_get trees i ≡ Some t
    pub costs : cell_costs g cs (without_pin_at i bars) trees ≡ sum

  join : (i : ℕ) (bars : List VoiceBar) (ts us : List Tree) (bar : VoiceBar) (t : Tree) (f from on to : ℕ) → slice_get bars i ≡ Some bar
      → CellsFit g cs (take i bars) ts f from → CellFits g (free_input bar) t from on → CellsFit g cs (drop (suc i) bars) us on to
      → IsJoined i bars bar t f to (cell_costs g cs (take i bars) ts + (cell_cost g (free_input bar) t + cell_costs g cs (drop (suc i) bars) us))
  join i [] ts us bar t f from on to at before fits after = absurd (cc)
  join zero (b ∷ bars) (v ∷ ts) us bar t f from on to at before fits after = absurd before
  join zero (b ∷ bars) [] us bar t f from on to at before fits after =
      let same : b ≡ bar = cc in
      let start : f ≡ from = before in
      record {
        trees = t ∷ us;
        fits = (on, subst (λ n. CellFits g (free_input b) t n on) (sym start) (subst (λ b. CellFits g (free_input b) t from on) (sym same) fits), after);
        tree = refl;
        costs = let sum : cell_cost g (free_input b) t ≡ cell_cost g (free_input bar) t = (λ j. cell_cost g (free_input (same j)) t) in omega (arith, sum);
      }
  join (suc i) (b ∷ bars) [] us bar t f from on to at before fits after = absurd before
  join (suc i) (b ∷ bars) (v ∷ ts) us bar t f from on to at before fits after =
      let rest = join i bars ts us bar t before.0 from on to at before.2 fits after in
      record {
        trees = v ∷ rest.trees;
        fits = (before.0, before.1, rest.fits);
        tree = rest.tree;
        costs = let sum = rest.costs in omega (arith, sum);
      }

  tables_take : (n : ℕ) (bars : List VoiceBar) (xs : List BarTable) → AreTables g cs bars xs → AreTables g cs (take n bars) (take n xs)
  tables_take zero bars xs h = tt
  tables_take (suc n) [] [] h = tt
  tables_take (suc n) [] (x ∷ xs) h = absurd h
  tables_take (suc n) (bar ∷ bars) [] h = absurd h
  tables_take (suc n) (bar ∷ bars) (x ∷ xs) h = (h.0, h.1, tables_take n bars xs h.2)

  tables_drop : (n : ℕ) (bars : List VoiceBar) (xs : List BarTable) → AreTables g cs bars xs → AreTables g cs (drop n bars) (drop n xs)
  tables_drop zero bars xs h = h
  tables_drop (suc n) [] [] h = tt
  tables_drop (suc n) [] (x ∷ xs) h = absurd h
  tables_drop (suc n) (bar ∷ bars) [] h = absurd h
  tables_drop (suc n) (bar ∷ bars) (x ∷ xs) h = tables_drop n bars xs h.2

  -- ---- least costs of bars side by side

  -- trees of the cost of the least path
  least_trees : (bars : List VoiceBar) (xs : List BarTable) (a b : ℕ) (k : Key) → AreTables g cs bars xs → a < 5 → least_key (matrices xs) a b ≡ Some k
      → (ts : List Tree) × CellsFit g cs bars ts a b × (cell_costs g cs bars ts ≡ k.0)
  least_trees bars xs a b k h la e =
      let least = subst (IsLeastKey (IsPathKey (matrices xs) a b)) e (keys-least_path (matrices xs) a b) in
      let path = least.0 in
      let trees = path_trees g cs bars xs a path.0 k h la path.1 path.3 in
      let fit = along_fits g cs bars xs a path.0 trees.0 k h trees.1 in
      (trees.0, subst (CellsFit g cs bars trees.0 a) path.2 fit.0, fit.1)

  no_more : (a c : ℕ) (o : Ordering) → ordering_then (nat_cmp a c) o ≢ Less → c ≤ a
  no_more a c o h = elim (not_less-means a c o h) [ inl less ↦ omega (arith, less) | inr same ↦ let level = same.0 in omega (arith, level) ]

  -- the least path costs no more than trees that fit
  least_bound : (bars : List VoiceBar) (xs : List BarTable) (us : List Tree) (a b : ℕ) → AreTables g cs bars xs → CellsFit g cs bars us a b
      → (k : Key) × (least_key (matrices xs) a b ≡ Some k) × (k.0 ≤ cell_costs g cs bars us)
  least_bound bars xs us a b h fit = go (least_key (matrices xs) a b) refl
    where
      go : (o : Option Key) → least_key (matrices xs) a b ≡ o → (k : Key) × (least_key (matrices xs) a b ≡ Some k) × (k.0 ≤ cell_costs g cs bars us)
      go None e =
          let win = beaten g cs bars xs us a b h fit in
          let key = along_key g xs a win.path win.trees win.key win.along in
          absurd ((subst (IsLeastKey (IsPathKey (matrices xs) a b)) e (keys-least_path (matrices xs) a b)) win.key (win.path, key.0, win.ends, key.1))
      go (Some k) e =
          let win = beaten g cs bars xs us a b h fit in
          let key = along_key g xs a win.path win.trees win.key win.along in
          let least = subst (IsLeastKey (IsPathKey (matrices xs) a b)) e (keys-least_path (matrices xs) a b) in
          let under = no_more win.key.0 k.0 _ (never_less (key_cmp win.key k) (least.1 win.key (win.path, key.0, win.ends, key.1))) in
          let over = no_more (cell_costs g cs bars us) win.key.0 _ win.first in
          (k, e, omega (arith, under, over))

  -- ---- the whole voice

  module _ (bars : List VoiceBar) (xs : List BarTable) (voice : IsVoice g bars cs) (tables : AreTables g cs bars xs) (i : ℕ) (bar : VoiceBar) (at : slice_get bars i ≡ Some bar) where
    abbrev free : List VoiceBar
    free = without_pin_at i bars

    abbrev Before : ℕ → Key → Type 0
    Before m k = least_key (matrices (take i xs)) 0 m ≡ Some k

    abbrev After : ℕ → Key → Type 0
    After m k = least_key (matrices (drop (suc i) xs)) m 0 ≡ Some k

    -- some derivation has the tree there and costs so much
    build : (t : Tree) (m n : ℕ) (k l : Key) → CellFits g (free_input bar) t m n → Before m k → After n l
        → (ts : List Tree) × FitsVoice g free cs ts × (slice_get ts i ≡ Some t) × (cost g free cs ts ≡ k.0 + cell_cost g (free_input bar) t + l.0)
    build t m n k l fits before after =
        let few : n < 5 = let low = fits.few_to in omega (arith, low) in
        let first = least_trees (take i bars) (take i xs) 0 m k (tables_take i bars xs tables) (omega arith) before in
        let last = least_trees (drop (suc i) bars) (drop (suc i) xs) n 0 l (tables_drop (suc i) bars xs tables) few after in
        let all = join i bars first.0 last.0 bar t 0 m n 0 at first.1 fits last.1 in
        let by = cells-counts g cs free all.trees 0 0 all.fits in
        let own = locality-back g free cs all.trees (voice_free g bars cs i voice) by.0 by.1 by.2 in
        let total = locality-cost g free cs all.trees (voice_free g bars cs i voice) own in
        let sum = all.costs in
        let left = first.2 in
        let right = last.2 in
        (all.trees, own, all.tree, omega (arith, total, sum, left, right))

    pub record IsBound (t : Tree) (us : List Tree) : Type 0 where
      pub from : ℕ
      pub on : ℕ
      pub fits : CellFits g (free_input bar) t from on
      pub first : Key
      pub last : Key
      pub before : Before from first
      pub after : After on last
      pub sum : first.0 + cell_cost g (free_input bar) t + last.0 ≤ cost g free cs us

    -- each derivation that has the tree there costs as much, or more
    bound : (t : Tree) (us : List Tree) → FitsVoice g free cs us → slice_get us i ≡ Some t → IsBound t us
    bound t us fits tree =
        let by = locality g free cs us (voice_free g bars cs i voice) fits in
        let parts = split i bars us bar t 0 0 at tree (counts-cells g cs free us 0 0 by.0 by.1 by.2) in
        let first = least_bound (take i bars) (take i xs) (take i us) 0 parts.from (tables_take i bars xs tables) parts.before in
        let last = least_bound (drop (suc i) bars) (drop (suc i) xs) (drop (suc i) us) parts.on 0 (tables_drop (suc i) bars xs tables) parts.after in
        let total = locality-cost g free cs us (voice_free g bars cs i voice) fits in
        let sum = parts.costs in
        let left = first.2 in
        let right = last.2 in
        record { from = parts.from; on = parts.on; fits = parts.fits; first = first.0; last = last.0; before = first.1; after = last.1; sum = omega (arith, total, sum, left, right) }

    -- the counts of a tree in the bar are the only ones
    one_counts : (t : Tree) (m n m' n' : ℕ) → CellFits g (free_input bar) t m n → CellFits g (free_input bar) t m' n' → (m ≡ m') × (n ≡ n')
    one_counts t m n m' n' h l =
        one_pair g (free_input bar) t m n m' n' voice.some (input-cell g (record bar { pin = None }) 0 cs (bar_near bars 0 (end_of_bars 0 bars) i bar voice.near at) voice.rise) h l

    -- ---- the costs round the bar

    there : (o : Option Key) (c : ℕ) → cost_of o ≡ Some c → (k : Key) × (o ≡ Some k) × (k.0 ≡ c)
    there None c e = absurd (cc)
    there (Some k) c e = (k, refl, let same : k.0 ≡ c = cc in same)

    before_is : (m : ℕ) → m < 5 → cost_at (costs_before xs i) m ≡ cost_of (least_key (matrices (take i xs)) 0 m)
    before_is m low = five_at (λ to. cost_of (least_key (take i (matrices xs)) 0 to)) None m low ∙ ap (λ es. cost_of (least_key es 0 m)) (take-map (λ (x : BarTable). x.matrix) i xs)

    after_is : (m : ℕ) → m < 5 → cost_at (costs_after xs i) m ≡ cost_of (least_key (matrices (drop (suc i) xs)) m 0)
    after_is m low =
        let next : i + 1 ≡ suc i = omega arith in
        five_at (λ from. cost_of (least_key (drop (i + 1) (matrices xs)) from 0)) None m low
        ∙ ap (λ n. cost_of (least_key (drop n (matrices xs)) m 0)) next ∙ ap (λ es. cost_of (least_key es m 0)) (drop-map (λ (x : BarTable). x.matrix) (suc i) xs)

    pub looked_alternative : (a : ℕ × Tree) → IsLookedAt g (free_input bar) (costs_before xs i) (costs_after xs i) a → IsAlternative g free cs i a
    looked_alternative a h =
        let low : h.from < 5 = let few = h.fits.few_from in omega (arith, few) in
        let low' : h.to < 5 = let few = h.fits.few_to in omega (arith, few) in
        let first = there _ h.first (sym (before_is h.from low) ∙ h.there_before) in
        let last = there _ h.last (sym (after_is h.to low') ∙ h.there_after) in
        let made = build a.1 h.from h.to first.0 last.0 h.fits first.1 last.1 in
        let total = h.total in
        let one = first.2 in
        let two = last.2 in
        let sum = made.3 in
        record {
          trees = made.0;
          fits = made.1;
          tree = made.2;
          total = omega (arith, total, one, two, sum);
          least = λ us fits tree.
              let other = bound a.1 us fits tree in
              let same = one_counts a.1 other.from other.on h.from h.to other.fits h.fits in
              let left : Some other.first ≡ Some first.0 = sym (subst (λ m. Before m other.first) same.0 other.before) ∙ first.1 in
              let right : Some other.last ≡ Some last.0 = sym (subst (λ m. After m other.last) same.1 other.after) ∙ last.1 in
              let left' : other.first ≡ first.0 = cc in
              let right' : other.last ≡ last.0 = cc in
              let left'' : other.first.0 ≡ first.0.0 = ap (λ (k : Key). k.0) left' in
              let right'' : other.last.0 ≡ last.0.0 = ap (λ (k : Key). k.0) right' in
              let least = other.sum in
              omega (arith, total, one, two, left'', right'', least);
        }

    pub alternative_looked : (a : ℕ × Tree) → IsAlternative g free cs i a → IsLookedAt g (free_input bar) (costs_before xs i) (costs_after xs i) a
    alternative_looked a h =
        let own = bound a.1 h.trees h.fits h.tree in
        let made = build a.1 own.from own.on own.first own.last own.fits own.before own.after in
        let under = own.sum in
        let over = h.least made.0 made.1 made.2 in
        let sum = made.3 in
        let total = h.total in
        let low : own.from < 5 = let few = own.fits.few_from in omega (arith, few) in
        let low' : own.on < 5 = let few = own.fits.few_to in omega (arith, few) in
        record {
          from = own.from;
          to = own.on;
          fits = own.fits;
          first = own.first.0;
          last = own.last.0;
          there_before = before_is own.from low ∙ ap cost_of own.before;
          there_after = after_is own.on low' ∙ ap cost_of own.after;
          total = omega (arith, under, over, sum, total);
        }

    pub best_alternatives : (count : ℕ) (list : List (ℕ × Tree)) → AreBestTrees g (free_input bar) (costs_before xs i) (costs_after xs i) count list → AreAlternatives g bars cs i count list
    best_alternatives count list h = record {
      are = λ j d lt. looked_alternative _ (h.are j d lt);
      in_order = h.in_order;
      few = h.few;
      first = λ a alternative. h.first a (alternative_looked a alternative);
    }
