-- Locality: a derivation fits exactly where its trees fit the cells with counts at the barlines.
use Rattle.std.proofs.Common.{◌≡◌, ℕ, ◌+◌, ◌≤◌, ◌<◌, Bool, true, false, not, ◌&&◌, ◌||◌, cond, List, [], ◌∷◌, ◌++◌, map, filter, refl, sym, ap, ap₂, ◌∙◌, subst, arith}
use Rattle.std.specs.Prelude.{nat_lt, nat_le}
use Rattle.std.proofs.lemmas.List.{map-append}
use Rattle.std.proofs.lemmas.Bool.Decides.{nat_tests}
use Rattle.rhythm_base.specs.Forest.{Tree}
use Rattle.tree_laws.proofs.Lists.{filter_nothing, filter_split}
use Rattle.rhythm_base.proofs.Booleans.{and_left, and_right}
use Rattle.tree_laws.proofs.Reading.{between, agree-runs, past-leaving}
use Rattle.rhythm_base.proofs.LastEnds.{last_end-append}
use Rattle.tree_laws.proofs.Runs.{runs-append, leaving-append, ending-is, runs-few}
use Rattle.tree_laws.proofs.Ticks.{le_from, le_not, from_tick, parts-fill, bar-line, voice-line}
use Rattle.tree_laws.proofs.Cells.{latest, cell-runs, cell-leaving}
use Rattle.rhythm_base.specs.Lists.{last_end}
use Rattle.rhythm_base.specs.DeadBars.{chords_before}
use Rattle.rhythm_base.specs.Leaves.{VoiceBar, Leaf, looks, in_bar, voice_leaves, are_bars, Fits}
use Rattle.rhythm_base.specs.declared.inner.Inner.{Inner}
use Rattle.rhythm_base.specs.Line.{Rising, Looks, agree, past}
use Rattle.rhythm_base.specs.Grammar.{Grammar}
use Rattle.rhythm_base.specs.Trees.{is_tree, leaves_of}
use Rattle.tree_laws.specs.Runs.{runs, leaving, ending}
use Rattle.tree_laws.specs.Voices.{CellsFit, Adjacent}

-- ---- the latest end at a barline

further : (b l t : ℕ) → nat_lt t (b + l) ≡ nat_lt t b || between (from_tick b) (from_tick (b + l)) t
further b l t = go (nat_lt t b) refl
  where
    go : (s : Bool) → nat_lt t b ≡ s → nat_lt t (b + l) ≡ s || between (from_tick b) (from_tick (b + l)) t
    go true e = grind (arith, nat_tests)
    go false e = let here : nat_le b t ≡ true = grind (arith, nat_tests) in rw here (go' (nat_le (b + l) t) refl)
      where
        go' : (s : Bool) → nat_le (b + l) t ≡ s → nat_lt t (b + l) ≡ not s
        go' true k = grind (arith, nat_tests)
        go' false k = grind (arith, nat_tests)

latest-step : (cs : List Inner) (low b l : ℕ) → Rising low cs → last_end (latest cs b) (map (λ c. c.end) (filter (λ c. between (from_tick b) (from_tick (b + l)) c.onset) cs)) ≡ latest cs (b + l)
latest-step cs low b l rise =
    sym (last_end-append 0 (map (λ c. c.end) (filter (λ c. nat_lt c.onset b) cs)) (map (λ c. c.end) (filter (λ c. between (from_tick b) (from_tick (b + l)) c.onset) cs)))
    ∙ sym (ap (last_end 0) (ap (map (λ c. c.end)) (filter_split (λ t. nat_lt t (b + l)) (λ t. nat_lt t b) (between (from_tick b) (from_tick (b + l))) low cs rise (further b l) order)
    ∙ map-append (λ c. c.end) (filter (λ c. nat_lt c.onset b) cs) (filter (λ c. between (from_tick b) (from_tick (b + l)) c.onset) cs)))
  where
    order : (t u : ℕ) → t ≤ u → between (from_tick b) (from_tick (b + l)) t ≡ true → nat_lt u b ≡ false
    order t u le h = let here = and_left (nat_le b t) _ h in grind (arith, nat_tests)

latest-none : (cs : List Inner) (b : ℕ) → Rising b cs → latest cs b ≡ 0
latest-none cs b rise = ap (λ l. last_end 0 (map (λ c. c.end) l)) (filter_nothing (λ t. nat_lt t b) b cs rise (λ u le. grind (arith, nat_tests)))

pub heard-is : (b e low : ℕ) (cs : List Inner) → b ≤ low → Rising low cs → chords_before e cs ≡ filter (λ c. between (from_tick b) (from_tick e) c.onset) cs
heard-is b e low [] le rise = refl
heard-is b e low (c ∷ cs) le rise =
    let low' : low ≤ c.onset = rise.0 in
    let here = le_from b c.onset (omega arith) in
    rw here (go (nat_le e c.onset) refl (heard-is b e (c.onset + 1) cs (omega arith) rise.1))
  where
    rest : List Inner
    rest = filter (λ c. between (from_tick b) (from_tick e) c.onset) cs

    go : (s : Bool) → nat_le e c.onset ≡ s → chords_before e cs ≡ rest → cond (nat_lt c.onset e) (c ∷ chords_before e cs) (chords_before e cs) ≡ cond (not s) (c ∷ rest) rest
    go true h ih = let out : nat_lt c.onset e ≡ false = grind (arith, nat_tests) in rw out ih
    go false h ih = let kept : nat_lt c.onset e ≡ true = grind (arith, nat_tests) in rw kept (ap (λ l. c ∷ l) ih)

pub adjacent_end : (bars : List VoiceBar) (b e : ℕ) → Adjacent b bars e → b ≤ e
adjacent_end [] b e near = omega (arith, near)
adjacent_end (bar ∷ bars) b e near = let ih = adjacent_end bars (b + bar.length) e near.2 in omega arith

-- ---- one bar

module _ (g : Grammar) (cs : List Inner) (low : ℕ) (some : 1 ≤ g.resolution) (rise : Rising low cs) where
  abbrev bar_leaves : VoiceBar → Tree → List Leaf
  bar_leaves bar t = in_bar bar (leaves_of g.rules g.resolution bar.symbol t)

  bar-ending : (bar : VoiceBar) (t : Tree) → 1 ≤ bar.length → is_tree g.rules g.resolution bar.symbol bar.pin t ≡ true
      → ending (looks g.resolution) cs (latest cs bar.start) (bar_leaves bar t) ≡ latest cs (bar.start + bar.length)
  bar-ending bar t long tree =
      ending-is (looks g.resolution) cs (from_tick bar.start) (from_tick (bar.start + bar.length)) (latest cs bar.start) low (bar_leaves bar t) rise
      (bar-line g.resolution bar (leaves_of g.rules g.resolution bar.symbol t) some long (parts-fill g.rules g.resolution bar.symbol bar.pin t some tree))
      ∙ latest-step cs low bar.start bar.length rise

  -- a bar and the bars after it
  runs-bars : (bar : VoiceBar) (t : Tree) (f : ℕ) (ys : List Leaf) → 1 ≤ bar.length → is_tree g.rules g.resolution bar.symbol bar.pin t ≡ true
      → runs (looks g.resolution) cs (latest cs bar.start) f (bar_leaves bar t ++ ys)
      ≡ runs (looks g.resolution) cs (latest cs bar.start) f (bar_leaves bar t) && runs (looks g.resolution) cs (latest cs (bar.start + bar.length)) (leaving (looks g.resolution) cs f (bar_leaves bar t)) ys
  runs-bars bar t f ys long tree =
      runs-append (looks g.resolution) cs (latest cs bar.start) f (bar_leaves bar t) ys
      ∙ ap (λ e. runs (looks g.resolution) cs (latest cs bar.start) f (bar_leaves bar t) && runs (looks g.resolution) cs e (leaving (looks g.resolution) cs f (bar_leaves bar t)) ys) (bar-ending bar t long tree)

  -- ---- all bars

  record IsRun (bars : List VoiceBar) (ts : List Tree) (b f to : ℕ) : Type 0 where
    trees : are_bars g bars ts ≡ true
    leaves : runs (looks g.resolution) cs (latest cs b) f (voice_leaves g bars ts) ≡ true
    leave : leaving (looks g.resolution) cs f (voice_leaves g bars ts) ≡ to

  cells-run : (bars : List VoiceBar) (ts : List Tree) (b e f to : ℕ) → Adjacent b bars e → CellsFit g cs bars ts f to → IsRun bars ts b f to
  cells-run [] [] b e f to near h = record { trees = refl; leaves = refl; leave = h }
  cells-run [] (t ∷ ts) b e f to near h = absurd h
  cells-run (bar ∷ bars) [] b e f to near h = absurd h
  cells-run (bar ∷ bars) (t ∷ ts) b e f to near h =
      let K : Looks Leaf = looks g.resolution in
      let ih = cells-run bars ts (b + bar.length) e h.0 to near.2 h.2 in
      let here = sym (cell-runs g bar cs low t f some near.1 rise h.1.tree) ∙ h.1.leaves in
      let out : leaving K cs f (bar_leaves bar t) ≡ h.0 = sym (cell-leaving g bar cs low t f some near.1 rise h.1.tree) ∙ h.1.leave in
      let others : runs K cs (latest cs (bar.start + bar.length)) (leaving K cs f (bar_leaves bar t)) (voice_leaves g bars ts) ≡ true =
      subst (λ n. runs K cs (latest cs (n + bar.length)) (leaving K cs f (bar_leaves bar t)) (voice_leaves g bars ts) ≡ true) (sym near.0) (subst (λ m. runs K cs (latest cs (b + bar.length)) m (voice_leaves g bars ts) ≡ true) (sym out) ih.leaves) in
      record {
        trees = ap₂ ◌&&◌ h.1.tree ih.trees;
        leaves = subst (λ n. runs K cs (latest cs n) f (bar_leaves bar t ++ voice_leaves g bars ts) ≡ true) near.0 (runs-bars bar t f (voice_leaves g bars ts) near.1 h.1.tree ∙ ap₂ ◌&&◌ here others);
        leave = leaving-append K cs f (bar_leaves bar t) (voice_leaves g bars ts) ∙ ap (λ m. leaving K cs m (voice_leaves g bars ts)) out ∙ ih.leave;
      }

  adjacent_before : (bar : VoiceBar) (bars : List VoiceBar) (b e : ℕ) → Adjacent b (bar ∷ bars) e → b < e
  adjacent_before bar [] b e near = let end = near.2 in let long = near.1 in omega arith
  adjacent_before bar (next ∷ bars) b e near = let ih = adjacent_before next bars (b + bar.length) e near.2 in let long = near.1 in omega arith

  -- at most four chords are carried over a barline
  few_carried : (bars : List VoiceBar) (ts : List Tree) (b e m to : ℕ) → Adjacent b bars e → IsRun bars ts b m to → to ≤ 4 → m ≤ 4
  few_carried [] [] b e m to near h few = subst (λ n. n ≤ 4) (sym h.leave) few
  few_carried [] (t ∷ ts) b e m to near h few = let no = h.trees in absurd (cc)
  few_carried (bar ∷ bars) [] b e m to near h few = let no = h.trees in absurd (cc)
  few_carried (bar ∷ bars) (t ∷ ts) b e m to near h few =
      runs-few (looks g.resolution) cs (from_tick b) (from_tick e) b (latest cs b) m (voice_leaves g (bar ∷ bars) (t ∷ ts)) (voice-line g (bar ∷ bars) (t ∷ ts) b e some near h.trees)
      (le_from b b (omega arith)) (le_not e b (adjacent_before bar bars b e near)) h.leaves

  run-cells : (bars : List VoiceBar) (ts : List Tree) (b e f to : ℕ) → Adjacent b bars e → f ≤ 4 → to ≤ 4 → IsRun bars ts b f to → CellsFit g cs bars ts f to
  run-cells [] [] b e f to near few few' h = h.leave
  run-cells [] (t ∷ ts) b e f to near few few' h = let no = h.trees in absurd (cc)
  run-cells (bar ∷ bars) [] b e f to near few few' h = let no = h.trees in absurd (cc)
  run-cells (bar ∷ bars) (t ∷ ts) b e f to near few few' h =
      let K : Looks Leaf = looks g.resolution in
      let tree = and_left (is_tree g.rules g.resolution bar.symbol bar.pin t) _ h.trees in
      let trees = and_right (is_tree g.rules g.resolution bar.symbol bar.pin t) _ h.trees in
      let m : ℕ = leaving K cs f (bar_leaves bar t) in
      let all = sym (runs-bars bar t f (voice_leaves g bars ts) near.1 tree) ∙ subst (λ n. runs K cs (latest cs n) f (bar_leaves bar t ++ voice_leaves g bars ts) ≡ true) (sym near.0) h.leaves in
      let here = and_left (runs K cs (latest cs bar.start) f (bar_leaves bar t)) _ all in
      let others = subst (λ n. runs K cs (latest cs (n + bar.length)) m (voice_leaves g bars ts) ≡ true) near.0 (and_right (runs K cs (latest cs bar.start) f (bar_leaves bar t)) _ all) in
      let out = sym (leaving-append K cs f (bar_leaves bar t) (voice_leaves g bars ts)) ∙ h.leave in
      let rest : IsRun bars ts (b + bar.length) m to = record { trees = trees; leaves = others; leave = out } in
      let few_m = few_carried bars ts (b + bar.length) e m to near.2 rest few' in (
        m,
        record {
          tree = tree;
          leave = cell-leaving g bar cs low t f some near.1 rise tree;
          leaves = cell-runs g bar cs low t f some near.1 rise tree ∙ here;
          few_from = few;
          few_to = few_m;
        },
        run-cells bars ts (b + bar.length) e m to near.2 few_m few' rest,
      )

-- ---- the laws

module _ (g : Grammar) (bars : List VoiceBar) (cs : List Inner) (ts : List Tree) (b e : ℕ) (some : 1 ≤ g.resolution) (near : Adjacent b bars e) (rise : Rising b cs) where
  agree-line : are_bars g bars ts ≡ true → agree (looks g.resolution) [] [] (chords_before e cs) (voice_leaves g bars ts) ≡ runs (looks g.resolution) cs (latest cs b) 0 (voice_leaves g bars ts)
  agree-line trees =
      ap (λ l. agree (looks g.resolution) [] [] l (voice_leaves g bars ts)) (heard-is b e b cs (omega arith) rise)
      ∙ agree-runs (looks g.resolution) (from_tick b) (from_tick e) (voice_leaves g bars ts) [] [] b cs rise (voice-line g bars ts b e some near trees)
      ∙ ap (λ n. runs (looks g.resolution) cs n 0 (voice_leaves g bars ts)) (sym (latest-none cs b rise))

  past-line : are_bars g bars ts ≡ true → past (looks g.resolution) [] (chords_before e cs) (voice_leaves g bars ts) ≡ leaving (looks g.resolution) cs 0 (voice_leaves g bars ts)
  past-line trees =
      ap (λ l. past (looks g.resolution) [] l (voice_leaves g bars ts)) (heard-is b e b cs (omega arith) rise)
      ∙ past-leaving (looks g.resolution) (from_tick b) (from_tick e) (voice_leaves g bars ts) [] b cs rise (voice-line g bars ts b e some near trees)

  -- locality for the bars from the first on: the last count is free
  pub fits-cells : (to : ℕ) → to ≤ 4 → Fits g bars (chords_before e cs) ts to → CellsFit g cs bars ts 0 to
  fits-cells to few h =
      run-cells g cs b some rise bars ts b e 0 to near (omega arith) few
      record { trees = h.trees; leaves = sym (agree-line h.trees) ∙ h.leaves; leave = sym (past-line h.trees) ∙ h.leave }

  pub cells-fit : (to : ℕ) → CellsFit g cs bars ts 0 to → Fits g bars (chords_before e cs) ts to
  cells-fit to h =
      let run = cells-run g cs b some rise bars ts b e 0 to near h in
      record { trees = run.trees; leaves = agree-line run.trees ∙ run.leaves; leave = past-line run.trees ∙ run.leave }
