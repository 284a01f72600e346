-- Paths over the tables of a voice, and derivations of the voice.
use Rattle.std.proofs.Common.{◌≡◌, ◌≢◌, ◌↔◌, ℕ, zero, suc, ◌+◌, ◌<◌, true, false, List, [], ◌∷◌, ◌++◌, length, take, refl, sym, subst, ap, ◌∙◌, arith, append-nil}
use Rattle.std.specs.Prelude.{Option, Some, None, IsSome, if◌then◌else◌}
use Rattle.std.specs.Cmp.{ranked}
use Rattle.std.specs.Ordering.{nat_cmp, ordering_then, is_lt}
use Rattle.std.specs.Cmp.Lexicographic.{slice_cmp}
use Rattle.std.specs.declared.cmp.Ordering.{Ordering}
use Rattle.std.specs.declared.cmp.Ordering.TheVariants.{Less, Equal, Greater}
use Rattle.rhythm_base.specs.declared.best.Best.{Best}
use Rattle.rhythm_base.specs.BarTables.{BarTable, IsTable, IsEntry, IsLeastInCell, cell_rank, list_at, is_lower, lower_in}
use Rattle.rhythm_base.specs.Lists.{last_end}
use Rattle.rhythm_base.specs.Cells.{CellFits, cell_cost, input}
use Rattle.rhythm_base.specs.Cost.{cost, sequence_of}
use Rattle.rhythm_base.specs.Forest.{Tree, none, more, preorder, preorder_of}
use Rattle.rhythm_base.specs.Leaves.{Fits, VoiceBar}
use Rattle.rhythm_base.specs.Least.{HasNone, IsLeast, rank_cmp, rank_of}
use Rattle.rhythm_base.specs.declared.inner.Inner.{Inner}
use Rattle.rhythm_base.specs.Paths.{path_key, AreCarried, HasWay, IsDeadCell, IsPathKey, IsLeastPath}
use Rattle.rhythm_base.specs.Ranked as Ranked
use Rattle.rhythm_base.specs.Ranked.{CarryMatrix, Key, at, count_under, is_before, is_under, key_sum, key_of, least_key, list_cmp, one, plus}
use Rattle.rhythm_base.specs.Grammar.{Grammar}
use Rattle.rhythm_base.specs.Trees.{are_trees, is_tree}
use Rattle.path_laws.specs.Tables.{IsLeastKey}
use Rattle.tree_laws.specs.Voices.{CellsFit, IsVoice, cell_costs}
use Rattle.path_laws.specs.Rows.{lists_cmp}
use Rattle.path_laws.proofs.Alike.{ranks_alike}
use Rattle.rhythm_base.proofs.TotalOrders.{never_less, above}
use Rattle.tree_laws.proofs.Locality.{cells-counts, counts-cells, locality, locality-back, locality-cost, dead-pass, pass-dead}
use Rattle.tree_laws.proofs.Parsing.{no_prefix}
use Rattle.path_laws.proofs.PathTables.{joined_parts, keys-least_path}
use Rattle.tree_laws.proofs.OneDerivations.{not_less}
use Rattle.tree_laws.proofs.Ranks.{both, preorders-cmp, ranks_total, sums_not_less}
use Rattle.chain_bars.specs.Laws.{AreTables, ArePicked, matrices}
use Rattle.rhythm_base.specs.DeadBars.{IsDead}
use Rattle.tree_laws.specs.Passes.{CanPass, HasPass}
use Rattle.chain_bars.proofs.Deaths.{end_low, is_some, joined_some, some_is, some_joined}
use Rattle.chain_bars.proofs.Descents.{key_parts}

-- ---- what an entry says of the tree whose list stands there

pub record Entry (g : Grammar) (x : BarTable) (a m : ℕ) (best : Best) (t : Tree) : Type 0 where
  pub there : at x.matrix a m ≡ Some best
  pub least : IsLeastInCell g x.input t a m
  pub cost : best.cost ≡ cell_cost g x.input t
  pub list : list_at x a m ≡ Some (preorder_of t)
  pub rank : best.rank ≡ lower_in x a (preorder_of t) 5

pub entry_of : (g : Grammar) (x : BarTable) (a m : ℕ) (best : Best) → IsTable g x → a < 5 → m < 5 → at x.matrix a m ≡ Some best → (t : Tree) × Entry g x a m best t
entry_of g x a m best h la lm e =
    let entry = subst (IsEntry g x a m) e (h.entries a m la lm) in
    (entry.0, record { there = e; least = entry.1; cost = entry.2; list = entry.3; rank = entry.4 })

one_tree : (g : Grammar) (x : BarTable) (a m : ℕ) (best : Best) (t : Tree) → IsTable g x → a < 5 → m < 5 → at x.matrix a m ≡ Some best
    → is_tree g.rules x.input.resolution x.input.symbol x.input.pin t ≡ true → list_at x a m ≡ Some (preorder_of t) → Entry g x a m best t
one_tree g x a m best t h la lm e tree list =
    let found = entry_of g x a m best h la lm e in
    let lists : Some (preorder_of found.0) ≡ Some (preorder_of t) = sym found.1.list ∙ list in
    let same_list : preorder_of found.0 ≡ preorder_of t = cc in
    let mine = both (are_trees g.rules ((x.input.resolution, x.input.symbol) ∷ []) (more t.rule t.kids none)) _ tree in
    let theirs = both (are_trees g.rules ((x.input.resolution, x.input.symbol) ∷ []) (more found.0.rule found.0.kids none)) _ found.1.least.fits.tree in
    let same = no_prefix g.rules (x.input.resolution, x.input.symbol) (x.input.resolution, x.input.symbol) found.0 t [] theirs.0 mine.0 (append-nil (preorder_of found.0) ∙ same_list) in
    subst (Entry g x a m best) same.0 found.1

fits_entry : (g : Grammar) (x : BarTable) (a m : ℕ) (u : Tree) → IsTable g x → CellFits g x.input u a m → (best : Best) × (t : Tree) × Entry g x a m best t
fits_entry g x a m u h f = go (at x.matrix a m) refl
  where
    go : (o : Option Best) → at x.matrix a m ≡ o → (best : Best) × (t : Tree) × Entry g x a m best t
    go None e = absurd ((subst (IsEntry g x a m) e (h.entries a m (omega (arith, f.few_from)) (omega (arith, f.few_to)))).1 u f)
    go (Some best) e = let found = entry_of g x a m best h (omega (arith, f.few_from)) (omega (arith, f.few_to)) e in (best, found.0, found.1)

-- ---- in a row, ranks order as lists do

abbrev wrap : Option (List ℕ) → Option Key
wrap None = None
wrap (Some l) = Some (0, l)

abbrev row : BarTable → ℕ → ℕ → Option Key
row x a j = wrap (list_at x a j)

lower_is : (x : BarTable) (a : ℕ) (l : List ℕ) (n : ℕ) → lower_in x a l n ≡ count_under (row x a) l n
lower_is x a l zero = refl
lower_is x a l (suc n) = λ i. (if here (list_at x a n) i then 1 else 0) + lower_is x a l n i
  where
    here : (o : Option (List ℕ)) → is_lower o l ≡ is_under (wrap o) l
    here None = refl
    here (Some y) = refl

entries_cmp : (g : Grammar) (x : BarTable) (a m n : ℕ) (b c : Best) (t u : Tree) → m < 5 → n < 5 → Entry g x a m b t → Entry g x a n c u
    → slice_cmp nat_cmp (preorder_of t) (preorder_of u) ≡ ordering_then (nat_cmp b.rank c.rank) Equal
entries_cmp g x a m n b c t u lm ln h k =
    let r : ℕ → Option Key = row x a in
    let left : r m ≡ Some (0, preorder_of t) = ap wrap h.list in
    let right : r n ≡ Some (0, preorder_of u) = ap wrap k.list in
    let order : lists_cmp (r m) (r n) ≡ lists_cmp (key_of (Ranked.ranked r (r m))) (key_of (Ranked.ranked r (r n))) = (ranks_alike r).order m n lm ln in
    let spelled : slice_cmp nat_cmp (preorder_of t) (preorder_of u) ≡ ordering_then (nat_cmp (count_under r (preorder_of t) 5) (count_under r (preorder_of u) 5)) Equal =
    (λ i. lists_cmp (sym left i) (sym right i)) ∙ order ∙ (λ i. lists_cmp (key_of (Ranked.ranked r (left i))) (key_of (Ranked.ranked r (right i)))) in
    let first : count_under r (preorder_of t) 5 ≡ b.rank = sym (lower_is x a (preorder_of t) 5) ∙ sym h.rank in
    let second : count_under r (preorder_of u) 5 ≡ c.rank = sym (lower_is x a (preorder_of u) 5) ∙ sym k.rank in
    spelled ∙ (λ i. ordering_then (nat_cmp (first i) (second i)) Equal)

trees_cmp : (g : Grammar) (w s : ℕ) (t u : Tree) (xs ys : List ℕ) → are_trees g.rules ((w, s) ∷ []) (more t.rule t.kids none) ≡ true → are_trees g.rules ((w, s) ∷ []) (more u.rule u.kids none) ≡ true
    → slice_cmp nat_cmp (preorder_of t ++ xs) (preorder_of u ++ ys) ≡ ordering_then (slice_cmp nat_cmp (preorder_of t) (preorder_of u)) (slice_cmp nat_cmp xs ys)
trees_cmp g w s t u xs ys p q =
    let left : preorder (more t.rule t.kids none) ≡ preorder_of t = append-nil (preorder_of t) in
    let right : preorder (more u.rule u.kids none) ≡ preorder_of u = append-nil (preorder_of u) in
    (λ i. slice_cmp nat_cmp (sym left i ++ xs) (sym right i ++ ys))
    ∙ preorders-cmp g.rules ((w, s) ∷ []) (more t.rule t.kids none) (more u.rule u.kids none) xs ys p q
    ∙ (λ i. ordering_then (slice_cmp nat_cmp (left i) (right i)) (slice_cmp nat_cmp xs ys))

tree_of : (g : Grammar) (x : BarTable) (a m : ℕ) (best : Best) (t : Tree) → Entry g x a m best t → are_trees g.rules ((x.input.resolution, x.input.symbol) ∷ []) (more t.rule t.kids none) ≡ true
tree_of g x a m best t h = (both (are_trees g.rules ((x.input.resolution, x.input.symbol) ∷ []) (more t.rule t.kids none)) _ h.least.fits.tree).0

-- ---- least trees along a path

abbrev pub Along : Grammar → List BarTable → ℕ → List ℕ → List Tree → Key → Type 0
Along g [] a [] [] k = k ≡ (0, [])
Along g [] a [] (t ∷ ts) k = ⊥
Along g [] a (m ∷ p) ts k = ⊥
Along g (x ∷ xs) a [] ts k = ⊥
Along g (x ∷ xs) a (m ∷ p) [] k = ⊥
Along g (x ∷ xs) a (m ∷ p) (t ∷ ts) k = (m < 5) × ((best : Best) × (rest : Key) × Entry g x a m best t × Along g xs m p ts rest × (k ≡ plus (best.cost, best.rank ∷ []) rest))

pub along_key : (g : Grammar) (xs : List BarTable) (a : ℕ) (p : List ℕ) (ts : List Tree) (k : Key) → Along g xs a p ts k → AreCarried p × (path_key (matrices xs) a p ≡ Some k)
along_key g [] a [] [] k h = (tt, ap Some (sym h))
along_key g [] a [] (t ∷ ts) k h = absurd h
along_key g [] a (m ∷ p) ts k h = absurd h
along_key g (x ∷ xs) a [] ts k h = absurd h
along_key g (x ∷ xs) a (m ∷ p) [] k h = absurd h
along_key g (x ∷ xs) a (m ∷ p) (t ∷ ts) k h =
    let rest = along_key g xs m p ts h.1.1 h.1.3 in
    ((h.0, rest.0), (λ i. key_sum (key_of (h.1.2.there i)) (rest.1 i)) ∙ ap Some (sym h.1.4))

pub along_fits : (g : Grammar) (cs : List Inner) (bars : List VoiceBar) (xs : List BarTable) (a : ℕ) (p : List ℕ) (ts : List Tree) (k : Key) → AreTables g cs bars xs → Along g xs a p ts k
    → CellsFit g cs bars ts a (last_end a p) × (cell_costs g cs bars ts ≡ k.0)
along_fits g cs [] [] a [] [] k h w = (refl, ap (λ (q : Key). q.0) (sym w))
along_fits g cs [] [] a [] (t ∷ ts) k h w = absurd w
along_fits g cs [] [] a (m ∷ p) ts k h w = absurd w
along_fits g cs [] (x ∷ xs) a p ts k h w = absurd h
along_fits g cs (bar ∷ bars) [] a p ts k h w = absurd h
along_fits g cs (bar ∷ bars) (x ∷ xs) a [] ts k h w = absurd w
along_fits g cs (bar ∷ bars) (x ∷ xs) a (m ∷ p) [] k h w = absurd w
along_fits g cs (bar ∷ bars) (x ∷ xs) a (m ∷ p) (t ∷ ts) k h w =
    let rest = along_fits g cs bars xs m p ts w.1.1 h.2 w.1.3 in
    let here : w.1.0.cost ≡ cell_cost g (input g bar cs) t = w.1.2.cost ∙ ap (λ c. cell_cost g c t) h.1 in
    let sum : k.0 ≡ w.1.0.cost + w.1.1.0 = ap (λ (q : Key). q.0) w.1.4 in (
      (m, subst (λ c. CellFits g c t a m) h.1 w.1.2.least.fits, rest.0),
      (λ i. sym here i + rest.1 i) ∙ sym sum,
    )

-- some trees along a path
pub path_trees : (g : Grammar) (cs : List Inner) (bars : List VoiceBar) (xs : List BarTable) (a : ℕ) (p : List ℕ) (k : Key) → AreTables g cs bars xs → a < 5 → AreCarried p → path_key (matrices xs) a p ≡ Some k
    → (ts : List Tree) × Along g xs a p ts k
path_trees g cs [] [] a [] k h la c e = ([], let s : (0, []) ≡ k = cc in sym s)
path_trees g cs [] [] a (m ∷ p) k h la c e = absurd (cc)
path_trees g cs [] (x ∷ xs) a p k h la c e = absurd h
path_trees g cs (bar ∷ bars) [] a p k h la c e = absurd h
path_trees g cs (bar ∷ bars) (x ∷ xs) a [] k h la c e = absurd (cc)
path_trees g cs (bar ∷ bars) (x ∷ xs) a (m ∷ p) k h la c e =
    let parts = joined_parts (one x.matrix a m) (path_key (matrices xs) m p) k e in
    let best = key_parts (at x.matrix a m) parts.0 parts.2 in
    let found = entry_of g x a m best.0 h.0 la c.0 best.1 in
    let rest = path_trees g cs bars xs m p parts.1 h.2 c.0 c.1 parts.3 in
    (found.0 ∷ rest.0, (c.0, (best.0, parts.1, found.1, rest.1, parts.4 ∙ ap (λ q. plus q parts.1) best.2)))

-- the picked trees along a path
pub picked_along : (g : Grammar) (cs : List Inner) (bars : List VoiceBar) (xs : List BarTable) (a : ℕ) (p : List ℕ) (ts : List Tree) (k : Key) → AreTables g cs bars xs → a < 5 → AreCarried p
    → path_key (matrices xs) a p ≡ Some k → ArePicked g xs a p ts → Along g xs a p ts k
picked_along g cs [] [] a [] [] k h la c e w = let s : (0, []) ≡ k = cc in sym s
picked_along g cs [] [] a [] (t ∷ ts) k h la c e w = absurd w
picked_along g cs [] [] a (m ∷ p) ts k h la c e w = absurd w
picked_along g cs [] (x ∷ xs) a p ts k h la c e w = absurd h
picked_along g cs (bar ∷ bars) [] a p ts k h la c e w = absurd h
picked_along g cs (bar ∷ bars) (x ∷ xs) a [] ts k h la c e w = absurd w
picked_along g cs (bar ∷ bars) (x ∷ xs) a (m ∷ p) [] k h la c e w = absurd w
picked_along g cs (bar ∷ bars) (x ∷ xs) a (m ∷ p) (t ∷ ts) k h la c e w =
    let parts = joined_parts (one x.matrix a m) (path_key (matrices xs) m p) k e in
    let best = key_parts (at x.matrix a m) parts.0 parts.2 in
    let entry = one_tree g x a m best.0 t h.0 la c.0 best.1 w.0 w.1 in
    let rest = picked_along g cs bars xs m p ts parts.1 h.2 c.0 c.1 parts.3 w.2 in
    (c.0, (best.0, parts.1, entry, rest, parts.4 ∙ ap (λ q. plus q parts.1) best.2))

-- ---- a derivation against the least trees at its counts

pub record Beaten (g : Grammar) (cs : List Inner) (bars : List VoiceBar) (xs : List BarTable) (us : List Tree) (a b : ℕ) : Type 0 where
  pub path : List ℕ
  pub ends : last_end a path ≡ b
  pub key : Key
  pub trees : List Tree
  pub along : Along g xs a path trees key
  pub first : rank_cmp (cell_costs g cs bars us, sequence_of us) (key.0, sequence_of trees) ≢ Less

pub beaten : (g : Grammar) (cs : List Inner) (bars : List VoiceBar) (xs : List BarTable) (us : List Tree) (a b : ℕ) → AreTables g cs bars xs → CellsFit g cs bars us a b → Beaten g cs bars xs us a b
beaten g cs [] [] [] a b h f = record { path = []; ends = f; key = (0, []); trees = []; along = refl; first = λ e. absurd (cc) }
beaten g cs [] [] (u ∷ us) a b h f = absurd f
beaten g cs [] (x ∷ xs) us a b h f = absurd h
beaten g cs (bar ∷ bars) [] us a b h f = absurd h
beaten g cs (bar ∷ bars) (x ∷ xs) [] a b h f = absurd f
beaten g cs (bar ∷ bars) (x ∷ xs) (u ∷ us) a b h f =
    let m : ℕ = f.0 in
    let fit : CellFits g x.input u a m = subst (λ c. CellFits g c u a m) (sym h.1) f.1 in
    let found = fits_entry g x a m u h.0 fit in
    let best : Best = found.0 in
    let t : Tree = found.1 in
    let entry : Entry g x a m best t = found.2 in
    let rest = beaten g cs bars xs us m b h.2 f.2 in
    let mine = both (are_trees g.rules ((x.input.resolution, x.input.symbol) ∷ []) (more u.rule u.kids none)) _ fit.tree in
    let cells : rank_cmp (cell_rank g x.input u) (cell_rank g x.input t) ≢ Less = entry.least.first u fit in
    let sums = sums_not_less (cell_cost g x.input u) (cell_costs g cs bars us) (cell_cost g x.input t) rest.key.0 (slice_cmp nat_cmp (preorder_of u) (preorder_of t)) (slice_cmp nat_cmp (sequence_of us) (sequence_of rest.trees)) cells rest.first in
    record {
      path = m ∷ rest.path;
      ends = rest.ends;
      key = plus (best.cost, best.rank ∷ []) rest.key;
      trees = t ∷ rest.trees;
      along = (omega (arith, fit.few_to), (best, rest.key, entry, rest.along, refl));
      first = λ e. sums
          ((λ i. ordering_then (nat_cmp (cell_cost g (h.1 i) u + cell_costs g cs bars us) (sym entry.cost i + rest.key.0))
          (sym (trees_cmp g x.input.resolution x.input.symbol u t (sequence_of us) (sequence_of rest.trees) mine.0 (tree_of g x a m best t entry)) i)) ∙ e);
    }

-- ---- two paths order as their trees do

pub along_cmp : (g : Grammar) (cs : List Inner) (bars : List VoiceBar) (xs : List BarTable) (a : ℕ) (p q : List ℕ) (ts us : List Tree) (k l : Key) → AreTables g cs bars xs → a < 5
    → Along g xs a p ts k → Along g xs a q us l → list_cmp k.1 l.1 ≡ slice_cmp nat_cmp (sequence_of ts) (sequence_of us)
along_cmp g cs [] [] a [] [] [] [] k l h la v w = λ i. list_cmp ((v i).1) ((w i).1)
along_cmp g cs [] [] a [] [] [] (u ∷ us) k l h la v w = absurd w
along_cmp g cs [] [] a [] [] (t ∷ ts) us k l h la v w = absurd v
along_cmp g cs [] [] a [] (n ∷ q) ts us k l h la v w = absurd w
along_cmp g cs [] [] a (m ∷ p) q ts us k l h la v w = absurd v
along_cmp g cs [] (x ∷ xs) a p q ts us k l h la v w = absurd h
along_cmp g cs (bar ∷ bars) [] a p q ts us k l h la v w = absurd h
along_cmp g cs (bar ∷ bars) (x ∷ xs) a [] q ts us k l h la v w = absurd v
along_cmp g cs (bar ∷ bars) (x ∷ xs) a (m ∷ p) [] ts us k l h la v w = absurd w
along_cmp g cs (bar ∷ bars) (x ∷ xs) a (m ∷ p) (n ∷ q) [] us k l h la v w = absurd v
along_cmp g cs (bar ∷ bars) (x ∷ xs) a (m ∷ p) (n ∷ q) (t ∷ ts) [] k l h la v w = absurd w
along_cmp g cs (bar ∷ bars) (x ∷ xs) a (m ∷ p) (n ∷ q) (t ∷ ts) (u ∷ us) k l h la v w =
    (λ i. list_cmp ((v.1.4 i).1) ((w.1.4 i).1))
    ∙ go (λ z. along_cmp g cs bars xs m p q ts us v.1.1 w.1.1 h.2 v.0 v.1.3 z) (nat_cmp r s) refl
    ∙ (λ i. ordering_then (sym (entries_cmp g x a m n v.1.0 w.1.0 t u v.0 w.0 v.1.2 w.1.2) i) (slice_cmp nat_cmp (sequence_of ts) (sequence_of us)))
    ∙ sym (trees_cmp g x.input.resolution x.input.symbol t u (sequence_of ts) (sequence_of us) (tree_of g x a m v.1.0 t v.1.2) (tree_of g x a n w.1.0 u w.1.2))
  where
    r : ℕ
    r = v.1.0.rank

    s : ℕ
    s = w.1.0.rank

    go : (Along g xs m q us w.1.1 → list_cmp v.1.1.1 w.1.1.1 ≡ slice_cmp nat_cmp (sequence_of ts) (sequence_of us))
        → (o : Ordering) → o ≡ nat_cmp r s → ordering_then o (list_cmp v.1.1.1 w.1.1.1) ≡ ordering_then (ordering_then o Equal) (slice_cmp nat_cmp (sequence_of ts) (sequence_of us))
    go rest Less e = refl
    go rest Greater e = refl
    go rest Equal e =
        let ranks : r ≡ s = ranked r s Equal e in
        let place : m ≡ n = h.0.ranked.apart a m n la v.0 w.0 v.1.0 w.1.0 v.1.2.there w.1.2.there ranks in
        rest (subst (λ j. Along g xs j q us w.1.1) (sym place) w.1.3)

-- ---- the least path gives the least derivation

along_derivation : (g : Grammar) (bars : List VoiceBar) (cs : List Inner) (xs : List BarTable) (p : List ℕ) (k : Key) (ts : List Tree) → IsVoice g bars cs → AreTables g cs bars xs
    → IsLeastPath (matrices xs) 0 0 p k → Along g xs 0 p ts k → IsLeast g bars cs ts × (cost g bars cs ts ≡ k.0)
along_derivation g bars cs xs p k ts voice h path along = (record { fits = fits; first = first }, costs)
  where
    here : CellsFit g cs bars ts 0 0
    here = subst (CellsFit g cs bars ts 0) path.ends (along_fits g cs bars xs 0 p ts k h along).0

    fits : Fits g bars cs ts 0
    fits = let by = cells-counts g cs bars ts 0 0 here in locality-back g bars cs ts voice by.0 by.1 by.2

    costs : cost g bars cs ts ≡ k.0
    costs = locality-cost g bars cs ts voice fits ∙ (along_fits g cs bars xs 0 p ts k h along).1

    first : (us : List Tree) → Fits g bars cs us 0 → rank_cmp (rank_of g bars cs us) (rank_of g bars cs ts) ≢ Less
    first us f =
        let by = locality g bars cs us voice f in
        let win = beaten g cs bars xs us 0 0 h (counts-cells g cs bars us 0 0 by.0 by.1 by.2) in
        let key = along_key g xs 0 win.path win.trees win.key win.along in
        let least : is_before win.key k ≡ false = path.least win.key (win.path, key.0, win.ends, key.1) in
        let order : list_cmp win.key.1 k.1 ≡ slice_cmp nat_cmp (sequence_of win.trees) (sequence_of ts) = along_cmp g cs bars xs 0 win.path p win.trees ts win.key k h (omega arith) win.along along in
        let second : is_lt (rank_cmp (win.key.0, sequence_of win.trees) (k.0, sequence_of ts)) ≡ false = ap (λ o. is_lt (ordering_then (nat_cmp win.key.0 k.0) o)) (sym order) ∙ least in
        let whole : is_lt (rank_cmp (cell_costs g cs bars us, sequence_of us) (k.0, sequence_of ts)) ≡ false =
        above ranks_total (cell_costs g cs bars us, sequence_of us) (win.key.0, sequence_of win.trees) (k.0, sequence_of ts) (not_less (rank_cmp (cell_costs g cs bars us, sequence_of us) (win.key.0, sequence_of win.trees)) win.first) second in
        never_less (rank_cmp (rank_of g bars cs us) (rank_of g bars cs ts))
        ((λ i. is_lt (rank_cmp (locality-cost g bars cs us voice f i, sequence_of us) (costs i, sequence_of ts))) ∙ whole)

pub path_derivation : (g : Grammar) (bars : List VoiceBar) (cs : List Inner) (xs : List BarTable) (p : List ℕ) (k : Key) (ts : List Tree) → IsVoice g bars cs → AreTables g cs bars xs
    → IsLeastPath (matrices xs) 0 0 p k → ArePicked g xs 0 p ts → IsLeast g bars cs ts × (cost g bars cs ts ≡ k.0)
path_derivation g bars cs xs p k ts voice h path picked = along_derivation g bars cs xs p k ts voice h path (picked_along g cs bars xs 0 p ts k h (omega arith) path.counts path.key picked)

pub key_derivation : (g : Grammar) (bars : List VoiceBar) (cs : List Inner) (xs : List BarTable) (k : Key) → IsVoice g bars cs → AreTables g cs bars xs
    → least_key (matrices xs) 0 0 ≡ Some k → (ts : List Tree) × IsLeast g bars cs ts × (cost g bars cs ts ≡ k.0)
key_derivation g bars cs xs k voice h e =
    let least = subst (IsLeastKey (IsPathKey (matrices xs) 0 0)) e (keys-least_path (matrices xs) 0 0) in
    let path = least.0 in
    let trees = path_trees g cs bars xs 0 path.0 k h (omega arith) path.1 path.3 in
    let won = along_derivation g bars cs xs path.0 k trees.0 voice h (record { counts = path.1; ends = path.2; key = path.3; least = least.1 }) trees.1 in
    (trees.0, won.0, won.1)

-- ---- there is a path exactly where a derivation fits

pub path_none : (g : Grammar) (bars : List VoiceBar) (cs : List Inner) (xs : List BarTable) → IsVoice g bars cs → AreTables g cs bars xs → (least_key (matrices xs) 0 0 ≡ None) ↔ HasNone g bars cs
path_none g bars cs xs voice h = (none_fits, λ f. no_path f (least_key (matrices xs) 0 0) refl)
  where
    none_fits : least_key (matrices xs) 0 0 ≡ None → HasNone g bars cs
    none_fits e us f =
        let by = locality g bars cs us voice f in
        let win = beaten g cs bars xs us 0 0 h (counts-cells g cs bars us 0 0 by.0 by.1 by.2) in
        let key = along_key g xs 0 win.path win.trees win.key win.along in
        (subst (IsLeastKey (IsPathKey (matrices xs) 0 0)) e (keys-least_path (matrices xs) 0 0)) win.key (win.path, key.0, win.ends, key.1)

    no_path : HasNone g bars cs → (o : Option Key) → least_key (matrices xs) 0 0 ≡ o → o ≡ None
    no_path f None e = refl
    no_path f (Some k) e =
        let least = key_derivation g bars cs xs k voice h e in
        absurd (f least.0 least.1.fits)

-- ---- the dead cell is the dead bar

pub tables_long : (g : Grammar) (cs : List Inner) (bars : List VoiceBar) (xs : List BarTable) → AreTables g cs bars xs → length (matrices xs) ≡ length bars
tables_long g cs [] [] h = refl
tables_long g cs [] (x ∷ xs) h = absurd h
tables_long g cs (bar ∷ bars) [] h = absurd h
tables_long g cs (bar ∷ bars) (x ∷ xs) h = ap suc (tables_long g cs bars xs h.2)

pub record Way (es : List CarryMatrix) (a b : ℕ) : Type 0 where
  pub counts : List ℕ
  pub carried : AreCarried counts
  pub there : IsSome (path_key es a counts)
  pub ends : last_end a counts ≡ b

pass_way : (g : Grammar) (cs : List Inner) (bars : List VoiceBar) (xs : List BarTable) (n a b : ℕ) → AreTables g cs bars xs → CanPass g cs (take n bars) a b → Way (take n (matrices xs)) a b
pass_way g cs bars xs zero a b h w = record { counts = []; carried = tt; there = refl; ends = w }
pass_way g cs [] [] (suc n) a b h w = record { counts = []; carried = tt; there = refl; ends = w }
pass_way g cs [] (x ∷ xs) (suc n) a b h w = absurd h
pass_way g cs (bar ∷ bars) [] (suc n) a b h w = absurd h
pass_way g cs (bar ∷ bars) (x ∷ xs) (suc n) a b h w =
    let fit : CellFits g x.input w.1.0 a w.0 = subst (λ c. CellFits g c w.1.0 a w.0) (sym h.1) w.1.1 in
    let found = fits_entry g x a w.0 w.1.0 h.0 fit in
    let rest = pass_way g cs bars xs n w.0 b h.2 w.2 in
    record {
      counts = w.0 ∷ rest.counts;
      carried = (omega (arith, fit.few_to), rest.carried);
      there = joined_some (one x.matrix a w.0) (path_key (take n (matrices xs)) w.0 rest.counts) (is_some (one x.matrix a w.0) (found.0.cost, found.0.rank ∷ []) (ap key_of found.2.there)) rest.there;
      ends = rest.ends;
    }

way_pass : (g : Grammar) (cs : List Inner) (bars : List VoiceBar) (xs : List BarTable) (n a b : ℕ) (p : List ℕ) → AreTables g cs bars xs → a < 5 → AreCarried p → IsSome (path_key (take n (matrices xs)) a p) → last_end a p ≡ b
    → CanPass g cs (take n bars) a b
way_pass g cs bars xs zero a b [] h la c s e = e
way_pass g cs bars xs zero a b (m ∷ p) h la c s e = absurd (cc)
way_pass g cs [] [] (suc n) a b [] h la c s e = e
way_pass g cs [] [] (suc n) a b (m ∷ p) h la c s e = absurd (cc)
way_pass g cs [] (x ∷ xs) (suc n) a b p h la c s e = absurd h
way_pass g cs (bar ∷ bars) [] (suc n) a b p h la c s e = absurd h
way_pass g cs (bar ∷ bars) (x ∷ xs) (suc n) a b [] h la c s e = absurd (cc)
way_pass g cs (bar ∷ bars) (x ∷ xs) (suc n) a b (m ∷ p) h la c s e =
    let parts = some_joined (one x.matrix a m) (path_key (take n (matrices xs)) m p) s in
    let key = some_is (one x.matrix a m) parts.0 in
    let best = key_parts (at x.matrix a m) key.0 key.1 in
    let found = entry_of g x a m best.0 h.0 la c.0 best.1 in
    (m, (found.0, subst (λ k. CellFits g k found.0 a m) h.1 found.1.least.fits), way_pass g cs bars xs n m b p h.2 c.0 c.1 parts.1 e)

module _ (g : Grammar) (bars : List VoiceBar) (cs : List Inner) (xs : List BarTable) (h : AreTables g cs bars xs) where
  has_way : (i : ℕ) → HasPass g bars cs i → HasWay (matrices xs) i
  has_way i w =
      let way = pass_way g cs bars xs (i + 1) 0 w.to h w.passes in
      record { counts = way.counts; carried = way.carried; there = way.there; none_last = λ last. way.ends ∙ w.none_last (last ∙ tables_long g cs bars xs h) }

  has_pass : (i : ℕ) → HasWay (matrices xs) i → HasPass g bars cs i
  has_pass i w =
      let low : last_end 0 w.counts < 5 = end_low 0 w.counts (omega arith) w.carried in
      record {
        to = last_end 0 w.counts;
        passes = way_pass g cs bars xs (i + 1) 0 (last_end 0 w.counts) w.counts h (omega arith) w.carried w.there refl;
        few = omega (arith, low);
        none_last = λ last. w.none_last (last ∙ sym (tables_long g cs bars xs h));
      }

pub dead_bar : (g : Grammar) (bars : List VoiceBar) (cs : List Inner) (xs : List BarTable) (i : ℕ) → IsVoice g bars cs → AreTables g cs bars xs → IsDeadCell (matrices xs) i ↔ IsDead g bars cs i
dead_bar g bars cs xs i voice h = (
  (λ d. pass-dead g bars cs i voice (subst (λ n. i < n) (tables_long g cs bars xs h) d.cell) (λ w. d.dead (has_way g bars cs xs h i w)) (λ j low. has_pass g bars cs xs h j (d.first j low))),
  (λ d. let by = dead-pass g bars cs i voice d in record {
    cell = subst (λ n. i < n) (sym (tables_long g cs bars xs h)) d.bar;
    dead = λ w. by.0 (has_pass g bars cs xs h i w);
    first = λ j low. has_way g bars cs xs h j (by.1 j low);
  }),
)
