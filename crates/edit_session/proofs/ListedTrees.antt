-- The rule lists that stand in tables at the counts of a path, and the trees that they tell.
use Rattle.std.proofs.Common.{◌≡◌, ℕ, zero, suc, ◌+◌, ◌<◌, ◌≤◌, true, List, [], ◌∷◌, ◌++◌, length, get_or, take, refl, sym, ap, ◌∙◌, subst, arith}
use Rattle.std.specs.Prelude.{All, Option, Some, None, IsSome}
use Rattle.std.proofs.lemmas.List.{length-map, take_all}
use Rattle.std.proofs.lemmas.List.Elements.{All-head, All-tail}
use Rattle.chain_bars.proofs.Deaths.{some_is, is_some}
use Rattle.chain_bars.proofs.Descents.{counts_at, key_parts}
use Rattle.chain_bars.proofs.Voices.{entry_of}
use Rattle.chain_bars.specs.Laws.{ArePicked, matrices}
use Rattle.chain_bars.specs.Walks.{AreCarries}
use Rattle.derivation.specs.RuleLists.{HaveLists}
use Rattle.rhythm_base.specs.declared.best.Best.{Best}
use Rattle.rhythm_base.specs.BarTables.{BarTable, IsEntry, list_at}
use Rattle.rhythm_base.specs.Forest.{Tree, preorder_of}
use Rattle.rhythm_base.specs.Grammar.{Grammar}
use Rattle.rhythm_base.specs.Paths.{AreCarried, path_key}
use Rattle.rhythm_base.specs.Ranked.{CarryMatrix, Key, at, one}
use Rattle.rhythm_base.specs.Trees.{is_tree}
use Rattle.path_laws.proofs.PathTables.{joined_parts}
use Rattle.edit_session.specs.LeastTrees.{AreListed, AreOfLeastPath, IsTableIn}

-- all but the first of a list
abbrev pub rest_of : List ℕ → List ℕ
rest_of [] = []
rest_of (a ∷ p) = p

-- ---- one bar

module _ (g : Grammar) (x : BarTable) (a m : ℕ) (table : IsTableIn g x) (low : a < 5) (few : m < 5) where
  -- where there is an entry, there is a list
  entry_listed : IsSome (at x.matrix a m) → IsSome (list_at x a m)
  entry_listed there =
      let best = some_is (at x.matrix a m) there in
      let found = entry_of g x a m best.0 table.is low few best.1 in
      is_some (list_at x a m) (preorder_of found.0) found.1.list

  -- and the list tells the tree of the entry
  entry_told : (list : List ℕ) → list_at x a m ≡ Some list → (t : Tree) × (is_tree g.rules x.input.resolution x.input.symbol x.input.pin t ≡ true) × (list_at x a m ≡ Some (preorder_of t)) × (preorder_of t ≡ list)
  entry_told list is = go (at x.matrix a m) refl
    where
      go : (o : Option Best) → at x.matrix a m ≡ o
          → (t : Tree) × (is_tree g.rules x.input.resolution x.input.symbol x.input.pin t ≡ true) × (list_at x a m ≡ Some (preorder_of t)) × (preorder_of t ≡ list)
      go None e =
          let nothing = subst (IsEntry g x a m) e (table.is.entries a m low few) in
          let no : ◌≡◌ {A = Option (List ℕ)} None (Some list) = sym nothing.0 ∙ is in absurd (cc)
      go (Some best) e =
          let found = entry_of g x a m best table.is low few e in
          let lists : ◌≡◌ {A = Option (List ℕ)} (Some (preorder_of found.0)) (Some list) = sym found.1.list ∙ is in
          let same : preorder_of found.0 ≡ list = cc in (found.0, found.1.least.fits.tree, found.1.list, same)

-- ---- along the path

-- at each place of a path there is an entry
step_there : (es : List CarryMatrix) (a : ℕ) (p : List ℕ) (k : Key) (n : ℕ) → path_key es a p ≡ Some k → n < length es → IsSome (at (get_or es n []) (get_or (a ∷ p) n 0) (get_or p n 0))
step_there [] a p k n e lt = absurd (omega arith)
step_there (x ∷ es) a [] k n e lt = absurd (cc)
step_there (x ∷ es) a (m ∷ p) k zero e lt =
    let parts = joined_parts (one x a m) (path_key es m p) k e in
    let best = key_parts (at x a m) parts.0 parts.2 in
    is_some (at x a m) best.0 best.1
step_there (x ∷ es) a (m ∷ p) k (suc n) e lt =
    let parts = joined_parts (one x a m) (path_key es m p) k e in
    step_there es m p parts.1 n parts.3 (omega (arith, lt))

matrix_at : (xs : List BarTable) (n : ℕ) (d : BarTable) → n < length xs → get_or (matrices xs) n [] ≡ (get_or xs n d).matrix
matrix_at [] n d lt = absurd (omega (arith, lt))
matrix_at (x ∷ xs) zero d lt = refl
matrix_at (x ∷ xs) (suc n) d lt = matrix_at xs n d (omega (arith, lt))

-- the counts round a bar: 0 to 4, with a list there
pub record Step (x : BarTable) (from to : ℕ) : Type 0 where
  pub low : from < 5
  pub few : to < 5
  pub there : IsSome (list_at x from to)

pub carries_step : (g : Grammar) (xs : List BarTable) (counts : List ℕ) (n : ℕ) (d : BarTable) → All (IsTableIn g) xs → AreCarries (matrices xs) counts → n < length xs
    → Step (get_or xs n d) (get_or counts n 0) (get_or counts (n + 1) 0)
carries_step g xs counts n d tables h lt =
    let one : n + 1 ≡ suc n = omega arith in
    let to : get_or counts (n + 1) 0 ≡ get_or h.path n 0 = ap (λ m. get_or counts m 0) one ∙ ap (λ l. get_or l (suc n) 0) h.from_none in
    let from : get_or counts n 0 ≡ get_or (0 ∷ h.path) n 0 = ap (λ l. get_or l n 0) h.from_none in
    let size : length (matrices xs) ≡ length xs = length-map xs (λ (x : BarTable). x.matrix) in
    let there = step_there (matrices xs) 0 h.path h.key n h.least.key (omega (arith, lt, size)) in
    let low : get_or (0 ∷ h.path) n 0 < 5 = counts_at (0 ∷ h.path) n (omega arith, h.least.counts) in
    let few : get_or h.path n 0 < 5 = counts_at h.path n h.least.counts in
    let listed : IsSome (list_at (get_or xs n d) (get_or (0 ∷ h.path) n 0) (get_or h.path n 0)) =
    entry_listed g (get_or xs n d) (get_or (0 ∷ h.path) n 0) (get_or h.path n 0) (tables n d lt) low few (subst (λ m. IsSome (at m (get_or (0 ∷ h.path) n 0) (get_or h.path n 0))) (matrix_at xs n d lt) there) in
    record {
      low = subst (λ m. m < 5) (sym from) low;
      few = subst (λ m. m < 5) (sym to) few;
      there = subst (λ m. IsSome (list_at (get_or xs n d) m (get_or counts (n + 1) 0))) (sym from) (subst (λ m. IsSome (list_at (get_or xs n d) (get_or (0 ∷ h.path) n 0) m)) (sym to) listed);
    }

nothing_listed : (a : ℕ) (ls : List (List ℕ)) → AreListed [] a [] ls → ls ≡ []
nothing_listed a [] h = refl
nothing_listed a (l ∷ ls) h = absurd h

more_listed : (xs : List BarTable) (a : ℕ) (p : List ℕ) (ls : List (List ℕ)) (n : ℕ) (d : BarTable) (l : List ℕ) → n < length xs → n < length p
    → AreListed (take n xs) a (take n p) ls → list_at (get_or xs n d) (get_or (a ∷ p) n 0) (get_or p n 0) ≡ Some l → AreListed (take (suc n) xs) a (take (suc n) p) (ls ++ l ∷ [])
more_listed [] a p ls n d l lt low h is = absurd (omega (arith, lt))
more_listed (x ∷ xs) a [] ls n d l lt low h is = absurd (omega (arith, low))
more_listed (x ∷ xs) a (m ∷ p) ls zero d l lt low h is =
    subst (λ us. AreListed (x ∷ []) a (m ∷ []) (us ++ l ∷ [])) (sym (nothing_listed a ls h)) (is, tt)
more_listed (x ∷ xs) a (m ∷ p) [] (suc n) d l lt low h is = absurd h
more_listed (x ∷ xs) a (m ∷ p) (k ∷ ls) (suc n) d l lt low h is =
    (h.0, more_listed xs m p ls n d l (omega (arith, lt)) (omega (arith, low)) h.1 is)

-- the list of one bar more
pub one_listed : (xs : List BarTable) (counts : List ℕ) (ls : List (List ℕ)) (n : ℕ) (d : BarTable) (l : List ℕ) → AreCarries (matrices xs) counts → length counts ≡ length xs + 1 → n < length xs
    → AreListed (take n xs) 0 (take n (rest_of counts)) ls → list_at (get_or xs n d) (get_or counts n 0) (get_or counts (n + 1) 0) ≡ Some l
    → AreListed (take (n + 1) xs) 0 (take (n + 1) (rest_of counts)) (ls ++ l ∷ [])
one_listed xs counts ls n d l h long lt done is =
    let one : suc n ≡ n + 1 = omega arith in
    let to : get_or counts (n + 1) 0 ≡ get_or h.path n 0 = ap (λ m. get_or counts m 0) (sym one) ∙ ap (λ l. get_or l (suc n) 0) h.from_none in
    let from : get_or counts n 0 ≡ get_or (0 ∷ h.path) n 0 = ap (λ l. get_or l n 0) h.from_none in
    let rest : rest_of counts ≡ h.path = ap rest_of h.from_none in
    let size : length counts ≡ suc (length h.path) = ap length h.from_none in
    let before : AreListed (take n xs) 0 (take n h.path) ls = subst (λ p. AreListed (take n xs) 0 (take n p) ls) rest done in
    let here : list_at (get_or xs n d) (get_or (0 ∷ h.path) n 0) (get_or h.path n 0) ≡ Some l =
    subst (λ m. list_at (get_or xs n d) m (get_or h.path n 0) ≡ Some l) from (subst (λ m. list_at (get_or xs n d) (get_or counts n 0) m ≡ Some l) to is) in
    let more = more_listed xs 0 h.path ls n d l lt (omega (arith, lt, long, size)) before here in
    subst (λ m. AreListed (take m xs) 0 (take m (rest_of counts)) (ls ++ l ∷ [])) one
    (subst (λ p. AreListed (take (suc n) xs) 0 (take (suc n) p) (ls ++ l ∷ [])) (sym rest) more)

-- the lists of all bars
pub all_listed : (xs : List BarTable) (counts : List ℕ) (ls : List (List ℕ)) (n : ℕ) → AreCarries (matrices xs) counts → length counts ≡ length xs + 1 → length xs ≤ n
    → AreListed (take n xs) 0 (take n (rest_of counts)) ls → AreOfLeastPath xs ls
all_listed xs counts ls n h long all done =
    let size : length counts ≡ suc (length h.path) = ap length h.from_none in
    let rest : take n (rest_of counts) ≡ h.path = ap (λ l. take n (rest_of l)) h.from_none ∙ take_all n h.path (omega (arith, long, size, all)) in
    record {
      path = h.path;
      key = h.key;
      least = h.least;
      listed = subst (λ p. AreListed xs 0 p ls) rest (subst (λ l. AreListed l 0 (take n (rest_of counts)) ls) (take_all n xs all) done);
    }

-- ---- their trees

-- the trees that the lists tell are picked
pub told_picked : (g : Grammar) (xs : List BarTable) (a : ℕ) (p : List ℕ) (ls : List (List ℕ)) → All (IsTableIn g) xs → a < 5 → AreCarried p → AreListed xs a p ls
    → (ts : List Tree) × ArePicked g xs a p ts × HaveLists ts ls
told_picked g [] a [] [] tables low counts h = ([], tt, refl)
told_picked g [] a [] (l ∷ ls) tables low counts h = absurd h
told_picked g [] a (m ∷ p) ls tables low counts h = absurd h
told_picked g (x ∷ xs) a [] ls tables low counts h = absurd h
told_picked g (x ∷ xs) a (m ∷ p) [] tables low counts h = absurd h
told_picked g (x ∷ xs) a (m ∷ p) (l ∷ ls) tables low counts h =
    let one = entry_told g x a m (All-head (IsTableIn g) x xs tables) low counts.0 l h.0 in
    let rest = told_picked g xs m p ls (All-tail (IsTableIn g) x xs tables) counts.0 counts.1 h.1 in
    (one.0 ∷ rest.0, (one.1, one.2, rest.1), λ i. one.3 i ∷ rest.2 i)
