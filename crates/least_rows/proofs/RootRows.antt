-- The rows of a bar's root symbol.
use Rattle.std.proofs.Common.{◌≡◌, ◌≢◌, ℕ, zero, suc, ◌<◌, ◌≤◌, ◌+◌, ◌==◌, inl, inr, Bool, true, false, replicate, List, [], ◌∷◌, ◌++◌, length, get_or, set, refl, sym, ap, ◌∙◌, subst, arith, append-nil}
use Rattle.std.specs.Prelude.{Option, Some, None, slice_get, if◌then◌else◌}
use Rattle.std.specs.Ordering.{is_lt}
use Rattle.std.specs.declared.cmp.Ordering.{Ordering}
use Rattle.std.proofs.lemmas.Bool.{cases_lt}
use Rattle.std.proofs.lemmas.Bool.Decides.{nat_tests}
use Rattle.std.proofs.lemmas.Cmp.{nat_list_cmp_total, tied_itself}
use Rattle.std.proofs.lemmas.List.{get_or-set_other, get_or-set_same}
use Rattle.std.proofs.lemmas.List.Quantifiers.{position-Some}
use Rattle.std.proofs.lemmas.Option.{slice_get-get_or}
use Rattle.rhythm_base.specs.BarInput.{BarInput}
use Rattle.rhythm_base.specs.Cells.{bar_of}
use Rattle.rhythm_base.specs.Grammar.{Grammar}
use Rattle.rhythm_base.specs.Ranked.{Key, Keys, count_under, five, ranked}
use Rattle.rhythm_base.specs.declared.best.Best.{Best}
use Rattle.tree_laws.specs.Forests.{IsForestKey}
use Rattle.path_laws.specs.Tables.{IsLeastKey}
use Rattle.path_laws.proofs.LeastKeys.{IsLeast-one}
use Rattle.path_laws.proofs.Products.{five_at}
use Rattle.row_laws.specs.Grounds.{IsReady, ground_of}
use Rattle.row_laws.specs.QuietTrees.{IsQuiet, IsQuietLeast}
use Rattle.row_laws.specs.declared.quiet.Quiet.{Quiet}
use Rattle.grammar_plan.specs.Plans.{IsQuietTree}
use Rattle.grammar_plan.specs.declared.plan.Plan.{Plan}
use Rattle.grammar_plan.specs.declared.quiet_tree.QuietTree.{QuietTree}
use Rattle.bar_trees.specs.BarTrees.{AreBarTrees}
use Rattle.least_rows.specs.Entries.{IsRowEntry, IsRow}
use Rattle.least_rows.specs.Roots.{AreAskedRows, AreRootBests, AreRootKeys, AreRootRows, IsAskedRow, IsBestIn, IsOnlyTree, IsRootBest, IsRootList, IsRootListAt, only_best, only_key, only_list}
use Rattle.bar_trees.specs.WrittenLists.{AreListsWritten, IsListAt, IsListOf, list_number}
use Rattle.bar_trees.specs.declared.trees.BarTrees.{BarTrees}
use Rattle.least_rows.specs.declared.entry.Entry.{Entry}
use Rattle.least_rows.proofs.Fives.{list-five}
use Rattle.least_rows.proofs.PlanSeats.{All-at}
use Rattle.least_rows.proofs.RowRanks.{place-rank}
use Rattle.least_rows.proofs.WayLists.{position-none, quiet-nothing}
use Rattle.bar_trees.proofs.ListEnds.{written-next, written-none, written-so}
use Rattle.row_laws.proofs.Grounds.{grounded}

-- ---- a bar that is quiet as a whole

module _ (g : Grammar) (k : BarInput) (ready : IsReady g k) (quiet : Quiet) (a : ℕ) (calm : IsQuiet quiet (ground_of g k) 0 k.resolution) (o : Option Key) (least : IsQuietLeast g quiet (k.resolution, k.symbol) a o) where
  only_least : AreRootKeys g k a (only_key o)
  only_least zero low = least (bar_of k) k.chords k.before (grounded g k ready) 0 calm
  only_least (suc b) low = λ key x.
      let none_out = quiet-nothing (ground_of g k) (grounded g k ready) quiet 0 a (suc b) (k.resolution, k.symbol) key ready.cell.some_unit calm x in
      let no : ⊥ = omega (arith, none_out) in no

only_rank : (key : Key) → count_under (only_key (Some key)) key.1 5 ≡ 0
only_rank key = ap (λ (o : Ordering). 0 + (0 + (0 + (0 + ((if is_lt o then 1 else 0) + 0))))) (tied_itself nat_list_cmp_total key.1)

-- there is no tree, and nothing is written
pub only-none : (g : Grammar) (k : BarInput) → IsReady g k → (plan : Plan) (quiet : Quiet) (a : ℕ) → IsQuiet quiet (ground_of g k) 0 k.resolution → IsQuietTree g plan quiet (k.resolution, k.symbol) a None → (rules : List ℕ)
    → IsOnlyTree g k a rules rules None
only-none g k ready plan quiet a calm least rules = (None, only_least g k ready quiet a calm None least, refl, sym (append-nil rules))

-- the tree, where its rule list was written
pub only-some : (g : Grammar) (k : BarInput) → IsReady g k → (plan : Plan) (quiet : Quiet) (a : ℕ) → IsQuiet quiet (ground_of g k) 0 k.resolution → (t : QuietTree) → IsQuietTree g plan quiet (k.resolution, k.symbol) a (Some t) → (rules later : List ℕ)
    → ((key : Key) → IsQuietLeast g quiet (k.resolution, k.symbol) a (Some key) → later ≡ rules ++ key.1) → IsOnlyTree g k a rules later (Some (record { cost = t.cost; rank = 0 }))
only-some g k ready plan quiet a calm t (key, least, cost, cheap, made) rules later written = (Some key, only_least g k ready quiet a calm (Some key) least, λ i. Some (record { cost = cost i; rank = 0 }), written key least)

-- the whole row of that tree
abbrev pub quiet_row : Option Best → List (Option Best)
quiet_row o = o ∷ None ∷ None ∷ None ∷ None ∷ []

pub only-bests : (g : Grammar) (k : BarInput) (a : ℕ) (best : Option Best) (rules later : List ℕ) → IsOnlyTree g k a rules later best → AreRootBests g k a (best ∷ None ∷ None ∷ None ∷ None ∷ [])
only-bests g k a best rules later (o, least, is, grown) = record { keys = only_key o; least = least; each = ap (λ (o : Option Best). o ∷ None ∷ None ∷ None ∷ None ∷ []) (is ∙ ranked_only o) }
  where
    ranked_only : (o : Option Key) → only_best o ≡ ranked (only_key o) o
    ranked_only None = refl
    ranked_only (Some key) = λ i. Some (record { cost = key.0; rank = sym (only_rank key) i })

-- ---- a row that was found

best_ranked : (g : Grammar) (k : BarInput) (plan : Plan) (a : ℕ) (entries : List Entry) (row : IsRow (ground_of g k) plan 0 (k.resolution, k.symbol) a entries) (b : ℕ) → b < 5 → (o : Option Best) → IsBestIn entries b o
    → o ≡ ranked row.keys (row.keys b)
best_ranked g k plan a entries row b low None h = go (row.keys b) refl
  where
    go : (u : Option Key) → row.keys b ≡ u → None ≡ ranked row.keys (row.keys b)
    go None is = sym (ap (ranked row.keys) is)
    go (Some key) is =
        let one = row.all b key low is in
        let no = position-none (λ (e : Entry). e.to == b) entries one.0 one.1 h one.2 in
        let own : one.1.to ≡ b = one.3 in
        absurd (grind (arith, nat_tests))
best_ranked g k plan a entries row b low (Some x) (e, at, own, cost) =
    let found = position-Some (λ (e : Entry). e.to == b) entries x.rank e at in
    let here : slice_get entries x.rank ≡ Some e = slice_get-get_or entries x.rank e found.0 ∙ ap Some (sym own) in
    let entry : IsRowEntry (ground_of g k) plan 0 (k.resolution, k.symbol) a row.keys e = All-at (IsRowEntry (ground_of g k) plan 0 (k.resolution, k.symbol) a row.keys) entries x.rank e row.each here in
    let on : (e.to == b) ≡ true = ap (λ (e : Entry). e.to == b) own ∙ found.1 in
    let is : e.to ≡ b = grind (arith, nat_tests) in
    let rank = place-rank (ground_of g k) plan 0 (k.resolution, k.symbol) a entries row x.rank e here entry.1 entry.2 in
    let key : row.keys b ≡ Some entry.1 = ap row.keys (sym is) ∙ entry.2 in
    (λ i. Some (record { cost = (cost ∙ entry.3) i; rank = sym rank i })) ∙ sym (ap (ranked row.keys) key)

pub row_root : (g : Grammar) (k : BarInput) (plan : Plan) (a : ℕ) (entries : List Entry) (bests : List (Option Best)) → length bests ≡ 5 → IsRow (ground_of g k) plan 0 (k.resolution, k.symbol) a entries
    → ((b : ℕ) → b < 5 → IsBestIn entries b (get_or bests b None)) → AreRootBests g k a bests
row_root g k plan a entries bests long row h =
    record { keys = row.keys; least = row.least; each = list-five bests None (λ b. ranked row.keys (row.keys b)) long (λ b low. best_ranked g k plan a entries row b low (get_or bests b None) (h b low)) }

-- what is known of one of them
pub row-best : (g : Grammar) (k : BarInput) (a b : ℕ) (bests : List (Option Best)) → b < 5 → AreRootBests g k a bests → IsRootBest g k a b (get_or bests b None)
row-best g k a b bests low h = (h.keys, h.least, ap (λ l. get_or l b None) h.each ∙ five_at (λ b. ranked h.keys (h.keys b)) None b low)

-- ---- lists

pub keys_agree : (g : Grammar) (k : BarInput) (a b : ℕ) (keys others : ℕ → Option Key) → b < 5 → AreRootKeys g k a keys → AreRootKeys g k a others → keys b ≡ others b
keys_agree g k a b keys others low h i = IsLeast-one (IsForestKey (ground_of g k) None 0 ((k.resolution, k.symbol) ∷ []) a b) (keys b) (others b) (h b low) (i b low)

pub no-list : (g : Grammar) (k : BarInput) (a b : ℕ) (best : Option Best) → b < 5 → IsRootBest g k a b best → best ≡ None → IsRootList g k a b []
no-list g k a b best low (others, own, is) none keys h = subst (λ o. IsListOf o []) (sym (keys_agree g k a b keys others low h own ∙ absent_key (others b) (sym none ∙ is))) tt
  where
    absent_key : (u : Option Key) → None ≡ ranked others u → u ≡ None
    absent_key None e = refl
    absent_key (Some key) e = absurd (cc)

pub some_key : (g : Grammar) (k : BarInput) (a b : ℕ) (best : Option Best) → b < 5 → IsRootBest g k a b best → (x : Best) → best ≡ Some x
    → (key : Key) × IsLeastKey (IsForestKey (ground_of g k) None 0 ((k.resolution, k.symbol) ∷ []) a b) (Some key) × ((keys : ℕ → Option Key) → AreRootKeys g k a keys → keys b ≡ Some key)
some_key g k a b best low (others, own, is) x some = go (others b) refl (sym some ∙ is)
  where
    go : (u : Option Key) → others b ≡ u → Some x ≡ ranked others u
        → (key : Key) × IsLeastKey (IsForestKey (ground_of g k) None 0 ((k.resolution, k.symbol) ∷ []) a b) (Some key) × ((keys : ℕ → Option Key) → AreRootKeys g k a keys → keys b ≡ Some key)
    go None at e = absurd (cc)
    go (Some key) at e = (key, subst (IsLeastKey (IsForestKey (ground_of g k) None 0 ((k.resolution, k.symbol) ∷ []) a b)) at (own b low), λ keys h. keys_agree g k a b keys others low h own ∙ at)

-- the list of keys is the list of all
pub root-list : (g : Grammar) (k : BarInput) (a b n : ℕ) (keys : ℕ → Option Key) (xs : List ℕ) → b < 5 → AreRootKeys g k a keys → IsListOf (keys b) xs → n ≡ list_number a b → IsRootListAt g k n xs
root-list g k a b n keys xs low own list is a' b' low' is' others h =
    let row : a ≡ a' = omega (arith, low, low', is, is') in
    let count : b ≡ b' = omega (arith, low, low', is, is') in
    let theirs : AreRootKeys g k a' keys = subst (λ a. AreRootKeys g k a keys) row own in
    subst (λ o. IsListOf o xs) (keys_agree g k a' b' keys others low' theirs h) (subst (λ b. IsListOf (keys b) xs) count list)

pub root-list-of : (g : Grammar) (k : BarInput) (a b n : ℕ) (xs : List ℕ) → b < 5 → IsRootList g k a b xs → n ≡ list_number a b → IsRootListAt g k n xs
root-list-of g k a b n xs low list is a' b' low' is' =
    let row : a ≡ a' = omega (arith, low, low', is, is') in
    let count : b ≡ b' = omega (arith, low, low', is, is') in
    subst (λ b. IsRootList g k a' b xs) count (subst (λ a. IsRootList g k a b xs) row list)

-- the lists of the row of the only tree: that of the tree, and empty ones
pub only-list : (g : Grammar) (k : BarInput) (a n : ℕ) (best : Option Best) (rules later : List ℕ) → (h : IsOnlyTree g k a rules later best) → n ≡ list_number a 0 → IsRootListAt g k n (only_list h.0)
only-list g k a n best rules later (o, least, is, grown) here = root-list g k a 0 n (only_key o) (only_list o) (omega arith) least (own o) here
  where
    own : (o : Option Key) → IsListOf o (only_list o)
    own None = tt
    own (Some key) = refl

pub only-empty : (g : Grammar) (k : BarInput) (a b n : ℕ) (best : Option Best) (rules later : List ℕ) → IsOnlyTree g k a rules later best → b < 4 → n ≡ list_number a (suc b) → IsRootListAt g k n []
only-empty g k a b n best rules later (o, least, is, grown) low here = root-list g k a (suc b) n (only_key o) [] (omega (arith, low)) least tt here

-- ---- all rows

pub rows-next : (g : Grammar) (k : BarInput) (asked : List Bool) (n : ℕ) (bests : List (List (Option Best))) (best : List (Option Best)) → length bests ≡ 5 → n < 5 → AreAskedRows g k asked n bests
    → IsAskedRow g k n (get_or asked n false) best → AreAskedRows g k asked (n + 1) (set bests n best)
rows-next g k asked n bests best long few h here a below = elim (cases_lt a n) [
  | inl before ↦
      let other : a ≢ n = λ same. let no : ⊥ = omega (arith, same, before) in no in
      subst (IsAskedRow g k a (get_or asked a false)) (sym (get_or-set_other bests n a best [] other)) (h a before)
  | inr le ↦
      let same : n ≡ a = omega (arith, le, below) in
      let one : get_or (set bests n best) a [] ≡ best = ap (λ a. get_or (set bests n best) a []) (sym same) ∙ get_or-set_same bests n best [] (omega (arith, few, long)) in
      subst (IsAskedRow g k a (get_or asked a false)) (sym one) (subst (λ n. IsAskedRow g k n (get_or asked n false) best) same here)
]

-- those of the later numbers stay as they are
pub rest-same : (n : ℕ) (bests : List (List (Option Best))) (best : List (Option Best)) → ((a : ℕ) → n ≤ a → a < 5 → get_or bests a [] ≡ replicate 5 None)
    → (a : ℕ) → n + 1 ≤ a → a < 5 → get_or (set bests n best) a [] ≡ replicate 5 None
rest-same n bests best h a above below =
    let other : a ≢ n = λ same. let no : ⊥ = omega (arith, same, above) in no in
    let later : n ≤ a = omega (arith, above) in
    get_or-set_other bests n a best [] other ∙ h a later below

-- all are asked for
pub all-asked : (g : Grammar) (k : BarInput) (bests : List (List (Option Best))) → AreAskedRows g k (replicate 5 true) 5 bests → AreRootRows g k 5 bests
all-asked g k bests h zero low = h zero low
all-asked g k bests h (suc zero) low = h (suc zero) low
all-asked g k bests h (suc (suc zero)) low = h (suc (suc zero)) low
all-asked g k bests h (suc (suc (suc zero))) low = h (suc (suc (suc zero))) low
all-asked g k bests h (suc (suc (suc (suc zero)))) low = h (suc (suc (suc (suc zero)))) low
all-asked g k bests h (suc (suc (suc (suc (suc a))))) low = absurd (omega arith)

module _ (g : Grammar) (k : BarInput) (bests : List (List (Option Best))) (h : AreRootRows g k 5 bests) where
  row : (a : ℕ) → a < 5 → AreRootBests g k a (get_or bests a [])
  row a low = h a low

  -- the keys of all five rows
  abbrev five_keys : Keys
  five_keys zero = (row 0 (omega arith)).keys
  five_keys (suc zero) = (row 1 (omega arith)).keys
  five_keys (suc (suc zero)) = (row 2 (omega arith)).keys
  five_keys (suc (suc (suc zero))) = (row 3 (omega arith)).keys
  five_keys (suc (suc (suc (suc zero)))) = (row 4 (omega arith)).keys
  five_keys (suc (suc (suc (suc (suc a))))) = λ b. None

  -- what is known of a row
  abbrev IsRowOf : ℕ → (ℕ → Option Key) → Type 0
  IsRowOf a keys = AreRootKeys g k a keys × (get_or bests a [] ≡ five (λ b. ranked keys (keys b)))

  known : (a : ℕ) (low : a < 5) → IsRowOf a (row a low).keys
  known a low = ((row a low).least, (row a low).each)

  five_known : (a : ℕ) → a < 5 → IsRowOf a (five_keys a)
  five_known zero low = known 0 (omega arith)
  five_known (suc zero) low = known 1 (omega arith)
  five_known (suc (suc zero)) low = known 2 (omega arith)
  five_known (suc (suc (suc zero))) low = known 3 (omega arith)
  five_known (suc (suc (suc (suc zero)))) low = known 4 (omega arith)
  five_known (suc (suc (suc (suc (suc a))))) low = absurd (omega arith)

  -- a list of all is a list of these keys
  listed : (n : ℕ) (xs : List ℕ) → n < 25 → IsRootListAt g k n xs → IsListAt five_keys n xs
  listed n xs low list a b lb is = list a b lb is (five_keys a) (five_known a (omega (arith, low, is))).0

  pub bar-trees : (trees : BarTrees) → length bests ≡ 5 → bests ≡ trees.bests.rows → AreListsWritten (IsRootListAt g k) trees.lists.rules.items trees.lists.ends 25 → AreBarTrees g k trees
  bar-trees trees long is written = record {
    keys = five_keys;
    least = λ a b la lb. (five_known a la).0 b lb;
    bests = sym is ∙ list-five bests [] (λ a. five (λ b. ranked (five_keys a) (five_keys a b))) long (λ a low. (five_known a low).1);
    lists = written-so (IsRootListAt g k) (IsListAt five_keys) trees.lists.rules.items trees.lists.ends 25 listed written;
  }

-- ---- the rows of a bar that is quiet as a whole

pub quiet-rows : (g : Grammar) (k : BarInput) (o p q r s : Option Best) (r0 r1 r2 r3 r4 r5 : List ℕ)
    → IsOnlyTree g k 0 r0 r1 o → IsOnlyTree g k 1 r1 r2 p → IsOnlyTree g k 2 r2 r3 q → IsOnlyTree g k 3 r3 r4 r → IsOnlyTree g k 4 r4 r5 s
    → AreRootRows g k 5 (quiet_row o ∷ quiet_row p ∷ quiet_row q ∷ quiet_row r ∷ quiet_row s ∷ [])
quiet-rows g k o p q r s r0 r1 r2 r3 r4 r5 ho hp hq hr hs zero low = only-bests g k 0 o r0 r1 ho
quiet-rows g k o p q r s r0 r1 r2 r3 r4 r5 ho hp hq hr hs (suc zero) low = only-bests g k 1 p r1 r2 hp
quiet-rows g k o p q r s r0 r1 r2 r3 r4 r5 ho hp hq hr hs (suc (suc zero)) low = only-bests g k 2 q r2 r3 hq
quiet-rows g k o p q r s r0 r1 r2 r3 r4 r5 ho hp hq hr hs (suc (suc (suc zero))) low = only-bests g k 3 r r3 r4 hr
quiet-rows g k o p q r s r0 r1 r2 r3 r4 r5 ho hp hq hr hs (suc (suc (suc (suc zero)))) low = only-bests g k 4 s r4 r5 hs
quiet-rows g k o p q r s r0 r1 r2 r3 r4 r5 ho hp hq hr hs (suc (suc (suc (suc (suc a))))) low = absurd (omega arith)

-- the lists of one row more end where that of its only tree does
abbrev ended : List ℕ → ℕ → ℕ → List ℕ
ended ends n e = set (set (set (set (set ends n e) (n + 1) e) (n + 2) e) (n + 3) e) (n + 4) e

quiet-ended : (g : Grammar) (k : BarInput) (a n m : ℕ) (best : Option Best) (rules later ends : List ℕ) → a < 5 → n ≡ list_number a 0 → n + 5 ≡ m → IsOnlyTree g k a rules later best
    → AreListsWritten (IsRootListAt g k) rules ends n → AreListsWritten (IsRootListAt g k) later (ended ends n (length later)) m
quiet-ended g k a n m best rules later ends low here next h written =
    let P = IsRootListAt g k in
    let e = length later in
    let same = sym (append-nil later) in
    let l0 = written-next P rules (only_list h.0) later ends n (n + 1) (omega (arith, low, here)) written h.3 (only-list g k a n best rules later h here) (omega arith) in
    let l1 = written-next P later [] later (set ends n e) (n + 1) (n + 2) (omega (arith, low, here)) l0 same (only-empty g k a 0 (n + 1) best rules later h (omega arith) (omega (arith, here))) (omega arith) in
    let l2 = written-next P later [] later (set (set ends n e) (n + 1) e) (n + 2) (n + 3) (omega (arith, low, here)) l1 same (only-empty g k a 1 (n + 2) best rules later h (omega arith) (omega (arith, here))) (omega arith) in
    let l3 = written-next P later [] later (set (set (set ends n e) (n + 1) e) (n + 2) e) (n + 3) (n + 4) (omega (arith, low, here)) l2 same (only-empty g k a 2 (n + 3) best rules later h (omega arith) (omega (arith, here))) (omega arith) in
    written-next P later [] later (set (set (set (set ends n e) (n + 1) e) (n + 2) e) (n + 3) e) (n + 4) m (omega (arith, low, here)) l3 same (only-empty g k a 3 (n + 4) best rules later h (omega arith) (omega (arith, here))) (omega (arith, next))

abbrev pub quiet_ends : (a b c d e : ℕ) → List ℕ
quiet_ends a b c d e =
    a ∷ a ∷ a ∷ a ∷ a ∷ b ∷ b ∷ b ∷ b ∷ b ∷ c ∷ c ∷ c ∷ c ∷ c ∷ d ∷ d ∷ d ∷ d ∷ d ∷ e ∷ e ∷ e ∷ e ∷ e ∷ []

pub quiet-written : (g : Grammar) (k : BarInput) (o p q r s : Option Best) (r1 r2 r3 r4 r5 : List ℕ)
    → IsOnlyTree g k 0 [] r1 o → IsOnlyTree g k 1 r1 r2 p → IsOnlyTree g k 2 r2 r3 q → IsOnlyTree g k 3 r3 r4 r → IsOnlyTree g k 4 r4 r5 s
    → AreListsWritten (IsRootListAt g k) r5 (quiet_ends (length r1) (length r2) (length r3) (length r4) (length r5)) 25
quiet-written g k o p q r s r1 r2 r3 r4 r5 ho hp hq hr hs =
    let w0 = written-none (IsRootListAt g k) [] (quiet_ends 0 0 0 0 0) refl refl in
    let w1 = quiet-ended g k 0 0 5 o [] r1 (quiet_ends 0 0 0 0 0) (omega arith) refl refl ho w0 in
    let w2 = quiet-ended g k 1 5 10 p r1 r2 (quiet_ends (length r1) 0 0 0 0) (omega arith) refl refl hp w1 in
    let w3 = quiet-ended g k 2 10 15 q r2 r3 (quiet_ends (length r1) (length r2) 0 0 0) (omega arith) refl refl hq w2 in
    let w4 = quiet-ended g k 3 15 20 r r3 r4 (quiet_ends (length r1) (length r2) (length r3) 0 0) (omega arith) refl refl hr w3 in
    quiet-ended g k 4 20 25 s r4 r5 (quiet_ends (length r1) (length r2) (length r3) (length r4) 0) (omega arith) refl refl hs w4
