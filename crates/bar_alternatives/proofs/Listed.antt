-- The listed trees are the best trees.
use Rattle.std.proofs.Common.{◌≡◌, ℕ, ◌+◌, ◌<◌, inl, inr, true, List, [], ◌∷◌, ◌++◌, length, get_or, map, take, refl, sym, ap, ◌∙◌, subst, arith, append-nil}
use Rattle.std.specs.Prelude.{Option, None, All, AllPairs, Contains}
use Rattle.std.specs.Ordering.{is_lt}
use Rattle.std.specs.declared.cmp.Ordering.{Ordering}
use Rattle.std.specs.declared.cmp.Ordering.TheVariants.{Less, Equal, Greater}
use Rattle.std.proofs.lemmas.List.{length-map, take_more}
use Rattle.std.proofs.lemmas.List.Kept.{AllPairs-cons}
use Rattle.tree_laws.specs.Alternatives.{IsEarlier}
use Rattle.rhythm_base.specs.BarInput.{BarInput}
use Rattle.rhythm_base.specs.Forest.{Tree, preorder_of}
use Rattle.rhythm_base.specs.Grammar.{Grammar}
use Rattle.rhythm_base.specs.Lists.{Each}
use Rattle.rhythm_base.specs.Ranked.{Key, key_cmp}
use Rattle.rhythm_base.specs.RuleTrees.{IsRuleList, IsTold}
use Rattle.rhythm_base.proofs.FirstLists.{all_contained, contains_split, one_earlier, one_first}
use Rattle.tree_laws.proofs.Ranks.{ranks_total}
use Rattle.rhythm_base.proofs.OrderedLists.{all_cons, all_head, all_tail, pairs_head, pairs_nil, pairs_tail}
use Rattle.tree_laws.proofs.Parsing.{no_prefix}
use Rattle.row_laws.specs.Grounds.{IsReady}
use Rattle.bar_alternatives.specs.BestTrees.{AreBestTrees, IsLookedAt}
use Rattle.best_trees.specs.Firsts.{AreFirstKeys, IsBefore}
use Rattle.bar_alternatives.specs.Totals.{IsTotal, IsListed}
use Rattle.best_trees.proofs.Firsts.{contains_first, contains_later}
use Rattle.bar_alternatives.proofs.Roots.{looked_told, looked_total, total_looked}
use Rattle.rhythm_base.proofs.PairedLists.{each_push}

-- ---- listing one more

pub listed-next : (g : Grammar) (symbol : ℕ) (keys : List Key) (i : ℕ) (key : Key) (old new : List (ℕ × Tree)) (a : ℕ × Tree) → i < length keys → key ≡ get_or keys i key
    → Each (IsListed g symbol) (take i keys) old → new ≡ old ++ a ∷ [] → IsListed g symbol key a → Each (IsListed g symbol) (take (i + 1) keys) new
listed-next g symbol keys i key old new a low is h pushed own =
    let all : take (i + 1) keys ≡ take i keys ++ key ∷ [] = take_more keys i key low ∙ ap (λ k. take i keys ++ k ∷ []) (sym is) in
    subst (Each (IsListed g symbol) (take (i + 1) keys)) (sym pushed) (subst (λ l. Each (IsListed g symbol) l (old ++ a ∷ [])) (sym all) (each_push (IsListed g symbol) (take i keys) old key a h own))

-- ---- the order

abbrev rank : ℕ × Tree → Key
rank a = (a.0, preorder_of a.1)

less_is : (o : Ordering) → is_lt o ≡ true → o ≡ Less
less_is Less h = refl
less_is Equal h = absurd (cc)
less_is Greater h = absurd (cc)

before_earlier : (a b : ℕ × Tree) → IsBefore (rank a) (rank b) → IsEarlier a b
before_earlier a b h = less_is (key_cmp (rank a) (rank b)) h

mapped_pairs : (xs : List (ℕ × Tree)) → AllPairs IsBefore (map rank xs) → AllPairs IsEarlier xs
mapped_pairs [] h = pairs_nil IsEarlier
mapped_pairs (x ∷ xs) h =
    AllPairs-cons IsEarlier x xs (all_earlier xs (pairs_head IsBefore (rank x) (map rank xs) h)) (mapped_pairs xs (pairs_tail IsBefore (rank x) (map rank xs) h))
  where
    all_earlier : (ys : List (ℕ × Tree)) → All (IsBefore (rank x)) (map rank ys) → All (IsEarlier x) ys
    all_earlier [] c = λ i d lt. absurd (omega (arith, lt))
    all_earlier (y ∷ ys) c = all_cons (IsEarlier x) y ys (before_earlier x y (all_head (IsBefore (rank x)) (rank y) (map rank ys) c)) (all_earlier ys (all_tail (IsBefore (rank x)) (rank y) (map rank ys) c))

mapped_before : (b : ℕ × Tree) (xs : List (ℕ × Tree)) → All (λ x. IsBefore x (rank b)) (map rank xs) → All (λ x. IsEarlier x b) xs
mapped_before b [] h = λ i d lt. absurd (omega (arith, lt))
mapped_before b (x ∷ xs) h =
    all_cons (λ x. IsEarlier x b) x xs (before_earlier x b (all_head (λ x. IsBefore x (rank b)) (rank x) (map rank xs) h)) (mapped_before b xs (all_tail (λ x. IsBefore x (rank b)) (rank x) (map rank xs) h))

mapped_member : (xs : List (ℕ × Tree)) (key : Key) → Contains (map rank xs) key → (x : ℕ × Tree) × Contains xs x × (rank x ≡ key)
mapped_member [] key c = absurd (omega (arith, c.1))
mapped_member (x ∷ xs) key c = elim (contains_split key (rank x) (map rank xs) c) [
  | inl same ↦ (x, contains_first x xs, same)
  | inr later ↦ let rest = mapped_member xs key later in (rest.0, contains_later rest.0 x xs rest.1, rest.2)
]

-- the ranks of what is listed are the keys
ranks-keys : (g : Grammar) (symbol : ℕ) (keys : List Key) (list : List (ℕ × Tree)) → Each (IsListed g symbol) keys list → map rank list ≡ keys
ranks-keys g symbol [] [] h = refl
ranks-keys g symbol [] (a ∷ list) h = absurd (cc)
ranks-keys g symbol (key ∷ keys) [] h = absurd h
ranks-keys g symbol (key ∷ keys) (a ∷ list) h = λ i. (h.0.0 i, h.0.1.1 i) ∷ ranks-keys g symbol keys list h.1 i

module _ (g : Grammar) (k : BarInput) (ready : IsReady g k) (free : k.pin ≡ None) (before after : List (Option ℕ)) (count : ℕ) where
  told_one : (list : List ℕ) (t u : Tree) → IsTold g k.symbol list t → IsTold g k.symbol list u → t ≡ u
  told_one list t u h l = (no_prefix g.rules (g.resolution, k.symbol) (g.resolution, k.symbol) t u [] h.0 l.0 (append-nil (preorder_of t) ∙ h.1 ∙ sym l.1)).0

  listed_looked : (key : Key) (a : ℕ × Tree) → IsTotal g k before after key → IsListed g k.symbol key a → IsLookedAt g k before after a
  listed_looked key a total own =
      let found = total_looked g k ready free before after key total in
      let same : found.0 ≡ a.1 = told_one key.1 found.0 a.1 found.1 own.1 in
      let both_same : ◌≡◌ {A = ℕ × Tree} (key.0, found.0) a = λ i. (sym own.0 i, same i) in
      subst (IsLookedAt g k before after) both_same found.2

  all_looked : (keys : List Key) (list : List (ℕ × Tree)) → All (IsTotal g k before after) keys → Each (IsListed g k.symbol) keys list → All (IsLookedAt g k before after) list
  all_looked [] [] h e = λ i d lt. absurd (omega (arith, lt))
  all_looked [] (a ∷ list) h e = absurd (cc)
  all_looked (key ∷ keys) [] h e = absurd e
  all_looked (key ∷ keys) (a ∷ list) h e =
      all_cons (IsLookedAt g k before after) a list (listed_looked key a (all_head (IsTotal g k before after) key keys h) e.0) (all_looked keys list (all_tail (IsTotal g k before after) key keys h) e.1)

  all_told : (keys : List Key) (list : List (ℕ × Tree)) → Each (IsListed g k.symbol) keys list → All (λ a. IsTold g k.symbol (preorder_of a.1) a.1) list
  all_told [] [] e = λ i d lt. absurd (omega (arith, lt))
  all_told [] (a ∷ list) e = absurd (cc)
  all_told (key ∷ keys) [] e = absurd e
  all_told (key ∷ keys) (a ∷ list) e = all_cons (λ a. IsTold g k.symbol (preorder_of a.1) a.1) a list (e.0.1.0, refl) (all_told keys list e.1)

  -- each total is of a tree that its rule list tells
  pub all_listable : (keys : List Key) → AreFirstKeys (IsTotal g k before after) count keys → All (λ key. IsRuleList g k.symbol key.1) keys
  all_listable keys h = λ i d lt. let found = total_looked g k ready free before after _ (h.are i d lt) in (found.0, found.1)

  pub listed-best : (keys : List Key) (list : List (ℕ × Tree)) → AreFirstKeys (IsTotal g k before after) count keys → Each (IsListed g k.symbol) keys list → AreBestTrees g k before after count list
  listed-best keys list h e = record {
    are = all_looked keys list h.are e;
    in_order = mapped_pairs list (subst (AllPairs IsBefore) (sym ranks) h.in_order);
    few = let few = h.few in omega (arith, few, long);
    first = λ a looked. elim (h.first (rank a) (looked_total g k ready free before after a looked)) [
      | inl there ↦ inl (found a looked (mapped_member list (rank a) (subst (λ l. Contains l (rank a)) (sym ranks) there)))
      | inr full ↦ inr (let all = full.0 in omega (arith, all, long), mapped_before a list (subst (All (λ x. IsBefore x (rank a))) (sym ranks) full.1))
    ];
  }
    where
      ranks : map rank list ≡ keys
      ranks = ranks-keys g k.symbol keys list e

      long : length list ≡ length keys
      long = sym (length-map list rank) ∙ ap length ranks

      found : (a : ℕ × Tree) → IsLookedAt g k before after a → (x : ℕ × Tree) × Contains list x × (rank x ≡ rank a) → Contains list a
      found a looked (x, there, is) =
          let own = all_contained (λ a. IsTold g k.symbol (preorder_of a.1) a.1) list x (all_told keys list e) there in
          let list_is : preorder_of x.1 ≡ preorder_of a.1 = ap (λ (y : Key). y.1) is in
          let cost_is : x.0 ≡ a.0 = ap (λ (y : Key). y.0) is in
          let tree_is : x.1 ≡ a.1 = told_one (preorder_of a.1) x.1 a.1 (own.0, list_is) (looked_told g k ready free before after a looked) in
          let same : x ≡ a = λ i. (cost_is i, tree_is i) in
          subst (Contains list) same there

-- ---- one list

pub one_list : (g : Grammar) (k : BarInput) (before after : List (Option ℕ)) (count : ℕ) (xs ys : List (ℕ × Tree)) → AreBestTrees g k before after count xs → AreBestTrees g k before after count ys → xs ≡ ys
one_list g k before after count xs ys h l =
    one_first IsEarlier (λ a b. one_earlier ranks_total (a.0, preorder_of a.1) (b.0, preorder_of b.1)) (IsLookedAt g k before after) count xs ys
    record { are = h.are; in_order = h.in_order; few = h.few; first = h.first }
    record { are = l.are; in_order = l.in_order; few = l.few; first = l.first }
