-- What is folded over trees side by side stands for their rows.
use Rattle.std.proofs.Common.{◌≡◌, ◌≢◌, ℕ, ◌<◌, ◌+◌, ◌*◌, ◌⊎◌, inl, inr, nat_lt, ◌||◌, ◌&&◌, ◌==◌, [], ◌∷◌, refl, sym, ap, ◌∙◌, subst, arith}
use Rattle.std.specs.Prelude.{Option, Some, None}
use Rattle.std.specs.Cmp.{nat_cmp_is}
use Rattle.std.specs.Ordering.{nat_cmp, ordering_then, is_lt}
use Rattle.std.specs.declared.cmp.Ordering.{Ordering}
use Rattle.std.specs.declared.cmp.Ordering.TheVariants.{Less, Equal, Greater}
use Rattle.rhythm_base.specs.Ranked.{Key, Keys, is_before, key_sum, list_cmp, number_of, plus, value_of}
use Rattle.path_laws.specs.Rows.{AreAlike, lists_cmp, same}
use Rattle.path_laws.proofs.Alike.{AreApart, IsCount, joined_cmp, parse, via}
use Rattle.path_laws.proofs.KeyOrders.{Parse}
use Rattle.rhythm_base.proofs.TotalOrders.{list_equal}
use Rattle.path_laws.proofs.Picks.{both_there, decides, found, pick_count, pick_found, pick_same, tested, times_via}
use Rattle.row_laws.specs.BestRules.{Choice, choice_key, is_nearer}
use Rattle.row_laws.specs.Folds.{digit_sum, fold_pick}
use Rattle.row_laws.specs.Rows.{row_times}
use Rattle.row_laws.proofs.Digits.{digits-cmp, digits-lt}

-- ---- two sums

abbrev digit : Choice → Choice → Choice
digit c d = (c.0 + d.0, c.1 * 8 + d.1)

-- the first lists differ
before_nearer : (x y u v : Key) (c d e f : Choice) → Parse x.1 u.1 → x.0 ≡ c.0 → y.0 ≡ d.0 → u.0 ≡ e.0 → v.0 ≡ f.0
    → list_cmp x.1 u.1 ≡ ordering_then (nat_cmp c.1 e.1) Equal → c.1 ≢ e.1 → d.1 < 8 → f.1 < 8
    → is_before (plus x y) (plus u v) ≡ is_nearer (digit c d) (digit e f)
before_nearer x y u v c d e f long c1 c2 c3 c4 order other low low' =
    let lists : list_cmp (plus x y).1 (plus u v).1 ≡ ordering_then (ordering_then (nat_cmp c.1 e.1) Equal) (list_cmp y.1 v.1)
    = joined_cmp x u y v long ∙ ap (λ o. ordering_then o (list_cmp y.1 v.1)) order in
    (λ i. is_lt (ordering_then (nat_cmp (c1 i + c2 i) (c3 i + c4 i)) (lists i)))
    ∙ decides (c.0 + d.0) (e.0 + f.0) c.1 e.1 (list_cmp y.1 v.1) other
    ∙ ap (λ b. nat_lt (c.0 + d.0) (e.0 + f.0) || ((c.0 + d.0 == e.0 + f.0) && b)) (sym (digits-lt 8 c.1 d.1 e.1 f.1 low low' other))

-- the second lists are compared where the first are equal
digits_order : (x y u v : Key) (c d e f : Choice) → Parse x.1 u.1 → list_cmp x.1 u.1 ≡ ordering_then (nat_cmp c.1 e.1) Equal
    → (list_cmp x.1 u.1 ≡ Equal → list_cmp y.1 v.1 ≡ ordering_then (nat_cmp d.1 f.1) Equal) → d.1 < 8 → f.1 < 8
    → list_cmp (plus x y).1 (plus u v).1 ≡ list_cmp ((digit c d).1 ∷ []) ((digit e f).1 ∷ [])
digits_order x y u v c d e f long order after low low' =
    joined_cmp x u y v long ∙ go (nat_cmp c.1 e.1) (list_cmp x.1 u.1) order after ∙ ap (λ o. ordering_then o Equal) (sym (digits-cmp 8 c.1 d.1 e.1 f.1 low low'))
  where
    go : (o r : Ordering) → r ≡ ordering_then o Equal → (r ≡ Equal → list_cmp y.1 v.1 ≡ ordering_then (nat_cmp d.1 f.1) Equal)
        → ordering_then r (list_cmp y.1 v.1) ≡ ordering_then (ordering_then o (nat_cmp d.1 f.1)) Equal
    go Less r h g = ap (λ r. ordering_then r (list_cmp y.1 v.1)) h
    go Equal r h g = ap (λ r. ordering_then r (list_cmp y.1 v.1)) h ∙ g h
    go Greater r h g = ap (λ r. ordering_then r (list_cmp y.1 v.1)) h

-- the rows of the next tree are only known for the counts that the trees before it carry out
module _ (row : ℕ → Option Key) (next : Keys) (fold : ℕ → Option Choice) (ranks : ℕ → ℕ → Option Choice)
    (alike : AreAlike row (λ m. choice_key (fold m)))
    (rows : (m : ℕ) (k : Key) → m < 5 → row m ≡ Some k → AreAlike (next m) (λ b. choice_key (ranks m b)))
    (digits : (m b : ℕ) (c : Choice) → ranks m b ≡ Some c → c.1 < 8)
    (parses : (m n : ℕ) → m < 5 → n < 5 → parse (row m) (row n))
    (apart : AreApart row) where
  abbrev keys : ℕ → ℕ → Option Key
  keys b m = key_sum (row m) (next m b)

  abbrev sums : ℕ → ℕ → Option Choice
  sums b m = digit_sum (fold m) (ranks m b)

  -- both are there over the count m
  record There (m b : ℕ) : Type 0 where
    key : Key
    last : Key
    choice : Choice
    rank : Choice
    is_key : row m ≡ Some key
    is_last : next m b ≡ Some last
    is_choice : fold m ≡ Some choice
    is_rank : ranks m b ≡ Some rank
    one_cost : key.0 ≡ choice.0
    last_cost : last.0 ≡ rank.0

  seen : (b m : ℕ) → b < 5 → m < 5 → ((keys b m ≡ None) × (sums b m ≡ None)) ⊎ There m b
  seen b m lb lm = go (row m) (fold m) refl refl (alike.costs m lm)
    where
      go : (p : Option Key) (e : Option Choice) → row m ≡ p → fold m ≡ e → same p (choice_key e) → ((key_sum p (next m b) ≡ None) × (digit_sum e (ranks m b) ≡ None)) ⊎ There m b
      go None None ep ee h = inl (refl, refl)
      go None (Some c) ep ee h = absurd h
      go (Some x) None ep ee h = absurd h
      go (Some x) (Some c) ep ee h = there (next m b) (ranks m b) refl refl ((rows m x lm ep).costs b lb)
        where
          there : (q : Option Key) (f : Option Choice) → next m b ≡ q → ranks m b ≡ f → same q (choice_key f) → ((key_sum (Some x) q ≡ None) × (digit_sum (Some c) f ≡ None)) ⊎ There m b
          there None None eq ef g = inl (refl, refl)
          there None (Some d) eq ef g = absurd g
          there (Some y) None eq ef g = absurd g
          there (Some y) (Some d) eq ef g = inr (record { key = x; last = y; choice = c; rank = d; is_key = ep; is_last = eq; is_choice = ee; is_rank = ef; one_cost = h; last_cost = g })

  -- ---- the same count is taken

  there_both : (b m : ℕ) → b < 5 → m < 5 → both_there (keys b m) (sums b m)
  there_both b m lb lm = elim (seen b m lb lm) [
    | inl h ↦ subst (λ p. both_there p (sums b m)) (sym h.0) (subst (both_there {X = Key} None) (sym h.1) tt)
    | inr t ↦
        let one : keys b m ≡ Some (plus t.key t.last) = λ i. key_sum (t.is_key i) (t.is_last i) in
        let two : sums b m ≡ Some (digit t.choice t.rank) = λ i. digit_sum (t.is_choice i) (t.is_rank i) in
        subst (λ p. both_there p (sums b m)) (sym one) (subst (both_there (Some (plus t.key t.last))) (sym two) tt)
  ]

  -- the lists of the first trees, and the orders that stand for them
  first_order : (m n b c : ℕ) (s : There m b) (t : There n c) → m < 5 → n < 5 → list_cmp s.key.1 t.key.1 ≡ ordering_then (nat_cmp s.choice.1 t.choice.1) Equal
  first_order m n b c s t lm ln = (λ i. lists_cmp (sym s.is_key i) (sym t.is_key i)) ∙ alike.order m n lm ln ∙ (λ i. lists_cmp (choice_key (s.is_choice i)) (choice_key (t.is_choice i)))

  first_parse : (m n b c : ℕ) (s : There m b) (t : There n c) → m < 5 → n < 5 → Parse s.key.1 t.key.1
  first_parse m n b c s t lm ln = subst (λ p. parse p (Some t.key)) s.is_key (subst (parse (row m)) t.is_key (parses m n lm ln))

  first_apart : (m n b c : ℕ) (s : There m b) (t : There n c) → m < 5 → n < 5 → n < m → s.choice.1 ≢ t.choice.1
  first_apart m n b c s t lm ln less = λ e.
      let equal : list_cmp s.key.1 t.key.1 ≡ Equal = first_order m n b c s t lm ln ∙ ap (λ o. ordering_then o Equal) (sym (nat_cmp_is s.choice.1 t.choice.1 Equal e)) in
      let one : m ≡ n = apart m n lm ln s.key t.key s.is_key t.is_key (list_equal s.key.1 t.key.1 equal) in
      absurd (omega (arith, one, less))

  tests_same : (b m n : ℕ) → b < 5 → m < 5 → n < 5 → n < m → tested is_before (keys b m) (keys b n) ≡ tested is_nearer (sums b m) (sums b n)
  tests_same b m n lb lm ln less = elim (seen b m lb lm) [
    | inl h ↦ ap (λ p. tested is_before p (keys b n)) h.0 ∙ sym (ap (λ p. tested is_nearer p (sums b n)) h.1)
    | inr s ↦
        let one : keys b m ≡ Some (plus s.key s.last) = λ i. key_sum (s.is_key i) (s.is_last i) in
        let two : sums b m ≡ Some (digit s.choice s.rank) = λ i. digit_sum (s.is_choice i) (s.is_rank i) in
        elim (seen b n lb ln) [
          | inl h ↦ (λ i. tested is_before (one i) (h.0 i)) ∙ sym (λ i. tested is_nearer (two i) (h.1 i))
          | inr t ↦
              let three : keys b n ≡ Some (plus t.key t.last) = λ i. key_sum (t.is_key i) (t.is_last i) in
              let four : sums b n ≡ Some (digit t.choice t.rank) = λ i. digit_sum (t.is_choice i) (t.is_rank i) in
              (λ i. tested is_before (one i) (three i))
              ∙ before_nearer s.key s.last t.key t.last s.choice s.rank t.choice t.rank (first_parse m n b b s t lm ln) s.one_cost s.last_cost t.one_cost t.last_cost
              (first_order m n b b s t lm ln) (first_apart m n b b s t lm ln less) (digits m b s.rank s.is_rank) (digits n b t.rank t.is_rank)
              ∙ sym (λ i. tested is_nearer (two i) (four i))
        ]
  ]

  pub fold-via : (b : ℕ) → b < 5 → row_times row next b ≡ via row next b (number_of (fold_pick fold ranks b))
  fold-via b lb =
      times_via (λ a. row) next 0 b
      ∙ ap (via row next b) (pick_same is_before is_nearer (keys b) (sums b) 5 (λ m lm. there_both b m lb lm) (λ m n lm less. tests_same b m n lb lm (omega (arith, lm, less)) less))

  -- ---- alike

  abbrev sum_via : ℕ → Option ℕ → Option Key
  sum_via b o = choice_key (found (sums b) o)

  costs_via : (b : ℕ) → b < 5 → (o : Option ℕ) → IsCount o → same (via row next b o) (sum_via b o)
  costs_via b lb None h = tt
  costs_via b lb (Some m) lm = elim (seen b m lb lm) [
    | inl h ↦ subst (λ p. same p (choice_key (sums b m))) (sym h.0) (subst (λ o. same None (choice_key o)) (sym h.1) tt)
    | inr t ↦
        let one : keys b m ≡ Some (plus t.key t.last) = λ i. key_sum (t.is_key i) (t.is_last i) in
        let two : sums b m ≡ Some (digit t.choice t.rank) = λ i. digit_sum (t.is_choice i) (t.is_rank i) in
        let cost : t.key.0 + t.last.0 ≡ t.choice.0 + t.rank.0 = λ i. t.one_cost i + t.last_cost i in
        subst (λ p. same p (choice_key (sums b m))) (sym one) (subst (λ o. same (Some (plus t.key t.last)) (choice_key o)) (sym two) cost)
  ]

  none_right : (p : Option Key) → lists_cmp p None ≡ Equal
  none_right None = refl
  none_right (Some x) = refl

  order_via : (b c : ℕ) → b < 5 → c < 5 → (o u : Option ℕ) → IsCount o → IsCount u → lists_cmp (via row next b o) (via row next c u) ≡ lists_cmp (sum_via b o) (sum_via c u)
  order_via b c lb lc None u h g = refl
  order_via b c lb lc (Some m) None lm g = none_right (keys b m) ∙ sym (none_right (sum_via b (Some m)))
  order_via b c lb lc (Some m) (Some n) lm ln = elim (seen b m lb lm) [
    | inl h ↦ ap (λ p. lists_cmp p (keys c n)) h.0 ∙ sym (ap (λ o. lists_cmp (choice_key o) (sum_via c (Some n))) h.1)
    | inr s ↦
        let one : keys b m ≡ Some (plus s.key s.last) = λ i. key_sum (s.is_key i) (s.is_last i) in
        let two : sums b m ≡ Some (digit s.choice s.rank) = λ i. digit_sum (s.is_choice i) (s.is_rank i) in
        elim (seen c n lc ln) [
          | inl h ↦ (λ i. lists_cmp (one i) (h.0 i)) ∙ sym (λ i. lists_cmp (choice_key (two i)) (choice_key (h.1 i)))
          | inr t ↦
              let three : keys c n ≡ Some (plus t.key t.last) = λ i. key_sum (t.is_key i) (t.is_last i) in
              let four : sums c n ≡ Some (digit t.choice t.rank) = λ i. digit_sum (t.is_choice i) (t.is_rank i) in
              (λ i. lists_cmp (one i) (three i))
              ∙ digits_order s.key s.last t.key t.last s.choice s.rank t.choice t.rank (first_parse m n b c s t lm ln) (first_order m n b c s t lm ln) (after s t)
              (digits m b s.rank s.is_rank) (digits n c t.rank t.is_rank)
              ∙ sym (λ i. lists_cmp (choice_key (two i)) (choice_key (four i)))
        ]
  ]
    where
      after : (s : There m b) (t : There n c) → list_cmp s.key.1 t.key.1 ≡ Equal → list_cmp s.last.1 t.last.1 ≡ ordering_then (nat_cmp s.rank.1 t.rank.1) Equal
      after s t e =
          let one : m ≡ n = apart m n lm ln s.key t.key s.is_key t.is_key (list_equal s.key.1 t.key.1 e) in
          let there : next m c ≡ Some t.last = ap (λ n. next n c) one ∙ t.is_last in
          let rank : ranks m c ≡ Some t.rank = ap (λ n. ranks n c) one ∙ t.is_rank in
          (λ i. lists_cmp (sym s.is_last i) (sym there i)) ∙ (rows m s.key lm s.is_key).order b c lb lc ∙ (λ i. lists_cmp (choice_key (s.is_rank i)) (choice_key (rank i)))

  pub fold-alike : AreAlike (row_times row next) (λ b. choice_key (value_of (fold_pick fold ranks b)))
  fold-alike =
      let count : (b : ℕ) → IsCount (number_of (fold_pick fold ranks b)) = λ b. pick_count is_nearer (sums b) in
      let value : (b : ℕ) → sum_via b (number_of (fold_pick fold ranks b)) ≡ choice_key (value_of (fold_pick fold ranks b)) = λ b. sym (ap choice_key (pick_found is_nearer (sums b) 5)) in
      record {
        costs = λ b lb. subst (λ p. same p (choice_key (value_of (fold_pick fold ranks b)))) (sym (fold-via b lb)) (subst (same (via row next b (number_of (fold_pick fold ranks b)))) (value b) (costs_via b lb (number_of (fold_pick fold ranks b)) (count b)));
        order = λ b c lb lc.
            (λ i. lists_cmp (fold-via b lb i) (fold-via c lc i))
            ∙ order_via b c lb lc (number_of (fold_pick fold ranks b)) (number_of (fold_pick fold ranks c)) (count b) (count c)
            ∙ (λ i. lists_cmp (value b i) (value c i));
      }
