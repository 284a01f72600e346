-- Choices become entries, one after the other, by their order.
use Rattle.std.proofs.Common.{inl, inr, ◌⊎◌, ◌≡◌, ◌≢◌, ℕ, zero, suc, ◌+◌, ◌*◌, ◌/◌, ◌<◌, ◌≤◌, ◌^◌, ◌==◌, Bool, true, false, List, [], ◌∷◌, ◌++◌, length, refl, sym, ap, ◌∙◌, subst, arith}
use Rattle.std.specs.Prelude.{Option, Some, None, slice_get, slice_index_or, slice_set}
use Rattle.std.specs.Ordering.{nat_cmp, ordering_then}
use Rattle.std.specs.Cmp.{nat_cmp_is}
use Rattle.std.specs.declared.cmp.Ordering.TheVariants.{Less, Equal}
use Rattle.std.proofs.lemmas.Bool.{cases_lt}
use Rattle.std.proofs.lemmas.Bool.Decides.{nat_tests}
use Rattle.std.proofs.lemmas.Grind.{get_or-set_at}
use Rattle.std.proofs.lemmas.List.{get_or-set_other, length-append, length-set}
use Rattle.std.proofs.lemmas.Option.{slice_get-get_or, slice_get_within}
use Rattle.rhythm_base.specs.Ranked.{Key}
use Rattle.rhythm_base.specs.Trees.{suits}
use Rattle.tree_laws.specs.Forests.{Ground}
use Rattle.path_laws.specs.Rows.{lists_cmp, same}
use Rattle.rhythm_base.proofs.TotalOrders.{list_equal}
use Rattle.row_laws.specs.BestRules.{choice_key}
use Rattle.row_laws.specs.Rows.{AreLeastRow}
use Rattle.row_laws.proofs.BestRules.{best-whole}
use Rattle.row_laws.proofs.RowProducts.{row-apart}
use Rattle.grammar_plan.specs.declared.plan.Plan.{Plan}
use Rattle.least_rows.specs.Choices.{AreBestChoices, AreSettled, IsAlone, IsChoiceMade, IsEntryOf, IsFirst, IsSplit, choice_in, count_some, sum_of_choice}
use Rattle.least_rows.specs.Entries.{IsRowEntry, IsListMade, IsRow}
use Rattle.least_rows.specs.declared.choice.Choice.{Choice}
use Rattle.least_rows.specs.declared.entry.Entry.{Entry}
use Rattle.least_rows.specs.declared.state.RowSpan.{RowSpan}

-- ---- one thing more at the end of a list

snoc-get : {X : Type 0} (xs : List X) (x y : X) (i : ℕ) → slice_get (xs ++ x ∷ []) i ≡ Some y → (slice_get xs i ≡ Some y) ⊎ ((i ≡ length xs) × (y ≡ x))
snoc-get [] x y zero e = inr (refl, (cc))
snoc-get [] x y (suc i) e = absurd (cc)
snoc-get (z ∷ xs) x y zero e = inl e
snoc-get (z ∷ xs) x y (suc i) e = elim (snoc-get xs x y i e) [ inl h ↦ inl h | inr h ↦ inr (ap suc h.0, h.1) ]

pub append-get : {X : Type 0} (xs ys : List X) (y : X) (i : ℕ) → slice_get xs i ≡ Some y → slice_get (xs ++ ys) i ≡ Some y
append-get [] ys y i e = absurd (cc)
append-get (x ∷ xs) ys y zero e = e
append-get (x ∷ xs) ys y (suc i) e = append-get xs ys y i e

pub last-get : {X : Type 0} (xs : List X) (x : X) → slice_get (xs ++ x ∷ []) (length xs) ≡ Some x
last-get [] x = refl
last-get (y ∷ xs) x = last-get xs x

-- ---- a choice is taken out

module _ (left : List (Option Choice)) (to : ℕ) (low : to < length left) where
  out-here : choice_in (slice_set left to None) to ≡ None
  out-here = get_or-set_at left to to None None refl low

  out-other : (b : ℕ) → b ≢ to → choice_in (slice_set left to None) b ≡ choice_in left b
  out-other b h = get_or-set_other left to b None None h

  out-none : (b : ℕ) → choice_in left b ≡ None → choice_in (slice_set left to None) b ≡ None
  out-none b e = go (b == to) refl
    where
      go : (t : Bool) → (b == to) ≡ t → choice_in (slice_set left to None) b ≡ None
      go true h = let is : to ≡ b = grind (arith, nat_tests) in subst (λ b. choice_in (slice_set left to None) b ≡ None) is out-here
      go false h = let other : b ≢ to = λ s. grind (arith, nat_tests) in out-other b other ∙ e

  out-back : (b : ℕ) (x : Choice) → choice_in (slice_set left to None) b ≡ Some x → (b ≢ to) × (choice_in left b ≡ Some x)
  out-back b x e =
      let other : b ≢ to = λ s. let no : None ≡ Some x = sym out-here ∙ ap (choice_in (slice_set left to None)) (sym s) ∙ e in absurd (cc) in
      (other, sym (out-other b other) ∙ e)

pub count-out : (left : List (Option Choice)) (to : ℕ) (c : Choice) → choice_in left to ≡ Some c → suc (count_some (slice_set left to None)) ≡ count_some left
count-out [] to c e = absurd (cc)
count-out (None ∷ xs) zero c e = absurd (cc)
count-out (Some x ∷ xs) zero c e = refl
count-out (None ∷ xs) (suc to) c e = count-out xs to c e
count-out (Some x ∷ xs) (suc to) c e = ap suc (count-out xs to c e)

-- ---- the choices that are left, and the entries

most-some : (xs : List (Option Choice)) → count_some xs ≤ length xs
most-some [] = omega arith
most-some (None ∷ xs) = let ih = most-some xs in omega (arith, ih)
most-some (Some x ∷ xs) = let ih = most-some xs in omega (arith, ih)

pub split-start : (choices : List (Option Choice)) → length choices ≡ 5 → IsSplit choices choices []
split-start choices long = record {
  kept = λ b c low e. e;
  made = λ i e at. absurd (cc);
  all = λ b c low e f. absurd (cc);
  low = λ i b e c x lb at. absurd (cc);
  rise = λ i j e f c x less at. absurd (cc);
  few = let most = most-some choices in omega (arith, most, long);
  long = long;
}

module _ (choices left : List (Option Choice)) (es : List Entry) (h : IsSplit choices left es) (e : Entry) (first : IsFirst left 5 (Some e.to))
    (own : (c : Choice) → choice_in left e.to ≡ Some c → IsEntryOf c e.to e) where
  inside : e.to < length left
  inside = let long = h.long in omega (arith, first.0, long)

  here : choice_in choices e.to ≡ Some first.1
  here = h.kept e.to first.1 first.0 first.2

  same-choice : (x : Choice) → choice_in choices e.to ≡ Some x → x ≡ first.1
  same-choice x at = let both : Some x ≡ Some first.1 = sym at ∙ here in cc

  pub split-more : IsSplit choices (slice_set left e.to None) (es ++ e ∷ [])
  split-more = record {
    kept = λ b x low at. h.kept b x low (out-back left e.to inside b x at).1;
    made = λ i f at. elim (snoc-get es e f i at) [
      | inl old ↦ let m = h.made i f old in (m.0, m.1, m.2, m.3, out-none left e.to inside f.to m.4)
      | inr new ↦
          let P : Entry → Type 0 = λ f. (f.to < 5) × (c : Choice) × (choice_in choices f.to ≡ Some c) × IsEntryOf c f.to f × (choice_in (slice_set left e.to None) f.to ≡ None) in
          subst P (sym new.1) (first.0, first.1, here, own first.1 first.2, out-here left e.to inside)
    ];
    all = λ b x low at none. all b x low at none (b == e.to) refl;
    low = λ i b f c' x lb at ch l.
        let back = out-back left e.to inside b x l in
        elim (snoc-get es e f i at) [
          | inl old ↦ h.low i b f c' x lb old ch back.1
          | inr new ↦
              let is = same-choice c' (subst (λ (f : Entry). choice_in choices f.to ≡ Some c') new.1 ch) in
              let least = first.3 b x lb back.1 in
              subst (λ (c : Choice). c.order ≤ x.order) (sym is) least
        ];
    rise = λ i j f g x y less fi gj fx gy. elim (snoc-get es e g j gj) [
      | inl old ↦ h.rise i j f g x y less (before i f fi (let low = slice_get_within es j g old in omega (arith, low, less))) old fx gy
      | inr new ↦ risen i f g x y fi (before i f fi (omega (arith, less, new.0))) new.1 fx gy
    ];
    few =
        let long = length-append es (e ∷ []) in
        let fewer = count-out left e.to first.1 first.2 in
        let old = h.few in
        omega (arith, long, fewer, old);
    long = length-set left e.to None ∙ h.long;
  }
    where
      all : (b : ℕ) (x : Choice) → b < 5 → choice_in choices b ≡ Some x → choice_in (slice_set left e.to None) b ≡ None → (t : Bool) → (b == e.to) ≡ t
          → (i : ℕ) × (f : Entry) × (slice_get (es ++ e ∷ []) i ≡ Some f) × (f.to ≡ b)
      all b x low at none true t = let is : e.to ≡ b = grind (arith, nat_tests) in (length es, e, last-get es e, is)
      all b x low at none false t =
          let other : b ≢ e.to = λ s. grind (arith, nat_tests) in
          let old = h.all b x low at (sym (out-other left e.to inside b other) ∙ none) in
          (old.0, old.1, append-get es (e ∷ []) old.1 old.0 old.2, old.3)

      before : (i : ℕ) (f : Entry) → slice_get (es ++ e ∷ []) i ≡ Some f → i < length es → slice_get es i ≡ Some f
      before i f at low = elim (snoc-get es e f i at) [ inl old ↦ old | inr new ↦ absurd (omega (arith, low, new.0)) ]

      risen : (i : ℕ) (f g : Entry) (x y : Choice) → slice_get (es ++ e ∷ []) i ≡ Some f → slice_get es i ≡ Some f → g ≡ e → choice_in choices f.to ≡ Some x → choice_in choices g.to ≡ Some y
          → (x.order ≤ y.order) × (f.to ≢ g.to)
      risen i f g x y at old is fx gy =
          let same-y = same-choice y (subst (λ (g : Entry). choice_in choices g.to ≡ Some y) is gy) in
          let order = h.low i e.to f x first.1 first.0 old fx first.2 in
          let m = h.made i f old in (
            subst (λ (y : Choice). x.order ≤ y.order) (sym same-y) order,
            λ s. let no : None ≡ Some first.1 = sym m.4 ∙ ap (choice_in left) (s ∙ ap (λ (g : Entry). g.to) is) ∙ first.2 in absurd (cc),
          )

-- ---- one choice alone

pub settled-alone : (choices : List (Option Choice)) → length choices ≡ 5 → (e : Entry) → IsAlone choices e → (old new : List Entry) (span : RowSpan) → new ≡ old ++ e ∷ [] → span.first ≡ length old → span.count ≡ 1 → AreSettled choices old new span
settled-alone choices long e h old new span added first count =
    let zero-to : e.to ≡ 0 = h.2.0 in
    let there : choice_in choices e.to ≡ Some h.0 = ap (choice_in choices) zero-to ∙ h.1 in
    let low : e.to < 5 = omega (arith, zero-to) in
    let lowest : IsFirst choices 5 (Some e.to) = (low, h.0, there, λ b x lb at. order b x lb at) in
    record {
      es = e ∷ [];
      added = added;
      first = first;
      count = count;
      left = slice_set choices e.to None;
      split = split-more choices choices [] (split-start choices long) e lowest (λ c at. own c at);
      none = λ b lb. gone b lb (b == e.to) refl;
    }
  where
    only : (b : ℕ) (x : Choice) → b < 5 → choice_in choices b ≡ Some x → b ≡ 0
    only b x lb at = go (b == 0) refl
      where
        go : (t : Bool) → (b == 0) ≡ t → b ≡ 0
        go true t = grind (arith, nat_tests)
        go false t = let other : b ≢ 0 = λ w. grind (arith, nat_tests) in let no : None ≡ Some x = sym (h.3 b lb other) ∙ at in absurd (cc)

    order : (b : ℕ) (x : Choice) → b < 5 → choice_in choices b ≡ Some x → h.0.order ≤ x.order
    order b x lb at =
        let both : Some x ≡ Some h.0 = sym at ∙ ap (choice_in choices) (only b x lb at) ∙ h.1 in
        let is : x ≡ h.0 = cc in
        subst (λ (x : Choice). h.0.order ≤ x.order) (sym is) (omega arith)

    own : (c : Choice) → choice_in choices e.to ≡ Some c → IsEntryOf c e.to e
    own c at =
        let both : Some h.0 ≡ Some c = sym h.1 ∙ ap (choice_in choices) (sym h.2.0) ∙ at in
        let is : h.0 ≡ c = cc in
        let rest = subst (λ (c : Choice). (e.cost ≡ c.cost) × (e.rule ≡ c.order / 2 ^ 48) × (e.cut ≡ c.cut) × (e.way ≡ c.way)) is (h.2.1, h.2.2, h.2.3, h.2.4) in
        (refl, rest.0, rest.1, rest.2, rest.3)

    gone : (b : ℕ) → b < 5 → (t : Bool) → (b == e.to) ≡ t → choice_in (slice_set choices e.to None) b ≡ None
    gone b lb true t =
        let same : e.to ≡ b = grind (arith, nat_tests) in
        let to : e.to ≡ 0 = h.2.0 in
        get_or-set_at choices e.to b None None (sym same) (omega (arith, to, long))
    gone b lb false t =
        let other : b ≢ e.to = λ w. grind (arith, nat_tests) in
        let apart : b ≢ 0 = λ w. other (w ∙ sym h.2.0) in
        get_or-set_other choices e.to b None None other ∙ h.3 b lb apart

-- ---- the row

same-choice-of : (k : Key) (o : Option Choice) → same (Some k) (choice_key (sum_of_choice o)) → (c : Choice) × (o ≡ Some c)
same-choice-of k None h = absurd h
same-choice-of k (Some c) h = (c, refl)

pub same-key-of : (o : Option Key) (c : Choice) → same o (choice_key (sum_of_choice (Some c))) → (k : Key) × (o ≡ Some k) × (k.0 ≡ c.cost)
same-key-of None c h = absurd h
same-key-of (Some k) c h = (k, refl, h)

lists-equal : (o u : Option Key) (k l : Key) → o ≡ Some k → u ≡ Some l → lists_cmp o u ≡ Equal → k.1 ≡ l.1
lists-equal o u k l e f h = list_equal k.1 l.1 ((λ i. lists_cmp (sym e i) (sym f i)) ∙ h)

divided : (r low x : ℕ) → low < 2 ^ 48 → x ≡ r * 2 ^ 48 + low → x / 2 ^ 48 ≡ r
divided r low x h e = omega (arith, h, e)

module _ (d : Ground) (plan : Plan) (p : ℕ) (q : ℕ × ℕ) (a : ℕ) (rules : ℕ → Type 0) (choices left : List (Option Choice)) (es : List Entry) (best : AreBestChoices d plan p q a rules choices)
    (whole : (r : ℕ) → suits (slice_get d.book.rules r) q ≡ true → rules r) (h : IsSplit choices left es) (none : (b : ℕ) → b < 5 → choice_in left b ≡ None) where
  row-least : AreLeastRow d p (q ∷ []) a best.keys
  row-least = best-whole d p q a rules best.keys (λ b. sum_of_choice (choice_in choices b)) best.best_of whole

  key-of : (b : ℕ) (c : Choice) → b < 5 → choice_in choices b ≡ Some c → (k : Key) × (best.keys b ≡ Some k) × (k.0 ≡ c.cost)
  key-of b c low e = same-key-of (best.keys b) c (subst (λ o. same (best.keys b) (choice_key (sum_of_choice o))) e (best.best_of.alike.costs b low))

  entry-of : (i : ℕ) (e : Entry) → slice_get es i ≡ Some e → IsRowEntry d plan p q a best.keys e
  entry-of i e at =
      let m = h.made i e at in
      let c = m.1 in
      let k = key-of e.to c m.0 m.2 in
      let own = m.3 in
      let made : IsChoiceMade d plan p q a e.to (Some c) (Some k.0) = subst (IsChoiceMade d plan p q a e.to (Some c)) k.1 (subst (λ o. IsChoiceMade d plan p q a e.to o (best.keys e.to)) m.2 (best.made e.to m.0)) in
      let rule : e.rule ≡ made.0 = own.2 ∙ divided made.0 made.1 c.order made.2 made.3 in
      let first = made.4 in
      let second : IsListMade d plan p q a e.rule c.cut c.way e.to k.0.1 = subst (λ r. IsListMade d plan p q a r c.cut c.way e.to k.0.1) (sym rule) first in
      let third : IsListMade d plan p q a e.rule e.cut c.way e.to k.0.1 = subst (λ o. IsListMade d plan p q a e.rule o c.way e.to k.0.1) (sym own.3) second in
      let fourth : IsListMade d plan p q a e.rule e.cut e.way e.to k.0.1 = subst (λ w. IsListMade d plan p q a e.rule e.cut w e.to k.0.1) (sym own.4) third in
      (m.0, k.0, k.1, own.1 ∙ sym k.2, fourth)

  pub split-row : IsRow d plan p q a es
  split-row = record {
    keys = best.keys;
    least = row-least;
    each = λ i z low. entry-of i (slice_index_or es i z) (slice_get-get_or es i z low);
    all = λ b k low e.
        let c = same-choice-of k (choice_in choices b) (subst (λ o. same o (choice_key (sum_of_choice (choice_in choices b)))) e (best.best_of.alike.costs b low)) in
        h.all b c.0 low c.1 (none b low);
    rise = λ i j e f less ei fj. rise i j e f less ei fj;
  }
    where
      rise : (i j : ℕ) (e f : Entry) → i < j → slice_get es i ≡ Some e → slice_get es j ≡ Some f → lists_cmp (best.keys e.to) (best.keys f.to) ≡ Less
      rise i j e f less ei fj =
          let m = h.made i e ei in
          let n = h.made j f fj in
          let r = h.rise i j e f m.1 n.1 less ei fj m.2 n.2 in
          let order : lists_cmp (best.keys e.to) (best.keys f.to) ≡ ordering_then (nat_cmp m.1.order n.1.order) Equal
          = best.best_of.alike.order e.to f.to m.0 n.0 ∙ (λ i. lists_cmp (choice_key (sum_of_choice (m.2 i))) (choice_key (sum_of_choice (n.2 i)))) in
          elim (cases_lt m.1.order n.1.order) [
            | inl low ↦ order ∙ sym (ap (λ o. ordering_then o Equal) (nat_cmp_is m.1.order n.1.order Less low))
            | inr high ↦
                let equal : m.1.order ≡ n.1.order = let upto = r.0 in omega (arith, high, upto) in
                let tied : lists_cmp (best.keys e.to) (best.keys f.to) ≡ Equal = order ∙ sym (ap (λ o. ordering_then o Equal) (nat_cmp_is m.1.order n.1.order Equal equal)) in
                let k = key-of e.to m.1 m.0 m.2 in
                let l = key-of f.to n.1 n.0 n.2 in
                let one = row-apart d p a (q ∷ []) best.keys row-least e.to f.to m.0 n.0 k.0 l.0 k.1 l.1 (lists-equal (best.keys e.to) (best.keys f.to) k.0 l.0 k.1 l.1 tied) in
                absurd (r.1 one)
          ]
