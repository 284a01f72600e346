-- The entries of a row stand for it: an entry's place is its rank.
use Rattle.std.proofs.Common.{◌⊎◌, inl, inr, ◌≡◌, ◌≢◌, ℕ, zero, suc, ◌+◌, ◌<◌, ◌≤◌, ◌==◌, Bool, true, false, All, List, [], ◌∷◌, ◌++◌, length, refl, sym, ap, ◌∙◌, subst, arith}
use Rattle.std.specs.Prelude.{Option, Some, None, if◌then◌else◌, slice_get}
use Rattle.std.specs.Ordering.{nat_cmp, ordering_then, is_lt, is_gt}
use Rattle.std.specs.Cmp.{nat_cmp_is}
use Rattle.std.specs.Cmp.Lexicographic.{nat_list_cmp_total}
use Rattle.std.specs.declared.cmp.Ordering.{Ordering}
use Rattle.std.specs.declared.cmp.Ordering.TheVariants.{Less, Equal, Greater}
use Rattle.std.proofs.lemmas.Bool.{cases_lt}
use Rattle.std.proofs.lemmas.Bool.Decides.{nat_tests}
use Rattle.std.proofs.lemmas.Cmp.{tied_itself}
use Rattle.std.proofs.lemmas.Option.{get_or_from_slice_get, slice_get_within}
use Rattle.rhythm_base.specs.Bodies.{sizes}
use Rattle.rhythm_base.specs.Ranked.{Key, list_cmp}
use Rattle.tree_laws.specs.Forests.{Ground, IsGround}
use Rattle.path_laws.specs.Rows.{AreAlike, lists_cmp, same}
use Rattle.rhythm_base.proofs.TotalOrders.{flip}
use Rattle.row_laws.specs.BestRules.{Choice, choice_key}
use Rattle.row_laws.proofs.Bounds.{IsBounded}
use Rattle.row_laws.proofs.RowProducts.{row-cheap}
use Rattle.grammar_plan.specs.declared.plan.Plan.{Plan}
use Rattle.least_rows.specs.declared.entry.Entry.{Entry}
use Rattle.least_rows.specs.Entries.{IsRowEntry, IsRow}
use Rattle.least_rows.specs.Ways.{AreEntries, IsRankedRow, rank_in}
use Rattle.path_laws.proofs.Alike.{none_right}

pub all-at : {X : Type 0} (P : X → Type 0) (xs : List X) (i : ℕ) (x : X) → All P xs → slice_get xs i ≡ Some x → P x
all-at P xs i x h e = subst P (get_or_from_slice_get xs i x x e) (h i x (slice_get_within xs i x e))

-- ---- where an entry for a count stands

-- no entry is for the count
abbrev pub HasNone : List Entry → ℕ → Type 0
HasNone es b = (j : ℕ) (e : Entry) → slice_get es j ≡ Some e → e.to ≢ b

abbrev pub HasOne : List Entry → ℕ → ℕ → Type 0
HasOne es i b = (j : ℕ) × (e : Entry) × (slice_get es j ≡ Some e) × (e.to ≡ b) × (rank_in es i b ≡ Some (e.cost, i + j))

pub rank-cases : (es : List Entry) (i b : ℕ) → (HasNone es b × (rank_in es i b ≡ None)) ⊎ HasOne es i b
rank-cases [] i b = inl ((λ j e at. absurd (cc)), refl)
rank-cases (e ∷ es) i b = go (e.to == b) refl (rank-cases es (suc i) b)
  where
    none : (e.to == b) ≡ false → HasNone es b → HasNone (e ∷ es) b
    none t h zero f at = let is : e ≡ f = cc in subst (λ (f : Entry). f.to ≢ b) is (λ same. grind (arith, nat_tests))
    none t h (suc j) f at = h j f at

    go : (t : Bool) → (e.to == b) ≡ t → (HasNone es b × (rank_in es (suc i) b ≡ None)) ⊎ HasOne es (suc i) b
        → (HasNone (e ∷ es) b × (rank_in (e ∷ es) i b ≡ None)) ⊎ HasOne (e ∷ es) i b
    go true t h =
        let is : e.to ≡ b = grind (arith, nat_tests) in
        let first : i ≡ i + 0 = omega arith in
        inr (0, e, refl, is, ap (λ t. if t then Some (e.cost, i) else rank_in es (suc i) b) t ∙ ap (λ i. Some (e.cost, i)) first)
    go false t (inl h) = inl (none t h.0, ap (λ t. if t then Some (e.cost, i) else rank_in es (suc i) b) t ∙ h.1)
    go false t (inr h) =
        let next : suc i + h.0 ≡ i + suc h.0 = omega arith in
        inr (suc h.0, h.1, h.2, h.3, ap (λ t. if t then Some (e.cost, i) else rank_in es (suc i) b) t ∙ h.4 ∙ ap (λ i. Some (h.1.cost, i)) next)

-- ---- one entry more

abbrev or_else : Bool → Choice → Option Choice → Option Choice
or_else t c o = if t then Some c else o

pub rank-other : (es : List Entry) (e : Entry) (i b : ℕ) → e.to ≢ b → rank_in (es ++ e ∷ []) i b ≡ rank_in es i b
rank-other [] e i b other = go (e.to == b) refl
  where
    go : (t : Bool) → (e.to == b) ≡ t → or_else t (e.cost, i) None ≡ None
    go true h = absurd (other (grind (arith, nat_tests)))
    go false h = refl
rank-other (x ∷ es) e i b other = ap (λ o. or_else (x.to == b) (x.cost, i) o) (rank-other es e (suc i) b other)

pub rank-none : (es : List Entry) (i b : ℕ) → HasNone es b → rank_in es i b ≡ None
rank-none es i b none = elim (rank-cases es i b) [ inl h ↦ h.1 | inr h ↦ absurd (none h.0 h.1 h.2 h.3) ]

pub rank-last : (es : List Entry) (e : Entry) (i b : ℕ) → e.to ≡ b → HasNone es b → rank_in (es ++ e ∷ []) i b ≡ Some (e.cost, i + length es)
rank-last [] e i b is none = go (e.to == b) refl
  where
    first : i ≡ i + 0
    first = omega arith

    go : (t : Bool) → (e.to == b) ≡ t → or_else t (e.cost, i) None ≡ Some (e.cost, i + 0)
    go true h = ap (λ i. Some (e.cost, i)) first
    go false h = absurd (grind (arith, nat_tests))
rank-last (x ∷ es) e i b is none = go (x.to == b) refl (rank-last es e (suc i) b is (λ j f at. none (suc j) f at))
  where
    next : suc i + length es ≡ i + suc (length es)
    next = omega arith

    go : (t : Bool) → (x.to == b) ≡ t → rank_in (es ++ e ∷ []) (suc i) b ≡ Some (e.cost, suc i + length es)
        → or_else t (x.cost, i) (rank_in (es ++ e ∷ []) (suc i) b) ≡ Some (e.cost, i + suc (length es))
    go true h after = absurd (none 0 x refl (grind (arith, nat_tests)))
    go false h after = after ∙ ap (λ i. Some (e.cost, i)) next

-- ---- the entries of a row

order_of : (x y : List ℕ) (o : Ordering) → list_cmp y x ≡ Less → list_cmp x y ≡ o → o ≡ Greater
order_of x y o h e = go o (sym (ap is_gt e) ∙ flip nat_list_cmp_total y x ∙ ap is_lt h)
  where
    go : (o : Ordering) → is_gt o ≡ true → o ≡ Greater
    go Less t = absurd (cc)
    go Equal t = absurd (cc)
    go Greater t = refl

turned : (p q : Option Key) → lists_cmp q p ≡ Less → lists_cmp p q ≡ Greater
turned None None h = absurd (cc)
turned None (Some y) h = absurd (cc)
turned (Some x) None h = absurd (cc)
turned (Some x) (Some y) h = order_of x.1 y.1 (list_cmp x.1 y.1) h refl

tied : (p : Option Key) → lists_cmp p p ≡ Equal
tied None = refl
tied (Some x) = tied_itself nat_list_cmp_total x.1

module _ (d : Ground) (plan : Plan) (p : ℕ) (q : ℕ × ℕ) (a : ℕ) (es : List Entry) (row : IsRow d plan p q a es) where
  own : (i : ℕ) (e : Entry) → slice_get es i ≡ Some e → IsRowEntry d plan p q a row.keys e
  own i e at = all-at (IsRowEntry d plan p q a row.keys) es i e row.each at

  absent : (b : ℕ) → b < 5 → HasNone es b → (o : Option Key) → row.keys b ≡ o → o ≡ None
  absent b lb none None e = refl
  absent b lb none (Some k) e = let x = row.all b k lb e in absurd (none x.0 x.1 x.2 x.3)

  costs-of : (b : ℕ) → b < 5 → (HasNone es b × (rank_in es 0 b ≡ None)) ⊎ HasOne es 0 b → same (row.keys b) (choice_key (rank_in es 0 b))
  costs-of b lb (inl h) = subst (λ o. same o (choice_key (rank_in es 0 b))) (sym (absent b lb h.0 (row.keys b) refl)) (subst (λ o. same None (choice_key o)) (sym h.1) tt)
  costs-of b lb (inr h) =
      let e = own h.0 h.1 h.2 in
      let key : row.keys b ≡ Some e.1 = subst (λ b. row.keys b ≡ Some e.1) h.3 e.2 in
      subst (λ o. same o (choice_key (rank_in es 0 b))) (sym key) (subst (λ o. same (Some e.1) (choice_key o)) (sym h.4) (sym e.3))

  -- two entries
  two : (b c i j : ℕ) (e f : Entry) → slice_get es i ≡ Some e → slice_get es j ≡ Some f → e.to ≡ b → f.to ≡ c
      → lists_cmp (row.keys b) (row.keys c) ≡ ordering_then (nat_cmp (0 + i) (0 + j)) Equal
  two b c i j e f ei fj eb fc = elim (cases_lt i j) [
    | inl less ↦ sym here ∙ row.rise i j e f less ei fj ∙ ap (λ o. ordering_then o Equal) (nat_cmp_is (0 + i) (0 + j) Less (omega (arith, less)))
    | inr more ↦ elim (cases_lt j i) [
      | inl less ↦ turned (row.keys b) (row.keys c) (sym there ∙ row.rise j i f e less fj ei) ∙ ap (λ o. ordering_then o Equal) (nat_cmp_is (0 + i) (0 + j) Greater (omega (arith, less)))
      | inr least ↦
          let place : i ≡ j = omega (arith, more, least) in
          let entry : Some e ≡ Some f = sym ei ∙ ap (slice_get es) place ∙ fj in
          let is : e ≡ f = cc in
          let counts : b ≡ c = sym eb ∙ ap (λ (e : Entry). e.to) is ∙ fc in
          ap (λ b. lists_cmp (row.keys b) (row.keys c)) counts ∙ tied (row.keys c) ∙ ap (λ o. ordering_then o Equal) (nat_cmp_is (0 + i) (0 + j) Equal (omega (arith, place)))
    ]
  ]
    where
      here : lists_cmp (row.keys e.to) (row.keys f.to) ≡ lists_cmp (row.keys b) (row.keys c)
      here = λ k. lists_cmp (row.keys (eb k)) (row.keys (fc k))

      there : lists_cmp (row.keys f.to) (row.keys e.to) ≡ lists_cmp (row.keys c) (row.keys b)
      there = λ k. lists_cmp (row.keys (fc k)) (row.keys (eb k))

  order-of : (b c : ℕ) → b < 5 → c < 5 → (HasNone es b × (rank_in es 0 b ≡ None)) ⊎ HasOne es 0 b → (HasNone es c × (rank_in es 0 c ≡ None)) ⊎ HasOne es 0 c
      → lists_cmp (row.keys b) (row.keys c) ≡ lists_cmp (choice_key (rank_in es 0 b)) (choice_key (rank_in es 0 c))
  order-of b c lb lc (inl h) v = (λ i. lists_cmp (absent b lb h.0 (row.keys b) refl i) (row.keys c)) ∙ sym (λ i. lists_cmp (choice_key (h.1 i)) (choice_key (rank_in es 0 c)))
  order-of b c lb lc (inr h) (inl v) =
      (λ i. lists_cmp (row.keys b) (absent c lc v.0 (row.keys c) refl i)) ∙ none_right (row.keys b)
      ∙ sym ((λ i. lists_cmp (choice_key (rank_in es 0 b)) (choice_key (v.1 i))) ∙ none_right (choice_key (rank_in es 0 b)))
  order-of b c lb lc (inr h) (inr v) =
      two b c h.0 v.0 h.1 v.1 h.2 v.2 h.3 v.3 ∙ sym (λ i. lists_cmp (choice_key (h.4 i)) (choice_key (v.4 i)))

  ranks-alike : AreAlike row.keys (λ b. choice_key (rank_in es 0 b))
  ranks-alike = record {
    costs = λ b lb. costs-of b lb (rank-cases es 0 b);
    order = λ b c lb lc. order-of b c lb lc (rank-cases es 0 b) (rank-cases es 0 c);
  }

  digit : length es ≤ 5 → (b : ℕ) (c : Choice) → rank_in es 0 b ≡ Some c → (HasNone es b × (rank_in es 0 b ≡ None)) ⊎ HasOne es 0 b → c.1 < 8
  digit few b c e (inl h) = absurd (cc)
  digit few b c e (inr h) =
      let is : (h.1.cost, 0 + h.0) ≡ c = cc in
      let low = slice_get_within es h.0 h.1 h.2 in
      let small : 0 + h.0 < 8 = omega (arith, low, few) in
      subst (λ (c : Choice). c.1 < 8) is small

  pub row-ranked : length es ≤ 5 → IsRankedRow d p q a (rank_in es 0)
  row-ranked few = record {
    keys = row.keys;
    least = row.least;
    alike = ranks-alike;
    digits = λ b c e. digit few b c e (rank-cases es 0 b);
  }

  pub row-entries : IsGround d → IsBounded d → length es ≤ 5 → 1 ≤ q.0 → q.0 ≤ d.book.resolution → AreEntries es
  row-entries ground bounds few wide within = record {
    few = few;
    each = λ i e at.
        let x = own i e at in
        let alone : sizes (q ∷ []) ≤ d.book.resolution = omega (arith, within) in
        let cheap = row-cheap d ground bounds p a (q ∷ []) (wide, tt) alone row.keys row.least e.to x.1 x.0 x.2 in
        (x.0, subst (λ c. c ≤ 3000000000) (sym x.3) cheap);
    apart = λ i j e f less ei fj same.
        let rise = row.rise i j e f less ei fj in
        let equal = ap (λ b. lists_cmp (row.keys b) (row.keys f.to)) same ∙ tied (row.keys f.to) in
        absurd (cc);
  }
