-- The place of an entry in its row is its rank: so many entries of the row have a lower rule list.
use Rattle.std.proofs.Common.{◌≡◌, ℕ, zero, suc, ◌<◌, ◌≤◌, ◌+◌, ◌==◌, inl, inr, Bool, true, false, List, [], ◌∷◌, length, refl, sym, ap, ◌∙◌, arith}
use Rattle.std.specs.Prelude.{Option, Some, None, slice_get, if◌then◌else◌}
use Rattle.std.specs.Ordering.{is_lt, ordering_reverse}
use Rattle.std.specs.declared.cmp.Ordering.{Ordering}
use Rattle.std.specs.declared.cmp.Ordering.TheVariants.{Less, Equal, Greater}
use Rattle.std.proofs.lemmas.Bool.{cases_lt}
use Rattle.std.proofs.lemmas.Bool.Decides.{nat_tests}
use Rattle.std.proofs.lemmas.Cmp.{nat_list_cmp_total, tied_itself}
use Rattle.std.proofs.lemmas.Option.{slice_get_within}
use Rattle.rhythm_base.specs.Ranked.{Key, count_under, is_under, list_cmp}
use Rattle.tree_laws.specs.Forests.{Ground}
use Rattle.path_laws.specs.Rows.{lists_cmp}
use Rattle.grammar_plan.specs.declared.plan.Plan.{Plan}
use Rattle.least_rows.specs.Entries.{IsRowEntry, IsRow}
use Rattle.least_rows.specs.declared.entry.Entry.{Entry}
use Rattle.least_rows.proofs.PlanSeats.{All-at}

-- ---- how many of the first n entries are for a number carried out

hits : List Entry → ℕ → ℕ → ℕ
hits es zero b = 0
hits [] (suc n) b = 0
hits (e ∷ es) (suc n) b = (if e.to == b then 1 else 0) + hits es n b

hits-none : (es : List Entry) (n b : ℕ) → ((j : ℕ) (e : Entry) → j < n → slice_get es j ≡ Some e → e.to ≡ b → ⊥) → hits es n b ≡ 0
unfolding hits
hits-none es zero b h = refl
hits-none [] (suc n) b h = refl
hits-none (e ∷ es) (suc n) b h = go (e.to == b) refl (hits-none es n b (λ j f low at. h (suc j) f (omega arith) at))
  where
    go : (x : Bool) → (e.to == b) ≡ x → hits es n b ≡ 0 → (if x then 1 else 0) + hits es n b ≡ 0
    go true is ih = absurd (h zero e (omega arith) refl (grind (arith, nat_tests)))
    go false is ih = omega (arith, ih)

hits-one : (es : List Entry) (n b i : ℕ) (x : Entry) → i < n → slice_get es i ≡ Some x → x.to ≡ b → ((j : ℕ) (e : Entry) → j < n → slice_get es j ≡ Some e → e.to ≡ b → j ≡ i) → hits es n b ≡ 1
unfolding hits
hits-one es zero b i x low at to apart = absurd (omega arith)
hits-one [] (suc n) b i x low at to apart = absurd (cc)
hits-one (e ∷ es) (suc n) b zero x low at to apart =
    let rest : hits es n b ≡ 0 = hits-none es n b (λ j f low at own. let same = apart (suc j) f (omega arith) at own in omega (arith, same)) in
    let same : e ≡ x = cc in
    let own : e.to ≡ b = ap (λ (e : Entry). e.to) same ∙ to in
    let on : (e.to == b) ≡ true = grind (arith, nat_tests) in
    ap (λ (t : Bool). (if t then 1 else 0) + hits es n b) on ∙ omega (arith, rest)
hits-one (e ∷ es) (suc n) b (suc i) x low at to apart =
    go (e.to == b) refl (hits-one es n b i x (omega arith) at to (λ j f low at own. let same = apart (suc j) f (omega arith) at own in omega (arith, same)))
  where
    go : (t : Bool) → (e.to == b) ≡ t → hits es n b ≡ 1 → (if t then 1 else 0) + hits es n b ≡ 1
    go true is ih = let same = apart zero e (omega arith) refl (grind (arith, nat_tests)) in absurd (omega (arith, same))
    go false is ih = omega (arith, ih)

-- the five numbers together
abbrev five_of : (ℕ → ℕ) → ℕ
five_of f = f 4 + (f 3 + (f 2 + (f 1 + (f 0 + 0))))

one_of_five : (t : ℕ) (f : ℕ → ℕ) → t < 5 → five_of (λ b. (if t == b then 1 else 0) + f b) ≡ suc (five_of f)
one_of_five zero f low = omega arith
one_of_five (suc zero) f low = omega arith
one_of_five (suc (suc zero)) f low = omega arith
one_of_five (suc (suc (suc zero))) f low = omega arith
one_of_five (suc (suc (suc (suc zero)))) f low = omega arith
one_of_five (suc (suc (suc (suc (suc t))))) f low = absurd (omega arith)

all_hits : (es : List Entry) (n : ℕ) → n ≤ length es → ((j : ℕ) (e : Entry) → j < n → slice_get es j ≡ Some e → e.to < 5) → five_of (hits es n) ≡ n
unfolding hits
all_hits es zero long few = refl
all_hits [] (suc n) long few = absurd (omega arith)
all_hits (e ∷ es) (suc n) long few =
    one_of_five e.to (hits es n) (few zero e (omega arith) refl) ∙ ap suc (all_hits es n (omega arith) (λ j f low at. few (suc j) f (omega arith) at))

-- ---- the row

same_list : (x : List ℕ) → list_cmp x x ≡ Equal
same_list x = tied_itself nat_list_cmp_total x

module _ (d : Ground) (plan : Plan) (p : ℕ) (q : ℕ × ℕ) (a : ℕ) (entries : List Entry) (row : IsRow d plan p q a entries) where
  entry_at : (i : ℕ) (e : Entry) → slice_get entries i ≡ Some e → IsRowEntry d plan p q a row.keys e
  entry_at i e at = All-at (IsRowEntry d plan p q a row.keys) entries i e row.each at

  -- no two are for one number carried out
  later_differs : (i j : ℕ) (e f : Entry) → i < j → slice_get entries i ≡ Some e → slice_get entries j ≡ Some f → e.to ≡ f.to → ⊥
  later_differs i j e f low at_e at_f same =
      let own = entry_at j f at_f in
      let less : lists_cmp (row.keys e.to) (row.keys f.to) ≡ Less = row.rise i j e f low at_e at_f in
      let equal : lists_cmp (row.keys e.to) (row.keys f.to) ≡ list_cmp own.1.1 own.1.1 = ap (λ n. lists_cmp (row.keys n) (row.keys f.to)) same ∙ (λ i. lists_cmp (own.2 i) (own.2 i)) in
      let both : Less ≡ Equal = sym less ∙ equal ∙ same_list own.1.1 in
      absurd (cc)

  one_place : (i j : ℕ) (e f : Entry) → slice_get entries i ≡ Some e → slice_get entries j ≡ Some f → e.to ≡ f.to → i ≡ j
  one_place i j e f at_e at_f same = elim (cases_lt i j) [
    | inl low ↦ absurd (later_differs i j e f low at_e at_f same)
    | inr high ↦
        elim (cases_lt j i) [
          | inl low ↦ absurd (later_differs j i f e low at_f at_e (sym same))
          | inr le ↦ omega (arith, high, le)
        ]
  ]

  module _ (i : ℕ) (x : Entry) (at : slice_get entries i ≡ Some x) (k : Key) (key : row.keys x.to ≡ Some k) where
    -- a key is lower exactly where its entry stands before
    under : (b : ℕ) → b < 5 → (if is_under (row.keys b) k.1 then 1 else 0) ≡ hits entries i b
    under b low = go (row.keys b) refl
      where
        absent : row.keys b ≡ None → (j : ℕ) (e : Entry) → j < i → slice_get entries j ≡ Some e → e.to ≡ b → ⊥
        absent none j e low at_e to = let own = entry_at j e at_e in let both : Some own.1 ≡ None = sym own.2 ∙ ap row.keys to ∙ none in absurd (cc)

        there : (l : Key) → row.keys b ≡ Some l → (j : ℕ) (e : Entry) → slice_get entries j ≡ Some e → e.to ≡ b → (if is_under (Some l) k.1 then 1 else 0) ≡ hits entries i b
        there l is j e at_e to = elim (cases_lt j i) [
          | inl before ↦
              let less : lists_cmp (row.keys e.to) (row.keys x.to) ≡ Less = row.rise j i e x before at_e at in
              let own : list_cmp l.1 k.1 ≡ Less = sym (λ i. lists_cmp ((ap row.keys to ∙ is) i) (key i)) ∙ less in
              ap (λ (o : Ordering). if is_lt o then 1 else 0) own ∙ sym (hits-one entries i b j e before at_e to (λ m f below at_f to_f. one_place m j f e at_f at_e (to_f ∙ sym to)))
          | inr after ↦
              let none : hits entries i b ≡ 0 = hits-none entries i b (λ m f below at_f to_f. let same = one_place m j f e at_f at_e (to_f ∙ sym to) in absurd (omega (arith, same, below, after))) in
              elim (cases_lt i j) [
                | inl further ↦
                    let less : lists_cmp (row.keys x.to) (row.keys e.to) ≡ Less = row.rise i j x e further at at_e in
                    let own : list_cmp k.1 l.1 ≡ Less = sym (λ i. lists_cmp (key i) ((ap row.keys to ∙ is) i)) ∙ less in
                    let back : list_cmp l.1 k.1 ≡ Greater = nat_list_cmp_total.antisymm l.1 k.1 ∙ ap ordering_reverse own in
                    ap (λ (o : Ordering). if is_lt o then 1 else 0) back ∙ sym none
                | inr le ↦
                    let same : j ≡ i = omega (arith, after, le) in
                    let equal : Some e ≡ Some x = sym at_e ∙ ap (slice_get entries) same ∙ at in
                    let one : e ≡ x = cc in
                    let keys : Some l ≡ Some k = sym (ap row.keys to ∙ is) ∙ ap (λ (e : Entry). row.keys e.to) one ∙ key in
                    let own : l ≡ k = cc in
                    let tied : list_cmp l.1 k.1 ≡ Equal = ap (λ (l : Key). list_cmp l.1 k.1) own ∙ same_list k.1 in
                    ap (λ (o : Ordering). if is_lt o then 1 else 0) tied ∙ sym none
              ]
        ]

        go : (o : Option Key) → row.keys b ≡ o → (if is_under (row.keys b) k.1 then 1 else 0) ≡ hits entries i b
        go None is = ap (λ (o : Option Key). if is_under o k.1 then 1 else 0) is ∙ sym (hits-none entries i b (absent is))
        go (Some l) is =
            let found = row.all b l low is in
            ap (λ (o : Option Key). if is_under o k.1 then 1 else 0) is ∙ there l is found.0 found.1 found.2 found.3

    pub place-rank : count_under row.keys k.1 5 ≡ i
    place-rank =
        let low = slice_get_within entries i x at in
        (λ j. under 4 (omega arith) j + (under 3 (omega arith) j + (under 2 (omega arith) j + (under 1 (omega arith) j + (under 0 (omega arith) j + 0)))))
        ∙ all_hits entries i (omega (arith, low)) (λ j e below at_e. (entry_at j e at_e).0)
