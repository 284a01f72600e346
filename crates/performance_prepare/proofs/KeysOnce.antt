-- Where notes end where their keys are struck again, no strum would have a key twice.
use Rattle.std.proofs.Common.{◌≡◌, ◌⊎◌, ℕ, ◌<◌, ◌≤◌, eqb, Bool, true, false, not, cond, inl, inr, List, [], ◌∷◌, ◌++◌, refl, sym, ap, ◌∙◌, subst, arith}
use Rattle.std.specs.Prelude.{◌==◌, ◌&&◌, ◌||◌, AllPairs}
use Rattle.std.proofs.lemmas.Bool.Decides.{nat_tests}
use Rattle.rhythm_base.proofs.Booleans.{or_true}
use Rattle.rhythm_base.proofs.Members.{Among, Pairwise, all_among, among_both}
use Rattle.rhythm_base.proofs.OrderedLists.{pairs_head, pairs_tail}
use Rattle.rhythm_base.specs.declared.event.Tempo.{Tempo}
use Rattle.rhythm_base.specs.declared.note.Note.{Note}
use Rattle.performance_prepare.specs.Drums.{is_drum}
use Rattle.performance_prepare.specs.Parts.{parts, parts_from}
use Rattle.performance_prepare.specs.Strum.{joins, rolls_on, strikes}
use Rattle.performance_prepare.specs.StrumLaws as laws
use Rattle.performance_prepare.specs.StrumLaws.{goes_on}
use Rattle.performance_prepare.proofs.Strumming.{Before, IsRun, joined, later_end, notes_before, run_more, run_one, strikes_some}

abbrev pub Ends : Note → Note → Type 0
Ends m n = m.channel ≡ n.channel → m.key ≡ n.key → m.end ≤ n.onset

pub to_pairs : (ns : List Note) → AllPairs Ends ns → Pairwise Ends ns
to_pairs [] h = tt
to_pairs (n ∷ ns) h = ((λ m am. all_among (Ends n) ns (pairs_head Ends n ns h) m am), to_pairs ns (pairs_tail Ends n ns h))

module _ (tempos : List Tempo) (division within : ℕ) where
  abbrev pub G : List Note → Note → Note → Bool
  G = goes_on tempos division within

  abbrev J : List Note → Note → Note → Bool
  J = joins tempos division within

  -- no note of a run has the key of one that would go on with it
  no_key : (first y : Note) (part : List Note) (x : Note) → IsRun first y part → Before y x → ((m : Note) → Among m part → Ends m x)
      → x.channel ≡ y.channel
      → (x.onset ≡ y.onset) ⊎ ((m : Note) → Among m part → x.onset < m.end) → strikes part x.key ≡ true → ⊥
  no_key first y part x run before ends same sounds struck =
      let s = strikes_some part x.key struck in
      clash s.0 s.1 s.2 (ends s.0 s.1 ((run.each s.0 s.1).0 ∙ sym same) s.2) (run.sounding s.0 s.1) sounds before
    where
      clash : (m : Note) → Among m part → m.key ≡ x.key → m.end ≤ x.onset → (m.onset ≡ y.onset) ⊎ (y.onset < m.end)
          → (x.onset ≡ y.onset) ⊎ ((m : Note) → Among m part → x.onset < m.end) → Before y x → ⊥
      clash m am key end rings (inr later) h = let l = later m am in omega (arith, l, end)
      clash m am key end (inr past) (inl at) h = omega (arith, past, at, end)
      clash m am key end (inl old) (inl at) (inl lt) = omega (arith, lt, same)
      clash m am key end (inl old) (inl at) (inr h) = let r = (run.each m am).3 in omega (arith, r, h.2, key, old, at)

  pub test_same : (a b : ℕ) → eqb a b ≡ true → a ≡ b
  test_same a b e = grind (arith, nat_tests)

  pub same_test : (first y : Note) (part : List Note) (x : Note) → IsRun first y part → Before y x → ((m : Note) → Among m part → Ends m x)
      → G part y x ≡ J part y x
  same_test first y part x run before ends =
      by (x.channel == y.channel) refl (is_drum x) (strikes part x.key) refl ((x.onset == y.onset)
      || rolls_on tempos division within part y x) refl
    where
      by : (a : Bool) → (x.channel == y.channel) ≡ a → (d s : Bool) → strikes part x.key ≡ s → (r : Bool)
          → ((x.onset == y.onset) || rolls_on tempos division within part y x) ≡ r → (a && (not d && r)) ≡ (a && (not d && (not s && r)))
      by false ea d s es r er = refl
      by true ea true s es r er = refl
      by true ea false false es r er = refl
      by true ea false true es false er = refl
      by true ea false true es true er =
          absurd (no_key first y part x run before ends (test_same x.channel y.channel ea)
          (sounds (or_true (x.onset == y.onset) (rolls_on tempos division within part y x) er)) es)
        where
          sounds : ((x.onset == y.onset) ≡ true) ⊎ (rolls_on tempos division within part y x ≡ true)
              → (x.onset ≡ y.onset) ⊎ ((m : Note) → Among m part → x.onset < m.end)
          sounds (inl e) = inl (test_same x.onset y.onset e)
          sounds (inr e) = inr (later_end tempos division within part y x e)

  same_from : (xs : List Note) (first y : Note) (part : List Note) → IsRun first y part → Pairwise Before (y ∷ xs)
      → ((m : Note) → Among m part → (x : Note) → Among x xs → Ends m x) → Pairwise Ends xs
      → parts_from G part y xs ≡ parts_from J part y xs
  same_from [] first y part run order ends pairs = refl
  same_from (x ∷ xs) first y part run order ends pairs =
      ap (λ b. cond b (parts_from G (part ++ x ∷ []) x xs) (part ∷ parts_from G (x ∷ []) x xs))
      (same_test first y part x run (order.0 x (inl refl)) (λ m am. ends m am x (inl refl)))
      ∙ go (J part y x) refl (λ r. same_from xs first x (part ++ x ∷ []) r order.1
      (λ m am z az. more m (among_both part (x ∷ []) m am) z az) pairs.1)
      (same_from xs x x (x ∷ []) (run_one x) order.1 (λ m am z az. alone m am z az) pairs.1)
    where
      more : (m : Note) → Among m part ⊎ Among m (x ∷ []) → (z : Note) → Among z xs → Ends m z
      more m (inl am) z az = ends m am z (inr az)
      more m (inr (inl e)) z az = subst (λ k. Ends k z) (sym e) (pairs.0 z az)
      more m (inr (inr am)) z az = absurd am

      alone : (m : Note) → Among m (x ∷ []) → (z : Note) → Among z xs → Ends m z
      alone m (inl e) z az = subst (λ k. Ends k z) (sym e) (pairs.0 z az)
      alone m (inr am) z az = absurd am

      go : (b : Bool) → J part y x ≡ b → (IsRun first x (part ++ x ∷ [])
          → parts_from G (part ++ x ∷ []) x xs ≡ parts_from J (part ++ x ∷ []) x xs)
          → parts_from G (x ∷ []) x xs ≡ parts_from J (x ∷ []) x xs
          → cond b (parts_from G (part ++ x ∷ []) x xs) (part ∷ parts_from G (x ∷ []) x xs)
          ≡ cond b (parts_from J (part ++ x ∷ []) x xs) (part ∷ parts_from J (x ∷ []) x xs)
      go true e on next = on (run_more tempos division within first y part x run (order.0 x (inl refl))
          (joined tempos division within part y x e))
      go false e on next = ap (λ ps. part ∷ ps) next

pub keys_once : laws.StrumsHaveNoKeyTwice
keys_once within t formed ends = go t.notes (notes_before 1000000000 t.notes formed.notes formed.notes_in_order) (to_pairs t.notes ends)
  where
    go : (notes : List Note) → Pairwise Before notes → Pairwise Ends notes
        → parts (G t.tempos t.division within) notes ≡ parts (J t.tempos t.division within) notes
    go [] order pairs = refl
    go (n ∷ notes) order pairs =
        same_from t.tempos t.division within notes n n (n ∷ []) (run_one n) order (λ m am x ax. first m am x ax) pairs.1
      where
        first : (m : Note) → Among m (n ∷ []) → (x : Note) → Among x notes → Ends m x
        first m (inl e) x ax = subst (λ k. Ends k x) (sym e) (pairs.0 x ax)
        first m (inr am) x ax = absurd am
