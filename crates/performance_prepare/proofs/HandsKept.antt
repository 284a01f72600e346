-- The laws of two hands.
use Rattle.std.proofs.Common.{◌≡◌, ◌≢◌, ℕ, ◌<◌, ◌≤◌, Bool, true, false, not, cond, eqb, inl, inr, List, [], ◌∷◌, ◌++◌, map, refl, sym, ap, ◌∙◌, subst, arith}
use Rattle.std.specs.Prelude.{◌==◌, ◌||◌, nat_lt, Contains}
use Rattle.std.specs.List.Sorted.{IsPermutation}
use Rattle.std.proofs.lemmas.Bool.Decides.{nat_tests}
use Rattle.std.proofs.lemmas.List.Sorted.{Contains-permutation, IsPermutation-map, IsPermutation-refl, IsPermutation-sym, IsPermutation-trans}
use Rattle.rhythm_base.proofs.Members.{Among, among_contained, among_left, kept_by, place_among}
use Rattle.rhythm_base.specs.declared.note.Note.{Note}
use Rattle.hand_borders.proofs.FirstLeast.{are_least}
use Rattle.performance_load.specs.Take.{Take}
use Rattle.performance_load.specs.Taking.{IsTakeFormed}
use Rattle.performance_prepare.specs.Groups.{costs, groups}
use Rattle.performance_prepare.specs.HandLaws as laws
use Rattle.performance_prepare.specs.HandLaws.{AreHanded}
use Rattle.performance_prepare.specs.Hands.{middle_of, notes_of}
use Rattle.performance_prepare.specs.Laws.{unvoiced}
use Rattle.performance_prepare.specs.Split.{in_order, sounds}
use Rattle.performance_prepare.proofs.Handed.{Hands, IsHanded, Others, Own, both_permuted, handed_unvoiced, hands_each, hands_ok, in_take, partner}
use Rattle.performance_prepare.proofs.Parting.{order_permuted}

-- ---- least

pub least_hands : laws.HandsAreLeast
least_hands channel within t =
    are_least (costs t.tempos t.division (middle_of (notes_of channel t.notes))
    (groups t.tempos t.division within (notes_of channel t.notes)))

-- ---- apart

pub apart_hands : laws.HandsLieApart
apart_hands left border m n ml nl h k = by (nat_lt m.key border) refl (nat_lt n.key border) refl h k
  where
    by : (a : Bool) → nat_lt m.key border ≡ a → (b : Bool) → nat_lt n.key border ≡ b
        → (cond a (record m { channel = left }) m).channel ≡ left → (cond b (record n { channel = left }) n).channel ≢ left → m.key < n.key
    by false e b f h k = absurd (ml h)
    by true e true f h k = absurd (k refl)
    by true e false f h k = below (test_less m.key border e) (test_more n.key border f)
      where
        test_less : (x y : ℕ) → nat_lt x y ≡ true → x < y
        test_less x y e = grind (arith, nat_tests)

        test_more : (x y : ℕ) → nat_lt x y ≡ false → y ≤ x
        test_more x y e = grind (arith, nat_tests)

        below : m.key < border → border ≤ n.key → m.key < n.key
        below lt le = omega (arith, lt, le)

-- ---- kept

differ : (a b : ℕ) → a ≢ b → not (eqb a b) ≡ true
differ a b other = grind (arith, nat_tests)

-- a note sounds in its channel
sounding : (notes : List Note) (n : Note) → Among n notes → sounds notes n.channel ≡ true
sounding [] n am = absurd am
sounding (m ∷ notes) n (inl e) = ap (λ b. b || sounds notes n.channel) (here m.channel n.channel (sym (ap (λ (x : Note). x.channel) e)))
  where
    here : (a b : ℕ) → a ≡ b → eqb a b ≡ true
    here a b e = grind (arith, nat_tests)
sounding (m ∷ notes) n (inr am) = later (eqb m.channel n.channel) (sounding notes n am)
  where
    later : (b : Bool) → sounds notes n.channel ≡ true → (b || sounds notes n.channel) ≡ true
    later true h = refl
    later false h = h

module _ (channel within : ℕ) (t : Take) (formed : IsTakeFormed t) where
  stayed : AreHanded channel t.notes t.notes
  stayed = record {
    same = IsPermutation-refl (map unvoiced t.notes);
    stay = λ n other there. there;
    one = λ m n cm cn sm sn. (let h = sounding t.notes m (among_contained t.notes m cm) in absurd (cc));
  }

  parted : (left : ℕ) → AreHanded channel t.notes (in_order (Hands channel within left t formed))
  parted left =
      let hands : List Note = Hands channel within left t formed in
      let both : List Note = Others channel within left t formed ++ Own channel within left t formed in
      let moved = order_permuted hands in
      let each = hands_each channel within left t formed in
      record {
        same = IsPermutation-trans (map unvoiced t.notes) (map unvoiced both) (map unvoiced (in_order hands))
            (IsPermutation-map unvoiced t.notes both (both_permuted channel within left t formed))
            (subst (λ ns. IsPermutation ns (map unvoiced (in_order hands))) (handed_unvoiced channel left both hands each)
            (IsPermutation-map unvoiced hands (in_order hands) moved));
        stay = λ n other there.
            let among : Among n (Others channel within left t formed) =
            kept_by (λ m. not (m.channel == channel)) t.notes n (among_contained t.notes n there) (differ n.channel channel other) in
            Contains-permutation hands (in_order hands) n moved
            (place_among hands n (among_left (Others channel within left t formed) _ n among));
        one = λ m n cm cn sm sn. new m cm sm ∙ sym (new n cn sn);
      }
    where
      new : (m : Note) → Contains (in_order (Hands channel within left t formed)) m → sounds t.notes m.channel ≡ false → m.channel ≡ left
      new m there silent =
          let hands : List Note = Hands channel within left t formed in
          let here : Contains hands m =
          Contains-permutation (in_order hands) hands m (IsPermutation-sym hands (in_order hands) (order_permuted hands)) there in
          let p = partner channel left (Others channel within left t formed ++ Own channel within left t formed) hands
          (hands_each channel within left t formed) m (among_contained hands m here) in
          by p.0 (in_take channel within left t formed p.0 p.1) p.2
        where
          by : (n : Note) → Among n t.notes → IsHanded channel left n m → m.channel ≡ left
          by n am (inl e) = let h = subst (λ c. sounds t.notes c ≡ true) (sym (ap (λ (x : Note). x.channel) e)) (sounding t.notes n am) in
              absurd (cc)
          by n am (inr e) = ap (λ (x : Note). x.channel) e.1

pub kept_hands : laws.HandsKeepNotes
kept_hands channel within t u formed is = elim (hands_ok channel within t u is) [
  | inl same ↦ subst (λ v. AreHanded channel t.notes v.notes) same (stayed channel within t formed)
  | inr h ↦ subst (λ v. AreHanded channel t.notes v.notes) h.3 (parted channel within t formed h.0)
]
