-- The members of a finite set in an order, and the first so many of them.
use Rattle.std.proofs.Common.{◌≡◌, ℕ, zero, suc, ◌≤◌, ◌⊎◌, inl, inr, List, [], ◌∷◌, length, refl, sym, subst, arith}
use Rattle.std.specs.Prelude.{All, AllPairs, Contains}
use Rattle.std.proofs.lemmas.List.Elements.{All-nil}
use Rattle.std.proofs.lemmas.List.Kept.{AllPairs-cons}
use Rattle.rhythm_base.proofs.FirstLists.{contains_split}
use Rattle.rhythm_base.proofs.OrderedLists.{all_cons, all_head, all_tail, pairs_head, pairs_nil, pairs_tail}
use Rattle.answer_laws.proofs.FiniteSets.{IsFinite, member_first, member_later, no_member}

module _ {X : Type 0} (S : X → Type 0) (E : X → X → Type 0) (apart : (x y : X) → S x → S y → E x y ⊎ ((x ≡ y) ⊎ E y x))
    (through : (x y z : X) → E x y → E y z → E x z) where
  -- a list in order with one more at its place
  record IsPut (x : X) (ys : List X) : Type 0 where
    list : List X
    are : All S list
    in_order : AllPairs E list
    own : Contains list x
    others : (y : X) → Contains ys y → Contains list y
    after : (w : X) → E w x → All (E w) ys → All (E w) list

  all_after : (w x : X) (xs : List X) → E w x → All (E x) xs → All (E w) xs
  all_after w x xs first all k d less = through w x _ first (all k d less)

  put : (x : X) (ys : List X) → S x → All S ys → AllPairs E ys → IsPut x ys
  put x [] s all order = record {
    list = x ∷ [];
    are = all_cons S x [] s all;
    in_order = AllPairs-cons E x [] (All-nil (E x)) order;
    own = member_first x [];
    others = λ y c. absurd (no_member y c);
    after = λ w first rest. all_cons (E w) x [] first rest;
  }
  put x (y ∷ ys) s all order = go (apart x y s (all_head S y ys all)) (put x ys s (all_tail S y ys all) (pairs_tail E y ys order))
    where
      go : E x y ⊎ ((x ≡ y) ⊎ E y x) → IsPut x ys → IsPut x (y ∷ ys)
      go (inl before) rest = record {
        list = x ∷ (y ∷ ys);
        are = all_cons S x (y ∷ ys) s all;
        in_order = AllPairs-cons E x (y ∷ ys) (all_cons (E x) y ys before (all_after x y ys before (pairs_head E y ys order))) order;
        own = member_first x (y ∷ ys);
        others = λ z c. member_later z x (y ∷ ys) c;
        after = λ w first rest. all_cons (E w) x (y ∷ ys) first rest;
      }
      go (inr (inl same)) rest = record {
        list = y ∷ ys;
        are = all;
        in_order = order;
        own = subst (Contains (y ∷ ys)) (sym same) (member_first y ys);
        others = λ z c. c;
        after = λ w first rest. rest;
      }
      go (inr (inr later)) rest = record {
        list = y ∷ rest.list;
        are = all_cons S y rest.list (all_head S y ys all) rest.are;
        in_order = AllPairs-cons E y rest.list (rest.after y later (pairs_head E y ys order)) rest.in_order;
        own = member_later x y rest.list rest.own;
        others = λ z c. elim (contains_split z y ys c) [
          | inl same ↦ subst (Contains (y ∷ rest.list)) same (member_first y rest.list)
          | inr beyond ↦ member_later z y rest.list (rest.others z beyond)
        ];
        after = λ w first others. all_cons (E w) y rest.list (all_head (E w) y ys others) (rest.after w first (all_tail (E w) y ys others));
      }

  -- the members of a list in order
  pub record IsSorted (xs : List X) : Type 0 where
    pub list : List X
    pub are : All S list
    pub in_order : AllPairs E list
    pub each : (x : X) → Contains xs x → Contains list x

  pub sorted : (xs : List X) → All S xs → IsSorted xs
  sorted [] all = record { list = []; are = all; in_order = pairs_nil E; each = λ x c. c }
  sorted (x ∷ xs) all =
      let rest = sorted xs (all_tail S x xs all) in
      let whole = put x rest.list (all_head S x xs all) rest.are rest.in_order in
      record {
        list = whole.list;
        are = whole.are;
        in_order = whole.in_order;
        each = λ y c. elim (contains_split y x xs c) [
          | inl same ↦ subst (Contains whole.list) same whole.own
          | inr later ↦ whole.others y (rest.each y later)
        ];
      }

  -- ---- the first so many of them

  -- as many of a list in order as are asked for, or all where there are no more
  record AreFirstOf (count : ℕ) (xs : List X) : Type 0 where
    list : List X
    are : All S list
    in_order : AllPairs E list
    few : length list ≤ count
    first : (a : X) → Contains xs a → Contains list a ⊎ ((length list ≡ count) × All (λ b. E b a) list)
    after : (w : X) → All (E w) xs → All (E w) list

  firsts : (count : ℕ) (xs : List X) → All S xs → AllPairs E xs → AreFirstOf count xs
  firsts zero xs all order = record {
    list = [];
    are = All-nil S;
    in_order = pairs_nil E;
    few = omega arith;
    first = λ a c. inr (refl, All-nil (λ b. E b a));
    after = λ w rest. All-nil (E w);
  }
  firsts (suc count) [] all order = record {
    list = [];
    are = all;
    in_order = order;
    few = omega arith;
    first = λ a c. absurd (no_member a c);
    after = λ w rest. rest;
  }
  firsts (suc count) (x ∷ xs) all order =
      let rest = firsts count xs (all_tail S x xs all) (pairs_tail E x xs order) in
      record {
        list = x ∷ rest.list;
        are = all_cons S x rest.list (all_head S x xs all) rest.are;
        in_order = AllPairs-cons E x rest.list (rest.after x (pairs_head E x xs order)) rest.in_order;
        few = omega (arith, rest.few);
        first = λ a c. later a (contains_split a x xs c) rest.list (rest.first a);
        after = λ w others. all_cons (E w) x rest.list (all_head (E w) x xs others) (rest.after w (all_tail (E w) x xs others));
      }
    where
      later : (a : X) → (x ≡ a) ⊎ Contains xs a → (list : List X) → (Contains xs a → Contains list a ⊎ ((length list ≡ count) × All (λ b. E b a) list))
          → Contains (x ∷ list) a ⊎ ((length (x ∷ list) ≡ suc count) × All (λ b. E b a) (x ∷ list))
      later a (inl same) list more = inl (subst (Contains (x ∷ list)) same (member_first x list))
      later a (inr there) list more = elim (more there) [
        | inl own ↦ inl (member_later a x list own)
        | inr full ↦ inr (omega (arith, full.0), all_cons (λ b. E b a) x list (all_contained there) full.1)
      ]
        where
          all_contained : Contains xs a → E x a
          all_contained at = subst (E x) at.2 (pairs_head E x xs order at.0 a at.1)

  -- the first so many members of a set
  pub record AreFirstMembers (count : ℕ) : Type 0 where
    pub list : List X
    pub are : All S list
    pub in_order : AllPairs E list
    pub few : length list ≤ count
    pub first : (a : X) → S a → Contains list a ⊎ ((length list ≡ count) × All (λ b. E b a) list)

  pub first_members : (count : ℕ) → IsFinite S → AreFirstMembers count
  first_members count all =
      let whole = sorted all.list all.are in
      let some = firsts count whole.list whole.are whole.in_order in
      record { list = some.list; are = some.are; in_order = some.in_order; few = some.few; first = λ a s. some.first a (whole.each a (all.each a s)) }
