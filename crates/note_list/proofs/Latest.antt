-- Of notes in the order of their events the last of each channel, onset and key is kept: it has the greatest end.
use Rattle.std.proofs.Common.{◌≡◌, ◌≤◌, Bool, true, false, ◌||◌, List, [], ◌∷◌, refl, sym, ap, ◌∙◌, subst, inl, inr, arith}
use Rattle.std.specs.Prelude.{if◌then◌else◌}
use Rattle.std.specs.List.{IsDistinct, list_any}
use Rattle.std.proofs.lemmas.Bool.Decides.{nat_tests}
use Rattle.std.proofs.lemmas.Map.Keys.{IsDistinct-from_apart}
use Rattle.rhythm_base.specs.declared.note.Note.{Note}
use Rattle.rhythm_base.proofs.Members.{Among, Pairwise, pairs_from}
use Rattle.rhythm_base.proofs.NotePlaces.{ArePlacedAlike, same_note}
use Rattle.note_list.specs.Kept.{same_place}

-- ---- notes of one channel, onset and key

pub alike : (m n : Note) → same_place m n ≡ true → ArePlacedAlike m n
alike m n h = record { channel = grind (arith, nat_tests); onset = grind (arith, nat_tests); key = grind (arith, nat_tests) }

pub apart : (m n : Note) → same_place m n ≡ false → ArePlacedAlike m n → ⊥
apart m n h same = grind (arith, nat_tests)

turned : (m n : Note) → ArePlacedAlike m n → ArePlacedAlike n m
turned m n h = record { channel = sym h.channel; onset = sym h.onset; key = sym h.key }

joined : (l m n : Note) → ArePlacedAlike l m → ArePlacedAlike m n → ArePlacedAlike l n
joined l m n h k = record { channel = h.channel ∙ k.channel; onset = h.onset ∙ k.onset; key = h.key ∙ k.key }

at_note : (m n : Note) → m ≡ n → ArePlacedAlike m n
at_note m n e = record { channel = ap (λ (x : Note). x.channel) e; onset = ap (λ (x : Note). x.onset) e; key = ap (λ (x : Note). x.key) e }

same_end : (m n : Note) → m ≡ n → m.end ≤ n.end
same_end m n e = let f : m.end ≡ n.end = ap (λ (x : Note). x.end) e in omega (arith, f)

pub either_way : (m n : Note) → same_place m n ≡ same_place n m
either_way m n = go (same_place m n) (same_place n m) refl refl
  where
    go : (a b : Bool) → same_place m n ≡ a → same_place n m ≡ b → a ≡ b
    go true true h k = refl
    go false false h k = refl
    go true false h k = absurd (apart n m k (turned m n (alike m n h)))
    go false true h k = absurd (apart m n h (turned n m (alike n m k)))

-- ---- whether there is a note of the place of another

pub any_alike : (x : Note) (xs : List Note) → list_any (same_place x) xs ≡ true → (y : Note) × Among y xs × ArePlacedAlike x y
any_alike x [] h = absurd (cc)
any_alike x (z ∷ xs) h = go (same_place x z) refl h (λ k. any_alike x xs k)
  where
    go : (b : Bool) → same_place x z ≡ b → (b || list_any (same_place x) xs) ≡ true → (list_any (same_place x) xs ≡ true → (y : Note) × Among y xs × ArePlacedAlike x y) → (y : Note) × Among y (z ∷ xs) × ArePlacedAlike x y
    go true is any rest = (z, inl refl, alike x z is)
    go false is any rest = let r = rest any in (r.0, inr r.1, r.2)

pub none_alike : (x : Note) (xs : List Note) → list_any (same_place x) xs ≡ false → (y : Note) → Among y xs → ArePlacedAlike x y → ⊥
none_alike x [] h y a same = absurd a
none_alike x (z ∷ xs) h y a same = go (same_place x z) refl h a (λ k b. none_alike x xs k y b same)
  where
    go : (b : Bool) → same_place x z ≡ b → (b || list_any (same_place x) xs) ≡ false → Among y (z ∷ xs) → (list_any (same_place x) xs ≡ false → Among y xs → ⊥) → ⊥
    go true is none there rest = absurd (cc)
    go false is none (inl e) rest = apart x z is (joined x y z same (at_note y z e))
    go false is none (inr b) rest = rest none b

-- ---- the last of each place

abbrev pub latest : List Note → List Note
latest [] = []
latest (x ∷ xs) = if list_any (same_place x) xs then latest xs else x ∷ latest xs

pub from_latest : (xs : List Note) (n : Note) → Among n (latest xs) → Among n xs
from_latest [] n a = absurd a
from_latest (x ∷ xs) n a = go (list_any (same_place x) xs) a (λ b. from_latest xs n b)
  where
    go : (b : Bool) → Among n (if b then latest xs else x ∷ latest xs) → (Among n (latest xs) → Among n xs) → Among n (x ∷ xs)
    go true c rest = inr (rest c)
    go false (inl e) rest = inl e
    go false (inr c) rest = inr (rest c)

differ : (xs : List Note) → Pairwise (λ m n. same_place m n ≡ false) (latest xs)
differ [] = tt
differ (x ∷ xs) = go (list_any (same_place x) xs) refl (differ xs)
  where
    one : list_any (same_place x) xs ≡ false → (y : Note) → Among y (latest xs) → (b : Bool) → same_place x y ≡ b → b ≡ false
    one none y a true is = absurd (none_alike x xs none y (from_latest xs y a) (alike x y is))
    one none y a false is = refl

    go : (b : Bool) → list_any (same_place x) xs ≡ b → Pairwise (λ m n. same_place m n ≡ false) (latest xs) → Pairwise (λ m n. same_place m n ≡ false) (if b then latest xs else x ∷ latest xs)
    go true is rest = rest
    go false is rest = ((λ y a. one is y a (same_place x y) refl), rest)

pub latest_distinct : (xs : List Note) → IsDistinct same_place (latest xs)
latest_distinct xs = IsDistinct-from_apart same_place (latest xs) (pairs_from (λ m n. same_place m n ≡ false) (latest xs) (differ xs))

-- ---- it has the greatest end of its place

-- of the notes of one channel, key and onset the one with the greatest end
abbrev pub IsBest : List Note → Note → Type 0
IsBest xs n = Among n xs × ((m : Note) → Among m xs → ArePlacedAlike m n → m.end ≤ n.end)

-- a later note of its place ends no earlier
abbrev pub Rises : Note → Note → Type 0
Rises m n = ArePlacedAlike m n → m.end ≤ n.end

pub latest_best : (xs : List Note) → Pairwise Rises xs → (n : Note) → Among n (latest xs) → IsBest xs n
latest_best [] r n a = absurd a
latest_best (x ∷ xs) r n a = go (list_any (same_place x) xs) refl a (λ b. latest_best xs r.1 n b)
  where
    later : IsBest xs n → IsBest (x ∷ xs) n
    later best = (inr best.0, at)
      where
        at : (m : Note) → Among m (x ∷ xs) → ArePlacedAlike m n → m.end ≤ n.end
        at m (inl e) s = subst (λ (z : Note). ArePlacedAlike z n → z.end ≤ n.end) (sym e) (r.0 n best.0) s
        at m (inr b) s = best.1 m b s

    first : list_any (same_place x) xs ≡ false → n ≡ x → IsBest (x ∷ xs) n
    first none e = (inl e, at)
      where
        at : (m : Note) → Among m (x ∷ xs) → ArePlacedAlike m n → m.end ≤ n.end
        at m (inl f) s = same_end m n (f ∙ sym e)
        at m (inr b) s = absurd (none_alike x xs none m b (turned m x (joined m n x s (at_note n x e))))

    go : (b : Bool) → list_any (same_place x) xs ≡ b → Among n (if b then latest xs else x ∷ latest xs) → (Among n (latest xs) → IsBest xs n) → IsBest (x ∷ xs) n
    go true is c rest = later (rest c)
    go false is (inl e) rest = first is e
    go false is (inr c) rest = later (rest c)

pub best_latest : (xs : List Note) → Pairwise Rises xs → (n : Note) → IsBest xs n → Among n (latest xs)
best_latest [] r n best = absurd best.0
best_latest (x ∷ xs) r n best = go (list_any (same_place x) xs) refl best.0 (λ b. best_latest xs r.1 n (b, λ m c s. best.1 m (inr c) s))
  where
    -- a later note of its place is the same
    again : list_any (same_place x) xs ≡ true → n ≡ x → Among n xs
    again any e =
        let y = any_alike x xs any in
        let up = r.0 y.0 y.1 y.2 in
        let s = joined n x y.0 (at_note n x e) y.2 in
        let down = best.1 y.0 (inr y.1) (turned n y.0 s) in
        subst (λ z. Among z xs) (sym (same_note n y.0 s (omega (arith, up, down, same_end n x e, same_end x n (sym e))))) y.1

    go : (b : Bool) → list_any (same_place x) xs ≡ b → Among n (x ∷ xs) → (Among n xs → Among n (latest xs)) → Among n (if b then latest xs else x ∷ latest xs)
    go true is (inl e) rest = rest (again is e)
    go true is (inr c) rest = rest c
    go false is (inl e) rest = inl e
    go false is (inr c) rest = inr (rest c)
