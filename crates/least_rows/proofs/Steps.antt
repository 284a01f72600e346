-- The least ways with a part after them.
use Rattle.std.proofs.Common.{inl, inr, ◌≡◌, ℕ, zero, suc, ◌<◌, ◌==◌, Bool, true, false, [], ◌∷◌, refl, sym, ap, ◌∙◌, subst, arith}
use Rattle.std.specs.Prelude.{Option, Some, None, if◌then◌else◌, slice_get}
use Rattle.std.proofs.lemmas.Bool.Decides.{nat_tests}
use Rattle.tree_laws.specs.Forests.{Ground}
use Rattle.path_laws.specs.Rows.{AreAlike}
use Rattle.path_laws.proofs.LeastKeys.{last}
use Rattle.row_laws.specs.BestRules.{Choice, choice_key}
use Rattle.row_laws.specs.Rows.{AreLeastRow}
use Rattle.grammar_plan.specs.Plans.{pair_of}
use Rattle.grammar_plan.specs.declared.seat.Seat.{Seat}
use Rattle.least_rows.specs.Searches.{ground_in}
use Rattle.least_rows.specs.declared.search.Search.{Search}
use Rattle.least_rows.specs.Steps.{LeadsOver}
use Rattle.least_rows.specs.declared.lead.Lead.{Lead}
use Rattle.least_rows.specs.declared.lead.Lead.TheVariants.{Nowhere, One, Several}
use Rattle.least_rows.specs.declared.way.Way.{Way}
use Rattle.least_rows.specs.Ways.{IsLead, AreWaysBelow, AreWaysOn, IsRankedRow, nearer_way, nearest_below, nearest_way, one_way, way_on}

-- ---- one way alone

one-below : (w : Way) (o : Option Choice) (m b : ℕ) → m < 5 → nearest_below (one_way w m) (λ n b. o) b 5 ≡ way_on (Some w) m o
one-below w None zero b h = refl
one-below w None (suc zero) b h = refl
one-below w None (suc (suc zero)) b h = refl
one-below w None (suc (suc (suc zero))) b h = refl
one-below w None (suc (suc (suc (suc zero)))) b h = refl
one-below w None (suc (suc (suc (suc (suc m))))) b h = absurd (omega arith)
one-below w (Some c) zero b h = refl
one-below w (Some c) (suc zero) b h = refl
one-below w (Some c) (suc (suc zero)) b h = refl
one-below w (Some c) (suc (suc (suc zero))) b h = refl
one-below w (Some c) (suc (suc (suc (suc zero)))) b h = refl
one-below w (Some c) (suc (suc (suc (suc (suc m))))) b h = absurd (omega arith)

one-nearest : (w : Way) (ranks : ℕ → Option Choice) (m b : ℕ) → m < 5 → nearest_way (one_way w m) (λ n b. ranks b) b ≡ way_on (Some w) m (ranks b)
unfolding nearest_way
one-nearest w ranks m b h = one-below w (ranks b) m b h

the-one : (w v : Way) (m n : ℕ) → one_way w m n ≡ Some v → m ≡ n
the-one w v m n e = go (m == n) refl e
  where
    go : (t : Bool) → (m == n) ≡ t → (if t then Some w else None) ≡ Some v → m ≡ n
    go true h e = grind (arith, nat_tests)
    go false h e = absurd (cc)

pub one-on : (d : Ground) (p : ℕ) (q : ℕ × ℕ) (w : Way) (m : ℕ) → m < 5 → (ranks : ℕ → Option Choice) → IsRankedRow d p q m ranks → (next : ℕ → Option Way)
    → ((b : ℕ) → b < 5 → next b ≡ way_on (Some w) m (ranks b)) → AreWaysOn d p q (one_way w m) next
one-on d p q w m low ranks row next is = record {
  keys = λ n. row.keys;
  ranks = λ n. ranks;
  least = λ n v ln e. subst (λ n. AreLeastRow d p (q ∷ []) n row.keys) (the-one w v m n e) row.least;
  alike = λ n v ln e. row.alike;
  digits = λ n. row.digits;
  nearest = λ b lb. is b lb ∙ sym (one-nearest w ranks m b low);
}

-- ---- several ways

pub below-none : (d : Ground) (p : ℕ) (q : ℕ × ℕ) (ways next : ℕ → Option Way) → ((b : ℕ) → b < 5 → next b ≡ None) → AreWaysBelow d p q ways 0 next
below-none d p q ways next none = record {
  keys = λ m b. None;
  ranks = λ m b. None;
  least = λ m w lm e. absurd (omega arith);
  alike = λ m w lm e. absurd (omega arith);
  digits = λ m b c e. absurd (cc);
  nearest = none;
}

pub below-all : (d : Ground) (p : ℕ) (q : ℕ × ℕ) (ways next : ℕ → Option Way) → AreWaysBelow d p q ways 5 next → AreWaysOn d p q ways next
unfolding nearest_way
below-all d p q ways next h = record { keys = h.keys; ranks = h.ranks; least = h.least; alike = h.alike; digits = h.digits; nearest = h.nearest }

other : (m n : ℕ) → m < n → (m == n) ≡ false
other m n h = grind (arith, nat_tests)

here : (n : ℕ) → (n == n) ≡ true
here n = grind (arith, nat_tests)

abbrev changed : {X : Type 0} → (ℕ → X) → ℕ → X → ℕ → X
changed f n x m = if m == n then x else f m

changed-here : {X : Type 0} (f : ℕ → X) (n : ℕ) (x : X) → changed f n x n ≡ x
changed-here f n x = ap (λ t. if t then x else f n) (here n)

changed-below : {X : Type 0} (f : ℕ → X) (n : ℕ) (x : X) (m : ℕ) → m < n → changed f n x m ≡ f m
changed-below f n x m h = ap (λ t. if t then x else f m) (other m n h)

nearest-same : (ways : ℕ → Option Way) (r s : ℕ → ℕ → Option Choice) (b n : ℕ) → ((m : ℕ) → m < n → r m ≡ s m) → nearest_below ways r b n ≡ nearest_below ways s b n
nearest-same ways r s b zero h = refl
nearest-same ways r s b (suc n) h =
    let before = nearest-same ways r s b n (λ m lm. h m (omega (arith, lm))) in
    let own = h n (omega arith) in
    λ i. nearer_way (before i) (way_on (ways n) n (own i b))

module _ (d : Ground) (p : ℕ) (q : ℕ × ℕ) (ways : ℕ → Option Way) (n : ℕ) (old new : ℕ → Option Way) (below : AreWaysBelow d p q ways n old) where
  -- no way carries out this count
  pub below-skip : ways n ≡ None → ((b : ℕ) → b < 5 → new b ≡ old b) → AreWaysBelow d p q ways (suc n) new
  below-skip none is = record {
    keys = below.keys;
    ranks = below.ranks;
    least = λ m w lm e. below.least m w (low m w lm e) e;
    alike = λ m w lm e. below.alike m w (low m w lm e) e;
    digits = below.digits;
    nearest = λ b lb. is b lb ∙ below.nearest b lb ∙ sym (ap (λ o. nearer_way (nearest_below ways below.ranks b n) (way_on o n (below.ranks n b))) none);
  }
    where
      low : (m : ℕ) (w : Way) → m < suc n → ways m ≡ Some w → m < n
      low m w lm e = elim (last m n lm) [
        | inl less ↦ less
        | inr same ↦ let no : None ≡ Some w = sym none ∙ ap ways (sym same) ∙ e in absurd (cc)
      ]

  -- the row for this count stands after its way
  pub below-more : (ranks : ℕ → Option Choice) → IsRankedRow d p q n ranks → ((b : ℕ) → b < 5 → new b ≡ nearer_way (old b) (way_on (ways n) n (ranks b))) → AreWaysBelow d p q ways (suc n) new
  below-more ranks row is = record {
    keys = changed below.keys n row.keys;
    ranks = changed below.ranks n ranks;
    least = λ m w lm e. elim (last m n lm) [
      | inl less ↦ subst (AreLeastRow d p (q ∷ []) m) (sym (changed-below below.keys n row.keys m less)) (below.least m w less e)
      | inr same ↦ subst (λ m. AreLeastRow d p (q ∷ []) m (changed below.keys n row.keys m)) (sym same) (subst (AreLeastRow d p (q ∷ []) n) (sym (changed-here below.keys n row.keys)) row.least)
    ];
    alike = λ m w lm e. elim (last m n lm) [
      | inl less ↦
          subst (λ k. AreAlike k (λ b. choice_key (changed below.ranks n ranks m b))) (sym (changed-below below.keys n row.keys m less))
          (subst (λ r. AreAlike (below.keys m) (λ b. choice_key (r b))) (sym (changed-below below.ranks n ranks m less)) (below.alike m w less e))
      | inr same ↦
          subst (λ m. AreAlike (changed below.keys n row.keys m) (λ b. choice_key (changed below.ranks n ranks m b))) (sym same)
          (subst (λ k. AreAlike k (λ b. choice_key (changed below.ranks n ranks n b))) (sym (changed-here below.keys n row.keys))
          (subst (λ r. AreAlike row.keys (λ b. choice_key (r b))) (sym (changed-here below.ranks n ranks)) row.alike))
    ];
    digits = λ m b c e. digit m b c (m == n) e;
    nearest = λ b lb.
        let before = nearest-same ways below.ranks (changed below.ranks n ranks) b n (λ m lm. sym (changed-below below.ranks n ranks m lm)) in
        let own : ranks ≡ changed below.ranks n ranks n = sym (changed-here below.ranks n ranks) in
        is b lb ∙ ap (λ o. nearer_way o (way_on (ways n) n (ranks b))) (below.nearest b lb) ∙ (λ i. nearer_way (before i) (way_on (ways n) n (own i b)));
  }
    where
      digit : (m b : ℕ) (c : Choice) (t : Bool) → (if t then ranks else below.ranks m) b ≡ Some c → c.1 < 8
      digit m b c true e = row.digits b c e
      digit m b c false e = below.digits m b c e

-- ---- where one way leads

pub lead-over : (bar : Search) (seat place : ℕ) (way : Way) (count : ℕ) → count < 5 → (ranks : ℕ → Option Choice)
    → ((s : Seat) → slice_get bar.plan.now.seats.items seat ≡ Some s → IsRankedRow (ground_in bar) place (pair_of s) count ranks) → (lead : Lead) → IsLead ranks way count lead → LeadsOver bar seat place way count lead
lead-over bar seat place way count low ranks row Nowhere h = λ s at. one-on (ground_in bar) place (pair_of s) way count low ranks (row s at) (λ b. None) h
lead-over bar seat place way count low ranks row (One next to) h = (h.0, λ s at. one-on (ground_in bar) place (pair_of s) way count low ranks (row s at) (one_way next to) h.1)
lead-over bar seat place way count low ranks row Several h = tt
