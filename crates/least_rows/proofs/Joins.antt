-- A way is offered with the entries of a row, one after the other.
use Rattle.std.proofs.Common.{◌≡◌, ◌≢◌, ℕ, zero, suc, ◌+◌, ◌*◌, ◌<◌, ◌==◌, Bool, true, false, List, [], ◌∷◌, ◌++◌, length, take, refl, sym, ap, ◌∙◌, subst, arith}
use Rattle.std.specs.Prelude.{Option, Some, None, slice_get, slice_index_or, slice_set}
use Rattle.std.proofs.Math.Seq.{take-suc}
use Rattle.std.proofs.lemmas.Bool.Decides.{nat_tests}
use Rattle.std.proofs.lemmas.Grind.{get_or-set_at}
use Rattle.std.proofs.lemmas.List.{get_or-set_other}
use Rattle.std.proofs.lemmas.Option.{get_or_from_slice_get, slice_get_within}
use Rattle.least_rows.specs.declared.entry.Entry.{Entry}
use Rattle.least_rows.specs.declared.way.Way.{Way}
use Rattle.least_rows.specs.Ways.{AreEntries, rank_in, way_on}
use Rattle.least_rows.proofs.RowEntries.{HasNone, rank-last, rank-none, rank-other}
use Rattle.rhythm_base.proofs.ListParts.{take_length}

-- ---- the first entries

take-get : {X : Type 0} (n j : ℕ) (xs : List X) (x : X) → slice_get (take n xs) j ≡ Some x → (j < n) × (slice_get xs j ≡ Some x)
take-get zero j xs x e = absurd (cc)
take-get (suc n) j [] x e = absurd (cc)
take-get (suc n) zero (y ∷ xs) x e = (omega arith, e)
take-get (suc n) (suc j) (y ∷ xs) x e = let ih = take-get n j xs x e in (omega (arith, ih.0), ih.1)

pub take-next : {X : Type 0} (n : ℕ) (xs : List X) (x : X) → slice_get xs n ≡ Some x → take (n + 1) xs ≡ take n xs ++ x ∷ []
take-next n xs x at =
    let one : n + 1 ≡ suc n = omega arith in
    ap (λ n. take n xs) one ∙ take-suc xs n x (slice_get_within xs n x at) ∙ ap (λ x. take n xs ++ x ∷ []) (get_or_from_slice_get xs n x x at)

-- what is offered may be a way, or what is made of one
module _ (X : Type 0) (near : Option X → Option Way → Option X) (stays : (o : Option X) → near o None ≡ o) (first : ℕ → Option X) (next : List (Option X)) (way : Way) (count : ℕ) (es : List Entry) (n : ℕ) (e : Entry) (v : Option X) (long : length next ≡ 5) (at : slice_get es n ≡ Some e) (entries : AreEntries es)
    (is : v ≡ near (slice_index_or next e.to None) (Some (record { cost = way.cost + e.cost; order = way.order * 8 + n; way = way.way * 8 + count })))
    (before : (b : ℕ) → b < 5 → slice_index_or next b None ≡ near (first b) (way_on (Some way) count (rank_in (take n es) 0 b))) where
  new : HasNone (take n es) e.to
  new j f fj = let old = take-get n j es f fj in entries.apart j n f e old.0 old.1 at

  last-rank : rank_in (take (n + 1) es) 0 e.to ≡ Some (e.cost, n)
  last-rank =
      let within = slice_get_within es n e at in
      let place : 0 + length (take n es) ≡ n = let l = take_length n es (omega (arith, within)) in omega (arith, l) in
      ap (λ l. rank_in l 0 e.to) (take-next n es e at) ∙ rank-last (take n es) e 0 e.to refl new ∙ ap (λ i. Some (e.cost, i)) place

  same : slice_index_or (slice_set next e.to v) e.to None ≡ near (first e.to) (way_on (Some way) count (rank_in (take (n + 1) es) 0 e.to))
  same =
      let low : e.to < 5 = (entries.each n e at).0 in
      let here : e.to < length next = omega (arith, low, long) in
      get_or-set_at next e.to e.to v None refl here ∙ is
      ∙ ap (λ o. near o (Some (record { cost = way.cost + e.cost; order = way.order * 8 + n; way = way.way * 8 + count })))
      (before e.to low ∙ ap (λ r. near (first e.to) (way_on (Some way) count r)) (rank-none (take n es) 0 e.to new) ∙ stays (first e.to))
      ∙ ap (λ r. near (first e.to) (way_on (Some way) count r)) (sym last-rank)

  pub join-more : (b : ℕ) → b < 5 → slice_index_or (slice_set next e.to v) b None ≡ near (first b) (way_on (Some way) count (rank_in (take (n + 1) es) 0 b))
  join-more b low = go (e.to == b) refl
    where
      go : (t : Bool) → (e.to == b) ≡ t → slice_index_or (slice_set next e.to v) b None ≡ near (first b) (way_on (Some way) count (rank_in (take (n + 1) es) 0 b))
      go true h = let b_is : e.to ≡ b = grind (arith, nat_tests) in subst (λ b. slice_index_or (slice_set next e.to v) b None ≡ near (first b) (way_on (Some way) count (rank_in (take (n + 1) es) 0 b))) b_is same
      go false h =
          let other : e.to ≢ b = λ s. grind (arith, nat_tests) in
          let back : b ≢ e.to = λ s. other (sym s) in
          get_or-set_other next e.to b v None back ∙ before b low
          ∙ ap (λ r. near (first b) (way_on (Some way) count r)) (sym (ap (λ l. rank_in l 0 b) (take-next n es e at) ∙ rank-other (take n es) e 0 b other))
