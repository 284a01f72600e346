-- Costs of trees side by side, from left to right; and rows of five.
use Rattle.std.proofs.Common.{◌≡◌, ℕ, zero, suc, ◌+◌, ◌<◌, ◌≤◌, List, [], ◌∷◌, length, get_or, drop, refl, sym, ap, ◌∙◌, arith}
use Rattle.std.specs.Prelude.{Option, Some, None, All}
use Rattle.std.proofs.lemmas.Option.{slice_get_within}
use Rattle.grammar_plan.specs.Plans.{HaveSeats}
use Rattle.grammar_plan.specs.QuietRows.{added, entry, others_cost}
use Rattle.grammar_plan.specs.declared.plan.Plan.{Plan}
use Rattle.grammar_plan.specs.declared.quiet_tree.QuietTree.{QuietTree}

-- with a cost before it
abbrev pub summed : ℕ → Option ℕ → Option ℕ
summed total None = None
summed total (Some cost) = Some (total + cost)

pub summed-none : (o : Option ℕ) → summed 0 o ≡ o
summed-none None = refl
summed-none (Some cost) = ap Some (omega arith)

drop-next : {X : Type 0} (xs : List X) (i : ℕ) (d : X) → i < length xs → drop i xs ≡ get_or xs i d ∷ drop (suc i) xs
drop-next [] i d h = absurd (omega (arith, h))
drop-next (x ∷ xs) zero d h = refl
drop-next (x ∷ xs) (suc i) d h = drop-next xs i d (omega (arith, h))

summed-added : (total : ℕ) (t : QuietTree) (o : Option ℕ) → summed total (added (Some t) o) ≡ summed (total + t.cost) o
summed-added total t None = refl
summed-added total t (Some cost) = ap Some (omega arith)

module _ (rows : List (List (Option QuietTree))) (parts : List ℕ) (total i : ℕ) (low : i < length parts) where
  -- one part more
  pub sum-next : (t : QuietTree) → entry rows (get_or parts i 0) 0 ≡ Some t → summed total (others_cost rows (drop i parts)) ≡ others_cost rows parts
      → summed (total + t.cost) (others_cost rows (drop (i + 1) parts)) ≡ others_cost rows parts
  sum-next t is h =
      let e : i + 1 ≡ suc i = omega arith in
      ap (λ n. summed (total + t.cost) (others_cost rows (drop n parts))) e
      ∙ sym (summed-added total t (others_cost rows (drop (suc i) parts)))
      ∙ ap (λ o. summed total (added o (others_cost rows (drop (suc i) parts)))) (sym is)
      ∙ ap (λ l. summed total (others_cost rows l)) (sym (drop-next parts i 0 low))
      ∙ h

  -- a part has no tree
  pub sum-stopped : entry rows (get_or parts i 0) 0 ≡ None → summed total (others_cost rows (drop i parts)) ≡ others_cost rows parts → None ≡ others_cost rows parts
  sum-stopped is h =
      ap (λ o. summed total (added o (others_cost rows (drop (suc i) parts)))) (sym is)
      ∙ ap (λ l. summed total (others_cost rows l)) (sym (drop-next parts i 0 low))
      ∙ h

pub sum-all : (rows : List (List (Option QuietTree))) (parts : List ℕ) (total i : ℕ) → length parts ≤ i → summed total (others_cost rows (drop i parts)) ≡ others_cost rows parts → Some total ≡ others_cost rows parts
sum-all rows parts total i past h = ap Some (omega arith) ∙ ap (λ l. summed total (others_cost rows l)) (sym (drop-past parts i past)) ∙ h
  where
    drop-past : {X : Type 0} (xs : List X) (i : ℕ) → length xs ≤ i → drop i xs ≡ []
    drop-past [] zero h = refl
    drop-past [] (suc i) h = refl
    drop-past (x ∷ xs) zero h = absurd (omega (arith, h))
    drop-past (x ∷ xs) (suc i) h = drop-past xs i (omega (arith, h))

-- the parts of a cut have seats
pub seats-known : (plan : Plan) (ns : List ℕ) (qs : List (ℕ × ℕ)) (count : ℕ) → count ≡ length plan.seats.items → HaveSeats plan ns qs → All (λ n. n < count) ns
seats-known plan [] [] count e h i d low = absurd (omega (arith, low))
seats-known plan [] (q ∷ qs) count e h i d low = absurd h
seats-known plan (n ∷ ns) [] count e h i d low = absurd h
seats-known plan (n ∷ ns) (q ∷ qs) count e h zero d low = let seat = h.0 in let within = slice_get_within plan.seats.items n seat.0 seat.1 in omega (arith, within, e)
seats-known plan (n ∷ ns) (q ∷ qs) count e h (suc i) d low = seats-known plan ns qs count e h.1 i d (omega (arith, low))
