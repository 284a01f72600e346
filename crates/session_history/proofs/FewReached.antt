-- The cells that a change reaches are no more than the cells of the performance after it.
use Rattle.std.proofs.Common.{◌≡◌, ◌≤◌, ◌<◌, ℕ, zero, suc, ◌+◌, ◌*◌, ◌⊎◌, List, [], ◌∷◌, ◌++◌, length, slice_index_or, refl, sym, ap, subst, ◌∙◌, arith, inl, inr, length-append}
use Rattle.std.specs.Prelude.{AllPairs, Contains}
use Rattle.std.specs.Cmp.Lexicographic.{nat_list_cmp_total, slice_cmp}
use Rattle.std.specs.Ordering.{nat_cmp, ordering_reverse}
use Rattle.std.specs.declared.cmp.Ordering.TheVariants.{Greater, Less}
use Rattle.std.proofs.Math.Nat.{eq-or-lt_of_le}
use Rattle.std.proofs.lemmas.List.Elements.{Contains-append_left, Contains-append_right, All-contains}
use Rattle.rhythm_base.specs.Grammar.{Grammar}
use Rattle.rhythm_base.specs.Performance.{Performance}
use Rattle.edit_laws.specs.Reached.{AreReached, IsReached}
use Rattle.rhythm_base.proofs.OrderedLists.{pairs_head, pairs_tail}

-- ---- lists without repetition

-- the list without its element at a place
abbrev without : {X : Type 0} → ℕ → List X → List X
without k [] = []
without zero (y ∷ ys) = ys
without (suc k) (y ∷ ys) = y ∷ without k ys

length_without : {X : Type 0} (k : ℕ) (ys : List X) → k < length ys → length (without k ys) + 1 ≡ length ys
length_without k [] lt = absurd (omega (arith, lt))
length_without zero (y ∷ ys) lt = omega arith
length_without (suc k) (y ∷ ys) lt = omega (arith, length_without k ys (omega (arith, lt)))

-- what is another element is left
left_without : {X : Type 0} (k : ℕ) (ys : List X) (x y : X) → k < length ys → slice_index_or ys k x ≡ x → (x ≡ y → ⊥) → Contains ys y → Contains (without k ys) y
left_without k [] x y lt at other (j, within, is) = absurd (omega (arith, within))
left_without zero (z ∷ zs) x y lt at other (zero, within, is) = absurd (other (sym at ∙ is))
left_without zero (z ∷ zs) x y lt at other (suc j, within, is) = (j, omega (arith, within), is)
left_without (suc k) (z ∷ zs) x y lt at other (zero, within, is) = (0, omega arith, is)
left_without (suc k) (z ∷ zs) x y lt at other (suc j, within, is) =
    let more = left_without k zs x y (omega (arith, lt)) at other (j, omega (arith, within), is) in
    (suc more.0, omega (arith, more.1), more.2)

module _ {X : Type 0} (R : X → X → Type 0) (apart : (x y : X) → R x y → x ≡ y → ⊥) where
  -- elements that are all apart and are in a list are no more than it has
  pub few_apart : (xs ys : List X) → AllPairs R xs → ((x : X) → Contains xs x → Contains ys x) → length xs ≤ length ys
  few_apart [] ys pairs inside = omega arith
  few_apart (x ∷ xs) ys pairs inside =
      let at = inside x (0, omega arith, refl) in
      let others = few_apart xs (without at.0 ys) (pairs_tail R x xs pairs)
      (λ y (j, within, is). left_without at.0 ys x y at.1 at.2
      (apart x y (All-contains (R x) xs y (pairs_head R x xs pairs) (j, within, is)))
      (inside y (suc j, omega (arith, within), is))) in
      omega (arith, others, length_without at.0 ys at.1)

-- ---- all cells

abbrev bars_of : ℕ → ℕ → List (ℕ × ℕ)
bars_of channel zero = []
bars_of channel (suc bar) = (channel, bar) ∷ bars_of channel bar

length_bars : (channel bars : ℕ) → length (bars_of channel bars) ≡ bars
length_bars channel zero = refl
length_bars channel (suc bar) = ap suc (length_bars channel bar)

in_bars : (channel bar bars : ℕ) → bar < bars → Contains (bars_of channel bars) (channel, bar)
in_bars channel bar zero lt = absurd (omega (arith, lt))
in_bars channel bar (suc bars) lt = go (eq-or-lt_of_le (omega (arith, lt))) (in_bars channel bar bars)
  where
    go : (bar ≡ bars) ⊎ (bar < bars) → (bar < bars → Contains (bars_of channel bars) (channel, bar)) → Contains ((channel, bars) ∷ bars_of channel bars) (channel, bar)
    go (inl is) more = (0, omega arith, ap (λ (b : ℕ). (channel, b)) (sym is))
    go (inr below) more = let there = more below in (suc there.0, omega (arith, there.1), there.2)

abbrev all_cells : List ℕ → ℕ → List (ℕ × ℕ)
all_cells [] bars = []
all_cells (channel ∷ channels) bars = bars_of channel bars ++ all_cells channels bars

length_cells : (channels : List ℕ) (bars : ℕ) → length (all_cells channels bars) ≡ length channels * bars
length_cells [] bars = omega arith
length_cells (channel ∷ channels) bars =
    grind (arith, length-append (bars_of channel bars) (all_cells channels bars), length_bars channel bars, length_cells channels bars)

in_cells : (channels : List ℕ) (bars channel bar : ℕ) → Contains channels channel → bar < bars → Contains (all_cells channels bars) (channel, bar)
in_cells [] bars channel bar (k, within, at) lt = absurd (omega (arith, within))
in_cells (c ∷ channels) bars channel bar (zero, within, at) lt =
    Contains-append_left (bars_of c bars) (all_cells channels bars) (channel, bar)
    (subst (λ d. Contains (bars_of c bars) (d, bar)) at (in_bars c bar bars lt))
in_cells (c ∷ channels) bars channel bar (suc k, within, at) lt =
    Contains-append_right (bars_of c bars) (all_cells channels bars) (channel, bar) (in_cells channels bars channel bar (k, omega (arith, within), at) lt)

abbrev place : ℕ × ℕ → List ℕ
place c = c.0 ∷ c.1 ∷ []

apart : (c d : ℕ × ℕ) → slice_cmp nat_cmp (place c) (place d) ≡ Less → c ≡ d → ⊥
apart c d less same =
    let itself : slice_cmp nat_cmp (place c) (place c) ≡ Less = subst (λ (e : ℕ × ℕ). slice_cmp nat_cmp (place c) (place e) ≡ Less) (sym same) less in
    let turned : Less ≡ Greater = sym itself ∙ nat_list_cmp_total.antisymm (place c) (place c) ∙ ap ordering_reverse itself in absurd (cc)

pub few_reached : (g : Grammar) (before after : Performance) (cells : List (ℕ × ℕ)) → AreReached g before after cells → length cells ≤ length after.channels * length after.bars
few_reached g before after cells are =
    let inside : (c : ℕ × ℕ) → Contains cells c → Contains (all_cells after.channels (length after.bars)) c =
    λ c there. let reached : IsReached g before after c.0 c.1 = (are.exactly c.0 c.1).0 there in in_cells after.channels (length after.bars) c.0 c.1 reached.0 reached.1 in
    subst (λ n. length cells ≤ n) (length_cells after.channels (length after.bars))
    (few_apart (λ x y. slice_cmp nat_cmp (place x) (place y) ≡ Less) apart cells (all_cells after.channels (length after.bars)) are.in_order inside)
