-- How many of a list of tables are of the first bars.
use Rattle.std.proofs.Common.{◌≡◌, ℕ, ◌+◌, ◌<◌, ◌≤◌, List, [], ◌∷◌, ◌++◌, Bool, true, false, length, refl, ap, ◌∙◌, arith}
use Rattle.std.specs.Prelude.{All, cond, filter, nat_lt, reverse}
use Rattle.std.proofs.lemmas.Bool.Decides.{nat_tests}
use Rattle.std.proofs.lemmas.List.{length-append, reverse-append}
use Rattle.std.proofs.lemmas.List.Elements.{filter-append}
use Rattle.rhythm_base.proofs.OrderedLists.{all_head, all_tail}
use Rattle.edit_session.specs.Exchange.{tables_of_bars, tables_below}
use Rattle.edit_session.specs.Prepared.{CellTable}
use Rattle.rhythm_base.specs.BarTables.{BarTable}

is_below : (bars : ℕ) (t : CellTable) → t.bar < bars → nat_lt t.bar bars ≡ true
is_below bars t lt = grind (arith, nat_tests)

is_not_below : (bars : ℕ) (t : CellTable) → bars ≤ t.bar → nat_lt t.bar bars ≡ false
is_not_below bars t le = grind (arith, nat_tests)

one_below : (bars : ℕ) (t : CellTable) (b : Bool) → nat_lt t.bar bars ≡ b → tables_below bars (t ∷ []) ≡ cond b 1 0
one_below bars t true e = rw e refl
one_below bars t false e = rw e refl

pub below_append : (bars : ℕ) (ts us : List CellTable) → tables_below bars (ts ++ us) ≡ tables_below bars ts + tables_below bars us
below_append bars ts us =
    ap length (filter-append (λ (t : CellTable). nat_lt t.bar bars) ts us) ∙ length-append (filter (λ (t : CellTable). nat_lt t.bar bars) ts) (filter (λ (t : CellTable). nat_lt t.bar bars) us)

pub below_push : (bars : ℕ) (ts : List CellTable) (t : CellTable) → t.bar < bars → tables_below bars (ts ++ t ∷ []) ≡ tables_below bars ts + 1
below_push bars ts t lt = below_append bars ts (t ∷ []) ∙ ap (λ n. tables_below bars ts + n) (one_below bars t true (is_below bars t lt))

pub not_below_push : (bars : ℕ) (ts : List CellTable) (t : CellTable) → bars ≤ t.bar → tables_below bars (ts ++ t ∷ []) ≡ tables_below bars ts
not_below_push bars ts t le =
    let none : tables_below bars (t ∷ []) ≡ 0 = one_below bars t false (is_not_below bars t le) in
    omega (arith, below_append bars ts (t ∷ []), none)

pub below_reverse : (bars : ℕ) (ts : List CellTable) → tables_below bars (reverse ts) ≡ tables_below bars ts
below_reverse bars [] = refl
below_reverse bars (t ∷ ts) =
    let turned : reverse (t ∷ ts) ≡ reverse ts ++ t ∷ [] = reverse-append (t ∷ []) ts in
    let front : tables_below bars (t ∷ ts) ≡ tables_below bars (t ∷ []) + tables_below bars ts = below_append bars (t ∷ []) ts in
    omega (arith, ap (tables_below bars) turned, below_append bars (reverse ts) (t ∷ []), below_reverse bars ts, front)

pub numbered_not_below : (bars channel n : ℕ) (tables : List BarTable) → bars ≤ n → tables_below bars (tables_of_bars channel n tables) ≡ 0
numbered_not_below bars channel n [] le = refl
numbered_not_below bars channel n (table ∷ tables) le =
    let t : CellTable = record { channel = channel; bar = n; table = table } in
    let none : tables_below bars (t ∷ []) ≡ 0 = one_below bars t false (is_not_below bars t le) in
    omega (arith, below_append bars (t ∷ []) (tables_of_bars channel (n + 1) tables), none, numbered_not_below bars channel (n + 1) tables (omega (arith, le)))

pub all_below : (bars : ℕ) (ts : List CellTable) → All (λ t. t.bar < bars) ts → tables_below bars ts ≡ length ts
all_below bars [] h = refl
all_below bars (t ∷ ts) h =
    let one : tables_below bars (t ∷ []) ≡ 1 = one_below bars t true (is_below bars t (all_head (λ (u : CellTable). u.bar < bars) t ts h)) in
    omega (arith, below_append bars (t ∷ []) ts, one, all_below bars ts (all_tail (λ (u : CellTable). u.bar < bars) t ts h))
