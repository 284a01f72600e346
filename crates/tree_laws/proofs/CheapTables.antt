-- The entries of the table of a cell are cheap.
use Rattle.std.proofs.Common.{◌≡◌, ℕ, zero, suc, ◌≤◌, ◌∙◌, inl, inr, ap, sym, refl, arith}
use Rattle.std.specs.Prelude.{Option, Some, None}
use Rattle.std.proofs.lemmas.Bool.{cases_lt}
use Rattle.rhythm_base.specs.declared.limits.TheConstants.{DEAREST_CELL}
use Rattle.rhythm_base.specs.declared.best.Best.{Best}
use Rattle.rhythm_base.specs.BarTables.{BarTable, IsEntry, IsTable}
use Rattle.rhythm_base.specs.Grammar.{Grammar}
use Rattle.rhythm_base.specs.Paths.{IsCheap}
use Rattle.rhythm_base.specs.Ranked.{at, grid}

-- an entry that is there is the least tree's, which costs so much at most
entry_cheap : (g : Grammar) (table : BarTable) (i j : ℕ) (o : Option Best) → IsEntry g table i j o → (e : Best) → o ≡ Some e → e.cost ≤ DEAREST_CELL
entry_cheap g table i j None is e there = absurd (cc)
entry_cheap g table i j (Some best) (t, least, cost, list, rank, cheap) e there =
    let same : best ≡ e = cc in
    omega (arith, cheap, ap (λ (b : Best). b.cost) same)

-- beyond five by five there is no entry
no_row : (f : ℕ → ℕ → Option Best) (i j : ℕ) → 5 ≤ i → at (grid f) i j ≡ None
no_row f zero j high = absurd (omega arith)
no_row f (suc zero) j high = absurd (omega arith)
no_row f (suc (suc zero)) j high = absurd (omega arith)
no_row f (suc (suc (suc zero))) j high = absurd (omega arith)
no_row f (suc (suc (suc (suc zero)))) j high = absurd (omega arith)
no_row f (suc (suc (suc (suc (suc i))))) zero high = refl
no_row f (suc (suc (suc (suc (suc i))))) (suc j) high = refl

no_column : (f : ℕ → ℕ → Option Best) (i j : ℕ) → 5 ≤ j → at (grid f) i j ≡ None
no_column f i zero high = absurd (omega arith)
no_column f i (suc zero) high = absurd (omega arith)
no_column f i (suc (suc zero)) high = absurd (omega arith)
no_column f i (suc (suc (suc zero))) high = absurd (omega arith)
no_column f i (suc (suc (suc (suc zero)))) high = absurd (omega arith)
no_column f zero (suc (suc (suc (suc (suc j))))) high = refl
no_column f (suc zero) (suc (suc (suc (suc (suc j))))) high = refl
no_column f (suc (suc zero)) (suc (suc (suc (suc (suc j))))) high = refl
no_column f (suc (suc (suc zero))) (suc (suc (suc (suc (suc j))))) high = refl
no_column f (suc (suc (suc (suc zero)))) (suc (suc (suc (suc (suc j))))) high = refl
no_column f (suc (suc (suc (suc (suc i))))) (suc (suc (suc (suc (suc j))))) high = refl

pub table_cheap : (g : Grammar) (table : BarTable) → IsTable g table → IsCheap DEAREST_CELL table.matrix
table_cheap g table is i j e there = elim (cases_lt i 5) [
  | inl row ↦ elim (cases_lt j 5) [
    | inl column ↦ entry_cheap g table i j (at table.matrix i j) (is.entries i j row column) e there
    | inr high ↦ let none : at table.matrix i j ≡ None = ap (λ m. at m i j) is.ranked.shape ∙ no_column (at table.matrix) i j high in let no : ◌≡◌ {A = Option Best} None (Some e) = sym none ∙ there in absurd (cc)
  ]
  | inr high ↦ let none : at table.matrix i j ≡ None = ap (λ m. at m i j) is.ranked.shape ∙ no_row (at table.matrix) i j high in let no : ◌≡◌ {A = Option Best} None (Some e) = sym none ∙ there in absurd (cc)
]
