-- Where no path leads over all cells, one of them is dead.
use Rattle.std.proofs.Common.{◌≡◌, ℕ, zero, suc, ◌+◌, ◌-◌, ◌<◌, ◌≤◌, ◌⊎◌, inl, inr, List, [], ◌∷◌, length, take, refl, sym, subst, arith}
use Rattle.std.specs.Prelude.{Option, Some, None, IsSome}
use Rattle.rhythm_base.specs.Paths.{HasWay, IsDeadCell, IsPathKey, path_key}
use Rattle.rhythm_base.specs.Ranked.{CarryMatrix, Key, least_key}
use Rattle.path_laws.specs.Tables.{IsLeastKey}
use Rattle.path_laws.proofs.LeastKeys.{last}
use Rattle.path_laws.proofs.PathTables.{keys-least_path}
use Rattle.chain_bars.specs.Reaches.{IsReachedCount}
use Rattle.chain_bars.specs.Tower.{cost_of}
use Rattle.chain_bars.proofs.Deaths.{is_some, reached_total, reached_way, some_is, way_none, way_reached}

module _ (es : List CarryMatrix) where
  -- a count is reached, or it is not
  is_reached : (n b : ℕ) (o : Option Key) → least_key (take n es) 0 b ≡ o → IsReachedCount es n b ⊎ (IsReachedCount es n b → ⊥)
  is_reached n b None e =
      let none : IsLeastKey (IsPathKey (take n es) 0 b) None = subst (IsLeastKey (IsPathKey (take n es) 0 b)) e (keys-least_path (take n es) 0 b) in
      inr (λ r. let key = some_is (path_key (take n es) 0 r.counts) r.there in none key.0 (r.counts, r.carried, r.ends, key.1))
  is_reached n b (Some k) e =
      let least : IsLeastKey (IsPathKey (take n es) 0 b) (Some k) = subst (IsLeastKey (IsPathKey (take n es) 0 b)) e (keys-least_path (take n es) 0 b) in
      inl (record { counts = least.0.0; carried = least.0.1; there = is_some (path_key (take n es) 0 least.0.0) k least.0.3; ends = least.0.2 })

  abbrev IsReachedBelow : ℕ → ℕ → Type 0
  IsReachedBelow n m = (b : ℕ) × (b < m) × IsReachedCount es n b

  reached_below : (n m : ℕ) → IsReachedBelow n m ⊎ (IsReachedBelow n m → ⊥)
  reached_below n zero = inr (λ r. absurd (omega (arith, r.1)))
  reached_below n (suc m) = elim (reached_below n m) [
    | inl r ↦ inl (r.0, omega (arith, r.1), r.2)
    | inr none ↦ elim (is_reached n m (least_key (take n es) 0 m) refl) [
      | inl here ↦ inl (m, omega arith, here)
      | inr other ↦
          inr (λ r. elim (last r.0 m r.1) [
            | inl low ↦ none (r.0, low, r.2)
            | inr same ↦ other (subst (IsReachedCount es n) same r.2)
          ])
    ]
  ]

  way_or_none : (j : ℕ) → j + 1 < length es → HasWay es j ⊎ (HasWay es j → ⊥)
  way_or_none j lt = elim (reached_below (j + 1) 5) [
    | inl r ↦ inl (reached_way es j (j + 1) refl lt r)
    | inr none ↦ inr (λ w. none (way_reached es j (j + 1) refl w))
  ]

  -- there are ways to the first n cells, or one of them is dead
  ways_or_dead : (n : ℕ) → n + 1 ≤ length es → ((j : ℕ) → j < n → HasWay es j) ⊎ ((i : ℕ) × IsDeadCell es i)
  ways_or_dead zero le = inl (λ j low. absurd (omega (arith, low)))
  ways_or_dead (suc n) le = elim (ways_or_dead n (omega (arith, le))) [
    | inl before ↦ elim (way_or_none n (omega (arith, le))) [
      | inl way ↦
          inl (λ j low. elim (last j n low) [
            | inl less ↦ before j less
            | inr same ↦ subst (HasWay es) (sym same) way
          ])
      | inr dead ↦ inr (n, record { cell = omega (arith, le); dead = dead; first = before })
    ]
    | inr dead ↦ inr dead
  ]

  -- no path ends at the last cell
  last_dead : least_key es 0 0 ≡ None → 1 ≤ length es → HasWay es (length es - 1) → ⊥
  last_dead none some way =
      let path = reached_total es (length es) (omega arith) (way_none es (length es - 1) (length es) (omega (arith, some)) refl way) in
      let no : IsSome (cost_of None) = subst (λ o. IsSome (cost_of o)) none path in
      absurd (cc)

some_cell : (es : List CarryMatrix) → least_key es 0 0 ≡ None → 1 ≤ length es
some_cell [] none = absurd (cc)
some_cell (e ∷ es) none = omega arith

pub some_dead : (es : List CarryMatrix) → least_key es 0 0 ≡ None → (i : ℕ) × IsDeadCell es i
some_dead es none =
    let some = some_cell es none in
    elim (ways_or_dead es (length es - 1) (omega (arith, some))) [
      | inl before ↦ (length es - 1, record { cell = omega (arith, some); dead = last_dead es none some; first = before })
      | inr dead ↦ dead
    ]
