-- A cell has few chords.
use Rattle.std.proofs.Common.{ℕ, suc, ◌<◌, ◌≤◌, ◌+◌, List, [], ◌∷◌, length, get_or, arith}
use Rattle.rhythm_base.specs.BarInput.{BarInput, IsBarInput}
use Rattle.rhythm_base.specs.Line.{Rising}
use Rattle.rhythm_base.specs.declared.inner.Inner.{Inner}

-- onsets that rise are at most as many as ticks
rising-few : (low l : ℕ) (cs : List Inner) → Rising low cs → ((i : ℕ) (d : Inner) → i < length cs → (get_or cs i d).onset < l) → low ≤ l → low + length cs ≤ l
rising-few low l [] rise h less = omega arith
rising-few low l (c ∷ cs) rise h less =
    let own : c.onset < l = h 0 c (omega arith) in
    let first : low ≤ c.onset = rise.0 in
    let ih = rising-few (c.onset + 1) l cs rise.1 (λ i d k. h (suc i) d (omega arith)) (omega arith) in
    omega (arith, ih, first)

pub few-chords : (k : BarInput) → IsBarInput k → length k.chords ≤ 2000000000
few-chords k cell =
    let h = rising-few 0 k.length k.chords cell.rising (λ i d low. (cell.chords i d low).onset) (omega arith) in
    let few : k.length ≤ 2000000000 = cell.few_ticks in
    omega (arith, h)
