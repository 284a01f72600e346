-- A cell is a ground on which costs are bounded.
use Rattle.rhythm_base.specs.BarInput.{BarInput, IsInner}
use Rattle.rhythm_base.specs.Grammar.{Grammar}
use Rattle.rhythm_base.proofs.Beats.{some_beat}
use Rattle.tree_laws.specs.Forests.{IsGround}
use Rattle.row_laws.specs.Grounds.{IsReady, ground_of}
use Rattle.row_laws.proofs.Bounds.{IsBounded}
use Rattle.std.proofs.Common.{◌≡◌, ℕ, ◌<◌, ◌&&◌, true, All, List, [], ◌∷◌, refl, ap₂, arith}
use Rattle.std.specs.Prelude.{nat_lt}
use Rattle.std.specs.List.{list_all}
use Rattle.std.proofs.lemmas.Bool.Decides.{nat_tests}
use Rattle.std.proofs.lemmas.List.Elements.{All-head, All-tail}
use Rattle.rhythm_base.specs.declared.inner.Inner.{Inner}

pub grounded : (g : Grammar) (k : BarInput) → IsReady g k → IsGround (ground_of g k)
grounded g k ready = record { long = ready.cell.some_tick; rise = ready.cell.rising }

pub bounds : (g : Grammar) (k : BarInput) → IsReady g k → IsBounded (ground_of g k)
bounds g k ready = record {
  ranges = ready.readable.ranges;
  some_beat = ready.cell.signature.some;
  few_beats = ready.cell.signature.few;
  some_den = some_beat k.den ready.cell.signature.power;
}

-- all onsets lie in the bar
pub onsets_inside : (l : ℕ) (cs : List Inner) → All (IsInner l) cs → list_all (λ c. nat_lt c.onset l) cs ≡ true
onsets_inside l [] h = refl
onsets_inside l (c ∷ cs) h =
    let own : c.onset < l = (All-head (IsInner l) c cs h).onset in
    let on : nat_lt c.onset l ≡ true = grind (arith, nat_tests) in
    ap₂ ◌&&◌ on (onsets_inside l cs (All-tail (IsInner l) c cs h))
