-- One cell more after the last.
use Rattle.std.proofs.Common.{◌≡◌, ℕ, ◌+◌, ◌<◌, List, [], ◌∷◌, ◌++◌, length, arith}
use Rattle.std.proofs.lemmas.List.{length_push}
use Rattle.rhythm_base.specs.Paths.{IsRanked, IsCheap, AreCheap}
use Rattle.rhythm_base.specs.Ranked.{CarryMatrix}
use Rattle.path_laws.specs.Tables.{AllRanked}
use Rattle.chain_bars.specs.Tower.{AreCells}

ranked_push : (es : List CarryMatrix) (e : CarryMatrix) → AllRanked es → IsRanked e → AllRanked (es ++ e ∷ [])
ranked_push [] e h r = (r, tt)
ranked_push (x ∷ es) e h r = (h.0, ranked_push es e h.1 r)

cheap_push : (c : ℕ) (es : List CarryMatrix) (e : CarryMatrix) → AreCheap c es → IsCheap c e → AreCheap c (es ++ e ∷ [])
cheap_push c [] e h r = (r, tt)
cheap_push c (x ∷ es) e h r = (h.0, cheap_push c es e h.1 r)

pub cells_push : (es : List CarryMatrix) (e : CarryMatrix) → AreCells es → length es < 4096 → IsRanked e → IsCheap 500000000000 e → AreCells (es ++ e ∷ [])
cells_push es e h low r c =
    let long : length (es ++ e ∷ []) ≡ length es + 1 = length_push es e in
    record {
      few = omega (arith, long, low);
      some = omega (arith, long);
      ranked = ranked_push es e h.ranked r;
      cheap = cheap_push 500000000000 es e h.cheap c;
    }
