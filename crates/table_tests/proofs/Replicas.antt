-- A list of one cell over and over.
use Rattle.std.proofs.Common.{ℕ, zero, suc, replicate}
use Rattle.rhythm_base.specs.Ranked.{CarryMatrix}
use Rattle.rhythm_base.specs.Paths.{AreCheap, IsCheap}

pub AreCheap-replicate : (c n : ℕ) (m : CarryMatrix) → IsCheap c m → AreCheap c (replicate n m)
AreCheap-replicate c zero m h = tt
AreCheap-replicate c (suc n) m h = (h, AreCheap-replicate c n m h)
