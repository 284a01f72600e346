-- Tests one after the other come to something, or to a stop, where each of them does.
use Rattle.std.proofs.Common.{inl, inr, Result, Ok, Err}
use Rattle.rhythm_app.specs.Outcome.{AreInTurn}
use Rattle.rhythm_app.specs.declared.stop.Stop.{Stop}

-- it comes to something, or to a stop
abbrev pub ComesTo : {T : Type 0} → (Result T Stop → Type 0) → Type 0
ComesTo {T} outcome = (r : Result T Stop) × outcome r

-- where a test comes to something, and what follows each value that passes it does too
pub in_turn : {T U : Type 0} (first : Result T Stop → Type 0) (next : T → Result U Stop → Type 0) → ComesTo first → ((x : T) → first (Ok x) → ComesTo (next x)) → ComesTo (AreInTurn first next)
in_turn {T} {U} first next (Err s, is) nexts = (Err s, inl is)
in_turn {T} {U} first next (Ok x, is) nexts = go (nexts x is)
  where
    go : ComesTo (next x) → ComesTo (AreInTurn first next)
    go (Ok y, own) = (Ok y, (x, is, own))
    go (Err s, own) = (Err s, inr (x, is, own))
