use Rattle.std.proofs.Common.{◌≡◌, ℕ, ◌^◌, ◌<◌, ◌≤◌, bit_or, get_or, sym, subst, arith}
use Rattle.std.proofs.Math.Pow.{pow-lt}
use Rattle.std.proofs.lemmas.Nat.{le_or_r, or_lt, pow_pos}
use Rattle.notation_tests.proofs.kern.keys_of.Goals as goal

one_more : (a b all key : ℕ) → all ≡ bit_or a b → b ≡ 2 ^ key → key < 128 → a < 2 ^ 128 → (1 ≤ all) × (all < 2 ^ 128)
one_more a b all key is one small few =
    let some = pow_pos key in
    let high : b < 2 ^ 128 = subst (λ x. x < 2 ^ 128) (sym one) (pow-lt small) in
    (omega (arith, is, one, some, le_or_r a b), subst (λ x. x < 2 ^ 128) (sym is) (or_lt 128 a b few high))

pub keys-preserved : goal.keys-preserved
keys-preserved c =
    let h = one_more c.keys.set c.one.result c.join-set.result _ c.join-set.ensures c.one.ensures (omega (arith, c.if-key-gt127.false)) c.keys.invariant.few in
    record { some = λ _. h.0; few = h.1 }
