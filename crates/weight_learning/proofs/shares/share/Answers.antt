use Rattle.std.proofs.Common.{◌≡◌, ℕ, ◌-◌, ◌*◌, ◌/◌, ◌^◌, ◌<◌, ◌∙◌, ap, arith, sym}
use Rattle.std.proofs.Math.Nat.{le_of_eq, le_trans}
use Rattle.std.specs.Int.{div_ceil}
use Rattle.std.specs.Prelude.{slice_index}
use Rattle.weight_learning.specs.Shares.{share}
use Rattle.weight_learning.specs.Thresholds.{threshold}
use Rattle.weight_learning.specs.declared.roots.TheConstants.{ROOTS}
use Rattle.weight_learning.proofs.Falling.{share_few, share_none, share_some}
use Rattle.weight_learning.proofs.RootTable.{threshold_of_root}
use Rattle.weight_learning.proofs.shares.share.Goals as goal

pub returns-then-k-clause-value : goal.returns-then-k-clause-value
returns-then-k-clause-value c = sym (share_none c.args.k c.if-k.true)

-- the quotient is the share
value : (found bits k : ℕ) → bits ≡ div_ceil k 64 → found ≡ div_ceil (slice_index ROOTS (64 * bits - k)) 512 → 64 * bits - k < 64
    → threshold (64 * bits - k) / 2 ^ bits ≡ share k → found / 2 ^ bits ≡ share k
value found bits k up is lt share_is = ap (λ n. n / 2 ^ bits) (is ∙ threshold_of_root (64 * bits - k) lt) ∙ share_is

pub returns-clause-value : goal.returns-clause-value
returns-clause-value c =
    let k : ℕ = c.args.k in
    let some = share_some k c.if-k.false in
    value c.div_ceil-threshold.result c.div_ceil-bits.result k c.div_ceil-bits.ensures c.div_ceil-threshold.ensures (omega (arith, c.div_ceil-bits.ensures))
    (ap (λ b. threshold (64 * b - k) / 2 ^ b) c.div_ceil-bits.ensures ∙ sym some)

pub returns-clause-few : goal.returns-clause-few
returns-clause-few c =
    let k : ℕ = c.args.k in
    let some = share_some k c.if-k.false in
    le_trans
    (le_of_eq (value c.div_ceil-threshold.result c.div_ceil-bits.result k c.div_ceil-bits.ensures c.div_ceil-threshold.ensures (omega (arith, c.div_ceil-bits.ensures))
    (ap (λ b. threshold (64 * b - k) / 2 ^ b) c.div_ceil-bits.ensures ∙ sym some)))
    (share_few k)
