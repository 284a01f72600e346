use Rattle.std.proofs.Common.{ℕ, ◌≡◌, ◌<◌, ◌≤◌, ◌^◌, ◌-◌, List, get_or, length, subst, sym, arith}
use Rattle.rhythm_base.specs.Lists.{last_end}
use Rattle.barline_follow.proofs.Paired.{last_is}
use Rattle.barline_follow.proofs.barring.Barring.last_length.Goals as goal

pub returns-clause-short : goal.returns-clause-short
returns-clause-short c =
    let ticks : List ℕ = c.as_slice-ticks.result.now in
    let early : last_end 0 ticks < 2 ^ 33 = subst (λ (l : List ℕ). last_end 0 l < 2 ^ 33) (sym c.as_slice-ticks.ensures.value) c.self.invariant.1 in
    let some : 1 ≤ length ticks = omega (arith, c.if-count-lt2.false) in
    let last : last_end 0 ticks ≡ get_or ticks (length ticks - 1) 0 = last_is 0 ticks 0 some in
    omega (arith, c.saturating_sub.ensures, last, early)
