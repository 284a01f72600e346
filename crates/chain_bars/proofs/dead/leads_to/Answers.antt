use Rattle.std.proofs.Common.{rules, ◌∙◌, ◌+◌, ap, arith, subst, sym}
use Rattle.std.specs.Prelude.{IsSome, IsTrue, false, slice_index_or}
use Rattle.rhythm_base.specs.Ranked.{at}
use Rattle.chain_bars.proofs.Deaths.{no_more}
use Rattle.chain_bars.proofs.dead.leads_to.Goals.{else-reached-from-via-then-reached-from+else-is_some, else-reached-from-via-else-reached-from}
use Rattle.chain_bars.proofs.dead.leads_to.Goals as goal

pub counts-preserved : goal.counts-preserved
counts-preserved c =
    let marks = c.args.reached.now in
    let cell = c.args.cell.now in
    let own : IsTrue (slice_index_or marks c.counts.from false) → IsSome (at cell c.counts.from c.args.to) → ⊥ = elim c.else-reached-from.branch [
      | else-reached-from-via-then-reached-from+else-is_some w ↦ λ marked there.
          let here : IsSome w.entry.result = subst IsSome (sym (w.entry.ensures.is ∙ ap (λ n. at cell n c.args.to) w.of.ensures)) there in
          search (rules, here)
      | else-reached-from-via-else-reached-from w ↦ λ marked there. search (rules, marked)
    ] in
    no_more marks cell c.args.to c.counts.from (c.counts.from + 1) (omega arith) c.counts.invariant own

pub returns : goal.returns
returns c = ((λ e. absurd (cc)), λ s. absurd (c.counts.invariant s.from (omega (arith, s.low, c.counts-test.false)) s.marked s.there))
