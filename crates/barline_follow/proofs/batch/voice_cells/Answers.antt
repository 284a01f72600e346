use Rattle.std.proofs.Common.{ℕ, ◌<◌, ◌++◌, List, length, ap, sym, ◌∙◌, arith}
use Rattle.bar_pool.specs.declared.order.AskedCell.{AskedCell}
use Rattle.barline_follow.specs.Longer.{Longer, draft_of}
use Rattle.barline_follow.specs.PassedOver.{IsWeighed, cells_in}
use Rattle.barline_follow.proofs.Batches.{all_set, cells_more, same_long, same_set}
use Rattle.barline_follow.proofs.batch.voice_cells.Goals as goal

pub lists-preserved : goal.lists-preserved
lists-preserved c =
    let next = c.args.next.now in
    let v : ℕ = c.args.voice in
    let i : ℕ = c.lists.list-index in
    let ls : List Longer = c.lists.lists in
    let l : Longer = c.list-item.result in
    let m : Longer = c.weigh.new.list in
    let within : i < length ls = omega (arith, c.lists-test.true, same_long ls c.args.lists.now c.lists.invariant.1) in
    let before = c.lists.invariant.0 i l within in (
      all_set (IsWeighed next c.args.round.now v) ls i m c.lists.invariant.0 (c.in_ok-weigh.ensures.weighed v before),
      same_set draft_of ls i l m within c.in_ok-weigh.ensures.draft ∙ c.lists.invariant.1,
      c.in_ok-push_cell.ensures ∙ ap (λ (cs : List AskedCell). cs ++ cells_in next v m) c.lists.invariant.2
          ∙ sym (cells_more (cells_in next v) ls i m within),
    )
