use Rattle.std.proofs.Common.{◌≤◌, arith}
use Rattle.std.proofs.lemmas.List.Elements.{All-weaker}
use Rattle.notation.specs.Tokens.{Token}
use Rattle.notation.proofs.GroupLemmas.{longest_few, run_ends}
use Rattle.notation.proofs.Standing.{IsWithin, stand_all}
use Rattle.notation.proofs.groups.is_whole.Goals as goal

pub longest-requires : goal.longest-requires
longest-requires c =
    let h = c.requires in
    let ts = c.args.group.now in
    All-weaker (IsWithin h.from h.to) (λ (t : Token). t.start ≤ t.end) (λ t k. omega (arith, k.1)) ts (stand_all c.args.resolution h.from h.to ts h.stand)

pub overflow_mul-longest : goal.overflow_mul-longest
overflow_mul-longest c =
    let h = c.requires in
    let ts = c.args.group.now in
    let few = longest_few h.from h.to ts (stand_all c.args.resolution h.from h.to ts h.stand) in
    omega (arith, c.longest.ensures, few, h.within, c.count-units.ensures.is, c.count-units.ensures.few)

pub overflow_sub-end : goal.overflow_sub-end
overflow_sub-end c =
    let h = c.requires in
    let le = run_ends c.args.resolution h.from h.to c.args.group.now h.stand in
    omega (arith, le, c.group_start.ensures, c.group_end-end.ensures)
