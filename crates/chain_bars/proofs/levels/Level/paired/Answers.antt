use Rattle.std.proofs.Common.{◌≡◌, ◌∙◌, ◌++◌, ◌+◌, ◌*◌, ◌/◌, ◌<◌, length, ap, arith}
use Rattle.std.specs.Prelude.{drop}
use Rattle.std.proofs.lemmas.List.{length_push}
use Rattle.chain_bars.specs.Tower.{node_at, level_above}
use Rattle.chain_bars.proofs.Growth.{pairs_step, pairs_count}
use Rattle.chain_bars.proofs.levels.Level.paired.Goals as goal

pub pairs-preserved : goal.pairs-preserved
pairs-preserved g c =
    let nodes = c.args.self.now.nodes in
    let test : c.pairs.number < (c.len.result + 1) / 2 = c.pairs-test.true in
    let long : c.len.result ≡ length nodes = c.len.ensures in
    let low : 2 * c.pairs.number < length nodes = omega (arith, test, long) in
    let read = c.slice.ensures in
    let size : length c.slice.result.now ≡ length nodes = ap length read in
    let more : length c.push_reserved.new.self.items ≡ length c.pairs.nodes.items + 1 = ap length c.push_reserved.ensures.items ∙ length_push c.pairs.nodes.items c.joined.result in (
      ap (λ l. l ++ level_above (drop (2 * (c.pairs.number + 1)) nodes)) c.push_reserved.ensures.items
          ∙ pairs_step nodes c.pairs.nodes.items c.pairs.number c.joined.result low c.pairs.invariant.0 (c.joined.ensures.result ∙ ap (λ l. node_at l c.pairs.number) read),
      omega (arith, more, c.pairs.invariant.1),
      omega (arith, c.pairs.invariant.2, c.push_reserved.ensures.capacity),
      pairs_count (length nodes) c.pairs.number c.args.products.now c.pairs.products c.joined.new.products low c.pairs.invariant.3 (λ there. c.joined.ensures.two (omega (arith, there, size)))
          (λ end. c.joined.ensures.lone (omega (arith, end, size))),
    )
