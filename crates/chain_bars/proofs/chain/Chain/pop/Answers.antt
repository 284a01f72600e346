use Rattle.std.proofs.Common.{length, subst, sym}
use Rattle.chain_bars.specs.Tower.{HasRoom, level}
use Rattle.chain_bars.proofs.Endings.{room_less}
use Rattle.chain_bars.proofs.chain.Chain.pop.Goals as goal

pub shorten-requires-clause-room : goal.shorten-requires-clause-room
shorten-requires-clause-room g c κs within =
    let ls = c.self.inside.levels.items in
    subst (λ l. HasRoom (length (level l 0)) l) (sym c.as_mut_slice.ensures.value) (room_less (length (level ls 0)) c.self.inside.room ls c.self.invariant.fits c.self.invariant.held)
