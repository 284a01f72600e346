use Rattle.std.proofs.Common.{◌<◌, ◌+◌, length, subst, sym, arith}
use Rattle.chain_bars.specs.Chain.{Chain}
use Rattle.chain_bars.specs.Tower.{HasRoom, level}
use Rattle.chain_bars.proofs.Endings.{room_less}
use Rattle.chain_bars.proofs.chain.Chain.push_within.Goals as goal

pub extend-requires-clause-room : goal.extend-requires-clause-room
extend-requires-clause-room g c κs within =
    let ls = c.self.inside.levels.items in
    let low : length (level ls 0) < c.self.inside.room = subst (λ (v : Chain). length v.cells < v.room) (sym c.self.view_is) c.requires.within in
    subst (λ l. HasRoom (length (level l 0) + 1) l) (sym c.as_mut_slice.ensures.value) (room_less (length (level ls 0) + 1) c.self.inside.room ls (omega (arith, low)) c.self.invariant.held)
