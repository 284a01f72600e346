use Rattle.std.proofs.Common.{◌≡◌, ◌-◌, ◌<◌, ◌∙◌, length, take, subst, sym, ap, arith}
use Rattle.chain_bars.specs.Tower.{AreCells, level}
use Rattle.chain_bars.proofs.Endings.{cells_take, lowest_set, pop_end}
use Rattle.chain_bars.proofs.Lists.{level_read, room_read}
use Rattle.chain_bars.proofs.levels.shorten.Goals as goal

pub renew_last-requires-after_bounds : goal.renew_last-requires-after_bounds
renew_last-requires-after_bounds g c κs within =
    let ls = c.args.levels.now in
    let some : 0 < length ls = omega (arith, c.requires.tower.count) in
    let size : c.len-count.result ≡ length (level ls 0) = c.len-count.ensures ∙ ap length (level_read ls 0 c.index-levels-0.result some) in
    pop_end ls (c.len-count.result - 1) c.keep.new.self c.requires.tower c.requires.cells c.requires.room (omega (arith, size, c.requires.two)) (omega (arith, size, c.requires.two))
    (c.keep.ensures.nodes ∙ ap (take (c.len-count.result - 1)) (level_read ls 0 c.index-levels-0-2.result some)) (c.keep.ensures.room ∙ room_read ls 0 c.index-levels-0-2.result some)

pub returns-clause-sound : goal.returns-clause-sound
returns-clause-sound g c =
    let ls = c.args.levels.now in
    let some : 0 < length ls = omega (arith, c.requires.tower.count) in
    let size : c.len-count.result ≡ length (level ls 0) = c.len-count.ensures ∙ ap length (level_read ls 0 c.index-levels-0.result some) in
    subst AreCells (sym (c.renew_last.ensures.cells ∙ lowest_set ls c.keep.new.self some ∙ c.keep.ensures.nodes ∙ ap (take (c.len-count.result - 1)) (level_read ls 0 c.index-levels-0-2.result some)))
    (cells_take (level ls 0) (c.len-count.result - 1) c.requires.cells (omega (arith, size, c.requires.two)) (omega (arith, size)))
