use Rattle.std.proofs.Common.{◌<◌, ◌∙◌, ◌++◌, ◌∷◌, [], length, subst, sym, ap, arith}
use Rattle.chain_bars.specs.Tower.{AreCells, level}
use Rattle.chain_bars.proofs.Endings.{lowest_set, push_end}
use Rattle.chain_bars.proofs.Lists.{level_read, room_read}
use Rattle.chain_bars.proofs.Pushes.{cells_push}
use Rattle.chain_bars.proofs.levels.extend.Goals as goal

pub renew_last-requires-after_bounds : goal.renew_last-requires-after_bounds
renew_last-requires-after_bounds g c κs within =
    let ls = c.args.levels.now in
    let some : 0 < length ls = omega (arith, c.requires.tower.count) in
    push_end ls c.args.cell.now c.add.new.self c.requires.tower (cells_push (level ls 0) c.args.cell.now c.requires.cells c.requires.few c.see.ensures c.requires.cheap) c.requires.room
    (c.add.ensures.nodes ∙ ap (λ l. l ++ c.args.cell.now ∷ []) (level_read ls 0 c.index-levels-0.result some)) (c.add.ensures.room ∙ room_read ls 0 c.index-levels-0.result some)

pub returns-clause-sound : goal.returns-clause-sound
returns-clause-sound g c =
    let ls = c.args.levels.now in
    let some : 0 < length ls = omega (arith, c.requires.tower.count) in
    subst AreCells (sym (c.renew_last.ensures.cells ∙ lowest_set ls c.add.new.self some ∙ c.add.ensures.nodes ∙ ap (λ l. l ++ c.args.cell.now ∷ []) (level_read ls 0 c.index-levels-0.result some)))
    (cells_push (level ls 0) c.args.cell.now c.requires.cells c.requires.few c.see.ensures c.requires.cheap)
