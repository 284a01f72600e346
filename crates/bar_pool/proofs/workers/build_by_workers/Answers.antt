use Rattle.std.proofs.Common.{rules, arith, length, subst, sym}
use Rattle.bar_pool.specs.Draws.{HasEachBelow}
use Rattle.bar_pool.specs.Workers.{AreBuilt}
use Rattle.bar_pool.proofs.Closing.{closed, closed_few, things_of, with_both}
use Rattle.bar_pool.proofs.Counting.{length-each}
use Rattle.bar_pool.proofs.workers.build_by_workers.Goals as goal

pub returns-in_err-things-clause-most : goal.returns-in_err-things-clause-most
returns-in_err-things-clause-most g c =
    let seat = c.build_in_halves-seat.result.seat in
    let few = closed_few (length c.args.searched.now) c.args.workers c.in_ok-table.table.shared.key _ _ seat.id seat.me c.in_ok-table.ensures.5 c.close_with.ensures.values.2 in
    (omega (arith, c.build_in_halves-seat.ensures.builds, c.absorb.ensures), omega (arith, few, c.build_in_halves-seat.ensures.builds, c.absorb.ensures))

pub in_places-requires : goal.in_places-requires
in_places-requires g c =
    let seat = c.build_in_halves-seat.result.seat in
    let searched = c.args.searched.now in
    let built : AreBuilt (g.J.Job.built c.args.job.now) searched seat.me c.in_ok-things.field-0.items = search rules in
    let end = closed (length c.args.searched.now) c.args.workers c.in_ok-table.table.shared.key _ _ seat.id seat.me c.in_ok-table.ensures.5 c.close_with.ensures.values.2 c.build_in_halves-seat.ensures.share built.past in
    subst (HasEachBelow (length c.args.searched.now)) (sym built.numbers) end

pub returns-clause-things : goal.returns-clause-things
returns-clause-things g c =
    let seat = c.build_in_halves-seat.result.seat in
    let searched = c.args.searched.now in
    let built : AreBuilt (g.J.Job.built c.args.job.now) searched seat.me c.in_ok-things.field-0.items = search rules in
    let end = closed (length searched) c.args.workers c.in_ok-table.table.shared.key _ _ seat.id seat.me c.in_ok-table.ensures.5 c.close_with.ensures.values.2 c.build_in_halves-seat.ensures.share built.past in
    let each = subst (HasEachBelow (length searched)) (sym built.numbers) end in
    with_both c.in_places.result _ _ _ (λ v size stand. things_of (g.J.Job.built c.args.job.now) searched c.in_ok-things.field-0.items v.items each built.things size stand) c.in_places.ensures.count c.in_places.ensures.places

pub returns-clause-builds : goal.returns-clause-builds
returns-clause-builds g c =
    let seat = c.build_in_halves-seat.result.seat in
    let searched = c.args.searched.now in
    let built : AreBuilt (g.J.Job.built c.args.job.now) searched seat.me c.in_ok-things.field-0.items = search rules in
    let end = closed (length searched) c.args.workers c.in_ok-table.table.shared.key _ _ seat.id seat.me c.in_ok-table.ensures.5 c.close_with.ensures.values.2 c.build_in_halves-seat.ensures.share built.past in
    let count = length-each (length searched) seat.me.0.drawn end in
    with_both c.in_places.result _ _ _ (λ v size stand. omega (arith, count, c.build_in_halves-seat.ensures.builds, c.absorb.ensures)) c.in_places.ensures.count c.in_places.ensures.places

pub returns-clause-most : goal.returns-clause-most
returns-clause-most g c =
    let seat = c.build_in_halves-seat.result.seat in
    let few = closed_few (length c.args.searched.now) c.args.workers c.in_ok-table.table.shared.key _ _ seat.id seat.me c.in_ok-table.ensures.5 c.close_with.ensures.values.2 in
    (omega (arith, c.build_in_halves-seat.ensures.builds, c.absorb.ensures), omega (arith, few, c.build_in_halves-seat.ensures.builds, c.absorb.ensures))
