use Rattle.std.proofs.Common.{rules, arith, ◌<◌, length}
use Rattle.bar_pool.proofs.Placed.{present, filled}
use Rattle.bar_pool.proofs.places.fill.Goals as goal

pub index_mut-requires : goal.index_mut-requires
index_mut-requires g c =
    let done = c.fill.invariant.done in
    let there = present c.args.numbered.items c.fill.numbered.items c.pop.new.self.items done.0 c.in-Some.number c.in-Some.thing done.1 c.in-Some.ensures.items in
    let low = c.requires.within c.in-Some.number there in
    search (rules, low)

pub fill-preserved : goal.fill-preserved
fill-preserved g c =
    let done = c.fill.invariant.done in
    let there = present c.args.numbered.items c.fill.numbered.items c.pop.new.self.items done.0 c.in-Some.number c.in-Some.thing done.1 c.in-Some.ensures.items in
    let low = c.requires.within c.in-Some.number there in
    let within : c.in-Some.number < length c.fill.places.items = omega (arith, low, c.fill.invariant.length) in
    record {
      length = search rules;
      done = filled c.args.numbered.items c.fill.numbered.items c.pop.new.self.items done.0 c.in-Some.number c.in-Some.thing c.fill.places.items done.1 c.in-Some.ensures.items c.requires.once done.2 within;
    }

pub fill-preserved-in-Some : goal.fill-preserved-in-Some
fill-preserved-in-Some g c =
    let done = c.fill.invariant.done in
    let there = present c.args.numbered.items c.fill.numbered.items c.pop.new.self.items done.0 c.in-Some.number c.in-Some.thing done.1 c.in-Some.ensures.items in
    let low = c.requires.within c.in-Some.number there in
    let within : c.in-Some.number < length c.fill.places.items = omega (arith, low, c.fill.invariant.length) in
    record {
      length = search rules;
      done = filled c.args.numbered.items c.fill.numbered.items c.pop.new.self.items done.0 c.in-Some.number c.in-Some.thing c.fill.places.items done.1 c.in-Some.ensures.items c.requires.once done.2 within;
    }
