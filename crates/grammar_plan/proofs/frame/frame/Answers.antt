use Rattle.grammar_plan.specs.declared.plan.Plan.{Plan}
use Rattle.grammar_plan.proofs.Framing.{frame-is}
use Rattle.grammar_plan.proofs.Growing.{get-longer}
use Rattle.grammar_plan.proofs.SeatLemmas.{HaveRoots}
use Rattle.grammar_plan.proofs.frame.frame.Goals as goal

pub returns : goal.returns
returns c =
    let g = c.args.grammar.now in
    let d = c.fill_seats.new.draft in
    let plan : Plan = record { roots = c.in_ok-roots.roots; seats = c.fill_seats.new.seats; cuts = d.cuts; parts = d.parts; leaves = c.in_ok-leaves.leaves; sounding = c.new-4.result; silent = c.new-5.result; places = c.fill_seats.new.grid.places } in
    let roots : HaveRoots g.resolution d.pairs.found.items plan.roots.items
    = λ symbol n e. get-longer c.root_seats.new.pairs.found.items d.pairs.found.items n (g.resolution, symbol) c.in_ok-fill_seats.ensures.longer (c.in_ok-roots.ensures.roots symbol n e) in
    frame-is g plan d.pairs.found.items c.in_ok-fill_seats.ensures.draft c.in_ok-fill_seats.ensures.all c.in_ok-leaves.ensures.long
    c.in_ok-leaves.ensures.first roots c.in_ok-roots.ensures.starts
