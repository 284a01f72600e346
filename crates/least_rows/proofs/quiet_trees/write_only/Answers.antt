use Rattle.std.proofs.Common.{sym, subst}
use Rattle.std.specs.Prelude.{Some, None}
use Rattle.std.proofs.lemmas.Option.{slice_get_within}
use Rattle.grammar_plan.specs.Plans.{IsQuietTree}
use Rattle.row_laws.specs.QuietTrees.{IsQuietLeast}
use Rattle.least_rows.proofs.RootRows.{only-none, only-some}
use Rattle.least_rows.proofs.quiet_trees.write_only.Goals as goal

pub returns-in_default : goal.returns-in_default
returns-in_default c =
    let seat = c.requires.root in
    only-none c.args.grammar.now c.args.input.now c.requires.ready c.args.plan.now c.args.quiet c.args.from c.requires.quiet
    (subst (λ q. IsQuietTree c.args.grammar.now c.args.plan.now c.args.quiet q c.args.from None) seat.2 (c.in_default.ensures seat.0 seat.1)) c.args.rules.now.items

pub write_tree-requires-clause-seat : goal.write_tree-requires-clause-seat
write_tree-requires-clause-seat c = let seat = c.requires.root in slice_get_within c.args.plan.now.seats.items c.args.root seat.0 seat.1

pub returns : goal.returns
returns c =
    let seat = c.requires.root in
    only-some c.args.grammar.now c.args.input.now c.requires.ready c.args.plan.now c.args.quiet c.args.from c.requires.quiet c.in-Some.tree
    (subst (λ q. IsQuietTree c.args.grammar.now c.args.plan.now c.args.quiet q c.args.from (Some c.in-Some.tree)) seat.2 (c.in-Some.ensures seat.0 seat.1))
    c.args.rules.now.items c.write_tree.new.list.items
    (λ key least. c.in_ok-write_tree.ensures.list seat.0 key seat.1 (subst (λ q. IsQuietLeast c.args.grammar.now c.args.quiet q c.args.from (Some key)) (sym seat.2) least))
