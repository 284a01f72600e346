use Rattle.std.proofs.Common.{rules, ◌≡◌, length, None, sym, ap, subst, arith}
use Rattle.std.specs.Prelude.{slice_index_or}
use Rattle.std.specs.Vec.{vec_len}
use Rattle.row_laws.specs.declared.quiet.Quiet.{Quiet}
use Rattle.row_laws.specs.declared.quiet.Quiet.TheVariants.{Sounding, Silent}
use Rattle.grammar_plan.specs.Plans.{HasQuietTree}
use Rattle.grammar_plan.proofs.Finishing.{row-read}
use Rattle.grammar_plan.proofs.plan.Plan.quiet_tree.Goals as goal

pub index-requires : goal.index-requires
index-requires c =
    let long = c.requires.plan.rows_long Sounding in
    let own : vec_len c.args.self.now.sounding ≡ length c.args.self.now.sounding.items = search rules in
    let low = c.requires.seat in
    omega (arith, long, own, low)

pub index-requires-in-Silent : goal.index-requires-in-Silent
index-requires-in-Silent c =
    let long = c.requires.plan.rows_long Silent in
    let own : vec_len c.args.self.now.silent ≡ length c.args.self.now.silent.items = search rules in
    let low = c.requires.seat in
    omega (arith, long, own, low)

pub returns-in-Sounding : goal.returns-in-Sounding
returns-in-Sounding c =
    let g = c.args.grammar.now in
    let plan = c.args.self.now in
    let long = c.requires.plan.rows_long Sounding in
    let low = c.requires.seat in
    let row = row-read plan.sounding.items c.args.seat c.index.result.now (omega (arith, long, low)) c.index.ensures in
    subst (λ (quiet : Quiet). HasQuietTree g plan c.args.seat quiet c.args.from (slice_index_or c.index.result.now c.args.from None)) (sym c.in-Sounding.is)
    (subst (HasQuietTree g plan c.args.seat Sounding c.args.from) (sym (ap (λ l. slice_index_or l c.args.from None) row)) (c.requires.plan.quiet c.args.seat c.args.from Sounding low c.requires.from))

pub returns-in-Silent : goal.returns-in-Silent
returns-in-Silent c =
    let g = c.args.grammar.now in
    let plan = c.args.self.now in
    let long = c.requires.plan.rows_long Silent in
    let low = c.requires.seat in
    let row = row-read plan.silent.items c.args.seat c.index-in-Silent.result.now (omega (arith, long, low)) c.index-in-Silent.ensures in
    subst (λ (quiet : Quiet). HasQuietTree g plan c.args.seat quiet c.args.from (slice_index_or c.index-in-Silent.result.now c.args.from None)) (sym c.in-Silent.is)
    (subst (HasQuietTree g plan c.args.seat Silent c.args.from) (sym (ap (λ l. slice_index_or l c.args.from None) row)) (c.requires.plan.quiet c.args.seat c.args.from Silent low c.requires.from))
